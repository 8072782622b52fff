-- Cases of our own of a sub-word to mend and of a page to mend: each equation has what a definition gives and what an independent program says.
-- Written by tools/cases.py, which works every number out by other means; see there. The calls' own cases are run: tools/trial.py.
use Rattle.std.specs.Prelude.{◌≡◌, refl, [], ◌∷◌, map, replicate}
use Rattle.std.proofs.Math.Option.{none, some}
use Rattle.field.specs.Field.{pow}
use Rattle.code.specs.Lists.{range}
use Rattle.code.specs.Parameters.{sheet}
use Rattle.code.specs.Layout.{flipped, mended_page, mending, place_list}
use Rattle.code.specs.Nest.{error_syndrome}
use Rattle.code.specs.Refusals.{mend_page_refusal, mend_refusal}
use Rattle.cases_mended.specs.Calls.{mend, mend_paged}

-- A sub-word to mend, refused: the numbers in their order; lengths, spare bits, indices, and lists of numbers and of bytes.
pub mend_refused :
    (mend_refusal 1 (sheet 5 2 1 1 2 0 0 4294967295) (0xFF ∷ []) 9 9 ∷ mend_refusal 1 (sheet 4 1 1 1 2 0 0 4294967295) (0xFF ∷ []) 9 9 ∷ mend_refusal 1 (sheet 4 2 1 2 2 0 0 4294967295) (0xFF ∷ []) 9 9 ∷ mend_refusal 1 (sheet 4 4 2 1 2 3 0 4294967295) (0xFF ∷ []) 9 9 ∷ mend_refusal 1 (sheet 4 2 1 1 2 0 0 7) (0xFF ∷ []) 9 9 ∷ []
    ≡ 1 ∷ 2 ∷ 3 ∷ 4 ∷ 14 ∷ [])
    × (mend_refusal 1 (sheet 4 2 1 1 2 0 0 1) (0xFF ∷ 0xFF ∷ 0xFF ∷ 0xFF ∷ 0xFF ∷ []) 2 0 ∷ mend_refusal 1 (sheet 4 2 1 1 2 0 0 1) (0xFF ∷ 0xFF ∷ 0xFF ∷ 0xFF ∷ []) 2 0 ∷ mend_refusal 1 (sheet 4 2 1 1 2 0 0 1) (0xFF ∷ 0x3F ∷ 0xFF ∷ 0x3F ∷ []) 2 0 ∷ mend_refusal 1 (sheet 4 2 1 1 2 0 0 1) (0xFF ∷ 0x3F ∷ 0xFF ∷ 0x3F ∷ []) 1 0 ∷ mend_refusal 1 (sheet 4 2 1 1 2 0 0 1) (0xFF ∷ 0x3F ∷ 0xFF ∷ 0x3F ∷ []) 1 1 ∷ mend_refusal 1 (sheet 4 2 1 1 2 0 0 1) (0x00 ∷ 0x00 ∷ 0x00 ∷ 0x00 ∷ []) 1 1 ∷ []
    ≡ 7 ∷ 8 ∷ 9 ∷ 10 ∷ 15 ∷ 0 ∷ [])
    × (mend_refusal 1 (sheet 4 2 1 1 2 0 0 0) (0x41 ∷ 0x6D ∷ 0x1B ∷ []) 0 1 ∷ mend_refusal 1 (sheet 4 2 1 1 2 0 0 0) [] 0 1 ∷ mend_refusal 1 (sheet 4 2 1 1 2 0 0 0) (0xFF ∷ 0xFF ∷ 0xFF ∷ 0xFF ∷ 0xFF ∷ []) 0 1 ∷ mend_refusal 1 (sheet 4 2 1 1 2 0 0 0) (0xFF ∷ 0xFF ∷ 0xFF ∷ 0xFF ∷ []) 1 1 ∷ mend_refusal 1 (sheet 4 2 1 1 2 0 0 0) (0xFF ∷ 0xFF ∷ 0xFF ∷ 0xFF ∷ []) 2 1 ∷ mend_refusal 1 (sheet 4 2 1 1 2 0 0 0) (0x41 ∷ 0x6D ∷ 0x1B ∷ 0x44 ∷ []) 2 2 ∷ mend_refusal 1 (sheet 4 2 1 1 2 0 0 0) (0x41 ∷ 0x6D ∷ 0x1B ∷ 0x44 ∷ []) 0 2 ∷ mend_refusal 1 (sheet 4 2 1 1 2 0 0 0) (0x41 ∷ 0x6D ∷ 0x1B ∷ 0x44 ∷ []) 0 1 ∷ []
    ≡ 7 ∷ 7 ∷ 7 ∷ 8 ∷ 8 ∷ 9 ∷ 10 ∷ 0 ∷ [])
    × (map (λ x. mend_refusal 1 (sheet 4 2 1 1 2 0 0 0) x 0 1) ((0x41 ∷ 0xED ∷ 0x1B ∷ 0x44 ∷ []) ∷ (0x41 ∷ 0x6D ∷ 0x1B ∷ 0xC4 ∷ []) ∷ [])
    ≡ 8 ∷ 8 ∷ [])
    × (map (λ x. mend_refusal 1 (sheet 4 2 1 1 2 0 0 0) x 0 1) ((0xFF ∷ 0xFF ∷ 0xFF ∷ 0x7F ∷ []) ∷ (0xFF ∷ 0x7F ∷ 0xFF ∷ 0xFF ∷ []) ∷ [])
    ≡ 8 ∷ 8 ∷ [])
    × (map (λ x. mend_refusal 1 (sheet 4 3 2 1 2 3 0 4) x 0 1) ((0x28 ∷ 0x09 ∷ 0x59 ∷ 0x00 ∷ 0x44 ∷ 0x03 ∷ []) ∷ (0x28 ∷ 0x11 ∷ 0x59 ∷ 0x00 ∷ 0x44 ∷ 0x03 ∷ []) ∷ (0x28 ∷ 0x21 ∷ 0x59 ∷ 0x00 ∷ 0x44 ∷ 0x03 ∷ []) ∷ (0x28 ∷ 0x41 ∷ 0x59 ∷ 0x00 ∷ 0x44 ∷ 0x03 ∷ []) ∷ (0x28 ∷ 0x81 ∷ 0x59 ∷ 0x00 ∷ 0x44 ∷ 0x03 ∷ []) ∷ (0x28 ∷ 0x01 ∷ 0x59 ∷ 0x08 ∷ 0x44 ∷ 0x03 ∷ []) ∷ (0x28 ∷ 0x01 ∷ 0x59 ∷ 0x10 ∷ 0x44 ∷ 0x03 ∷ []) ∷ (0x28 ∷ 0x01 ∷ 0x59 ∷ 0x20 ∷ 0x44 ∷ 0x03 ∷ []) ∷ (0x28 ∷ 0x01 ∷ 0x59 ∷ 0x40 ∷ 0x44 ∷ 0x03 ∷ []) ∷ (0x28 ∷ 0x01 ∷ 0x59 ∷ 0x80 ∷ 0x44 ∷ 0x03 ∷ []) ∷ (0x28 ∷ 0x01 ∷ 0x59 ∷ 0x00 ∷ 0x44 ∷ 0x0B ∷ []) ∷ (0x28 ∷ 0x01 ∷ 0x59 ∷ 0x00 ∷ 0x44 ∷ 0x13 ∷ []) ∷ (0x28 ∷ 0x01 ∷ 0x59 ∷ 0x00 ∷ 0x44 ∷ 0x23 ∷ []) ∷ (0x28 ∷ 0x01 ∷ 0x59 ∷ 0x00 ∷ 0x44 ∷ 0x43 ∷ []) ∷ (0x28 ∷ 0x01 ∷ 0x59 ∷ 0x00 ∷ 0x44 ∷ 0x83 ∷ []) ∷ [])
    ≡ replicate 15 8)
    × (map (λ x. mend_refusal 1 (sheet 4 2 1 1 2 0 0 1) x 0 1) ((0xFF ∷ 0x7F ∷ 0xFF ∷ 0x3F ∷ []) ∷ (0xFF ∷ 0xBF ∷ 0xFF ∷ 0x3F ∷ []) ∷ (0xFF ∷ 0x3F ∷ 0xFF ∷ 0x7F ∷ []) ∷ (0xFF ∷ 0x3F ∷ 0xFF ∷ 0xBF ∷ []) ∷ [])
    ≡ 8 ∷ 8 ∷ 8 ∷ 8 ∷ [])
    × (map (λ i. mend_refusal 1 (sheet 4 2 1 1 2 0 0 0) (0xA4 ∷ 0x1F ∷ 0xC3 ∷ 0x73 ∷ []) i 1) (0 ∷ 1 ∷ 2 ∷ 3 ∷ 256 ∷ 4294967296 ∷ 18446744073709551615 ∷ 18446744073709551616 ∷ [])
    ≡ 0 ∷ 0 ∷ replicate 6 9)
    × (map (mend_refusal 1 (sheet 4 2 1 1 2 0 0 0) (0xA4 ∷ 0x1F ∷ 0xC3 ∷ 0x73 ∷ []) 0) (0 ∷ 1 ∷ 2 ∷ 3 ∷ 4 ∷ 256 ∷ 18446744073709551615 ∷ [])
    ≡ 10 ∷ 0 ∷ 10 ∷ 10 ∷ 10 ∷ 10 ∷ 10 ∷ [])
    × (map (mend_refusal 2 (sheet 4 2 1 1 2 0 0 0) (0xA4 ∷ 0x1F ∷ 0xC3 ∷ 0x73 ∷ []) 0) (0 ∷ 1 ∷ 2 ∷ 3 ∷ 4 ∷ 256 ∷ 18446744073709551615 ∷ [])
    ≡ 10 ∷ 10 ∷ 0 ∷ 10 ∷ 10 ∷ 10 ∷ 10 ∷ [])
    × (map (λ i. mend_refusal 1 (sheet 4 3 2 1 2 3 0 0) (0x52 ∷ 0x06 ∷ 0x0F ∷ 0x25 ∷ 0xBC ∷ 0x05 ∷ []) i 1) (0 ∷ 2 ∷ 3 ∷ 4 ∷ 256 ∷ 4294967296 ∷ 18446744073709551615 ∷ 18446744073709551616 ∷ [])
    ≡ 0 ∷ 0 ∷ replicate 6 9)
    × (map (mend_refusal 1 (sheet 4 3 2 1 2 3 0 0) (0x52 ∷ 0x06 ∷ 0x0F ∷ 0x25 ∷ 0xBC ∷ 0x05 ∷ []) 0) (0 ∷ 1 ∷ 2 ∷ 3 ∷ 4 ∷ 256 ∷ 18446744073709551615 ∷ [])
    ≡ 10 ∷ 0 ∷ 10 ∷ 10 ∷ 10 ∷ 10 ∷ 10 ∷ [])
    × (map (mend_refusal 2 (sheet 4 3 2 1 2 3 0 0) (0x52 ∷ 0x06 ∷ 0x0F ∷ 0x25 ∷ 0xBC ∷ 0x05 ∷ []) 0) (0 ∷ 1 ∷ 2 ∷ 3 ∷ 4 ∷ 256 ∷ 18446744073709551615 ∷ [])
    ≡ 10 ∷ 10 ∷ 0 ∷ 10 ∷ 10 ∷ 10 ∷ 10 ∷ [])
    × (map (λ i. mend_refusal 1 (sheet 4 3 1 2 3 0 0 0) (0x88 ∷ 0x0E ∷ 0x60 ∷ 0x4E ∷ 0xE2 ∷ 0x77 ∷ []) i 2) (0 ∷ 2 ∷ 3 ∷ 4 ∷ 256 ∷ 4294967296 ∷ 18446744073709551615 ∷ 18446744073709551616 ∷ [])
    ≡ 0 ∷ 0 ∷ replicate 6 9)
    × (map (mend_refusal 1 (sheet 4 3 1 2 3 0 0 0) (0x88 ∷ 0x0E ∷ 0x60 ∷ 0x4E ∷ 0xE2 ∷ 0x77 ∷ []) 0) (0 ∷ 1 ∷ 2 ∷ 3 ∷ 4 ∷ 5 ∷ 8 ∷ 256 ∷ 18446744073709551615 ∷ [])
    ≡ 10 ∷ 10 ∷ 0 ∷ replicate 6 10)
    × (map (mend_refusal 2 (sheet 4 3 1 2 3 0 0 0) (0x88 ∷ 0x0E ∷ 0x60 ∷ 0x4E ∷ 0xE2 ∷ 0x77 ∷ []) 0) (0 ∷ 1 ∷ 2 ∷ 3 ∷ 4 ∷ 5 ∷ 8 ∷ 256 ∷ 18446744073709551615 ∷ [])
    ≡ 10 ∷ 10 ∷ 10 ∷ 10 ∷ 0 ∷ 10 ∷ 10 ∷ 10 ∷ 10 ∷ [])
    × (map (λ i. mend_refusal 1 (sheet 4 2 1 3 7 0 0 0) (0x3D ∷ 0x32 ∷ 0x3D ∷ 0x32 ∷ []) i 3) (0 ∷ 1 ∷ 2 ∷ 3 ∷ 256 ∷ 4294967296 ∷ 18446744073709551615 ∷ 18446744073709551616 ∷ [])
    ≡ 0 ∷ 0 ∷ replicate 6 9)
    × (map (mend_refusal 1 (sheet 4 2 1 3 7 0 0 0) (0x3D ∷ 0x32 ∷ 0x3D ∷ 0x32 ∷ []) 0) (0 ∷ 2 ∷ 3 ∷ 4 ∷ 5 ∷ 6 ∷ 7 ∷ 12 ∷ 256 ∷ 18446744073709551615 ∷ [])
    ≡ 10 ∷ 10 ∷ 0 ∷ replicate 7 10)
    × (map (mend_refusal 2 (sheet 4 2 1 3 7 0 0 0) (0x3D ∷ 0x32 ∷ 0x3D ∷ 0x32 ∷ []) 0) (0 ∷ 2 ∷ 3 ∷ 4 ∷ 5 ∷ 6 ∷ 7 ∷ 12 ∷ 256 ∷ 18446744073709551615 ∷ [])
    ≡ 10 ∷ 10 ∷ 10 ∷ 10 ∷ 10 ∷ 0 ∷ 10 ∷ 10 ∷ 10 ∷ 10 ∷ [])
    × (map (λ i. mend_refusal 1 (sheet 8 2 1 1 2 0 0 231) (0x66 ∷ 0x56 ∷ 0xD5 ∷ 0xC2 ∷ 0x66 ∷ 0xCD ∷ []) i 1) (0 ∷ 1 ∷ 2 ∷ 3 ∷ 256 ∷ 4294967296 ∷ 18446744073709551615 ∷ 18446744073709551616 ∷ [])
    ≡ 0 ∷ 0 ∷ replicate 6 9)
    × (map (mend_refusal 1 (sheet 8 2 1 1 2 0 0 231) (0x66 ∷ 0x56 ∷ 0xD5 ∷ 0xC2 ∷ 0x66 ∷ 0xCD ∷ []) 0) (0 ∷ 1 ∷ 2 ∷ 3 ∷ 4 ∷ 256 ∷ 18446744073709551615 ∷ [])
    ≡ 10 ∷ 0 ∷ 10 ∷ 10 ∷ 10 ∷ 10 ∷ 10 ∷ [])
    × (map (mend_refusal 2 (sheet 8 2 1 1 2 0 0 231) (0x66 ∷ 0x56 ∷ 0xD5 ∷ 0xC2 ∷ 0x66 ∷ 0xCD ∷ []) 0) (0 ∷ 1 ∷ 2 ∷ 3 ∷ 4 ∷ 256 ∷ 18446744073709551615 ∷ [])
    ≡ 10 ∷ 10 ∷ 0 ∷ 10 ∷ 10 ∷ 10 ∷ 10 ∷ [])
unfolding mend_refusal pow
mend_refused = (refl, refl, refl, refl, refl, refl, refl, refl, refl, refl, refl, refl, refl, refl, refl, refl, refl, refl, refl, refl, refl, refl)

-- Words drawn, and each pair of neighbours alone: 15 where no multiple of g_0 is near, else 0.
pub mend_nowhere :
    (mend_refusal 1 (sheet 4 2 1 1 2 0 0 6) (0x03 ∷ 0x00 ∷ 0x00 ∷ 0x00 ∷ []) 0 1 ≡ 0)
    × (mend_refusal 1 (sheet 4 2 1 1 2 0 0 6) (0x06 ∷ 0x00 ∷ 0x00 ∷ 0x00 ∷ []) 0 1 ≡ 0)
    × (mend_refusal 1 (sheet 4 2 1 1 2 0 0 6) (0x0C ∷ 0x00 ∷ 0x00 ∷ 0x00 ∷ []) 0 1 ≡ 0)
    × (mend_refusal 1 (sheet 4 2 1 1 2 0 0 6) (0x18 ∷ 0x00 ∷ 0x00 ∷ 0x00 ∷ []) 0 1 ≡ 0)
    × (mend_refusal 1 (sheet 4 2 1 1 2 0 0 6) (0x30 ∷ 0x00 ∷ 0x00 ∷ 0x00 ∷ []) 0 1 ≡ 0)
    × (mend_refusal 1 (sheet 4 2 1 1 2 0 0 6) (0x60 ∷ 0x00 ∷ 0x00 ∷ 0x00 ∷ []) 0 1 ≡ 15)
    × (mend_refusal 1 (sheet 4 2 1 1 2 0 0 6) (0xC0 ∷ 0x00 ∷ 0x00 ∷ 0x00 ∷ []) 0 1 ≡ 15)
    × (mend_refusal 1 (sheet 4 2 1 1 2 0 0 6) (0x80 ∷ 0x01 ∷ 0x00 ∷ 0x00 ∷ []) 0 1 ≡ 15)
    × (mend_refusal 1 (sheet 4 3 2 1 2 3 0 4) (0x03 ∷ 0x00 ∷ 0x00 ∷ 0x00 ∷ 0x00 ∷ 0x00 ∷ []) 0 1 ≡ 0)
    × (mend_refusal 1 (sheet 4 3 2 1 2 3 0 4) (0x06 ∷ 0x00 ∷ 0x00 ∷ 0x00 ∷ 0x00 ∷ 0x00 ∷ []) 0 1 ≡ 0)
    × (mend_refusal 1 (sheet 4 3 2 1 2 3 0 4) (0x0C ∷ 0x00 ∷ 0x00 ∷ 0x00 ∷ 0x00 ∷ 0x00 ∷ []) 0 1 ≡ 0)
    × (mend_refusal 1 (sheet 4 3 2 1 2 3 0 4) (0x18 ∷ 0x00 ∷ 0x00 ∷ 0x00 ∷ 0x00 ∷ 0x00 ∷ []) 0 1 ≡ 0)
    × (mend_refusal 1 (sheet 4 3 2 1 2 3 0 4) (0x30 ∷ 0x00 ∷ 0x00 ∷ 0x00 ∷ 0x00 ∷ 0x00 ∷ []) 0 1 ≡ 0)
    × (mend_refusal 1 (sheet 4 3 2 1 2 3 0 4) (0x60 ∷ 0x00 ∷ 0x00 ∷ 0x00 ∷ 0x00 ∷ 0x00 ∷ []) 0 1 ≡ 0)
    × (mend_refusal 1 (sheet 4 3 2 1 2 3 0 4) (0xC0 ∷ 0x00 ∷ 0x00 ∷ 0x00 ∷ 0x00 ∷ 0x00 ∷ []) 0 1 ≡ 0)
    × (mend_refusal 1 (sheet 4 3 2 1 2 3 0 4) (0x80 ∷ 0x01 ∷ 0x00 ∷ 0x00 ∷ 0x00 ∷ 0x00 ∷ []) 0 1 ≡ 15)
    × (mend_refusal 1 (sheet 4 3 2 1 2 3 0 4) (0x00 ∷ 0x03 ∷ 0x00 ∷ 0x00 ∷ 0x00 ∷ 0x00 ∷ []) 0 1 ≡ 15)
    × (mend_refusal 1 (sheet 4 3 2 1 2 3 0 4) (0x00 ∷ 0x06 ∷ 0x00 ∷ 0x00 ∷ 0x00 ∷ 0x00 ∷ []) 0 1 ≡ 15)
    × (mend_refusal 1 (sheet 4 2 1 1 2 0 0 6) (0x4B ∷ 0x01 ∷ 0x79 ∷ 0x00 ∷ []) 0 1 ≡ 0)
    × (mend_refusal 1 (sheet 4 2 1 1 2 0 0 6) (0x9D ∷ 0x00 ∷ 0x76 ∷ 0x01 ∷ []) 0 1 ≡ 0)
    × (mend_refusal 1 (sheet 4 2 1 1 2 0 0 6) (0x7C ∷ 0x00 ∷ 0xE9 ∷ 0x01 ∷ []) 0 1 ≡ 0)
    × (mend_refusal 1 (sheet 4 2 1 1 2 0 0 6) (0xF2 ∷ 0x00 ∷ 0x2B ∷ 0x00 ∷ []) 0 1 ≡ 0)
    × (mend_refusal 1 (sheet 4 2 1 1 2 0 0 6) (0xC0 ∷ 0x01 ∷ 0xFE ∷ 0x00 ∷ []) 0 1 ≡ 0)
    × (mend_refusal 1 (sheet 4 2 1 1 2 0 0 6) (0x6F ∷ 0x00 ∷ 0x36 ∷ 0x00 ∷ []) 0 1 ≡ 0)
    × (mend_refusal 1 (sheet 4 2 1 1 2 0 0 6) (0xBA ∷ 0x00 ∷ 0x35 ∷ 0x00 ∷ []) 0 1 ≡ 0)
    × (mend_refusal 1 (sheet 4 2 1 1 2 0 0 6) (0xF5 ∷ 0x01 ∷ 0x01 ∷ 0x01 ∷ []) 0 1 ≡ 0)
    × (mend_refusal 1 (sheet 4 2 1 1 2 0 0 6) (0xBA ∷ 0x01 ∷ 0x11 ∷ 0x00 ∷ []) 0 1 ≡ 0)
    × (mend_refusal 1 (sheet 4 2 1 1 2 0 0 6) (0xFB ∷ 0x00 ∷ 0x8B ∷ 0x00 ∷ []) 0 1 ≡ 15)
    × (mend_refusal 1 (sheet 4 2 1 1 2 0 0 6) (0xBA ∷ 0x00 ∷ 0x90 ∷ 0x00 ∷ []) 0 1 ≡ 0)
    × (mend_refusal 1 (sheet 4 2 1 1 2 0 0 6) (0x88 ∷ 0x00 ∷ 0x19 ∷ 0x01 ∷ []) 0 1 ≡ 0)
    × (mend_refusal 1 (sheet 4 3 2 1 2 3 0 4) (0xA1 ∷ 0x05 ∷ 0x3E ∷ 0x06 ∷ 0x33 ∷ 0x01 ∷ []) 0 1 ≡ 15)
    × (mend_refusal 1 (sheet 4 3 2 1 2 3 0 4) (0x2A ∷ 0x01 ∷ 0x4C ∷ 0x06 ∷ 0x14 ∷ 0x06 ∷ []) 0 1 ≡ 15)
    × (mend_refusal 1 (sheet 4 3 2 1 2 3 0 4) (0xE5 ∷ 0x07 ∷ 0x52 ∷ 0x06 ∷ 0xF4 ∷ 0x03 ∷ []) 0 1 ≡ 0)
    × (mend_refusal 1 (sheet 4 3 2 1 2 3 0 4) (0x96 ∷ 0x03 ∷ 0x36 ∷ 0x05 ∷ 0x8E ∷ 0x07 ∷ []) 0 1 ≡ 0)
    × (mend_refusal 1 (sheet 4 3 2 1 2 3 0 4) (0xCA ∷ 0x04 ∷ 0x17 ∷ 0x04 ∷ 0x7A ∷ 0x00 ∷ []) 0 1 ≡ 0)
    × (mend_refusal 1 (sheet 4 3 2 1 2 3 0 4) (0x76 ∷ 0x02 ∷ 0x83 ∷ 0x05 ∷ 0x02 ∷ 0x03 ∷ []) 0 1 ≡ 0)
    × (mend_refusal 1 (sheet 4 3 2 1 2 3 0 4) (0x4F ∷ 0x05 ∷ 0x3E ∷ 0x01 ∷ 0xD7 ∷ 0x06 ∷ []) 0 1 ≡ 0)
    × (mend_refusal 1 (sheet 4 3 2 1 2 3 0 4) (0x33 ∷ 0x01 ∷ 0xEC ∷ 0x06 ∷ 0xB5 ∷ 0x01 ∷ []) 0 1 ≡ 0)
    × (mend_refusal 1 (sheet 4 3 2 1 2 3 0 4) (0x34 ∷ 0x06 ∷ 0xDE ∷ 0x07 ∷ 0xF9 ∷ 0x02 ∷ []) 0 1 ≡ 0)
    × (mend_refusal 1 (sheet 4 3 2 1 2 3 0 4) (0x37 ∷ 0x00 ∷ 0x75 ∷ 0x01 ∷ 0x77 ∷ 0x06 ∷ []) 0 1 ≡ 0)
    × (mend_refusal 1 (sheet 4 3 1 2 3 0 0 0) (0x72 ∷ 0x0C ∷ 0x82 ∷ 0x52 ∷ 0x20 ∷ 0x7D ∷ []) 0 2 ≡ 15)
    × (mend_refusal 1 (sheet 4 3 1 2 3 0 0 0) (0xA4 ∷ 0x53 ∷ 0x25 ∷ 0x4C ∷ 0x7A ∷ 0x13 ∷ []) 0 2 ≡ 15)
    × (mend_refusal 1 (sheet 4 3 1 2 3 0 0 0) (0x2F ∷ 0x0B ∷ 0x9B ∷ 0x42 ∷ 0xFD ∷ 0x0D ∷ []) 0 2 ≡ 0)
    × (mend_refusal 1 (sheet 4 3 1 2 3 0 0 0) (0x4F ∷ 0x54 ∷ 0x27 ∷ 0x2D ∷ 0x45 ∷ 0x6B ∷ []) 0 2 ≡ 0)
    × (mend_refusal 1 (sheet 4 3 1 2 3 0 0 4) (0x62 ∷ 0x02 ∷ 0xF9 ∷ 0x04 ∷ 0xC2 ∷ 0x00 ∷ []) 0 2 ≡ 0)
    × (mend_refusal 1 (sheet 4 3 1 2 3 0 0 4) (0x84 ∷ 0x04 ∷ 0x43 ∷ 0x02 ∷ 0xD3 ∷ 0x04 ∷ []) 0 2 ≡ 15)
    × (mend_refusal 1 (sheet 4 3 1 2 3 0 0 4) (0x69 ∷ 0x07 ∷ 0x9C ∷ 0x04 ∷ 0x3C ∷ 0x05 ∷ []) 0 2 ≡ 15)
    × (mend_refusal 1 (sheet 4 3 1 2 3 0 0 4) (0x17 ∷ 0x03 ∷ 0x34 ∷ 0x05 ∷ 0xCC ∷ 0x02 ∷ []) 0 2 ≡ 15)
    × (mend_refusal 1 (sheet 4 3 1 2 3 0 0 4) (0x65 ∷ 0x05 ∷ 0x54 ∷ 0x00 ∷ 0xA9 ∷ 0x01 ∷ []) 0 2 ≡ 15)
    × (mend_refusal 1 (sheet 4 3 1 2 3 0 0 4) (0x40 ∷ 0x00 ∷ 0xC3 ∷ 0x05 ∷ 0x4F ∷ 0x03 ∷ []) 0 2 ≡ 0)
unfolding mend_refusal pow
mend_nowhere = (refl, refl, refl, refl, refl, refl, refl, refl, refl, refl, refl, refl, refl, refl, refl, refl, refl, refl, refl, refl, refl, refl, refl, refl, refl, refl, refl, refl, refl, refl, refl, refl, refl, refl, refl, refl, refl, refl, refl, refl, refl, refl, refl, refl, refl, refl, refl, refl, refl, refl)

-- A member with flips, 0 to t_0 of them, in one sub-word, and one in each other: the number, then page, list and number of flips.
pub mend_members :
    (mend (sheet 4 2 1 1 2 0 0 0) (0xA2 ∷ 0x75 ∷ 0x13 ∷ 0x00 ∷ []) 1 (258 ∷ []) 154 ≡ 0 ∷ 0xA2 ∷ 0x75 ∷ 0x13 ∷ 0x00 ∷ 65535 ∷ 0 ∷ [])
    × (mend (sheet 4 2 1 1 2 0 0 0) (0xFD ∷ 0x12 ∷ 0xA7 ∷ 0x5E ∷ []) 1 (258 ∷ []) 146 ≡ 0 ∷ 0xFD ∷ 0x12 ∷ 0xA7 ∷ 0x4E ∷ 12 ∷ 1 ∷ [])
    × (mend (sheet 4 2 1 1 2 0 0 3) (0x0B ∷ 0x09 ∷ 0x7C ∷ 0x0C ∷ []) 0 (258 ∷ []) 187 ≡ 0 ∷ 0x0B ∷ 0x09 ∷ 0x7C ∷ 0x0C ∷ 65535 ∷ 0 ∷ [])
    × (mend (sheet 4 2 1 1 2 0 0 3) (0xA6 ∷ 0x07 ∷ 0xD8 ∷ 0x0F ∷ []) 1 (258 ∷ []) 220 ≡ 0 ∷ 0xA6 ∷ 0x07 ∷ 0xD8 ∷ 0x0D ∷ 9 ∷ 1 ∷ [])
    × (mend (sheet 4 3 2 1 2 3 0 4) (0x3F ∷ 0x02 ∷ 0x8D ∷ 0x04 ∷ 0xBB ∷ 0x06 ∷ []) 0 (258 ∷ []) 251
    ≡ 0 ∷ 0x3F ∷ 0x02 ∷ 0x8D ∷ 0x04 ∷ 0xBB ∷ 0x06 ∷ 65535 ∷ 0 ∷ [])
    × (mend (sheet 4 3 2 1 2 3 0 4) (0xDD ∷ 0x07 ∷ 0x61 ∷ 0x06 ∷ 0x8A ∷ 0x04 ∷ []) 1 (258 ∷ []) 143
    ≡ 0 ∷ 0xDD ∷ 0x07 ∷ 0x41 ∷ 0x06 ∷ 0x8A ∷ 0x04 ∷ 5 ∷ 1 ∷ [])
    × (mend (sheet 4 3 1 2 3 0 0 0) (0xCA ∷ 0x2B ∷ 0x53 ∷ 0x28 ∷ 0x73 ∷ 0x02 ∷ []) 2 (258 ∷ 259 ∷ []) 204
    ≡ 0 ∷ 0xCA ∷ 0x2B ∷ 0x53 ∷ 0x28 ∷ 0x73 ∷ 0x02 ∷ 65535 ∷ 65535 ∷ 0 ∷ [])
    × (mend (sheet 4 3 1 2 3 0 0 0) (0xAF ∷ 0x0B ∷ 0xF6 ∷ 0x6D ∷ 0x40 ∷ 0x07 ∷ []) 1 (258 ∷ 259 ∷ []) 190
    ≡ 0 ∷ 0xAF ∷ 0x0B ∷ 0xB6 ∷ 0x6D ∷ 0x40 ∷ 0x07 ∷ 6 ∷ 65535 ∷ 1 ∷ [])
    × (mend (sheet 4 3 1 2 3 0 0 0) (0x17 ∷ 0x4F ∷ 0xF8 ∷ 0x29 ∷ 0x5D ∷ 0x7E ∷ []) 0 (258 ∷ 259 ∷ []) 65
    ≡ 0 ∷ 0x57 ∷ 0x4B ∷ 0xF8 ∷ 0x29 ∷ 0x5D ∷ 0x7E ∷ 6 ∷ 10 ∷ 2 ∷ [])
    × (mend (sheet 4 3 1 2 3 0 0 4) (0x37 ∷ 0x04 ∷ 0xA0 ∷ 0x03 ∷ 0xA2 ∷ 0x03 ∷ []) 2 (258 ∷ 259 ∷ []) 173
    ≡ 0 ∷ 0x37 ∷ 0x04 ∷ 0xA0 ∷ 0x03 ∷ 0xA2 ∷ 0x03 ∷ 65535 ∷ 65535 ∷ 0 ∷ [])
    × (mend (sheet 4 3 1 2 3 0 0 4) (0x40 ∷ 0x00 ∷ 0x77 ∷ 0x05 ∷ 0x40 ∷ 0x00 ∷ []) 2 (258 ∷ 259 ∷ []) 193
    ≡ 0 ∷ 0x40 ∷ 0x00 ∷ 0x77 ∷ 0x05 ∷ 0x00 ∷ 0x00 ∷ 6 ∷ 65535 ∷ 1 ∷ [])
    × (mend (sheet 4 3 1 2 3 0 0 4) (0x44 ∷ 0x03 ∷ 0x37 ∷ 0x07 ∷ 0x45 ∷ 0x05 ∷ []) 2 (258 ∷ 259 ∷ []) 61
    ≡ 0 ∷ 0x44 ∷ 0x03 ∷ 0x37 ∷ 0x07 ∷ 0x44 ∷ 0x07 ∷ 0 ∷ 9 ∷ 2 ∷ [])
    × (mend (sheet 4 2 1 3 7 0 0 0) (0x2A ∷ 0x37 ∷ 0xF5 ∷ 0x48 ∷ []) 1 (258 ∷ 259 ∷ 260 ∷ []) 53
    ≡ 0 ∷ 0x2A ∷ 0x37 ∷ 0xF5 ∷ 0x48 ∷ 65535 ∷ 65535 ∷ 65535 ∷ 0 ∷ [])
    × (mend (sheet 4 2 1 3 7 0 0 0) (0xA6 ∷ 0x50 ∷ 0xA6 ∷ 0x60 ∷ []) 1 (258 ∷ 259 ∷ 260 ∷ []) 184
    ≡ 0 ∷ 0xA6 ∷ 0x50 ∷ 0xA6 ∷ 0x70 ∷ 12 ∷ 65535 ∷ 65535 ∷ 1 ∷ [])
    × (mend (sheet 4 2 1 3 7 0 0 0) (0x70 ∷ 0x52 ∷ 0x50 ∷ 0x73 ∷ []) 1 (258 ∷ 259 ∷ 260 ∷ []) 174
    ≡ 0 ∷ 0x70 ∷ 0x52 ∷ 0x70 ∷ 0x53 ∷ 5 ∷ 13 ∷ 65535 ∷ 2 ∷ [])
    × (mend (sheet 4 2 1 3 7 0 0 0) (0xB0 ∷ 0x29 ∷ 0x99 ∷ 0x09 ∷ []) 1 (258 ∷ 259 ∷ 260 ∷ []) 220
    ≡ 0 ∷ 0xB0 ∷ 0x29 ∷ 0xB8 ∷ 0x29 ∷ 0 ∷ 5 ∷ 13 ∷ 3 ∷ [])
    × (mend (sheet 4 2 1 4 5 0 0 0) (0x00 ∷ 0x00 ∷ 0xFF ∷ 0x7B ∷ []) 0 (258 ∷ 259 ∷ 260 ∷ 261 ∷ []) 222
    ≡ 0 ∷ 0x00 ∷ 0x00 ∷ 0xFF ∷ 0x7B ∷ 65535 ∷ 65535 ∷ 65535 ∷ 65535 ∷ 0 ∷ [])
    × (mend (sheet 4 2 1 4 5 0 0 0) (0xFF ∷ 0x5F ∷ 0x00 ∷ 0x01 ∷ []) 0 (258 ∷ 259 ∷ 260 ∷ 261 ∷ []) 80
    ≡ 0 ∷ 0xFF ∷ 0x7F ∷ 0x00 ∷ 0x01 ∷ 13 ∷ 65535 ∷ 65535 ∷ 65535 ∷ 1 ∷ [])
    × (mend (sheet 4 2 1 1 2 0 0 0) (0xD7 ∷ 0x23 ∷ 0x0D ∷ 0x15 ∷ []) 0 (258 ∷ []) 188 ≡ 0 ∷ 0xD6 ∷ 0x23 ∷ 0x0D ∷ 0x15 ∷ 0 ∷ 1 ∷ [])
    × (mend (sheet 4 2 1 1 2 0 0 0) (0xB5 ∷ 0x2F ∷ 0xCC ∷ 0x5A ∷ []) 1 (258 ∷ []) 61 ≡ 0 ∷ 0xB5 ∷ 0x2F ∷ 0xCC ∷ 0x1A ∷ 14 ∷ 1 ∷ [])
    × (mend (sheet 4 2 1 1 2 0 0 6) (0xD1 ∷ 0x00 ∷ 0x00 ∷ 0x00 ∷ []) 0 (258 ∷ []) 177 ≡ 0 ∷ 0xD1 ∷ 0x01 ∷ 0x00 ∷ 0x00 ∷ 8 ∷ 1 ∷ [])
    × (mend (sheet 4 2 1 1 2 0 0 6) (0x8E ∷ 0x01 ∷ 0x0E ∷ 0x01 ∷ []) 1 (258 ∷ []) 121 ≡ 0 ∷ 0x8E ∷ 0x01 ∷ 0x8E ∷ 0x01 ∷ 7 ∷ 1 ∷ [])
    × (mend (sheet 4 3 1 2 3 0 0 0) (0x1B ∷ 0x6A ∷ 0xA6 ∷ 0x70 ∷ 0xEF ∷ 0x62 ∷ []) 0 (258 ∷ 259 ∷ []) 171
    ≡ 0 ∷ 0x1A ∷ 0x2A ∷ 0xA6 ∷ 0x70 ∷ 0xEF ∷ 0x62 ∷ 0 ∷ 14 ∷ 2 ∷ [])
    × (mend (sheet 4 3 1 2 3 0 0 0) (0xCB ∷ 0x2B ∷ 0x30 ∷ 0x27 ∷ 0x6F ∷ 0x63 ∷ []) 2 (258 ∷ 259 ∷ []) 62
    ≡ 0 ∷ 0xCB ∷ 0x2B ∷ 0x30 ∷ 0x27 ∷ 0xEF ∷ 0x62 ∷ 7 ∷ 8 ∷ 2 ∷ [])
    × (mend (sheet 4 3 1 2 3 0 0 4) (0x00 ∷ 0x00 ∷ 0x37 ∷ 0x05 ∷ 0x36 ∷ 0x01 ∷ []) 2 (258 ∷ 259 ∷ []) 87
    ≡ 0 ∷ 0x00 ∷ 0x00 ∷ 0x37 ∷ 0x05 ∷ 0x37 ∷ 0x05 ∷ 0 ∷ 10 ∷ 2 ∷ [])
    × (mend (sheet 8 2 1 1 2 0 0 231) (0xA6 ∷ 0x4B ∷ 0x72 ∷ 0x83 ∷ 0x4B ∷ 0x46 ∷ []) 0 (258 ∷ []) 212
    ≡ 0 ∷ 0xA6 ∷ 0x4B ∷ 0xF2 ∷ 0x83 ∷ 0x4B ∷ 0x46 ∷ 23 ∷ 1 ∷ [])
    × (mend (sheet 8 2 1 1 2 0 0 231) (0x37 ∷ 0x53 ∷ 0xE2 ∷ 0x8E ∷ 0x9D ∷ 0x85 ∷ []) 1 (258 ∷ []) 141
    ≡ 0 ∷ 0x37 ∷ 0x53 ∷ 0xE2 ∷ 0x8E ∷ 0x9D ∷ 0x84 ∷ 16 ∷ 1 ∷ [])
unfolding mend_refusal mending flipped place_list pow
mend_members = (refl, refl, refl, refl, refl, refl, refl, refl, refl, refl, refl, refl, refl, refl, refl, refl, refl, refl, refl, refl, refl, refl, refl, refl, refl, refl, refl)

-- More flips than t_0, any page, pages of zeros and of ones: a multiple, or 15 and nothing changed.
pub mend_pages :
    (mend (sheet 4 2 1 1 2 0 0 0) (0x73 ∷ 0x01 ∷ 0x84 ∷ 0x0A ∷ []) 0 (258 ∷ []) 149 ≡ 0 ∷ 0x73 ∷ 0x11 ∷ 0x84 ∷ 0x0A ∷ 12 ∷ 1 ∷ [])
    × (mend (sheet 4 2 1 1 2 0 0 0) (0x61 ∷ 0x64 ∷ 0x2C ∷ 0x19 ∷ []) 0 (258 ∷ []) 240 ≡ 0 ∷ 0x69 ∷ 0x64 ∷ 0x2C ∷ 0x19 ∷ 3 ∷ 1 ∷ [])
    × (mend (sheet 4 2 1 1 2 0 0 0) (0xAE ∷ 0x4D ∷ 0x27 ∷ 0x06 ∷ []) 0 (258 ∷ []) 100 ≡ 0 ∷ 0x8E ∷ 0x4D ∷ 0x27 ∷ 0x06 ∷ 5 ∷ 1 ∷ [])
    × (mend (sheet 4 2 1 1 2 0 0 6) (0x27 ∷ 0x01 ∷ 0x22 ∷ 0x00 ∷ []) 0 (258 ∷ []) 225 ≡ 0 ∷ 0x23 ∷ 0x01 ∷ 0x22 ∷ 0x00 ∷ 2 ∷ 1 ∷ [])
    × (mend (sheet 4 2 1 1 2 0 0 6) (0x3F ∷ 0x00 ∷ 0xBE ∷ 0x01 ∷ []) 0 (258 ∷ []) 173 ≡ 15 ∷ 0x3F ∷ 0x00 ∷ 0xBE ∷ 0x01 ∷ 258 ∷ 173 ∷ [])
    × (mend (sheet 4 2 1 1 2 0 0 6) (0xC6 ∷ 0x00 ∷ 0xB1 ∷ 0x01 ∷ []) 0 (258 ∷ []) 237 ≡ 0 ∷ 0xC7 ∷ 0x00 ∷ 0xB1 ∷ 0x01 ∷ 0 ∷ 1 ∷ [])
    × (mend (sheet 4 3 2 1 2 3 0 4) (0xF8 ∷ 0x04 ∷ 0x55 ∷ 0x06 ∷ 0xAD ∷ 0x01 ∷ []) 0 (258 ∷ []) 89
    ≡ 15 ∷ 0xF8 ∷ 0x04 ∷ 0x55 ∷ 0x06 ∷ 0xAD ∷ 0x01 ∷ 258 ∷ 89 ∷ [])
    × (mend (sheet 4 3 2 1 2 3 0 4) (0x7E ∷ 0x06 ∷ 0x9B ∷ 0x05 ∷ 0x41 ∷ 0x07 ∷ []) 0 (258 ∷ []) 209
    ≡ 0 ∷ 0x7E ∷ 0x04 ∷ 0x9B ∷ 0x05 ∷ 0x41 ∷ 0x07 ∷ 9 ∷ 1 ∷ [])
    × (mend (sheet 4 3 2 1 2 3 0 4) (0x2E ∷ 0x07 ∷ 0x9D ∷ 0x01 ∷ 0x06 ∷ 0x05 ∷ []) 0 (258 ∷ []) 220
    ≡ 0 ∷ 0x2E ∷ 0x07 ∷ 0x9D ∷ 0x01 ∷ 0x06 ∷ 0x05 ∷ 65535 ∷ 0 ∷ [])
    × (mend (sheet 4 3 1 2 3 0 0 0) (0x9F ∷ 0x2F ∷ 0x90 ∷ 0x75 ∷ 0x8D ∷ 0x7D ∷ []) 0 (258 ∷ 259 ∷ []) 104
    ≡ 15 ∷ 0x9F ∷ 0x2F ∷ 0x90 ∷ 0x75 ∷ 0x8D ∷ 0x7D ∷ 258 ∷ 259 ∷ 104 ∷ [])
    × (mend (sheet 4 3 1 2 3 0 0 0) (0x40 ∷ 0x2D ∷ 0x7A ∷ 0x74 ∷ 0x88 ∷ 0x0F ∷ []) 0 (258 ∷ 259 ∷ []) 215
    ≡ 15 ∷ 0x40 ∷ 0x2D ∷ 0x7A ∷ 0x74 ∷ 0x88 ∷ 0x0F ∷ 258 ∷ 259 ∷ 215 ∷ [])
    × (mend (sheet 4 3 1 2 3 0 0 0) (0x60 ∷ 0x09 ∷ 0xFF ∷ 0x2F ∷ 0x1A ∷ 0x44 ∷ []) 0 (258 ∷ 259 ∷ []) 103
    ≡ 15 ∷ 0x60 ∷ 0x09 ∷ 0xFF ∷ 0x2F ∷ 0x1A ∷ 0x44 ∷ 258 ∷ 259 ∷ 103 ∷ [])
    × (mend (sheet 4 3 1 2 3 0 0 4) (0x86 ∷ 0x06 ∷ 0x22 ∷ 0x03 ∷ 0x08 ∷ 0x00 ∷ []) 0 (258 ∷ 259 ∷ []) 88
    ≡ 15 ∷ 0x86 ∷ 0x06 ∷ 0x22 ∷ 0x03 ∷ 0x08 ∷ 0x00 ∷ 258 ∷ 259 ∷ 88 ∷ [])
    × (mend (sheet 4 3 1 2 3 0 0 4) (0x86 ∷ 0x05 ∷ 0x44 ∷ 0x06 ∷ 0x40 ∷ 0x00 ∷ []) 0 (258 ∷ 259 ∷ []) 173
    ≡ 15 ∷ 0x86 ∷ 0x05 ∷ 0x44 ∷ 0x06 ∷ 0x40 ∷ 0x00 ∷ 258 ∷ 259 ∷ 173 ∷ [])
    × (mend (sheet 4 3 1 2 3 0 0 4) (0x99 ∷ 0x06 ∷ 0x31 ∷ 0x02 ∷ 0xAB ∷ 0x06 ∷ []) 0 (258 ∷ 259 ∷ []) 112
    ≡ 0 ∷ 0x95 ∷ 0x06 ∷ 0x31 ∷ 0x02 ∷ 0xAB ∷ 0x06 ∷ 2 ∷ 3 ∷ 2 ∷ [])
    × (mend (sheet 4 2 1 1 2 0 0 0) (0x00 ∷ 0x00 ∷ 0x00 ∷ 0x00 ∷ []) 1 (258 ∷ []) 190 ≡ 0 ∷ 0x00 ∷ 0x00 ∷ 0x00 ∷ 0x00 ∷ 65535 ∷ 0 ∷ [])
    × (mend (sheet 4 2 1 1 2 0 0 0) (0xFF ∷ 0x7F ∷ 0xFF ∷ 0x7F ∷ []) 0 (258 ∷ []) 139 ≡ 0 ∷ 0xFF ∷ 0x7F ∷ 0xFF ∷ 0x7F ∷ 65535 ∷ 0 ∷ [])
    × (mend (sheet 4 2 1 1 2 0 0 3) (0x00 ∷ 0x00 ∷ 0x00 ∷ 0x00 ∷ []) 1 (258 ∷ []) 245 ≡ 0 ∷ 0x00 ∷ 0x00 ∷ 0x00 ∷ 0x00 ∷ 65535 ∷ 0 ∷ [])
    × (mend (sheet 4 2 1 1 2 0 0 3) (0xFF ∷ 0x0F ∷ 0xFF ∷ 0x0F ∷ []) 0 (258 ∷ []) 105 ≡ 0 ∷ 0x7F ∷ 0x0F ∷ 0xFF ∷ 0x0F ∷ 7 ∷ 1 ∷ [])
    × (mend (sheet 4 3 1 2 3 0 0 0) (replicate 6 0x00) 2 (258 ∷ 259 ∷ []) 42
    ≡ 0 ∷ 0x00 ∷ 0x00 ∷ 0x00 ∷ 0x00 ∷ 0x00 ∷ 0x00 ∷ 65535 ∷ 65535 ∷ 0 ∷ [])
    × (mend (sheet 4 3 1 2 3 0 0 0) (0xFF ∷ 0x7F ∷ 0xFF ∷ 0x7F ∷ 0xFF ∷ 0x7F ∷ []) 0 (258 ∷ 259 ∷ []) 67
    ≡ 0 ∷ 0xFF ∷ 0x7F ∷ 0xFF ∷ 0x7F ∷ 0xFF ∷ 0x7F ∷ 65535 ∷ 65535 ∷ 0 ∷ [])
    × (mend (sheet 4 2 1 3 7 0 0 0) (0x00 ∷ 0x00 ∷ 0x00 ∷ 0x00 ∷ []) 1 (258 ∷ 259 ∷ 260 ∷ []) 65
    ≡ 0 ∷ 0x00 ∷ 0x00 ∷ 0x00 ∷ 0x00 ∷ 65535 ∷ 65535 ∷ 65535 ∷ 0 ∷ [])
    × (mend (sheet 4 2 1 3 7 0 0 0) (0xFF ∷ 0x7F ∷ 0xFF ∷ 0x7F ∷ []) 0 (258 ∷ 259 ∷ 260 ∷ []) 186
    ≡ 0 ∷ 0xFF ∷ 0x7F ∷ 0xFF ∷ 0x7F ∷ 65535 ∷ 65535 ∷ 65535 ∷ 0 ∷ [])
    × (mend (sheet 4 2 1 1 2 0 0 3) (0x00 ∷ 0x03 ∷ 0x00 ∷ 0x00 ∷ []) 0 (258 ∷ []) 212 ≡ 15 ∷ 0x00 ∷ 0x03 ∷ 0x00 ∷ 0x00 ∷ 258 ∷ 212 ∷ [])
    × (mend (sheet 4 2 1 1 2 0 0 0) (0x00 ∷ 0x03 ∷ 0x00 ∷ 0x00 ∷ []) 0 (258 ∷ []) 34 ≡ 0 ∷ 0x00 ∷ 0x13 ∷ 0x00 ∷ 0x00 ∷ 12 ∷ 1 ∷ [])
    × (mend (sheet 4 2 1 1 2 0 0 3) (0x00 ∷ 0x0C ∷ 0x00 ∷ 0x00 ∷ []) 0 (258 ∷ []) 248 ≡ 15 ∷ 0x00 ∷ 0x0C ∷ 0x00 ∷ 0x00 ∷ 258 ∷ 248 ∷ [])
    × (mend (sheet 4 2 1 1 2 0 0 0) (0x00 ∷ 0x0C ∷ 0x00 ∷ 0x00 ∷ []) 0 (258 ∷ []) 86 ≡ 0 ∷ 0x00 ∷ 0x4C ∷ 0x00 ∷ 0x00 ∷ 14 ∷ 1 ∷ [])
    × (mend (sheet 4 3 1 2 3 0 0 4) (0x88 ∷ 0x06 ∷ 0x00 ∷ 0x00 ∷ 0x00 ∷ 0x00 ∷ []) 0 (258 ∷ 259 ∷ []) 248
    ≡ 15 ∷ 0x88 ∷ 0x06 ∷ 0x00 ∷ 0x00 ∷ 0x00 ∷ 0x00 ∷ 258 ∷ 259 ∷ 248 ∷ [])
    × (mend (sheet 4 3 1 2 3 0 0 0) (0x88 ∷ 0x06 ∷ 0x00 ∷ 0x00 ∷ 0x00 ∷ 0x00 ∷ []) 0 (258 ∷ 259 ∷ []) 195
    ≡ 0 ∷ 0x88 ∷ 0x0E ∷ 0x00 ∷ 0x00 ∷ 0x00 ∷ 0x00 ∷ 11 ∷ 65535 ∷ 1 ∷ [])
    × (mend (sheet 4 2 1 1 2 0 0 0) (0xDF ∷ 0x5E ∷ 0xB0 ∷ []) 0 (1 ∷ []) 18 ≡ 7 ∷ 0xDF ∷ 0x5E ∷ 0xB0 ∷ 1 ∷ 18 ∷ [])
    × (mend (sheet 4 2 1 1 2 0 0 0) (0xDF ∷ 0x5E ∷ 0xB0 ∷ 0x66 ∷ 0x00 ∷ []) 0 (1 ∷ []) 27
    ≡ 7 ∷ 0xDF ∷ 0x5E ∷ 0xB0 ∷ 0x66 ∷ 0x00 ∷ 1 ∷ 27 ∷ [])
    × (mend (sheet 4 2 1 1 2 0 0 0) (0xDF ∷ 0x5E ∷ 0xB0 ∷ 0xE6 ∷ []) 0 (1 ∷ []) 246 ≡ 8 ∷ 0xDF ∷ 0x5E ∷ 0xB0 ∷ 0xE6 ∷ 1 ∷ 246 ∷ [])
    × (mend (sheet 4 2 1 1 2 0 0 0) (0xFF ∷ 0x7F ∷ 0xFF ∷ 0xFF ∷ []) 0 (1 ∷ []) 114 ≡ 8 ∷ 0xFF ∷ 0x7F ∷ 0xFF ∷ 0xFF ∷ 1 ∷ 114 ∷ [])
    × (mend (sheet 4 2 1 1 2 0 0 0) (0xDF ∷ 0x5E ∷ 0xB0 ∷ 0x66 ∷ []) 2 (1 ∷ []) 87 ≡ 9 ∷ 0xDF ∷ 0x5E ∷ 0xB0 ∷ 0x66 ∷ 1 ∷ 87 ∷ [])
    × (mend (sheet 4 2 1 1 2 0 0 0) (0xDF ∷ 0x5E ∷ 0xB0 ∷ 0x66 ∷ []) 0 [] 40 ≡ 10 ∷ 0xDF ∷ 0x5E ∷ 0xB0 ∷ 0x66 ∷ 40 ∷ [])
    × (mend (sheet 4 2 1 1 2 0 0 0) (0xDF ∷ 0x5E ∷ 0xB0 ∷ 0x66 ∷ []) 0 (1 ∷ 2 ∷ []) 129
    ≡ 10 ∷ 0xDF ∷ 0x5E ∷ 0xB0 ∷ 0x66 ∷ 1 ∷ 2 ∷ 129 ∷ [])
    × (mend (sheet 4 4 2 1 2 3 0 0) (replicate 8 0x00) 0 (258 ∷ []) 168
    ≡ 4 ∷ 0x00 ∷ 0x00 ∷ 0x00 ∷ 0x00 ∷ 0x00 ∷ 0x00 ∷ 0x00 ∷ 0x00 ∷ 258 ∷ 168 ∷ [])
    × (mend (sheet 4 2 1 1 2 0 0 7) (0xDF ∷ 0x5E ∷ 0xB0 ∷ 0x66 ∷ []) 0 (258 ∷ []) 50 ≡ 14 ∷ 0xDF ∷ 0x5E ∷ 0xB0 ∷ 0x66 ∷ 258 ∷ 50 ∷ [])
unfolding mend_refusal mending flipped place_list pow
mend_pages = (refl, refl, refl, refl, refl, refl, refl, refl, refl, refl, refl, refl, refl, refl, refl, refl, refl, refl, refl, refl, refl, refl, refl, refl, refl, refl, refl, refl, refl, refl, refl, refl, refl, refl, refl, refl, refl, refl)

-- Places flipped in a sub-word, and places in lists: 65535 from their end on.
pub flipped_places :
    (flipped (sheet 4 2 1 1 2 0 0 0) (0x0E ∷ 0x40 ∷ 0x9D ∷ 0x1B ∷ []) 0 (4 ∷ 9 ∷ 10 ∷ []) ≡ 0x1E ∷ 0x46 ∷ 0x9D ∷ 0x1B ∷ [])
    × (flipped (sheet 4 3 1 2 3 0 0 4) (0x9E ∷ 0x04 ∷ 0x37 ∷ 0x07 ∷ 0x19 ∷ 0x03 ∷ []) 0 (0 ∷ 6 ∷ 9 ∷ [])
    ≡ 0xDF ∷ 0x06 ∷ 0x37 ∷ 0x07 ∷ 0x19 ∷ 0x03 ∷ [])
    × (flipped (sheet 8 2 1 1 2 0 0 231) (0xA9 ∷ 0xAB ∷ 0x4E ∷ 0xDB ∷ 0x22 ∷ 0xA6 ∷ []) 0 (1 ∷ 9 ∷ 12 ∷ [])
    ≡ 0xAB ∷ 0xB9 ∷ 0x4E ∷ 0xDB ∷ 0x22 ∷ 0xA6 ∷ [])
    × (place_list 1 ([]) ≡ 65535 ∷ [])
    × (place_list 1 (14 ∷ []) ≡ 14 ∷ [])
    × (place_list 2 (3 ∷ []) ≡ 3 ∷ 65535 ∷ [])
    × (place_list 3 (0 ∷ 9 ∷ []) ≡ 0 ∷ 9 ∷ 65535 ∷ [])
    × (place_list 6 (4094 ∷ []) ≡ 4094 ∷ 65535 ∷ 65535 ∷ 65535 ∷ 65535 ∷ 65535 ∷ [])
    × (place_list 2 (0 ∷ 1 ∷ []) ≡ 0 ∷ 1 ∷ [])
unfolding flipped place_list pow
flipped_places = (refl, refl, refl, refl, refl, refl, refl, refl, refl)

-- The syndromes of one error out of those of the nested words, of words drawn: S_1 to S_2t of the level of so many broken words.
pub error_syndromes :
    (map (error_syndrome (sheet 4 2 1 1 2 0 0 0) (0x5e2d ∷ 0x3207 ∷ []) [] 0) (range 1 4) ≡ 1 ∷ 1 ∷ 15 ∷ 1 ∷ [])
    × (map (error_syndrome (sheet 4 2 1 1 2 0 0 6) (0x18f ∷ 0x19c ∷ []) [] 1) (range 1 4) ≡ 0 ∷ 0 ∷ 6 ∷ 0 ∷ [])
    × (map (error_syndrome (sheet 4 3 2 1 2 3 0 3) (0xdce ∷ 0x38f ∷ 0xc55 ∷ []) [] 2) (range 1 6) ≡ 13 ∷ 14 ∷ 12 ∷ 11 ∷ 0 ∷ 15 ∷ [])
    × (map (error_syndrome (sheet 4 3 2 1 2 3 0 3) (0xf59 ∷ 0x51c ∷ 0x2ce ∷ []) (1 ∷ []) 0) (range 1 4) ≡ 6 ∷ 7 ∷ 14 ∷ 6 ∷ [])
    × (map (error_syndrome (sheet 4 3 2 1 2 3 0 3) (0xf59 ∷ 0x51c ∷ 0x2ce ∷ []) (0 ∷ []) 1) (range 1 4) ≡ 8 ∷ 12 ∷ 9 ∷ 15 ∷ [])
    × (map (error_syndrome (sheet 4 3 2 1 2 3 0 4) (0x72 ∷ 0x722 ∷ 0x2b0 ∷ []) (2 ∷ []) 0) (range 1 4) ≡ 3 ∷ 5 ∷ 10 ∷ 2 ∷ [])
    × (map (error_syndrome (sheet 4 3 2 1 2 3 0 4) (0x72 ∷ 0x722 ∷ 0x2b0 ∷ []) (0 ∷ []) 2) (range 1 4) ≡ 0 ∷ 0 ∷ 4 ∷ 0 ∷ [])
    × (map (error_syndrome (sheet 4 3 2 1 2 3 0 0) (0x69ce ∷ 0x2dba ∷ 0x7812 ∷ []) (2 ∷ []) 1) (range 1 4) ≡ 0 ∷ 0 ∷ 3 ∷ 0 ∷ [])
    × (map (error_syndrome (sheet 4 3 2 1 2 3 0 0) (0x69ce ∷ 0x2dba ∷ 0x7812 ∷ []) (1 ∷ []) 2) (range 1 4) ≡ 7 ∷ 6 ∷ 1 ∷ 7 ∷ [])
    × (map (error_syndrome (sheet 4 5 3 1 2 2 2 4) (0x240 ∷ 0x391 ∷ 0x716 ∷ 0x4f ∷ 0x55e ∷ []) [] 3) (range 1 4) ≡ 13 ∷ 14 ∷ 10 ∷ 11 ∷ [])
    × (map (error_syndrome (sheet 4 5 3 1 2 2 2 4) (0x633 ∷ 0x276 ∷ 0x1f4 ∷ 0x70 ∷ 0x610 ∷ []) (4 ∷ []) 1) (range 1 4)
    ≡ 5 ∷ 2 ∷ 5 ∷ 4 ∷ [])
    × (map (error_syndrome (sheet 4 5 3 1 2 2 2 4) (0x633 ∷ 0x276 ∷ 0x1f4 ∷ 0x70 ∷ 0x610 ∷ []) (1 ∷ []) 4) (range 1 4)
    ≡ 15 ∷ 10 ∷ 10 ∷ 8 ∷ [])
    × (map (error_syndrome (sheet 4 5 3 1 2 2 2 4) (0x325 ∷ 0x76f ∷ 0x2e1 ∷ 0x111 ∷ 0xa0 ∷ []) (2 ∷ 3 ∷ []) 0) (range 1 4)
    ≡ 15 ∷ 10 ∷ 6 ∷ 8 ∷ [])
    × (map (error_syndrome (sheet 4 5 3 1 2 2 2 4) (0x325 ∷ 0x76f ∷ 0x2e1 ∷ 0x111 ∷ 0xa0 ∷ []) (0 ∷ 3 ∷ []) 2) (range 1 4)
    ≡ 14 ∷ 11 ∷ 15 ∷ 9 ∷ [])
    × (map (error_syndrome (sheet 4 5 3 1 2 2 2 4) (0x325 ∷ 0x76f ∷ 0x2e1 ∷ 0x111 ∷ 0xa0 ∷ []) (0 ∷ 2 ∷ []) 3) (range 1 4)
    ≡ 0 ∷ 0 ∷ 0 ∷ 0 ∷ [])
    × (map (error_syndrome (sheet 4 5 3 1 2 2 2 4) (0xbf ∷ 0x623 ∷ 0xdf ∷ 0x377 ∷ 0x3a5 ∷ []) (3 ∷ 4 ∷ []) 2) (range 1 4)
    ≡ 12 ∷ 15 ∷ 4 ∷ 10 ∷ [])
    × (map (error_syndrome (sheet 4 5 3 1 2 2 2 4) (0xbf ∷ 0x623 ∷ 0xdf ∷ 0x377 ∷ 0x3a5 ∷ []) (2 ∷ 4 ∷ []) 3) (range 1 4)
    ≡ 8 ∷ 12 ∷ 15 ∷ 15 ∷ [])
    × (map (error_syndrome (sheet 4 5 3 1 2 2 2 4) (0xbf ∷ 0x623 ∷ 0xdf ∷ 0x377 ∷ 0x3a5 ∷ []) (2 ∷ 3 ∷ []) 4) (range 1 4)
    ≡ 0 ∷ 0 ∷ 7 ∷ 0 ∷ [])
    × (map (error_syndrome (sheet 4 3 2 2 3 3 0 0) (0x5176 ∷ 0x104a ∷ 0x4ef7 ∷ []) (2 ∷ []) 0) (range 1 6) ≡ 2 ∷ 4 ∷ 1 ∷ 3 ∷ 6 ∷ 1 ∷ [])
    × (map (error_syndrome (sheet 4 3 2 2 3 3 0 0) (0x5176 ∷ 0x104a ∷ 0x4ef7 ∷ []) (0 ∷ []) 2) (range 1 6) ≡ 8 ∷ 12 ∷ 10 ∷ 15 ∷ 0 ∷ 8 ∷ [])
unfolding error_syndrome pow range
error_syndromes = (refl, refl, refl, refl, refl, refl, refl, refl, refl, refl, refl, refl, refl, refl, refl, refl, refl, refl, refl, refl)

-- A page to mend, refused: the numbers in their order; lengths, and each spare bit.
pub page_refused :
    (mend_page_refusal (sheet 5 2 1 1 2 0 0 4294967295) (0xFF ∷ []) ∷ mend_page_refusal (sheet 4 1 1 1 2 0 0 4294967295) (0xFF ∷ []) ∷ mend_page_refusal (sheet 4 2 1 2 2 0 0 4294967295) (0xFF ∷ []) ∷ mend_page_refusal (sheet 4 4 2 1 2 3 0 4294967295) (0xFF ∷ []) ∷ mend_page_refusal (sheet 4 2 1 1 2 0 0 7) (0xFF ∷ []) ∷ []
    ≡ 1 ∷ 2 ∷ 3 ∷ 4 ∷ 14 ∷ [])
    × (mend_page_refusal (sheet 4 2 1 1 2 0 0 6) (0xFF ∷ 0xFF ∷ 0xFF ∷ 0xFF ∷ 0xFF ∷ []) ∷ mend_page_refusal (sheet 4 2 1 1 2 0 0 6) (0xFF ∷ 0xFF ∷ 0xFF ∷ 0xFF ∷ []) ∷ mend_page_refusal (sheet 4 2 1 1 2 0 0 6) (0x6D ∷ 0x01 ∷ 0xB7 ∷ 0x01 ∷ []) ∷ mend_page_refusal (sheet 4 2 1 1 2 0 0 6) (0x00 ∷ 0x00 ∷ 0x00 ∷ 0x00 ∷ []) ∷ mend_page_refusal (sheet 4 2 1 1 2 0 0 0) (0x0E ∷ 0x62 ∷ 0xE6 ∷ []) ∷ mend_page_refusal (sheet 4 2 1 1 2 0 0 0) [] ∷ mend_page_refusal (sheet 4 2 1 1 2 0 0 0) (0x0E ∷ 0x62 ∷ 0xE6 ∷ 0x22 ∷ 0x00 ∷ []) ∷ mend_page_refusal (sheet 4 2 1 1 2 0 0 0) (0xFF ∷ 0xFF ∷ 0xFF ∷ 0xFF ∷ []) ∷ mend_page_refusal (sheet 4 2 1 1 2 0 0 0) (0x0E ∷ 0x62 ∷ 0xE6 ∷ 0x22 ∷ []) ∷ []
    ≡ 7 ∷ 8 ∷ 17 ∷ 0 ∷ 7 ∷ 7 ∷ 7 ∷ 8 ∷ 0 ∷ [])
    × (map (λ x. mend_page_refusal (sheet 4 2 1 1 2 0 0 0) x) ((0x0E ∷ 0xE2 ∷ 0xE6 ∷ 0x22 ∷ []) ∷ (0x0E ∷ 0x62 ∷ 0xE6 ∷ 0xA2 ∷ []) ∷ [])
    ≡ 8 ∷ 8 ∷ [])
    × (map (λ x. mend_page_refusal (sheet 4 2 1 1 2 0 0 6) x) ((0x6D ∷ 0x03 ∷ 0xB7 ∷ 0x01 ∷ []) ∷ (0x6D ∷ 0x05 ∷ 0xB7 ∷ 0x01 ∷ []) ∷ (0x6D ∷ 0x09 ∷ 0xB7 ∷ 0x01 ∷ []) ∷ (0x6D ∷ 0x11 ∷ 0xB7 ∷ 0x01 ∷ []) ∷ (0x6D ∷ 0x21 ∷ 0xB7 ∷ 0x01 ∷ []) ∷ (0x6D ∷ 0x41 ∷ 0xB7 ∷ 0x01 ∷ []) ∷ (0x6D ∷ 0x81 ∷ 0xB7 ∷ 0x01 ∷ []) ∷ (0x6D ∷ 0x01 ∷ 0xB7 ∷ 0x03 ∷ []) ∷ (0x6D ∷ 0x01 ∷ 0xB7 ∷ 0x05 ∷ []) ∷ (0x6D ∷ 0x01 ∷ 0xB7 ∷ 0x09 ∷ []) ∷ (0x6D ∷ 0x01 ∷ 0xB7 ∷ 0x11 ∷ []) ∷ (0x6D ∷ 0x01 ∷ 0xB7 ∷ 0x21 ∷ []) ∷ (0x6D ∷ 0x01 ∷ 0xB7 ∷ 0x41 ∷ []) ∷ (0x6D ∷ 0x01 ∷ 0xB7 ∷ 0x81 ∷ []) ∷ [])
    ≡ replicate 14 8)
unfolding mend_page_refusal pow
page_refused = (refl, refl, refl, refl)

-- Members as they are, and with flips in their sub-words that the first pass and rounds mend: the member.
pub page_back :
    (mended_page (sheet 4 2 1 1 2 0 0 0) (0x6D ∷ 0x6E ∷ 0x5A ∷ 0x6B ∷ []) ≡ some (0x6D ∷ 0x6E ∷ 0x5A ∷ 0x6B ∷ []))
    × (mended_page (sheet 4 3 2 1 2 3 0 3) (0xBA ∷ 0x0A ∷ 0x1C ∷ 0x03 ∷ 0xA6 ∷ 0x09 ∷ [])
    ≡ some (0xBA ∷ 0x0A ∷ 0x1C ∷ 0x03 ∷ 0xA6 ∷ 0x09 ∷ []))
    × (mended_page (sheet 4 3 2 2 3 3 0 0) (0x73 ∷ 0x02 ∷ 0x96 ∷ 0x57 ∷ 0xD8 ∷ 0x67 ∷ [])
    ≡ some (0x73 ∷ 0x02 ∷ 0x96 ∷ 0x57 ∷ 0xD8 ∷ 0x67 ∷ []))
    × (mended_page (sheet 4 2 1 1 2 0 0 0) (0xE5 ∷ 0x0E ∷ 0xE4 ∷ 0x62 ∷ []) ≡ some (0xE5 ∷ 0x0A ∷ 0x64 ∷ 0x62 ∷ []))
    × (mended_page (sheet 4 3 2 1 2 3 0 0) (0x57 ∷ 0x14 ∷ 0xAD ∷ 0x4F ∷ 0xB0 ∷ 0x7C ∷ [])
    ≡ some (0x57 ∷ 0x14 ∷ 0xAD ∷ 0x5F ∷ 0xF0 ∷ 0x7C ∷ []))
    × (mended_page (sheet 4 5 3 1 2 2 2 4) (0x7B ∷ 0x00 ∷ 0xC2 ∷ 0x00 ∷ 0xE6 ∷ 0x05 ∷ 0x49 ∷ 0x05 ∷ 0x16 ∷ 0x04 ∷ [])
    ≡ some (0x79 ∷ 0x00 ∷ 0xC2 ∷ 0x01 ∷ 0xE6 ∷ 0x04 ∷ 0x49 ∷ 0x01 ∷ 0x14 ∷ 0x04 ∷ []))
    × (mended_page (sheet 4 2 1 1 2 0 0 3) (0x2D ∷ 0x0A ∷ 0x9F ∷ 0x0A ∷ []) ≡ some (0x2D ∷ 0x09 ∷ 0x8F ∷ 0x0A ∷ []))
    × (mended_page (sheet 4 2 1 1 2 0 0 6) (0xA8 ∷ 0x01 ∷ 0x38 ∷ 0x00 ∷ []) ≡ some (0xA8 ∷ 0x01 ∷ 0x79 ∷ 0x00 ∷ []))
    × (mended_page (sheet 4 3 2 1 2 3 0 4) (0x08 ∷ 0x04 ∷ 0x9C ∷ 0x06 ∷ 0x04 ∷ 0x03 ∷ [])
    ≡ some (0x08 ∷ 0x07 ∷ 0x8C ∷ 0x04 ∷ 0x84 ∷ 0x03 ∷ []))
    × (mended_page (sheet 4 3 2 1 2 3 0 4) (0x3D ∷ 0x04 ∷ 0xB3 ∷ 0x06 ∷ 0xC6 ∷ 0x03 ∷ [])
    ≡ some (0x6D ∷ 0x04 ∷ 0xB3 ∷ 0x06 ∷ 0xDE ∷ 0x02 ∷ []))
    × (mended_page (sheet 4 3 1 2 3 0 0 0) (0x47 ∷ 0x1A ∷ 0x5F ∷ 0x44 ∷ 0x34 ∷ 0x56 ∷ [])
    ≡ some (0x47 ∷ 0x56 ∷ 0xDF ∷ 0x45 ∷ 0x34 ∷ 0x54 ∷ []))
    × (mended_page (sheet 4 3 1 2 3 0 0 4) (0x8D ∷ 0x06 ∷ 0xEB ∷ 0x03 ∷ 0x00 ∷ 0x00 ∷ [])
    ≡ some (0x95 ∷ 0x06 ∷ 0xA2 ∷ 0x03 ∷ 0x00 ∷ 0x00 ∷ []))
    × (mended_page (sheet 4 5 3 1 2 2 2 4) (0x2A ∷ 0x01 ∷ 0x04 ∷ 0x04 ∷ 0xFE ∷ 0x01 ∷ 0x98 ∷ 0x00 ∷ 0x0F ∷ 0x00 ∷ [])
    ≡ some (0x6A ∷ 0x00 ∷ 0x14 ∷ 0x04 ∷ 0x7C ∷ 0x01 ∷ 0x98 ∷ 0x00 ∷ 0x0F ∷ 0x03 ∷ []))
    × (mended_page (sheet 4 5 3 1 2 2 2 4) (0x29 ∷ 0x03 ∷ 0xC0 ∷ 0x03 ∷ 0xA6 ∷ 0x05 ∷ 0x69 ∷ 0x02 ∷ 0x2A ∷ 0x07 ∷ [])
    ≡ some (0x29 ∷ 0x03 ∷ 0xC8 ∷ 0x03 ∷ 0x24 ∷ 0x05 ∷ 0xEB ∷ 0x02 ∷ 0x2E ∷ 0x07 ∷ []))
unfolding mended_page pow
page_back = (refl, refl, refl, refl, refl, refl, refl, refl, refl, refl, refl, refl, refl, refl)

-- Other pages: another member where words were mended wrong, or none: no member at the end, a blank one, more than v sub-words left, a round that finds none.
pub page_else :
    (mended_page (sheet 4 2 1 1 2 0 0 0) (0xF2 ∷ 0x63 ∷ 0xD4 ∷ 0x69 ∷ []) ≡ none)
    × (mended_page (sheet 4 2 1 1 2 0 0 0) (0x70 ∷ 0x2B ∷ 0x5D ∷ 0x3F ∷ []) ≡ some (0x70 ∷ 0x2A ∷ 0x7D ∷ 0x3F ∷ []))
    × (mended_page (sheet 4 2 1 1 2 0 0 6) (0xBC ∷ 0x00 ∷ 0x8D ∷ 0x00 ∷ []) ≡ none)
    × (mended_page (sheet 4 2 1 1 2 0 0 6) (0xF8 ∷ 0x01 ∷ 0xCD ∷ 0x00 ∷ []) ≡ none)
    × (mended_page (sheet 4 2 1 1 2 0 0 6) (0x2D ∷ 0x01 ∷ 0xBD ∷ 0x01 ∷ []) ≡ none)
    × (mended_page (sheet 4 2 1 1 2 0 0 6) (0xC1 ∷ 0x01 ∷ 0x41 ∷ 0x00 ∷ []) ≡ some (0xD1 ∷ 0x01 ∷ 0x00 ∷ 0x00 ∷ []))
    × (mended_page (sheet 4 3 2 1 2 3 0 4) (0xB0 ∷ 0x07 ∷ 0xFF ∷ 0x07 ∷ 0x5E ∷ 0x04 ∷ []) ≡ none)
    × (mended_page (sheet 4 3 2 1 2 3 0 4) (0xB7 ∷ 0x03 ∷ 0x46 ∷ 0x05 ∷ 0xEF ∷ 0x04 ∷ []) ≡ none)
    × (mended_page (sheet 4 3 1 2 3 0 0 0) (0x6A ∷ 0x75 ∷ 0x20 ∷ 0x0B ∷ 0x2D ∷ 0x10 ∷ []) ≡ none)
    × (mended_page (sheet 4 3 1 2 3 0 0 4) (0xC6 ∷ 0x01 ∷ 0x73 ∷ 0x05 ∷ 0x91 ∷ 0x02 ∷ []) ≡ none)
    × (mended_page (sheet 4 3 1 2 3 0 0 4) (0xF2 ∷ 0x00 ∷ 0x02 ∷ 0x03 ∷ 0x7B ∷ 0x06 ∷ [])
    ≡ some (0xE6 ∷ 0x04 ∷ 0xA2 ∷ 0x03 ∷ 0x73 ∷ 0x02 ∷ []))
    × (mended_page (sheet 4 5 3 1 2 2 2 4) (0xF9 ∷ 0x00 ∷ 0xE0 ∷ 0x05 ∷ 0xD4 ∷ 0x00 ∷ 0x23 ∷ 0x00 ∷ 0x8C ∷ 0x04 ∷ []) ≡ none)
    × (mended_page (sheet 4 5 3 1 2 2 2 4) (0x7B ∷ 0x01 ∷ 0xF8 ∷ 0x01 ∷ 0x55 ∷ 0x02 ∷ 0xBE ∷ 0x05 ∷ 0xF9 ∷ 0x00 ∷ []) ≡ none)
    × (mended_page (sheet 4 2 1 1 2 0 0 0) (0xFF ∷ 0x7F ∷ 0xFF ∷ 0x7F ∷ []) ≡ none)
    × (mended_page (sheet 4 2 1 1 2 0 0 0) (0xFF ∷ 0x5F ∷ 0xEF ∷ 0x7F ∷ []) ≡ none)
    × (mended_page (sheet 4 3 2 1 2 3 0 0) (0xFF ∷ 0x7F ∷ 0xDF ∷ 0x7F ∷ 0xFF ∷ 0x7F ∷ []) ≡ none)
    × (mended_page (sheet 4 3 1 2 3 0 0 0) (0xD7 ∷ 0x7F ∷ 0xFF ∷ 0x7F ∷ 0xFF ∷ 0x6F ∷ []) ≡ none)
    × (mended_page (sheet 4 2 1 1 2 0 0 3) (0xFF ∷ 0x0F ∷ 0xFF ∷ 0x0F ∷ []) ≡ some (0x7F ∷ 0x0F ∷ 0x7F ∷ 0x0F ∷ []))
    × (mended_page (sheet 4 2 1 1 2 0 0 6) (0xFF ∷ 0x01 ∷ 0xFF ∷ 0x01 ∷ []) ≡ some (0xF7 ∷ 0x01 ∷ 0xF7 ∷ 0x01 ∷ []))
    × (mended_page (sheet 4 3 2 1 2 3 0 0) (replicate 6 0x00) ≡ some (replicate 6 0x00))
    × (mended_page (sheet 4 2 1 1 2 0 0 3) (0x34 ∷ 0x0F ∷ 0x86 ∷ 0x04 ∷ []) ≡ none)
    × (mended_page (sheet 4 3 2 1 2 3 0 4) (0xFE ∷ 0x06 ∷ 0xF4 ∷ 0x04 ∷ 0x2C ∷ 0x03 ∷ []) ≡ none)
unfolding mended_page pow
page_else = (refl, refl, refl, refl, refl, refl, refl, refl, refl, refl, refl, refl, refl, refl, refl, refl, refl, refl, refl, refl, refl, refl)

-- The call: the number, then what it leaves in the page.
pub page_called :
    (mend_paged (sheet 4 2 1 1 2 0 0 0) (0x93 ∷ 0x56 ∷ 0x1B ∷ 0x58 ∷ []) ≡ 0 ∷ 0x93 ∷ 0x56 ∷ 0x1B ∷ 0x58 ∷ [])
    × (mend_paged (sheet 4 2 1 1 2 0 0 0) (0x9B ∷ 0x56 ∷ 0x1B ∷ 0x18 ∷ []) ≡ 0 ∷ 0x93 ∷ 0x56 ∷ 0x1B ∷ 0x58 ∷ [])
    × (mend_paged (sheet 4 2 1 1 2 0 0 6) (0x97 ∷ 0x00 ∷ 0x06 ∷ 0x01 ∷ []) ≡ 0 ∷ 0xC7 ∷ 0x00 ∷ 0x16 ∷ 0x01 ∷ [])
    × (mend_paged (sheet 4 2 1 1 2 0 0 6) (0x27 ∷ 0x01 ∷ 0xCA ∷ 0x01 ∷ []) ≡ 17 ∷ 0x27 ∷ 0x01 ∷ 0xCA ∷ 0x01 ∷ [])
    × (mend_paged (sheet 4 2 1 1 2 0 0 0) (0xFF ∷ 0x7F ∷ 0xFF ∷ 0x7F ∷ []) ≡ 17 ∷ 0xFF ∷ 0x7F ∷ 0xFF ∷ 0x7F ∷ [])
    × (mend_paged (sheet 4 2 1 1 2 0 0 0) (0x93 ∷ 0x56 ∷ 0x1B ∷ []) ≡ 7 ∷ 0x93 ∷ 0x56 ∷ 0x1B ∷ [])
    × (mend_paged (sheet 4 2 1 1 2 0 0 0) (0x93 ∷ 0x56 ∷ 0x1B ∷ 0x58 ∷ 0x00 ∷ []) ≡ 7 ∷ 0x93 ∷ 0x56 ∷ 0x1B ∷ 0x58 ∷ 0x00 ∷ [])
    × (mend_paged (sheet 4 2 1 1 2 0 0 0) (0x93 ∷ 0xD6 ∷ 0x1B ∷ 0x58 ∷ []) ≡ 8 ∷ 0x93 ∷ 0xD6 ∷ 0x1B ∷ 0x58 ∷ [])
    × (mend_paged (sheet 4 2 1 1 2 0 0 0) (0xFF ∷ 0x7F ∷ 0xFF ∷ 0xFF ∷ []) ≡ 8 ∷ 0xFF ∷ 0x7F ∷ 0xFF ∷ 0xFF ∷ [])
    × (mend_paged (sheet 4 4 2 1 2 3 0 0) (replicate 8 0x00) ≡ 4 ∷ replicate 8 0x00)
    × (mend_paged (sheet 4 2 1 1 2 0 0 7) (0x93 ∷ 0x56 ∷ 0x1B ∷ 0x58 ∷ []) ≡ 14 ∷ 0x93 ∷ 0x56 ∷ 0x1B ∷ 0x58 ∷ [])
unfolding mend_page_refusal mended_page pow
page_called = (refl, refl, refl, refl, refl, refl, refl, refl, refl, refl, refl)
