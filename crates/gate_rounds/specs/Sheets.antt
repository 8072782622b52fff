-- The sheets, blocks and pages that the program takes: accepted, fitting, pages of their sheets, members or not. All by computation.
--   are_bytes l    is every element a byte?
--   long q        the sheet of q with m = 2, v = 1, t 1, 2: blocks and pages are one byte repeated, but for page-12
--   short         sheet A with s = 3; short-8 is long 8 with s = 231
use Rattle.std.specs.Prelude.{◌≡◌, refl, Bool, true, false, ◌&&◌, List, [], ◌∷◌, ℕ, T, leb, ltb, length, get_or, replicate, set}
use Rattle.std.proofs.Common.{leb→le, ltb→lt}
use Rattle.polynomial.specs.Bits.{coefficient}
use Rattle.polynomial.specs.Sums.{add}
use Rattle.polynomial.specs.Xor.{xor}
use Rattle.field.specs.Field.{pow}
use Rattle.code.specs.declared.Parameters.{Parameters}
use Rattle.field.specs.Irreducible.{both}
use Rattle.code.proofs.Accepted.{accepted}
use Rattle.code.specs.Alter.{altered_blocks}
use Rattle.code.proofs.Blank.{blank-iff}
use Rattle.code.specs.Calls.{judge_answer, statuses}
use Rattle.code.specs.Demands.{NamesBit}
use Rattle.code.specs.Layout.{Bytes, Fits, IsBlank, IsPage, blank, block_offset, blocks_clear, data_bits, data_bytes, page_bytes, page_clear}
use Rattle.code.specs.Parameters.{Accepted, degree, sheet, sheet_refusal}
use Rattle.cases.specs.Inhabited.{accepted-A, accepted-B}
use Rattle.cases.specs.Sheets.{A, B}
use Rattle.gate_rounds.specs.Altered.{Twins, twins}
use Rattle.gate_rounds.specs.Answers.{is_member}
use Rattle.gate_rounds.specs.Apt.{Apt, apt, apt-sum}

abbrev are_bytes : List ℕ → Bool
are_bytes [] = true
are_bytes (b ∷ l) = ltb b 256 && are_bytes l

bytes : (l : List ℕ) → T (are_bytes l) → Bytes l
bytes [] t = tt
bytes (b ∷ l) t = let h = both (ltb b 256) (are_bytes l) t in (ltb→lt b 256 h.0, bytes l h.1)

fits : (p : Parameters) (b : List ℕ) → T (are_bytes b) → length b ≡ data_bytes p → T (blocks_clear p b) → Fits p b
fits p b t e c = record { bytes = bytes b t; exact = e; clear = c }

page : (p : Parameters) (x : List ℕ) → T (are_bytes x) → length x ≡ page_bytes p → T (page_clear p x) → IsPage p x
page p x t e c = record { bytes = bytes x t; exact = e; clear = c }

-- blocks and their sum, none of which makes a blank page: each has a 0 at its first bit
abbrev pub Three : Parameters → List ℕ → List ℕ → Type 0
Three p a b = Apt p a × Apt p b × Apt p (add a b)

three : (p : Parameters) → Accepted p → (a b : List ℕ) → Fits p a → Fits p b → coefficient (get_or a 0 0) 0 ≡ 0 → coefficient (get_or b 0 0) 0 ≡ 0
    → coefficient (get_or (add a b) 0 0) 0 ≡ 0 → Three p a b
three p A a b h j x y z = (apt p A a h x, apt p A b j y, apt-sum p A a b h j z)

-- ---- sheet A
fits-A : Fits A (0x02 ∷ 0x01 ∷ 0x00 ∷ [])
unfolding data_bytes blocks_clear
fits-A = fits A (0x02 ∷ 0x01 ∷ 0x00 ∷ []) tt refl tt

fits-other-A : Fits A (0x7E ∷ 0xFF ∷ 0x07 ∷ [])
unfolding data_bytes blocks_clear
fits-other-A = fits A (0x7E ∷ 0xFF ∷ 0x07 ∷ []) tt refl tt

pub three-A : Three A (0x02 ∷ 0x01 ∷ 0x00 ∷ []) (0x7E ∷ 0xFF ∷ 0x07 ∷ [])
unfolding xor
three-A = three A accepted-A (0x02 ∷ 0x01 ∷ 0x00 ∷ []) (0x7E ∷ 0xFF ∷ 0x07 ∷ []) fits-A fits-other-A refl refl refl

pub blocks-A : 3 ≡ data_bytes A
unfolding data_bytes
blocks-A = refl

-- blocks that are written, stray ones, and ones
pub listed-A : statuses A 8 3 (0x01 ∷ 0x01 ∷ 0x00 ∷ 0x80 ∷ 0x01 ∷ 0x00 ∷ 0x7F ∷ 0xFF ∷ 0x07 ∷ []) ≡ 0 ∷ 8 ∷ 13 ∷ []
unfolding statuses pow
listed-A = refl

pub page-cleared-A : IsPage A (0xFF ∷ 0x7F ∷ 0xFF ∷ 0x7F ∷ [])
unfolding page_clear
page-cleared-A = page A (0xFF ∷ 0x7F ∷ 0xFF ∷ 0x7F ∷ []) tt refl tt

cleared-ones-A : T (blank A (0xFF ∷ 0x7F ∷ 0xFF ∷ 0x7F ∷ []))
unfolding blank
cleared-ones-A = tt

pub cleared-A : IsBlank A (0xFF ∷ 0x7F ∷ 0xFF ∷ 0x7F ∷ [])
cleared-A = (blank-iff A (accepted A accepted-A) (0xFF ∷ 0x7F ∷ 0xFF ∷ 0x7F ∷ []) page-cleared-A.bytes).0 cleared-ones-A

pub page-damaged-A : IsPage A (0x13 ∷ 0x00 ∷ 0x00 ∷ 0x00 ∷ [])
unfolding page_clear
page-damaged-A = page A (0x13 ∷ 0x00 ∷ 0x00 ∷ 0x00 ∷ []) tt refl tt

pub member-A : is_member (judge_answer A (0xC2 ∷ 0x01 ∷ 0x13 ∷ 0x00 ∷ [])) ≡ true
unfolding judge_answer pow
member-A = refl

pub no-member-A : is_member (judge_answer A (0xFF ∷ 0x7F ∷ 0xFF ∷ 0x7F ∷ [])) ≡ false
unfolding judge_answer pow
no-member-A = refl

pub damaged-A : is_member (judge_answer A (0x13 ∷ 0x00 ∷ 0x00 ∷ 0x00 ∷ [])) ≡ false
unfolding judge_answer pow
damaged-A = refl

-- ---- sheet B
fits-B : Fits B (0x00 ∷ 0x00 ∷ 0x01 ∷ 0x00 ∷ [])
unfolding data_bytes blocks_clear
fits-B = fits B (0x00 ∷ 0x00 ∷ 0x01 ∷ 0x00 ∷ []) tt refl tt

fits-other-B : Fits B (0x1E ∷ 0x7F ∷ 0xFF ∷ 0x07 ∷ [])
unfolding data_bytes blocks_clear
fits-other-B = fits B (0x1E ∷ 0x7F ∷ 0xFF ∷ 0x07 ∷ []) tt refl tt

pub three-B : Three B (0x00 ∷ 0x00 ∷ 0x01 ∷ 0x00 ∷ []) (0x1E ∷ 0x7F ∷ 0xFF ∷ 0x07 ∷ [])
unfolding xor
three-B = three B accepted-B (0x00 ∷ 0x00 ∷ 0x01 ∷ 0x00 ∷ []) (0x1E ∷ 0x7F ∷ 0xFF ∷ 0x07 ∷ []) fits-B fits-other-B refl refl refl

pub page-damaged-B : IsPage B (0x26 ∷ 0x00 ∷ 0x35 ∷ 0x00 ∷ 0x13 ∷ 0x01 ∷ [])
unfolding page_clear
page-damaged-B = page B (0x26 ∷ 0x00 ∷ 0x35 ∷ 0x00 ∷ 0x13 ∷ 0x01 ∷ []) tt refl tt

pub damaged-B : is_member (judge_answer B (0x26 ∷ 0x00 ∷ 0x35 ∷ 0x00 ∷ 0x13 ∷ 0x01 ∷ [])) ≡ false
unfolding judge_answer pow
damaged-B = refl

-- ---- q = 8 and q = 12
abbrev long : ℕ → Parameters
long q = sheet q 2 1 1 2 0 0 0

pub accepted-8 : Accepted (long 8)
unfolding sheet_refusal
accepted-8 = refl

fits_8 : Fits (long 8) (replicate 61 0x06)
unfolding data_bytes blocks_clear
fits_8 = fits (long 8) (replicate 61 0x06) tt refl tt

fits-other-8 : Fits (long 8) (replicate 61 0x62)
unfolding data_bytes blocks_clear
fits-other-8 = fits (long 8) (replicate 61 0x62) tt refl tt

pub three-8 : Three (long 8) (replicate 61 0x06) (replicate 61 0x62)
unfolding xor
three-8 = three (long 8) accepted-8 (replicate 61 0x06) (replicate 61 0x62) fits_8 fits-other-8 refl refl refl

pub blocks-8 : 61 ≡ data_bytes (long 8)
unfolding data_bytes
blocks-8 = refl

-- all stray
pub listed-8 : statuses (long 8) 64 3 (replicate 183 0xFF) ≡ 8 ∷ 8 ∷ 8 ∷ []
unfolding statuses pow
listed-8 = refl

pub page-8 : IsPage (long 8) (replicate 64 0x01)
unfolding page_clear
page-8 = page (long 8) (replicate 64 0x01) tt refl tt

pub damaged-8 : is_member (judge_answer (long 8) (replicate 64 0x01)) ≡ false
unfolding judge_answer pow
damaged-8 = refl

pub accepted-12 : Accepted (long 12)
unfolding sheet_refusal
accepted-12 = refl

fits-12 : Fits (long 12) (replicate 1020 0x06)
unfolding data_bytes blocks_clear
fits-12 = fits (long 12) (replicate 1020 0x06) tt refl tt

fits-other-12 : Fits (long 12) (replicate 1020 0x02)
unfolding data_bytes blocks_clear
fits-other-12 = fits (long 12) (replicate 1020 0x02) tt refl tt

pub three-12 : Three (long 12) (replicate 1020 0x06) (replicate 1020 0x02)
unfolding xor
three-12 = three (long 12) accepted-12 (replicate 1020 0x06) (replicate 1020 0x02) fits-12 fits-other-12 refl refl refl

-- a single coefficient, so that no long remainder is computed
pub page-12 : IsPage (long 12) (0x01 ∷ replicate 1023 0x00)
unfolding page_clear
page-12 = page (long 12) (0x01 ∷ replicate 1023 0x00) tt refl tt

pub damaged-12 : is_member (judge_answer (long 12) (0x01 ∷ replicate 1023 0x00)) ≡ false
unfolding judge_answer pow
damaged-12 = refl

pub blocks-12 : 1020 ≡ data_bytes (long 12)
unfolding data_bytes
blocks-12 = refl

erased-ones-12 : T (blank (long 12) (replicate 1024 0xFF))
unfolding blank
erased-ones-12 = tt

pub erased-12 : IsBlank (long 12) (replicate 1024 0xFF)
erased-12 = (blank-iff (long 12) (accepted (long 12) accepted-12) (replicate 1024 0xFF) (bytes (replicate 1024 0xFF) tt)).0 erased-ones-12

-- ---- shortened
abbrev short : Parameters
short = sheet 4 2 1 1 2 0 0 3

pub accepted-short : Accepted short
unfolding sheet_refusal
accepted-short = refl

fits-short : Fits short (0x02 ∷ 0x01 ∷ [])
unfolding data_bytes blocks_clear
fits-short = fits short (0x02 ∷ 0x01 ∷ []) tt refl tt

fits-other-short : Fits short (0x0E ∷ 0xFF ∷ [])
unfolding data_bytes blocks_clear
fits-other-short = fits short (0x0E ∷ 0xFF ∷ []) tt refl tt

pub three-short : Three short (0x02 ∷ 0x01 ∷ []) (0x0E ∷ 0xFF ∷ [])
unfolding xor
three-short = three short accepted-short (0x02 ∷ 0x01 ∷ []) (0x0E ∷ 0xFF ∷ []) fits-short fits-other-short refl refl refl

pub blocks-short : 2 ≡ data_bytes short
unfolding data_bytes
blocks-short = refl

-- ones, others that are written, stray ones
pub listed-short : statuses short 1 3 (0x0F ∷ 0xFF ∷ 0x02 ∷ 0x01 ∷ 0x10 ∷ 0x00 ∷ []) ≡ 0 ∷ 0 ∷ 8 ∷ []
unfolding statuses pow
listed-short = refl

pub page-short : IsPage short (0xE8 ∷ 0x0C ∷ 0x13 ∷ 0x00 ∷ [])
unfolding page_clear
page-short = page short (0xE8 ∷ 0x0C ∷ 0x13 ∷ 0x00 ∷ []) tt refl tt

pub member-short : is_member (judge_answer short (0xE8 ∷ 0x0C ∷ 0x13 ∷ 0x00 ∷ [])) ≡ true
unfolding judge_answer pow
member-short = refl

pub page-cleared-short : IsPage short (0xFF ∷ 0x0F ∷ 0xFF ∷ 0x0F ∷ [])
unfolding page_clear
page-cleared-short = page short (0xFF ∷ 0x0F ∷ 0xFF ∷ 0x0F ∷ []) tt refl tt

pub no-member-short : is_member (judge_answer short (0xFF ∷ 0x0F ∷ 0xFF ∷ 0x0F ∷ [])) ≡ false
unfolding judge_answer pow
no-member-short = refl

abbrev short-8 : Parameters
short-8 = sheet 8 2 1 1 2 0 0 231

pub accepted-short-8 : Accepted short-8
unfolding sheet_refusal
accepted-short-8 = refl

fits-short-8 : Fits short-8 (replicate 3 0x06)
unfolding data_bytes blocks_clear
fits-short-8 = fits short-8 (replicate 3 0x06) tt refl tt

fits-other-short-8 : Fits short-8 (replicate 3 0x62)
unfolding data_bytes blocks_clear
fits-other-short-8 = fits short-8 (replicate 3 0x62) tt refl tt

pub three-short-8 : Three short-8 (replicate 3 0x06) (replicate 3 0x62)
unfolding xor
three-short-8 = three short-8 accepted-short-8 (replicate 3 0x06) (replicate 3 0x62) fits-short-8 fits-other-short-8 refl refl refl

pub page-short-8 : IsPage short-8 (replicate 6 0x01)
unfolding page_clear
page-short-8 = page short-8 (replicate 6 0x01) tt refl tt

pub damaged-short-8 : is_member (judge_answer short-8 (replicate 6 0x01)) ≡ false
unfolding judge_answer pow
damaged-short-8 = refl

-- ---- blocks that differ in one bit
names : (p : Parameters) (i r b : ℕ) → T (ltb i p.m) → T (ltb r (data_bits p i)) → T (leb b 1) → NamesBit p i r b
names p i r b t u w = record { block = ltb→lt i p.m t; bit = ltb→lt r (data_bits p i) u; value = leb→le b 1 w }

pub twins-A : Twins A (0x02 ∷ 0x01 ∷ 0x00 ∷ []) (0x42 ∷ 0x01 ∷ 0x00 ∷ []) 0 6 1 0
unfolding data_bytes blocks_clear degree altered_blocks block_offset xor
twins-A =
    twins A accepted-A (0x02 ∷ 0x01 ∷ 0x00 ∷ []) (0x42 ∷ 0x01 ∷ 0x00 ∷ []) 0 6 1 0 fits-A (fits A (0x42 ∷ 0x01 ∷ 0x00 ∷ []) tt refl tt) refl refl
    (names A 0 6 1 tt tt tt) (names A 0 6 0 tt tt tt) refl refl

pub twins-B : Twins B (0x00 ∷ 0x08 ∷ 0x01 ∷ 0x00 ∷ []) (0x00 ∷ 0x00 ∷ 0x01 ∷ 0x00 ∷ []) 1 3 0 1
unfolding data_bytes blocks_clear degree altered_blocks block_offset xor
twins-B =
    twins B accepted-B (0x00 ∷ 0x08 ∷ 0x01 ∷ 0x00 ∷ []) (0x00 ∷ 0x00 ∷ 0x01 ∷ 0x00 ∷ []) 1 3 0 1
    (fits B (0x00 ∷ 0x08 ∷ 0x01 ∷ 0x00 ∷ []) tt refl tt) fits-B refl refl (names B 1 3 0 tt tt tt) (names B 1 3 1 tt tt tt) refl refl

pub twins-short : Twins short (0x02 ∷ 0x01 ∷ []) (0x02 ∷ 0x81 ∷ []) 1 7 1 0
unfolding data_bytes blocks_clear degree altered_blocks block_offset xor
twins-short =
    twins short accepted-short (0x02 ∷ 0x01 ∷ []) (0x02 ∷ 0x81 ∷ []) 1 7 1 0 fits-short (fits short (0x02 ∷ 0x81 ∷ []) tt refl tt) refl refl
    (names short 1 7 1 tt tt tt) (names short 1 7 0 tt tt tt) refl refl

pub twins-8 : Twins (long 8) (replicate 61 0x06) (set (replicate 61 0x06) 40 0x16) 1 84 1 0
unfolding data_bytes blocks_clear degree altered_blocks block_offset xor
twins-8 =
    twins (long 8) accepted-8 (replicate 61 0x06) (set (replicate 61 0x06) 40 0x16) 1 84 1 0 fits_8
    (fits (long 8) (set (replicate 61 0x06) 40 0x16) tt refl tt) refl refl (names (long 8) 1 84 1 tt tt tt) (names (long 8) 1 84 0 tt tt tt) refl refl

-- ---- a sheet with t_0 = 2
abbrev pub two : Parameters
two = sheet 4 3 1 2 3 0 0 0

pub accepted-two : Accepted two
unfolding sheet_refusal
accepted-two = refl

pub apt-two : Apt two (0x02 ∷ 0x01 ∷ 0x00 ∷ [])
unfolding data_bytes blocks_clear
apt-two = apt two accepted-two (0x02 ∷ 0x01 ∷ 0x00 ∷ []) (fits two (0x02 ∷ 0x01 ∷ 0x00 ∷ []) tt refl tt) refl
