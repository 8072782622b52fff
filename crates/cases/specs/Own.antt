-- Cases of our own, of definitions that no compiled call gives back, and of the calls on erased pages, on shortened sheets,
-- on many pages, on one bit of a page and on odd syndromes: each row has what a definition gives and what an independent program says.
-- Written by tools/cases.py, which works every number out by other means; see there. The calls' own cases are run: tools/trial.py.
use Rattle.std.specs.Prelude.{◌≡◌, refl, List, [], ◌∷◌, map, ◌*◌, drop, replicate}
use Rattle.polynomial.specs.Bits.{coefficient}
use Rattle.polynomial.specs.Division.{rem}
use Rattle.polynomial.specs.Sums.{add}
use Rattle.polynomial.specs.Xor.{xor}
use Rattle.field.specs.Elements.{power, sum_below}
use Rattle.field.specs.Field.{pow}
use Rattle.code.specs.Lists.{range, sum}
use Rattle.code.specs.Parameters.{sheet, sheet_refusal}
use Rattle.code.specs.Code.{all_syndromes, carried, combine, degree, distance, divisor, gen, N, nested, newton, odd_syndromes}
use Rattle.code.specs.Code.{remainder, short_remainder, syndromes}
use Rattle.code.specs.Layout.{altered, block_offset, words_of, page_of, page_bytes, data_bytes, coefficient_of, block_bit, differences}
use Rattle.code.specs.Refusals.{write_refusal, word_refusal, remainder_refusal, nested_refusal, syndromes_refusal, nested_syndromes_refusal, all_refusal}
use Rattle.code.specs.Refusals.{many_refusal, alter_refusal, open_refusal, feed_refusal, quote_refusal}
use Rattle.code.specs.Calls.{as_bytes, as_numbers, empty, fed, judge_number, judge_values, read_number, read_leaves, write_leaves, quote}
use Rattle.code.specs.Calls.{statuses, pages_by}
use Rattle.code.specs.Calls.{remainder_bytes, short_bytes, nested_word_bytes, syndrome_list, nested_syndrome_list}
use Rattle.code.specs.Registers.{cut, feedings}
use Rattle.code.specs.Writer.{writer}
use Rattle.cases.specs.Sheets.{Row, A, B, held, many, alter, all}

-- Where each block begins.
pub offsets : List Row
offsets =
    (map (block_offset A) (range 0 2), 0 ∷ 1 ∷ [])
    ∷ (map (block_offset B) (range 0 3), 0 ∷ 1 ∷ 2 ∷ [])
    ∷ (map (block_offset (sheet 4 3 2 2 5 7 0 0)) (range 0 3), 0 ∷ 1 ∷ 2 ∷ [])
    ∷ (map (block_offset (sheet 8 8 3 1 2 2 2 0)) (range 0 8), 0 ∷ 30 ∷ 60 ∷ 90 ∷ 121 ∷ 152 ∷ 183 ∷ 214 ∷ [])
    ∷ []

pub offsets-hold : map (λ r. r.0) offsets ≡ map (λ r. r.1) offsets
unfolding offsets block_offset range
offsets-hold = refl

-- Coefficients of a page and bits of blocks, read off their bytes.
pub placed_bits : List Row
placed_bits =
    (map (coefficient_of A (0x43 ∷ 0x57 ∷ 0x54 ∷ 0x19 ∷ []) 0) (range 0 15), 1 ∷ 1 ∷ 0 ∷ 0 ∷ 0 ∷ 0 ∷ 1 ∷ 0 ∷ 1 ∷ 1 ∷ 1 ∷ 0 ∷ 1 ∷ 0 ∷ 1 ∷ [])
    ∷ (
      map (coefficient_of B (0x89 ∷ 0x52 ∷ 0x85 ∷ 0x3A ∷ 0x75 ∷ 0x71 ∷ []) 2) (range 0 15),
      1 ∷ 0 ∷ 1 ∷ 0 ∷ 1 ∷ 1 ∷ 1 ∷ 0 ∷ 1 ∷ 0 ∷ 0 ∷ 0 ∷ 1 ∷ 1 ∷ 1 ∷ [],
    )
    ∷ (
      map (coefficient_of (sheet 4 5 2 1 2 2 0 0) (0x03 ∷ 0x03 ∷ 0x6B ∷ 0x02 ∷ 0x35 ∷ 0x07 ∷ 0x05 ∷ 0x72 ∷ 0xC7 ∷ 0x0B
          ∷ []) 4) (range 0 15),
      1 ∷ 1 ∷ 1 ∷ 0 ∷ 0 ∷ 0 ∷ 1 ∷ 1 ∷ 1 ∷ 1 ∷ 0 ∷ 1 ∷ 0 ∷ 0 ∷ 0 ∷ [],
    )
    ∷ (map (block_bit A (0x0C ∷ 0xC1 ∷ 0x04 ∷ []) 1) (range 0 11), 1 ∷ 0 ∷ 0 ∷ 0 ∷ 0 ∷ 0 ∷ 1 ∷ 1 ∷ 0 ∷ 0 ∷ 1 ∷ [])
    ∷ (map (block_bit B (0x19 ∷ 0x53 ∷ 0xB9 ∷ 0x05 ∷ []) 2) (range 0 11), 1 ∷ 0 ∷ 0 ∷ 1 ∷ 1 ∷ 1 ∷ 0 ∷ 1 ∷ 1 ∷ 0 ∷ 1 ∷ [])
    ∷ (map (block_bit (sheet 4 3 2 2 5 7 0 0) (0x01 ∷ 0x00 ∷ 0x55 ∷ []) 1) (range 0 1), 0 ∷ [])
    ∷ []

pub placed_bits-hold : map (λ r. r.0) placed_bits ≡ map (λ r. r.1) placed_bits
unfolding placed_bits block_offset range
placed_bits-hold = refl

-- N(i, l) past what the call gives: i above 7, and l above i.
pub nestings : List Row
nestings =
    (map (N 9) (range 0 11), 1 ∷ 511 ∷ 26163 ∷ 440555 ∷ 1784731 ∷ 1784731 ∷ 440555 ∷ 26163 ∷ 511 ∷ 1 ∷ 0 ∷ [])
    ∷ (map (λ i. N i 4) (range 0 10), 0 ∷ 0 ∷ 0 ∷ 0 ∷ 1 ∷ 31 ∷ 403 ∷ 6731 ∷ 114427 ∷ 1784731 ∷ [])
    ∷ []

pub nestings-hold : map (λ r. r.0) nestings ≡ map (λ r. r.1) nestings
unfolding nestings N range
nestings-hold = refl

-- The sums Σ N(i, l) × c_i of the equal form.
pub newton_sums : List Row
newton_sums =
    (newton 0 (words_of A (0xF3 ∷ 0x4F ∷ 0x9E ∷ 0x66 ∷ [])) ∷ [], 10605 ∷ [])
    ∷ (newton 0 (words_of B (0x3F ∷ 0x38 ∷ 0x28 ∷ 0x62 ∷ 0xB6 ∷ 0x3E ∷ [])) ∷ [], 25761 ∷ [])
    ∷ (newton 1 (words_of B (0x5E ∷ 0x41 ∷ 0xC2 ∷ 0x3C ∷ 0x1A ∷ 0x27 ∷ [])) ∷ [], 21996 ∷ [])
    ∷ (
      newton 1 (words_of (sheet 4 5 2 1 2 2 0 0) (0x7C ∷ 0x3F ∷ 0xA1 ∷ 0x73 ∷ 0x55 ∷ 0x72 ∷ 0x78 ∷ 0x4A ∷ 0x3E ∷ 0x1C ∷ [])) ∷ [],
      108412 ∷ [],
    )
    ∷ (
      newton 2 (words_of (sheet 4 5 3 1 2 2 2 0) (0x88 ∷ 0x48 ∷ 0xA0 ∷ 0x23 ∷ 0x53 ∷ 0x27 ∷ 0x59 ∷ 0x68 ∷ 0x33 ∷ 0x6C ∷ [])) ∷ [],
      272417 ∷ [],
    )
    ∷ []

pub newton_sums-hold : map (λ r. r.0) newton_sums ≡ map (λ r. r.1) newton_sums
unfolding newton_sums words_of combine N
newton_sums-hold = refl

-- What the later words add to the rule of sub-word i, at its level: nothing at level 0.
pub carries : List Row
carries =
    (carried 1 0 (drop 1 (words_of A (0x46 ∷ 0x31 ∷ 0x60 ∷ 0x17 ∷ []))) ∷ [], 5984 ∷ [])
    ∷ (carried 1 1 (drop 2 (words_of B (0x04 ∷ 0x51 ∷ 0x61 ∷ 0x04 ∷ 0x29 ∷ 0x19 ∷ []))) ∷ [], 11131 ∷ [])
    ∷ (
      carried 3 0 (drop 1 (words_of (sheet 4 5 3 1 2 2 2 0) (0x6E ∷ 0x3A ∷ 0x91 ∷ 0x71 ∷ 0x67 ∷ 0x1B ∷ 0xED ∷ 0x20 ∷ 0xE1 ∷ 0x05 ∷ [])))
          ∷ [],
      20474 ∷ [],
    )
    ∷ (
      carried 0 3 (drop 4 (words_of (sheet 4 5 3 1 2 2 2 0) (0x27 ∷ 0x6E ∷ 0xDA ∷ 0x79 ∷ 0x90 ∷ 0x4B ∷ 0x3A ∷ 0x63 ∷ 0x1D ∷ 0x32 ∷ [])))
          ∷ [],
      0 ∷ [],
    )
    ∷ []

pub carries-hold : map (λ r. r.0) carries ≡ map (λ r. r.1) carries
unfolding carries carried words_of
carries-hold = refl

-- g_(v-l) / g_0; 1 where the two are one.
pub divisors : List Row
divisors =
    (map (divisor B) (range 0 2), 93 ∷ 31 ∷ [])
    ∷ (map (divisor (sheet 4 2 1 4 5 0 0 0)) (range 0 1), 1 ∷ [])
    ∷ (map (divisor (sheet 4 5 3 1 2 2 2 0)) (range 0 3), 31 ∷ 31 ∷ 31 ∷ [])
    ∷ []

pub divisors-hold : map (λ r. r.0) divisors ≡ map (λ r. r.1) divisors
unfolding divisors divisor range pow
divisors-hold = refl

-- Two pages: at how many places they differ; their spare bits count for nothing.
pub bits_apart : List Row
bits_apart =
    (differences B (0x72 ∷ 0x15 ∷ 0xC7 ∷ 0x2A ∷ 0xE6 ∷ 0x44 ∷ []) (0x25 ∷ 0x58 ∷ 0x11 ∷ 0x4D ∷ 0x87 ∷ 0x28 ∷ []) ∷ [], 26 ∷ [])
    ∷ (differences B (0x72 ∷ 0x15 ∷ 0xC7 ∷ 0x2A ∷ 0xE6 ∷ 0x44 ∷ []) (0x72 ∷ 0x15 ∷ 0xC7 ∷ 0x2A ∷ 0xE6 ∷ 0x44 ∷ []) ∷ [], 0 ∷ [])
    ∷ (differences B (0x72 ∷ 0x15 ∷ 0xC7 ∷ 0x2A ∷ 0xE6 ∷ 0x44 ∷ []) (0x73 ∷ 0x15 ∷ 0xC7 ∷ 0x6A ∷ 0xE6 ∷ 0x44 ∷ []) ∷ [], 2 ∷ [])
    ∷ (differences A (0x00 ∷ 0x00 ∷ 0x00 ∷ 0x00 ∷ []) (0xFF ∷ 0xFF ∷ 0xFF ∷ 0xFF ∷ []) ∷ [], 30 ∷ [])
    ∷ []

pub bits_apart-hold : map (λ r. r.0) bits_apart ≡ map (λ r. r.1) bits_apart
unfolding bits_apart differences
bits_apart-hold = refl

-- The distance.
pub distances : List Row
distances = (
  map distance (A ∷ B ∷ (sheet 4 2 1 4 5 0 0 0) ∷ (sheet 4 5 2 1 2 2 0 0) ∷ (sheet 4 5 3 1 2 2 2 0) ∷ (sheet 4 3 2 2 5 7 0 0)
      ∷ (sheet 4 3 2 6 7 7 0 0) ∷ (sheet 4 4 1 1 2 0 0 0) ∷ (sheet 4 5 1 1 2 0 0 0) ∷ (sheet 4 3 1 2 3 0 0 0) ∷ (sheet 4 2 1 3 7 0 0 0)
      ∷ (sheet 4 3 2 1 3 3 0 0) ∷ (sheet 4 4 3 1 2 2 2 0) ∷ (sheet 8 8 3 1 2 2 2 0) ∷ (sheet 12 8 3 28 32 39 58 0) ∷ []),
  5 ∷ 7 ∷ 11 ∷ 5 ∷ 5 ∷ 15 ∷ 15 ∷ 5 ∷ 5 ∷ 7 ∷ 14 ∷ 7 ∷ 5 ∷ 5 ∷ 117 ∷ [],
)
    ∷ []

pub distances-hold : map (λ r. r.0) distances ≡ map (λ r. r.1) distances
unfolding distances distance
distances-hold = refl

-- Lists added place by place; the longer list keeps its tail.
pub sums : List Row
sums =
    (add (0xCA ∷ 0xFA ∷ 0x1A ∷ 0x54 ∷ []) (0x5D ∷ 0x50 ∷ 0x5D ∷ 0x82 ∷ []), 0x97 ∷ 0xAA ∷ 0x47 ∷ 0xD6 ∷ [])
    ∷ (add (0x09 ∷ 0xCD ∷ 0x71 ∷ []) (0x1B ∷ 0x4C ∷ 0x55 ∷ 0x14 ∷ 0x56 ∷ []), 0x12 ∷ 0x81 ∷ 0x24 ∷ 0x14 ∷ 0x56 ∷ [])
    ∷ []

pub sums-hold : map (λ r. r.0) sums ≡ map (λ r. r.1) sums
unfolding sums xor
sums-hold = refl

-- A polynomial cut for feeding, highest power first: the parts' widths, and the parts.
pub cuts : List Row
cuts =
    (map (λ u. u.0) (cut 0x25A0 (3 ∷ 8 ∷ 4 ∷ [])), 3 ∷ 8 ∷ 4 ∷ [])
    ∷ (map (λ u. u.1) (cut 0x25A0 (3 ∷ 8 ∷ 4 ∷ [])), 2 ∷ 90 ∷ 0 ∷ [])
    ∷ []

pub cuts-hold : map (λ r. r.0) cuts ≡ map (λ r. r.1) cuts
unfolding cuts sum
cuts-hold = refl

-- The parts fed in turn from the empty register: level, count and words.
pub fed_parts : List Row
fed_parts =
    (held (feedings B (empty 2) (cut 0x7EB (7 ∷ 1 ∷ 7 ∷ []))), 2 ∷ 15 ∷ 732 ∷ replicate 11 0)
    ∷ (held (feedings (sheet 4 3 2 2 5 7 0 0) (empty 0) (cut 0x1498 (4 ∷ 11 ∷ []))), 0 ∷ 15 ∷ 68 ∷ replicate 11 0)
    ∷ []

pub fed_parts-hold : map (λ r. r.0) fed_parts ≡ map (λ r. r.1) fed_parts
unfolding fed_parts fed sum pow
fed_parts-hold = refl

-- The powers of α, and a syndrome as the sum Σ c_k α^(j k).
pub field_sums : List Row
field_sums =
    (map (power 4) (range 0 16), 1 ∷ 2 ∷ 4 ∷ 8 ∷ 3 ∷ 6 ∷ 12 ∷ 11 ∷ 5 ∷ 10 ∷ 7 ∷ 14 ∷ 15 ∷ 13 ∷ 9 ∷ 1 ∷ [])
    ∷ (sum_below 15 (λ k. coefficient 0x40F1 k * power 4 (3 * k)) ∷ [], 4 ∷ [])
    ∷ []

pub field_sums-hold : map (λ r. r.0) field_sums ≡ map (λ r. r.1) field_sums
unfolding field_sums power sum_below xor range
field_sums-hold = refl

-- Numbers as C takes them, two bytes each, low byte first, and read back.
pub byte_pairs : List Row
byte_pairs =
    (as_bytes (0 ∷ 255 ∷ 256 ∷ 4095 ∷ 65535 ∷ []), 0x00 ∷ 0x00 ∷ 0xFF ∷ 0x00 ∷ 0x00 ∷ 0x01 ∷ 0xFF ∷ 0x0F ∷ 0xFF ∷ 0xFF ∷ [])
    ∷ (as_numbers (as_bytes (0 ∷ 255 ∷ 256 ∷ 4095 ∷ 65535 ∷ [])), 0 ∷ 255 ∷ 256 ∷ 4095 ∷ 65535 ∷ [])
    ∷ (as_numbers [], [])
    ∷ (as_numbers (0x12 ∷ []), [])
    ∷ (as_numbers (0x34 ∷ 0x12 ∷ []), 4660 ∷ [])
    ∷ (as_numbers (0x34 ∷ 0x12 ∷ 0x56 ∷ []), 4660 ∷ [])
    ∷ (as_numbers (0xFF ∷ 0xFF ∷ 0x00 ∷ 0x01 ∷ 0x01 ∷ 0x00 ∷ []), 65535 ∷ 256 ∷ 1 ∷ [])
    ∷ []

pub byte_pairs-hold : map (λ r. r.0) byte_pairs ≡ map (λ r. r.1) byte_pairs
unfolding byte_pairs as_bytes as_numbers
byte_pairs-hold = refl

-- The writer program's answer where strengths are missing: they are 0.
pub writings : List Row
writings =
    (writer (0x04 ∷ 0x03 ∷ 0x02 ∷ 0x08 ∷ 0x01 ∷ 0x02 ∷ []), 0x03 ∷ [])
    ∷ (writer (0x04 ∷ 0x03 ∷ 0x02 ∷ 0x08 ∷ 0x01 ∷ 0x02 ∷ 0x03 ∷ []), 0x06 ∷ [])
    ∷ (writer (0x04 ∷ 0x04 ∷ 0x03 ∷ 0x08 ∷ 0x01 ∷ 0x02 ∷ 0x02 ∷ []), 0x03 ∷ [])
    ∷ []

pub writings-hold : map (λ r. r.0) writings ≡ map (λ r. r.1) writings
unfolding writings writer pow
writings-hold = refl

-- Huge numbers: sheets; a register, its width and what is fed; an index.
pub huge_numbers : List Row
huge_numbers = (
  map sheet_refusal ((sheet 4294967295 2 1 1 2 0 0 0) ∷ (sheet 4 4294967295 1 1 2 0 0 0) ∷ (sheet 4 2 4294967295 1 2 0 0 0)
      ∷ (sheet 4 2 1 1 4294967295 0 0 0) ∷ (sheet 4 2 1 1 2 0 4294967295 0) ∷ (sheet 12 8 3 1 2 3 4294967295 0) ∷ []),
  1 ∷ 2 ∷ 2 ∷ 3 ∷ 3 ∷ 3 ∷ [],
)
    ∷ (
      feed_refusal A 4294967295
          (record { level = 4294967295; count = 18446744073709551615; remainder = replicate 12 0 }) 18446744073709551615
          ∷ feed_refusal A 64 (record { level = 0; count = 18446744073709551615; remainder = replicate 12 0 }) 18446744073709551615
          ∷ feed_refusal A 1 (record { level = 4294967295; count = 0; remainder = replicate 12 0 }) 1 ∷ [],
      5 ∷ 11 ∷ 12 ∷ [],
    )
    ∷ (remainder_refusal A (0xC2 ∷ 0x01 ∷ 0x13 ∷ 0x00 ∷ []) 18446744073709551615 0 ∷ [], 9 ∷ [])
    ∷ []

pub huge_numbers-hold : map (λ r. r.0) huge_numbers ≡ map (λ r. r.1) huge_numbers
unfolding huge_numbers sheet_refusal feed_refusal word_refusal
huge_numbers-hold = refl

-- Judge on erased pages and on pages that are nearly so: spare bits in all patterns, all clear, all set.
pub erased_judged : List Row
erased_judged = (
  map (judge_number A) ((0xFF ∷ 0x7F ∷ 0xFF ∷ 0x7F ∷ []) ∷ (0xFF ∷ 0x7F ∷ 0xFF ∷ 0xFF ∷ []) ∷ (0xFF ∷ 0xFF ∷ 0xFF ∷ 0x7F ∷ []) ∷ (0xFF
      ∷ 0xFF ∷ 0xFF ∷ 0xFF ∷ []) ∷ []),
  96 ∷ 96 ∷ 96 ∷ 96 ∷ [],
)
    ∷ (
      map (judge_number A) ((0xFE ∷ 0x7F ∷ 0xFF ∷ 0x7F ∷ []) ∷ (0xBF ∷ 0x7F ∷ 0xFF ∷ 0x7F ∷ []) ∷ (0xFF ∷ 0x3F ∷ 0xFF ∷ 0x7F ∷ []) ∷ (0xFF
          ∷ 0x7F ∷ 0xFE ∷ 0x7F ∷ []) ∷ (0xFF ∷ 0x7F ∷ 0xBF ∷ 0x7F ∷ []) ∷ (0xFF ∷ 0x7F ∷ 0xFF ∷ 0x3F ∷ []) ∷ []),
      32 ∷ 32 ∷ 32 ∷ 33 ∷ 33 ∷ 33 ∷ [],
    )
    ∷ (
      map (judge_number A) ((0xFE ∷ 0xFF ∷ 0xFF ∷ 0xFF ∷ []) ∷ (0xBF ∷ 0xFF ∷ 0xFF ∷ 0xFF ∷ []) ∷ (0xFF ∷ 0xBF ∷ 0xFF ∷ 0xFF ∷ []) ∷ (0xFF
          ∷ 0xFF ∷ 0xFE ∷ 0xFF ∷ []) ∷ (0xFF ∷ 0xFF ∷ 0xBF ∷ 0xFF ∷ []) ∷ (0xFF ∷ 0xFF ∷ 0xFF ∷ 0xBF ∷ []) ∷ []),
      replicate 6 8,
    )
    ∷ (
      map (judge_number A) ((0xFF ∷ 0x7F ∷ 0x00 ∷ 0x00 ∷ []) ∷ (0x00 ∷ 0x00 ∷ 0xFF ∷ 0x7F ∷ []) ∷ (0xFF ∷ 0x7F ∷ 0x13 ∷ 0x00 ∷ []) ∷ (0x13
          ∷ 0x00 ∷ 0xFF ∷ 0x7F ∷ []) ∷ (0xFF ∷ 0x7F ∷ 0x01 ∷ 0x00 ∷ []) ∷ (0x01 ∷ 0x00 ∷ 0xFF ∷ 0x7F ∷ []) ∷ []),
      0 ∷ 0 ∷ 64 ∷ 64 ∷ 33 ∷ 32 ∷ [],
    )
    ∷ (
      map (judge_number A) ((0xFF ∷ 0xFF ∷ 0x00 ∷ 0x00 ∷ []) ∷ (0x00 ∷ 0x00 ∷ 0xFF ∷ 0xFF ∷ []) ∷ (0xFF ∷ 0xFF ∷ 0x13 ∷ 0x00 ∷ []) ∷ (0x13
          ∷ 0x00 ∷ 0xFF ∷ 0xFF ∷ []) ∷ (0xFF ∷ 0xFF ∷ 0x01 ∷ 0x00 ∷ []) ∷ (0x01 ∷ 0x00 ∷ 0xFF ∷ 0xFF ∷ []) ∷ []),
      replicate 6 8,
    )
    ∷ (
      map (judge_number A) ([] ∷ (0xFF ∷ 0xFF ∷ 0xFF ∷ []) ∷ (0xFF ∷ 0xFF ∷ 0xFF ∷ 0xFF ∷ 0xFF ∷ []) ∷ (replicate 6 0xFF) ∷ []),
      7 ∷ 7 ∷ 7 ∷ 7 ∷ [],
    )
    ∷ (
      judge_number B (0xFF ∷ 0x7F ∷ 0xFF ∷ 0xFF ∷ 0xFF ∷ 0x7F ∷ []) ∷ judge_number (sheet 4 3 2 6 7 7 0 0) (0xFF ∷ 0xFF ∷ 0xFF ∷ 0x7F
          ∷ 0xFF ∷ 0xFF ∷ []) ∷ [],
      96 ∷ 96 ∷ [],
    )
    ∷ (
      judge_number (sheet 8 2 1 1 2 0 0 0) (replicate 64 0xFF) ∷ judge_number (sheet 8 2 1 1 2 0 0 0) (0xFE ∷ replicate 63 0xFF) ∷ [],
      96 ∷ 8 ∷ [],
    )
    ∷ (
      judge_number (sheet 5 2 1 1 2 0 0 0) (0xFF ∷ 0xFF ∷ 0xFF ∷ 0xFF ∷ []) ∷ judge_number (sheet 4 1 1 1 2 0 0 0) (0xFF ∷ 0xFF ∷ [])
          ∷ judge_number (sheet 4 2 1 2 2 0 0 0) (0xFF ∷ 0xFF ∷ 0xFF ∷ 0xFF ∷ []) ∷ judge_number (sheet 4 4 2 1 2 3 0 0) (replicate 8 0xFF)
          ∷ [],
      1 ∷ 2 ∷ 3 ∷ 4 ∷ [],
    )
    ∷ (judge_values A (0xFF ∷ 0xFF ∷ 0xFF ∷ 0xFF ∷ []), [])
    ∷ (judge_values A (0xFF ∷ 0x7F ∷ 0xFF ∷ 0x3F ∷ []), 1 ∷ [])
    ∷ []

pub erased_judged-hold : map (λ r. r.0) erased_judged ≡ map (λ r. r.1) erased_judged
unfolding erased_judged judge_number judge_values pow
erased_judged-hold = refl

-- Read out on them: the number and what it leaves.
pub erased_read : List Row
erased_read = (
  read_number A (0xFF ∷ 0x7F ∷ 0xFF ∷ 0x7F ∷ []) (replicate 3 0xA5) ∷ read_leaves A (0xFF ∷ 0x7F ∷ 0xFF ∷ 0x7F ∷ []) (replicate 3 0xA5),
  96 ∷ 0x7F ∷ 0xFF ∷ 0x07 ∷ [],
)
    ∷ (
      read_number A (0xFF ∷ 0x7F ∷ 0xFF ∷ 0xFF ∷ []) (replicate 3 0xA5) ∷ read_leaves A (0xFF ∷ 0x7F ∷ 0xFF ∷ 0xFF ∷ []) (replicate 3 0xA5),
      96 ∷ 0x7F ∷ 0xFF ∷ 0x07 ∷ [],
    )
    ∷ (
      read_number A (0xFF ∷ 0xFF ∷ 0xFF ∷ 0x7F ∷ []) (replicate 3 0xA5) ∷ read_leaves A (0xFF ∷ 0xFF ∷ 0xFF ∷ 0x7F ∷ []) (replicate 3 0xA5),
      96 ∷ 0x7F ∷ 0xFF ∷ 0x07 ∷ [],
    )
    ∷ (
      read_number A (0xFF ∷ 0xFF ∷ 0xFF ∷ 0xFF ∷ []) (replicate 3 0xA5) ∷ read_leaves A (0xFF ∷ 0xFF ∷ 0xFF ∷ 0xFF ∷ []) (replicate 3 0xA5),
      96 ∷ 0x7F ∷ 0xFF ∷ 0x07 ∷ [],
    )
    ∷ (
      read_number A (0xFF ∷ 0x3F ∷ 0xFF ∷ 0x7F ∷ []) (replicate 3 0xA5) ∷ read_leaves A (0xFF ∷ 0x3F ∷ 0xFF ∷ 0x7F ∷ []) (replicate 3 0xA5),
      32 ∷ 0x3F ∷ 0xFF ∷ 0x07 ∷ [],
    )
    ∷ (
      read_number A (0xFF ∷ 0xBF ∷ 0xFF ∷ 0xFF ∷ []) (replicate 3 0xA5) ∷ read_leaves A (0xFF ∷ 0xBF ∷ 0xFF ∷ 0xFF ∷ []) (replicate 3 0xA5),
      8 ∷ 0xA5 ∷ 0xA5 ∷ 0xA5 ∷ [],
    )
    ∷ (
      read_number B (0xFF ∷ 0x7F ∷ 0xFF ∷ 0xFF ∷ 0xFF ∷ 0x7F ∷ []) (replicate 4 0xA5) ∷ read_leaves B (0xFF ∷ 0x7F ∷ 0xFF ∷ 0xFF ∷ 0xFF
          ∷ 0x7F ∷ []) (replicate 4 0xA5),
      96 ∷ 0x1F ∷ 0x7F ∷ 0xFF ∷ 0x07 ∷ [],
    )
    ∷ (
      read_number A (0xFF ∷ 0xFF ∷ 0xFF ∷ 0xFF ∷ []) (replicate 2 0xA5) ∷ read_leaves A (0xFF ∷ 0xFF ∷ 0xFF ∷ 0xFF ∷ []) (replicate 2 0xA5),
      6 ∷ 0xA5 ∷ 0xA5 ∷ [],
    )
    ∷ (
      read_number A (0xFF ∷ 0xFF ∷ 0xFF ∷ []) (replicate 3 0xA5) ∷ read_leaves A (0xFF ∷ 0xFF ∷ 0xFF ∷ []) (replicate 3 0xA5),
      7 ∷ 0xA5 ∷ 0xA5 ∷ 0xA5 ∷ [],
    )
    ∷ []

pub erased_read-hold : map (λ r. r.0) erased_read ≡ map (λ r. r.1) erased_read
unfolding erased_read read_number read_leaves pow
erased_read-hold = refl

-- Write where every data bit is 1, or all but one: the number and what it leaves; 5, 6, 7 and 8 go before 13.
pub ones_written : List Row
ones_written = (
  write_refusal A 8 (0x7F ∷ 0xFF ∷ 0x07 ∷ []) 4 ∷ write_leaves A 8 (0x7F ∷ 0xFF ∷ 0x07 ∷ []) (replicate 4 0xA5),
  13 ∷ 0xA5 ∷ 0xA5 ∷ 0xA5 ∷ 0xA5 ∷ [],
)
    ∷ (
      write_refusal A 8 (0x7E ∷ 0xFF ∷ 0x07 ∷ []) 4 ∷ write_leaves A 8 (0x7E ∷ 0xFF ∷ 0x07 ∷ []) (replicate 4 0xA5),
      0 ∷ 0x2E ∷ 0x7E ∷ 0xFF ∷ 0x7F ∷ [],
    )
    ∷ (
      write_refusal A 8 (0x7F ∷ 0xFF ∷ 0x03 ∷ []) 4 ∷ write_leaves A 8 (0x7F ∷ 0xFF ∷ 0x03 ∷ []) (replicate 4 0xA5),
      0 ∷ 0x1E ∷ 0x7F ∷ 0xF6 ∷ 0x3F ∷ [],
    )
    ∷ (
      write_refusal A 8 (0xFF ∷ 0xFF ∷ 0x07 ∷ []) 4 ∷ write_leaves A 8 (0xFF ∷ 0xFF ∷ 0x07 ∷ []) (replicate 4 0xA5),
      8 ∷ 0xA5 ∷ 0xA5 ∷ 0xA5 ∷ 0xA5 ∷ [],
    )
    ∷ (
      write_refusal B 8 (0x1F ∷ 0x7F ∷ 0xFF ∷ 0x07 ∷ []) 6 ∷ write_leaves B 8 (0x1F ∷ 0x7F ∷ 0xFF ∷ 0x07 ∷ []) (replicate 6 0xA5),
      13 ∷ replicate 6 0xA5,
    )
    ∷ (
      write_refusal (sheet 4 3 2 6 7 7 0 0) 8 (0x01 ∷ 0x01 ∷ 0x01 ∷ []) 6 ∷ write_leaves (sheet 4 3 2 6 7 7 0 0) 8 (0x01 ∷ 0x01 ∷ 0x01
          ∷ []) (replicate 6 0xA5),
      13 ∷ replicate 6 0xA5,
    )
    ∷ (
      write_refusal (sheet 4 3 2 6 7 7 0 0) 8 (0x01 ∷ 0x00 ∷ 0x01 ∷ []) 6 ∷ write_leaves (sheet 4 3 2 6 7 7 0 0) 8 (0x01 ∷ 0x00 ∷ 0x01
          ∷ []) (replicate 6 0xA5),
      0 ∷ 0xFF ∷ 0x7F ∷ 0x00 ∷ 0x00 ∷ 0xFF ∷ 0x7F ∷ [],
    )
    ∷ (
      write_refusal A 0 (0x7F ∷ 0xFF ∷ 0x07 ∷ []) 4 ∷ write_refusal A 8 (0x7F ∷ 0xFF ∷ []) 4 ∷ write_refusal A 8 (0x7F ∷ 0xFF ∷ 0x07
          ∷ []) 5 ∷ [],
      5 ∷ 6 ∷ 7 ∷ [],
    )
    ∷ (writer (0x04 ∷ 0x02 ∷ 0x01 ∷ 0x08 ∷ 0x01 ∷ 0x02 ∷ 0x7F ∷ 0xFF ∷ 0x07 ∷ []), 0x0D ∷ [])
    ∷ []

pub ones_written-hold : map (λ r. r.0) ones_written ≡ map (λ r. r.1) ones_written
unfolding ones_written write_refusal page_of writer pow
ones_written-hold = refl

-- One word of an erased page, as of any other: 8 with a spare bit set, else worked out.
pub erased_words : List Row
erased_words = (
  map (λ x. remainder_refusal A x 0 96) ((0xFF ∷ 0x7F ∷ 0xFF ∷ 0x7F ∷ []) ∷ (0xFF ∷ 0x7F ∷ 0xFF ∷ 0xFF ∷ []) ∷ (0xFF ∷ 0xFF ∷ 0xFF ∷ 0x7F
      ∷ []) ∷ (0xFF ∷ 0xFF ∷ 0xFF ∷ 0xFF ∷ []) ∷ []),
  0 ∷ 8 ∷ 8 ∷ 8 ∷ [],
)
    ∷ (
      map (λ x. nested_refusal A x 0 2) ((0xFF ∷ 0x7F ∷ 0xFF ∷ 0x7F ∷ []) ∷ (0xFF ∷ 0x7F ∷ 0xFF ∷ 0xFF ∷ []) ∷ (0xFF ∷ 0xFF ∷ 0xFF ∷ 0x7F
          ∷ []) ∷ (0xFF ∷ 0xFF ∷ 0xFF ∷ 0xFF ∷ []) ∷ []),
      0 ∷ 8 ∷ 8 ∷ 8 ∷ [],
    )
    ∷ (
      map (λ x. syndromes_refusal 1 A x 0 1) ((0xFF ∷ 0x7F ∷ 0xFF ∷ 0x7F ∷ []) ∷ (0xFF ∷ 0x7F ∷ 0xFF ∷ 0xFF ∷ []) ∷ (0xFF ∷ 0xFF ∷ 0xFF
          ∷ 0x7F ∷ []) ∷ (0xFF ∷ 0xFF ∷ 0xFF ∷ 0xFF ∷ []) ∷ []),
      0 ∷ 8 ∷ 8 ∷ 8 ∷ [],
    )
    ∷ (remainder_bytes A (0xFF ∷ 0x7F ∷ 0xFF ∷ 0x7F ∷ []) 1, replicate 96 0x00)
    ∷ (nested_word_bytes A (0xFF ∷ 0x7F ∷ 0xFF ∷ 0x7F ∷ []) 0, 0x00 ∷ 0x00 ∷ [])
    ∷ (nested_word_bytes B (0xFF ∷ 0x7F ∷ 0xFF ∷ 0x7F ∷ 0xFF ∷ 0x7F ∷ []) 1, 0xFF ∷ 0x7F ∷ [])
    ∷ (syndrome_list A (0xFF ∷ 0x7F ∷ 0xFF ∷ 0x7F ∷ []) 1, 0 ∷ [])
    ∷ (nested_syndrome_list A (0xFF ∷ 0x7F ∷ 0xFF ∷ 0x7F ∷ []) 0, 0 ∷ 0 ∷ [])
    ∷ []

pub erased_words-hold : map (λ r. r.0) erased_words ≡ map (λ r. r.1) erased_words
unfolding erased_words word_refusal remainder_bytes nested_word_bytes syndrome_list nested_syndrome_list pow
erased_words-hold = refl

-- Sheets with s: accepted up to n - w_v - 1, 14 above it, behind 1 to 4 and before every other number.
pub short_sheets : List Row
short_sheets = (
  map sheet_refusal ((sheet 4 2 1 1 2 0 0 6) ∷ (sheet 4 2 1 1 2 0 0 7) ∷ (sheet 4 3 2 1 2 3 0 4) ∷ (sheet 4 3 2 1 2 3 0 5)
      ∷ (sheet 4 3 2 6 7 7 0 0) ∷ (sheet 4 3 2 6 7 7 0 1) ∷ (sheet 8 8 3 1 2 2 2 238) ∷ (sheet 8 8 3 1 2 2 2 239)
      ∷ (sheet 12 3 2 1 2 3 0 4058) ∷ (sheet 12 3 2 1 2 3 0 4059) ∷ []),
  0 ∷ 14 ∷ 0 ∷ 14 ∷ 0 ∷ 14 ∷ 0 ∷ 14 ∷ 0 ∷ 14 ∷ [],
)
    ∷ (
      map sheet_refusal ((sheet 5 2 1 1 2 0 0 4294967295) ∷ (sheet 4 1 1 1 2 0 0 4294967295) ∷ (sheet 4 2 1 2 2 0 0 4294967295)
          ∷ (sheet 4 4 2 1 2 3 0 4294967295) ∷ (sheet 4 2 1 1 2 0 0 4294967295) ∷ []),
      1 ∷ 2 ∷ 3 ∷ 4 ∷ 14 ∷ [],
    )
    ∷ (
      write_refusal (sheet 4 2 1 1 2 0 0 6) 0 (0xFF ∷ 0xFF ∷ 0xFF ∷ 0xFF ∷ 0xFF ∷ []) 5 ∷ judge_number (sheet 4 2 1 1 2 0 0 6) (0xFF ∷ 0xFF
          ∷ 0xFF ∷ 0xFF ∷ 0xFF ∷ []) ∷ read_number (sheet 4 2 1 1 2 0 0 6) (0xFF ∷ 0xFF ∷ 0xFF ∷ 0xFF ∷ 0xFF ∷ []) (0xFF ∷ 0xFF ∷ 0xFF
          ∷ 0xFF ∷ 0xFF ∷ []) ∷ remainder_refusal (sheet 4 2 1 1 2 0 0 6) (0xFF ∷ 0xFF ∷ 0xFF ∷ 0xFF ∷ 0xFF ∷ []) 9 5
          ∷ open_refusal (sheet 4 2 1 1 2 0 0 6) 9
          ∷ feed_refusal (sheet 4 2 1 1 2 0 0 6) 0 (record { level = 9; count = 99; remainder = replicate 12 0 }) 1
          ∷ quote_refusal 1 (sheet 4 2 1 1 2 0 0 6) 5 ∷ [],
      5 ∷ 7 ∷ 6 ∷ 7 ∷ 9 ∷ 5 ∷ 10 ∷ [],
    )
    ∷ (
      write_refusal (sheet 4 2 1 1 2 0 0 7) 0 (0xFF ∷ 0xFF ∷ 0xFF ∷ 0xFF ∷ 0xFF ∷ []) 5 ∷ judge_number (sheet 4 2 1 1 2 0 0 7) (0xFF ∷ 0xFF
          ∷ 0xFF ∷ 0xFF ∷ 0xFF ∷ []) ∷ read_number (sheet 4 2 1 1 2 0 0 7) (0xFF ∷ 0xFF ∷ 0xFF ∷ 0xFF ∷ 0xFF ∷ []) (0xFF ∷ 0xFF ∷ 0xFF
          ∷ 0xFF ∷ 0xFF ∷ []) ∷ remainder_refusal (sheet 4 2 1 1 2 0 0 7) (0xFF ∷ 0xFF ∷ 0xFF ∷ 0xFF ∷ 0xFF ∷ []) 9 5
          ∷ open_refusal (sheet 4 2 1 1 2 0 0 7) 9
          ∷ feed_refusal (sheet 4 2 1 1 2 0 0 7) 0 (record { level = 9; count = 99; remainder = replicate 12 0 }) 1
          ∷ quote_refusal 1 (sheet 4 2 1 1 2 0 0 7) 5 ∷ [],
      replicate 7 14,
    )
    ∷ []

pub short_sheets-hold : map (λ r. r.0) short_sheets ≡ map (λ r. r.1) short_sheets
unfolding short_sheets sheet_refusal write_refusal judge_number read_number word_refusal open_refusal feed_refusal quote_refusal
short_sheets-hold = refl

-- Sizes by s: bytes of page and blocks where n - s passes a multiple of 8, where blocks begin, and the quote.
pub short_sizes : List Row
short_sizes =
    (map (λ s. page_bytes (sheet 8 2 1 1 2 0 0 s)) (0 ∷ 6 ∷ 7 ∷ 8 ∷ 230 ∷ 231 ∷ []), 64 ∷ 64 ∷ 62 ∷ 62 ∷ 8 ∷ 6 ∷ [])
    ∷ (map (λ s. data_bytes (sheet 8 2 1 1 2 0 0 s)) (0 ∷ 6 ∷ 7 ∷ 8 ∷ 230 ∷ 231 ∷ []), 61 ∷ 61 ∷ 59 ∷ 59 ∷ 5 ∷ 3 ∷ [])
    ∷ (map (block_offset (sheet 8 8 3 1 2 2 2 233)) (range 0 8), 0 ∷ 1 ∷ 2 ∷ 3 ∷ 5 ∷ 7 ∷ 9 ∷ 11 ∷ [])
    ∷ (
      map distance ((sheet 4 2 1 1 2 0 0 3) ∷ (sheet 4 2 1 1 2 0 0 6) ∷ (sheet 4 3 2 1 2 3 0 4) ∷ (sheet 4 5 3 1 2 2 2 4)
          ∷ (sheet 8 2 1 1 2 0 0 231) ∷ (sheet 8 2 1 1 2 0 0 230) ∷ []),
      5 ∷ 5 ∷ 7 ∷ 5 ∷ 5 ∷ 5 ∷ [],
    )
    ∷ (quote (sheet 4 3 2 1 2 3 0 4), 4 ∷ 8 ∷ 10 ∷ 0 ∷ 1 ∷ 3 ∷ 7 ∷ 0 ∷ 0 ∷ 0 ∷ 0 ∷ 0 ∷ [])
    ∷ (quote (sheet 8 8 3 1 2 2 2 233), 8 ∷ 16 ∷ 16 ∷ 16 ∷ 6 ∷ 6 ∷ 6 ∷ 14 ∷ 14 ∷ 14 ∷ 14 ∷ 14 ∷ [])
    ∷ []

pub short_sizes-hold : map (λ r. r.0) short_sizes ≡ map (λ r. r.1) short_sizes
unfolding short_sizes data_bytes block_offset distance quote range
short_sizes-hold = refl

-- Coefficients, bits of blocks and differences of pages, of sub-words that take three bytes and four.
pub short_places : List Row
short_places = (
  map (coefficient_of (sheet 8 2 1 1 2 0 0 231) (0xE6 ∷ 0xA6 ∷ 0x25 ∷ 0x94 ∷ 0x52 ∷ 0x4B ∷ []) 1) (range 0 24),
  0 ∷ 0 ∷ 1 ∷ 0 ∷ 1 ∷ 0 ∷ 0 ∷ 1 ∷ 0 ∷ 1 ∷ 0 ∷ 0 ∷ 1 ∷ 0 ∷ 1 ∷ 0 ∷ 1 ∷ 1 ∷ 0 ∷ 1 ∷ 0 ∷ 0 ∷ 1 ∷ 0 ∷ [],
)
    ∷ (
      map (block_bit (sheet 8 2 1 1 2 0 0 230) (0x3B ∷ 0x00 ∷ 0xE8 ∷ 0x4D ∷ 0x01 ∷ []) 1) (range 0 17),
      0 ∷ 0 ∷ 0 ∷ 1 ∷ 0 ∷ 1 ∷ 1 ∷ 1 ∷ 1 ∷ 0 ∷ 1 ∷ 1 ∷ 0 ∷ 0 ∷ 1 ∷ 0 ∷ 1 ∷ [],
    )
    ∷ (
      differences (sheet 4 2 1 1 2 0 0 3) (0x00 ∷ 0x00 ∷ 0x00 ∷ 0x00 ∷ []) (0xFF ∷ 0xFF ∷ 0xFF ∷ 0xFF ∷ [])
          ∷ differences (sheet 8 2 1 1 2 0 0 231) (replicate 6 0x00) (replicate 6 0xFF)
          ∷ differences (sheet 8 2 1 1 2 0 0 230) (replicate 8 0x00) (replicate 8 0xFF) ∷ [],
      24 ∷ 48 ∷ 50 ∷ [],
    )
    ∷ []

pub short_places-hold : map (λ r. r.0) short_places ≡ map (λ r. r.1) short_places
unfolding short_places block_offset differences range
short_places-hold = refl

-- Write: the number and what it leaves; blocks of ones are written too.
pub short_written : List Row
short_written = (
  write_refusal (sheet 4 2 1 1 2 0 0 3) 8 (0x0C ∷ 0x01 ∷ []) 4 ∷ write_leaves (sheet 4 2 1 1 2 0 0 3) 8 (0x0C ∷ 0x01
      ∷ []) (replicate 4 0xA5),
  0 ∷ 0xE8 ∷ 0x0C ∷ 0x13 ∷ 0x00 ∷ [],
)
    ∷ (
      write_refusal (sheet 4 5 3 1 2 2 2 4) 8 (0x04 ∷ 0x07 ∷ 0x07 ∷ 0x15 ∷ 0x70 ∷ []) 10 ∷ write_leaves (sheet 4 5 3 1 2 2 2 4) 8 (0x04
          ∷ 0x07 ∷ 0x07 ∷ 0x15 ∷ 0x70 ∷ []) (replicate 10 0xA5),
      0 ∷ 0x21 ∷ 0x04 ∷ 0xB6 ∷ 0x07 ∷ 0xB6 ∷ 0x07 ∷ 0x5A ∷ 0x01 ∷ 0x08 ∷ 0x07 ∷ [],
    )
    ∷ (
      write_refusal (sheet 8 2 1 1 2 0 0 231) 8 (0x82 ∷ 0x19 ∷ 0x95 ∷ []) 6 ∷ write_leaves (sheet 8 2 1 1 2 0 0 231) 8 (0x82 ∷ 0x19 ∷ 0x95
          ∷ []) (replicate 6 0xA5),
      0 ∷ 0x77 ∷ 0x80 ∷ 0x82 ∷ 0x24 ∷ 0x19 ∷ 0x95 ∷ [],
    )
    ∷ (
      write_refusal (sheet 4 2 1 1 2 0 0 1) 8 (0x3F ∷ 0xFF ∷ 0x03 ∷ []) 4 ∷ write_leaves (sheet 4 2 1 1 2 0 0 1) 8 (0x3F ∷ 0xFF ∷ 0x03
          ∷ []) (replicate 4 0xA5),
      0 ∷ 0xF6 ∷ 0x3F ∷ 0xF6 ∷ 0x3F ∷ [],
    )
    ∷ (
      write_refusal (sheet 4 3 2 1 2 3 0 4) 8 (0x01 ∷ 0x07 ∷ 0x7F ∷ []) 6 ∷ write_leaves (sheet 4 3 2 1 2 3 0 4) 8 (0x01 ∷ 0x07 ∷ 0x7F
          ∷ []) (replicate 6 0xA5),
      0 ∷ 0x9A ∷ 0x05 ∷ 0x57 ∷ 0x07 ∷ 0xFA ∷ 0x07 ∷ [],
    )
    ∷ (
      write_refusal (sheet 4 2 1 1 2 0 0 3) 8 (0x10 ∷ 0x00 ∷ []) 4 ∷ write_leaves (sheet 4 2 1 1 2 0 0 3) 8 (0x10 ∷ 0x00
          ∷ []) (replicate 4 0xA5),
      8 ∷ 0xA5 ∷ 0xA5 ∷ 0xA5 ∷ 0xA5 ∷ [],
    )
    ∷ []

pub short_written-hold : map (λ r. r.0) short_written ≡ map (λ r. r.1) short_written
unfolding short_written write_refusal page_of pow
short_written-hold = refl

-- Judge: members and words that fail; each spare bit; blank pages, their spare bits clear and set, and pages nearly so.
pub short_judged : List Row
short_judged = (
  map (judge_number (sheet 4 2 1 1 2 0 0 3)) ((0xA1 ∷ 0x0D ∷ 0x47 ∷ 0x09 ∷ []) ∷ (0xA1 ∷ 0x05 ∷ 0x47 ∷ 0x09 ∷ []) ∷ (0xA1 ∷ 0x0D ∷ 0x46
      ∷ 0x09 ∷ []) ∷ (0x0C ∷ 0x0D ∷ 0x93 ∷ 0x09 ∷ []) ∷ (0xA1 ∷ 0x0D ∷ 0x47 ∷ []) ∷ (0x00 ∷ 0x00 ∷ 0x00 ∷ 0x00 ∷ []) ∷ []),
  0 ∷ 32 ∷ 33 ∷ 64 ∷ 7 ∷ 0 ∷ [],
)
    ∷ (
      map (judge_number (sheet 4 3 2 1 2 3 0 4)) ((0x9A ∷ 0x05 ∷ 0x24 ∷ 0x05 ∷ 0x89 ∷ 0x05 ∷ []) ∷ (0x1E ∷ 0x06 ∷ 0x23 ∷ 0x01 ∷ 0xA8 ∷ 0x01
          ∷ []) ∷ (0xAF ∷ 0x05 ∷ 0xAD ∷ 0x00 ∷ 0x35 ∷ 0x00 ∷ []) ∷ []),
      0 ∷ 64 ∷ 65 ∷ [],
    )
    ∷ (
      map (judge_number (sheet 4 2 1 1 2 0 0 3)) ((0xA1 ∷ 0x1D ∷ 0x47 ∷ 0x09 ∷ []) ∷ (0xA1 ∷ 0x2D ∷ 0x47 ∷ 0x09 ∷ []) ∷ (0xA1 ∷ 0x4D ∷ 0x47
          ∷ 0x09 ∷ []) ∷ (0xA1 ∷ 0x8D ∷ 0x47 ∷ 0x09 ∷ []) ∷ (0xA1 ∷ 0x0D ∷ 0x47 ∷ 0x19 ∷ []) ∷ (0xA1 ∷ 0x0D ∷ 0x47 ∷ 0x29 ∷ []) ∷ (0xA1
          ∷ 0x0D ∷ 0x47 ∷ 0x49 ∷ []) ∷ (0xA1 ∷ 0x0D ∷ 0x47 ∷ 0x89 ∷ []) ∷ (0x09 ∷ 0x40 ∷ 0x09 ∷ 0x40 ∷ []) ∷ []),
      replicate 9 8,
    )
    ∷ (
      map (judge_number (sheet 4 2 1 1 2 0 0 6)) ((0x00 ∷ 0x00 ∷ 0x00 ∷ 0x02 ∷ []) ∷ (0x00 ∷ 0x00 ∷ 0x00 ∷ 0x04 ∷ []) ∷ (0x00 ∷ 0x00 ∷ 0x00
          ∷ 0x08 ∷ []) ∷ (0x00 ∷ 0x00 ∷ 0x00 ∷ 0x10 ∷ []) ∷ (0x00 ∷ 0x00 ∷ 0x00 ∷ 0x20 ∷ []) ∷ (0x00 ∷ 0x00 ∷ 0x00 ∷ 0x40 ∷ []) ∷ (0x00
          ∷ 0x00 ∷ 0x00 ∷ 0x80 ∷ []) ∷ []),
      replicate 7 8,
    )
    ∷ (
      map (judge_number (sheet 4 2 1 1 2 0 0 3)) ((0xFF ∷ 0x0F ∷ 0xFF ∷ 0x0F ∷ []) ∷ (0xFF ∷ 0x0F ∷ 0xFF ∷ 0x1F ∷ []) ∷ (0xFF ∷ 0x8F ∷ 0xFF
          ∷ 0x0F ∷ []) ∷ (0xFF ∷ 0xFF ∷ 0xFF ∷ 0xFF ∷ []) ∷ (0xFE ∷ 0x0F ∷ 0xFF ∷ 0x0F ∷ []) ∷ (0xFF ∷ 0x07 ∷ 0xFF ∷ 0x0F ∷ []) ∷ (0xFF
          ∷ 0x0F ∷ 0xFE ∷ 0x0F ∷ []) ∷ (0xFF ∷ 0x0F ∷ 0xFF ∷ 0x07 ∷ []) ∷ (0xFE ∷ 0xFF ∷ 0xFF ∷ 0xFF ∷ []) ∷ (0xFF ∷ 0xF7 ∷ 0xFF ∷ 0xFF
          ∷ []) ∷ (0xFF ∷ 0xFF ∷ 0xFE ∷ 0xFF ∷ []) ∷ (0xFF ∷ 0xFF ∷ 0xFF ∷ 0xF7 ∷ []) ∷ []),
      96 ∷ 96 ∷ 96 ∷ 96 ∷ 32 ∷ 32 ∷ 32 ∷ 32 ∷ 8 ∷ 8 ∷ 8 ∷ 8 ∷ [],
    )
    ∷ (
      map (judge_number (sheet 8 2 1 1 2 0 0 231)) ((replicate 6 0xFF) ∷ (0xFE ∷ 0xFF ∷ 0xFF ∷ 0xFF ∷ 0xFF ∷ 0xFF ∷ []) ∷ (0xFF ∷ 0xFF
          ∷ 0x7F ∷ 0xFF ∷ 0xFF ∷ 0xFF ∷ []) ∷ (0xFF ∷ 0xFF ∷ 0xFF ∷ 0xFE ∷ 0xFF ∷ 0xFF ∷ []) ∷ (0xFF ∷ 0xFF ∷ 0xFF ∷ 0xFF ∷ 0xFF ∷ 0x7F
          ∷ []) ∷ (0xFF ∷ 0xFF ∷ 0xFF ∷ 0xFF ∷ 0xFF ∷ []) ∷ (replicate 7 0xFF) ∷ (replicate 64 0xFF) ∷ []),
      96 ∷ 32 ∷ 32 ∷ 32 ∷ 32 ∷ 7 ∷ 7 ∷ 7 ∷ [],
    )
    ∷ (
      map (judge_number (sheet 8 2 1 1 2 0 0 230)) ((0xFF ∷ 0xFF ∷ 0xFF ∷ 0x01 ∷ 0xFF ∷ 0xFF ∷ 0xFF ∷ 0x01 ∷ []) ∷ (0xFF ∷ 0xFF ∷ 0xFF
          ∷ 0x81 ∷ 0xFF ∷ 0xFF ∷ 0xFF ∷ 0x03 ∷ []) ∷ (replicate 8 0xFF) ∷ (0xFE ∷ replicate 7 0xFF) ∷ (0xFF ∷ 0xFF ∷ 0xFF ∷ 0xFE ∷ 0xFF
          ∷ 0xFF ∷ 0xFF ∷ 0xFF ∷ []) ∷ (0xFF ∷ 0xFF ∷ 0xFF ∷ 0xFF ∷ 0xFE ∷ 0xFF ∷ 0xFF ∷ 0xFF ∷ []) ∷ (0xFF ∷ 0xFF ∷ 0xFF ∷ 0xFF ∷ 0xFF
          ∷ 0xFF ∷ 0xFF ∷ 0xFE ∷ []) ∷ []),
      96 ∷ 96 ∷ 96 ∷ 8 ∷ 8 ∷ 8 ∷ 8 ∷ [],
    )
    ∷ []

pub short_judged-hold : map (λ r. r.0) short_judged ≡ map (λ r. r.1) short_judged
unfolding short_judged judge_number pow
short_judged-hold = refl

-- Read out: the number and what it leaves.
pub short_read : List Row
short_read = (
  read_number (sheet 4 2 1 1 2 0 0 3) (0xA1 ∷ 0x0D ∷ 0x47 ∷ 0x09 ∷ []) (replicate 2 0xA5) ∷ read_leaves (sheet 4 2 1 1 2 0 0 3) (0xA1
      ∷ 0x0D ∷ 0x47 ∷ 0x09 ∷ []) (replicate 2 0xA5),
  0 ∷ 0x0D ∷ 0x94 ∷ [],
)
    ∷ (
      read_number (sheet 4 2 1 1 2 0 0 3) (0xA1 ∷ 0x0D ∷ 0x47 ∷ 0x01 ∷ []) (replicate 2 0xA5) ∷ read_leaves (sheet 4 2 1 1 2 0 0 3) (0xA1
          ∷ 0x0D ∷ 0x47 ∷ 0x01 ∷ []) (replicate 2 0xA5),
      33 ∷ 0x0D ∷ 0x14 ∷ [],
    )
    ∷ (
      read_number (sheet 4 2 1 1 2 0 0 3) (0xA1 ∷ 0x0D ∷ 0x47 ∷ 0x19 ∷ []) (replicate 2 0xA5) ∷ read_leaves (sheet 4 2 1 1 2 0 0 3) (0xA1
          ∷ 0x0D ∷ 0x47 ∷ 0x19 ∷ []) (replicate 2 0xA5),
      8 ∷ 0xA5 ∷ 0xA5 ∷ [],
    )
    ∷ (
      read_number (sheet 4 2 1 1 2 0 0 6) (0xFF ∷ 0x81 ∷ 0xFF ∷ 0xFF ∷ []) (replicate 2 0xA5) ∷ read_leaves (sheet 4 2 1 1 2 0 0 6) (0xFF
          ∷ 0x81 ∷ 0xFF ∷ 0xFF ∷ []) (replicate 2 0xA5),
      96 ∷ 0x01 ∷ 0x1F ∷ [],
    )
    ∷ (
      read_number (sheet 8 2 1 1 2 0 0 230) (0xFF ∷ 0xFF ∷ 0xFF ∷ 0xFF ∷ 0xFF ∷ 0xFF ∷ 0xFF ∷ 0x01 ∷ []) (replicate 5 0xA5)
          ∷ read_leaves (sheet 8 2 1 1 2 0 0 230) (0xFF ∷ 0xFF ∷ 0xFF ∷ 0xFF ∷ 0xFF ∷ 0xFF ∷ 0xFF ∷ 0x01 ∷ []) (replicate 5 0xA5),
      96 ∷ 0xFF ∷ 0x01 ∷ 0xFF ∷ 0xFF ∷ 0x01 ∷ [],
    )
    ∷ []

pub short_read-hold : map (λ r. r.0) short_read ≡ map (λ r. r.1) short_read
unfolding short_read read_number read_leaves pow
short_read-hold = refl

-- One word of a page: each spare bit; a nested word, where x^(l i) takes a coefficient past the stored ones and past n.
pub short_words : List Row
short_words = (
  map (λ x. syndromes_refusal 1 (sheet 4 2 1 1 2 0 0 6) x 0 1) ((0xD6 ∷ 0x00 ∷ 0xBD ∷ 0x00 ∷ []) ∷ (0xD6 ∷ 0x02 ∷ 0xBD ∷ 0x00 ∷ []) ∷ (0xD6
      ∷ 0x04 ∷ 0xBD ∷ 0x00 ∷ []) ∷ (0xD6 ∷ 0x08 ∷ 0xBD ∷ 0x00 ∷ []) ∷ (0xD6 ∷ 0x10 ∷ 0xBD ∷ 0x00 ∷ []) ∷ (0xD6 ∷ 0x20 ∷ 0xBD ∷ 0x00 ∷ [])
      ∷ (0xD6 ∷ 0x40 ∷ 0xBD ∷ 0x00 ∷ []) ∷ (0xD6 ∷ 0x80 ∷ 0xBD ∷ 0x00 ∷ []) ∷ []),
  0 ∷ replicate 7 8,
)
    ∷ (
      nested_refusal (sheet 8 2 1 1 2 0 0 231) (0x8C ∷ 0x10 ∷ 0x27 ∷ 0xA9 ∷ 0x60 ∷ 0x59 ∷ []) 0 3
          ∷ nested_refusal (sheet 8 2 1 1 2 0 0 231) (0x8C ∷ 0x10 ∷ 0x27 ∷ 0xA9 ∷ 0x60 ∷ 0x59 ∷ []) 0 32 ∷ [],
      10 ∷ 0 ∷ [],
    )
    ∷ (
      nested_word_bytes (sheet 4 5 3 1 2 2 2 4) (0x00 ∷ 0x00 ∷ 0x00 ∷ 0x00 ∷ 0x00 ∷ 0x00 ∷ 0x00 ∷ 0x00 ∷ 0x00 ∷ 0x04 ∷ []) 1,
      0x00 ∷ 0x40 ∷ [],
    )
    ∷ (
      nested_word_bytes (sheet 4 5 3 1 2 2 2 4) (0x00 ∷ 0x00 ∷ 0x00 ∷ 0x00 ∷ 0x00 ∷ 0x00 ∷ 0x00 ∷ 0x00 ∷ 0x00 ∷ 0x04 ∷ []) 2,
      0x08 ∷ 0x00 ∷ [],
    )
    ∷ (
      nested_word_bytes (sheet 4 5 3 1 2 2 2 4) (0xE1 ∷ 0x03 ∷ 0x5E ∷ 0x04 ∷ 0x69 ∷ 0x01 ∷ 0x54 ∷ 0x01 ∷ 0x23 ∷ 0x02 ∷ []) 2,
      0x0D ∷ 0x72 ∷ [],
    )
    ∷ (
      nested_word_bytes (sheet 8 3 2 1 2 2 0 231) (0x28 ∷ 0x5E ∷ 0x84 ∷ 0xE6 ∷ 0x27 ∷ 0x8F ∷ 0x2E ∷ 0xAE ∷ 0x80 ∷ []) 1,
      0x5C ∷ 0xA9 ∷ 0x98 ∷ 0x03 ∷ replicate 28 0x00,
    )
    ∷ (
      remainder_bytes (sheet 4 5 3 1 2 2 2 4) (0xE1 ∷ 0x03 ∷ 0x5E ∷ 0x04 ∷ 0x69 ∷ 0x01 ∷ 0x54 ∷ 0x01 ∷ 0x23 ∷ 0x02 ∷ []) 2,
      0x06 ∷ replicate 95 0x00,
    )
    ∷ (
      short_bytes (sheet 4 5 3 1 2 2 2 4) (0xE1 ∷ 0x03 ∷ 0x5E ∷ 0x04 ∷ 0x69 ∷ 0x01 ∷ 0x54 ∷ 0x01 ∷ 0x23 ∷ 0x02 ∷ []) 1,
      0x0C ∷ replicate 95 0x00,
    )
    ∷ (syndrome_list (sheet 4 5 3 1 2 2 2 4) (0xE1 ∷ 0x03 ∷ 0x5E ∷ 0x04 ∷ 0x69 ∷ 0x01 ∷ 0x54 ∷ 0x01 ∷ 0x23 ∷ 0x02 ∷ []) 3, 14 ∷ [])
    ∷ (
      nested_syndrome_list (sheet 4 5 3 1 2 2 2 4) (0xE1 ∷ 0x03 ∷ 0x5E ∷ 0x04 ∷ 0x69 ∷ 0x01 ∷ 0x54 ∷ 0x01 ∷ 0x23 ∷ 0x02 ∷ []) 2,
      12 ∷ 1 ∷ [],
    )
    ∷ []

pub short_words-hold : map (λ r. r.0) short_words ≡ map (λ r. r.1) short_words
unfolding short_words word_refusal remainder_bytes short_bytes nested_word_bytes syndrome_list nested_syndrome_list pow
short_words-hold = refl

-- Registers: fed up to n - s, and what refuses a feeding there and past it.
pub short_fed : List Row
short_fed =
    (held (feedings (sheet 4 2 1 1 2 0 0 3) (empty 1) (cut 0x633 (5 ∷ 7 ∷ []))), 1 ∷ 12 ∷ 166 ∷ replicate 11 0)
    ∷ (
      feed_refusal (sheet 4 2 1 1 2 0 0 3) 1 (record { level = 0; count = 11; remainder = replicate 12 0 }) 1
          ∷ feed_refusal (sheet 4 2 1 1 2 0 0 3) 1 (record { level = 0; count = 12; remainder = replicate 12 0 }) 1
          ∷ feed_refusal (sheet 4 2 1 1 2 0 0 3) 12 (record { level = 0; count = 0; remainder = replicate 12 0 }) 0
          ∷ feed_refusal (sheet 4 2 1 1 2 0 0 3) 13 (record { level = 0; count = 0; remainder = replicate 12 0 }) 0
          ∷ feed_refusal (sheet 4 2 1 1 2 0 0 3) 1 (record { level = 0; count = 14; remainder = replicate 12 0 }) 1 ∷ [],
      0 ∷ 11 ∷ 0 ∷ 11 ∷ 11 ∷ [],
    )
    ∷ (
      feed_refusal (sheet 8 2 1 1 2 0 0 231) 24 (record { level = 0; count = 0; remainder = replicate 12 0 }) 0
          ∷ feed_refusal (sheet 8 2 1 1 2 0 0 231) 25 (record { level = 0; count = 0; remainder = replicate 12 0 }) 0
          ∷ feed_refusal (sheet 8 2 1 1 2 0 0 231) 64 (record { level = 0; count = 191; remainder = replicate 12 0 }) 0 ∷ [],
      0 ∷ 11 ∷ 11 ∷ [],
    )
    ∷ []

pub short_fed-hold : map (λ r. r.0) short_fed ≡ map (λ r. r.1) short_fed
unfolding short_fed fed feed_refusal sum pow
short_fed-hold = refl

-- Many pages in one call, refused whole: the numbers in their order, counts, and lengths that are one off or of a page more or fewer.
pub many_refused : List Row
many_refused = (
  many_refusal (sheet 5 2 1 1 2 0 0 4294967295) 0 17 1 1 1 ∷ many_refusal (sheet 4 1 1 1 2 0 0 4294967295) 0 17 1 1 1
      ∷ many_refusal (sheet 4 2 1 2 2 0 0 4294967295) 0 17 1 1 1 ∷ many_refusal (sheet 4 4 2 1 2 3 0 4294967295) 0 17 1 1 1
      ∷ many_refusal (sheet 4 2 1 1 2 0 0 7) 0 17 1 1 1 ∷ [],
  1 ∷ 2 ∷ 3 ∷ 4 ∷ 14 ∷ [],
)
    ∷ (
      many_refusal A 0 17 1 1 1 ∷ many_refusal A 8 17 1 1 1 ∷ many_refusal A 8 2 1 1 1 ∷ many_refusal A 8 2 6 1 1
          ∷ many_refusal A 8 2 6 8 1 ∷ many_refusal A 8 2 6 8 2 ∷ [],
      5 ∷ 9 ∷ 6 ∷ 7 ∷ 10 ∷ 0 ∷ [],
    )
    ∷ (
      many_refusal A 65 2 6 8 2 ∷ many_refusal A 0 2 6 8 1 ∷ many_refusal A 8 0 3 4 1 ∷ many_refusal A 8 17 6 8 2
          ∷ many_refusal A 8 2 5 8 1 ∷ many_refusal A 8 2 6 9 1 ∷ many_refusal A 8 2 5 9 2 ∷ [],
      5 ∷ 5 ∷ 9 ∷ 9 ∷ 6 ∷ 7 ∷ 6 ∷ [],
    )
    ∷ (
      many_refusal A 8 0 0 0 0 ∷ many_refusal A 8 1 3 4 1 ∷ many_refusal A 8 2 6 8 2 ∷ many_refusal A 8 15 45 60 15
          ∷ many_refusal A 8 16 48 64 16 ∷ many_refusal A 8 17 51 68 17 ∷ many_refusal A 8 18 54 72 18 ∷ [],
      9 ∷ 0 ∷ 0 ∷ 0 ∷ 0 ∷ 9 ∷ 9 ∷ [],
    )
    ∷ (
      many_refusal A 8 256 768 1024 256 ∷ many_refusal A 8 257 771 1028 257 ∷ many_refusal A 8 65537 196611 262148 65537
          ∷ many_refusal A 8 4294967295 12884901885 17179869180 4294967295 ∷ many_refusal A 8 4294967297 12884901891 17179869188 4294967297
          ∷ many_refusal A 8 18446744073709551615 55340232221128654845 73786976294838206460 18446744073709551615
          ∷ many_refusal A 8 18446744073709551617 55340232221128654851 73786976294838206468 18446744073709551617 ∷ [],
      replicate 7 9,
    )
    ∷ (
      many_refusal A 0 3 9 12 3 ∷ many_refusal A 1 3 9 12 3 ∷ many_refusal A 64 3 9 12 3 ∷ many_refusal A 65 3 9 12 3
          ∷ many_refusal A 4294967295 3 9 12 3 ∷ [],
      5 ∷ 0 ∷ 0 ∷ 5 ∷ 5 ∷ [],
    )
    ∷ (
      many_refusal A 8 1 6 8 2 ∷ many_refusal A 8 2 3 4 1 ∷ many_refusal A 8 16 45 60 15 ∷ many_refusal A 8 16 51 68 17
          ∷ many_refusal A 8 1 0 0 0 ∷ many_refusal A 8 0 3 4 1 ∷ many_refusal A 8 17 48 64 16 ∷ many_refusal A 8 4294967295 3 4 1 ∷ [],
      6 ∷ 6 ∷ 6 ∷ 6 ∷ 6 ∷ 9 ∷ 9 ∷ 9 ∷ [],
    )
    ∷ (
      many_refusal A 8 1 0 4 1 ∷ many_refusal A 8 1 2 4 1 ∷ many_refusal A 8 1 4 4 1 ∷ many_refusal A 8 1 6 4 1 ∷ many_refusal A 8 1 3 0 1
          ∷ many_refusal A 8 1 3 3 1 ∷ many_refusal A 8 1 3 5 1 ∷ many_refusal A 8 1 3 8 1 ∷ many_refusal A 8 1 3 4 0
          ∷ many_refusal A 8 1 3 4 2 ∷ many_refusal A 8 1 18446744073709551615 4 1 ∷ many_refusal A 8 1 3 18446744073709551615 1
          ∷ many_refusal A 8 1 3 4 18446744073709551615 ∷ [],
      6 ∷ 6 ∷ 6 ∷ 6 ∷ 7 ∷ 7 ∷ 7 ∷ 7 ∷ 10 ∷ 10 ∷ 6 ∷ 7 ∷ 10 ∷ [],
    )
    ∷ (
      many_refusal A 8 3 6 12 3 ∷ many_refusal A 8 3 8 12 3 ∷ many_refusal A 8 3 10 12 3 ∷ many_refusal A 8 3 12 12 3
          ∷ many_refusal A 8 3 9 8 3 ∷ many_refusal A 8 3 9 11 3 ∷ many_refusal A 8 3 9 13 3 ∷ many_refusal A 8 3 9 16 3
          ∷ many_refusal A 8 3 9 12 2 ∷ many_refusal A 8 3 9 12 4 ∷ many_refusal A 8 3 18446744073709551615 12 3
          ∷ many_refusal A 8 3 9 18446744073709551615 3 ∷ many_refusal A 8 3 9 12 18446744073709551615 ∷ [],
      6 ∷ 6 ∷ 6 ∷ 6 ∷ 7 ∷ 7 ∷ 7 ∷ 7 ∷ 10 ∷ 10 ∷ 6 ∷ 7 ∷ 10 ∷ [],
    )
    ∷ (
      many_refusal A 8 16 45 64 16 ∷ many_refusal A 8 16 47 64 16 ∷ many_refusal A 8 16 49 64 16 ∷ many_refusal A 8 16 51 64 16
          ∷ many_refusal A 8 16 48 60 16 ∷ many_refusal A 8 16 48 63 16 ∷ many_refusal A 8 16 48 65 16 ∷ many_refusal A 8 16 48 68 16
          ∷ many_refusal A 8 16 48 64 15 ∷ many_refusal A 8 16 48 64 17 ∷ many_refusal A 8 16 18446744073709551615 64 16
          ∷ many_refusal A 8 16 48 18446744073709551615 16 ∷ many_refusal A 8 16 48 64 18446744073709551615 ∷ [],
      6 ∷ 6 ∷ 6 ∷ 6 ∷ 7 ∷ 7 ∷ 7 ∷ 7 ∷ 10 ∷ 10 ∷ 6 ∷ 7 ∷ 10 ∷ [],
    )
    ∷ (
      many_refusal (sheet 4 3 2 1 2 3 0 4) 8 2 3 12 2 ∷ many_refusal (sheet 4 3 2 1 2 3 0 4) 8 2 5 12 2
          ∷ many_refusal (sheet 4 3 2 1 2 3 0 4) 8 2 7 12 2 ∷ many_refusal (sheet 4 3 2 1 2 3 0 4) 8 2 9 12 2
          ∷ many_refusal (sheet 4 3 2 1 2 3 0 4) 8 2 6 6 2 ∷ many_refusal (sheet 4 3 2 1 2 3 0 4) 8 2 6 11 2
          ∷ many_refusal (sheet 4 3 2 1 2 3 0 4) 8 2 6 13 2 ∷ many_refusal (sheet 4 3 2 1 2 3 0 4) 8 2 6 18 2
          ∷ many_refusal (sheet 4 3 2 1 2 3 0 4) 8 2 6 12 1 ∷ many_refusal (sheet 4 3 2 1 2 3 0 4) 8 2 6 12 3
          ∷ many_refusal (sheet 4 3 2 1 2 3 0 4) 8 2 18446744073709551615 12 2
          ∷ many_refusal (sheet 4 3 2 1 2 3 0 4) 8 2 6 18446744073709551615 2
          ∷ many_refusal (sheet 4 3 2 1 2 3 0 4) 8 2 6 12 18446744073709551615 ∷ [],
      6 ∷ 6 ∷ 6 ∷ 6 ∷ 7 ∷ 7 ∷ 7 ∷ 7 ∷ 10 ∷ 10 ∷ 6 ∷ 7 ∷ 10 ∷ [],
    )
    ∷ (
      many_refusal (sheet 8 8 3 1 2 2 2 0) 8 16 3920 4096 16 ∷ many_refusal (sheet 8 8 3 1 2 2 2 0) 8 16 3675 3840 15
          ∷ many_refusal (sheet 8 2 1 1 2 0 0 231) 8 16 48 96 16 ∷ many_refusal (sheet 8 2 1 1 2 0 0 231) 8 16 45 90 15 ∷ [],
      0 ∷ 6 ∷ 0 ∷ 6 ∷ [],
    )
    ∷ []

pub many_refused-hold : map (λ r. r.0) many_refused ≡ map (λ r. r.1) many_refused
unfolding many_refused many_refusal
many_refused-hold = refl

-- Many pages in one call: the list, then the pages. Stray blocks (8) and blocks of ones (13; written where s is above 0), in every place, and alone.
pub many_listed : List Row
many_listed =
    (many A 8 1 (0x02 ∷ 0xBE ∷ 0x02 ∷ []) (0x91 ∷ 0xAC ∷ 0x2D ∷ 0x66 ∷ []), 0 ∷ 0x55 ∷ 0x02 ∷ 0xED ∷ 0x2B ∷ [])
    ∷ (many A 8 1 (0x57 ∷ 0x11 ∷ 0x83 ∷ []) (0x78 ∷ 0x7A ∷ 0xC9 ∷ 0x54 ∷ []), 8 ∷ 0x78 ∷ 0x7A ∷ 0xC9 ∷ 0x54 ∷ [])
    ∷ (many A 8 1 (0x7F ∷ 0xFF ∷ 0x07 ∷ []) (0xA1 ∷ 0x08 ∷ 0x80 ∷ 0x36 ∷ []), 13 ∷ 0xA1 ∷ 0x08 ∷ 0x80 ∷ 0x36 ∷ [])
    ∷ (
      many A 1 3 (0x2C ∷ 0x26 ∷ 0x02 ∷ 0xFB ∷ 0x05 ∷ 0x06 ∷ 0x7F ∷ 0xFF ∷ 0x07 ∷ []) (0x4C ∷ 0x90 ∷ 0x54 ∷ 0xF0 ∷ 0x39 ∷ 0x00 ∷ 0x91 ∷ 0x83
          ∷ 0x6B ∷ 0x82 ∷ 0x6E ∷ 0xEA ∷ []),
      0 ∷ 8 ∷ 13 ∷ 0xE5 ∷ 0x2C ∷ 0x6D ∷ 0x22 ∷ 0x39 ∷ 0x00 ∷ 0x91 ∷ 0x83 ∷ 0x6B ∷ 0x82 ∷ 0x6E ∷ 0xEA ∷ [],
    )
    ∷ (
      many A 64 4 (0x7F ∷ 0xFF ∷ 0x07 ∷ 0x2E ∷ 0x1B ∷ 0x06 ∷ 0x3E ∷ 0x39 ∷ 0x87 ∷ 0x3A ∷ 0xFE ∷ 0x07 ∷ []) (0x6B ∷ 0xEF ∷ 0x4D ∷ 0x75
          ∷ 0xFD ∷ 0x39 ∷ 0xB3 ∷ 0xAC ∷ 0x57 ∷ 0x1A ∷ 0xF5 ∷ 0xF3 ∷ 0x85 ∷ 0x35 ∷ 0xC1 ∷ 0x72 ∷ []),
      13 ∷ 0 ∷ 8 ∷ 0 ∷ 0x6B ∷ 0xEF ∷ 0x4D ∷ 0x75 ∷ 0x0E ∷ 0x2E ∷ 0xBF ∷ 0x61 ∷ 0x57 ∷ 0x1A ∷ 0xF5 ∷ 0xF3 ∷ 0x33 ∷ 0x3A ∷ 0xEC ∷ 0x7F ∷ [],
    )
    ∷ (
      many A 8 3 (0xE7 ∷ 0x18 ∷ 0x04 ∷ 0x7F ∷ 0xFF ∷ 0x07 ∷ 0x78 ∷ 0xB5 ∷ 0x01 ∷ []) (0x00 ∷ 0x09 ∷ 0xC4 ∷ 0x80 ∷ 0x80 ∷ 0x9F ∷ 0x38 ∷ 0xF2
          ∷ 0xA1 ∷ 0x4E ∷ 0x24 ∷ 0x62 ∷ []),
      8 ∷ 13 ∷ 0 ∷ 0x00 ∷ 0x09 ∷ 0xC4 ∷ 0x80 ∷ 0x80 ∷ 0x9F ∷ 0x38 ∷ 0xF2 ∷ 0x6F ∷ 0x78 ∷ 0x51 ∷ 0x1B ∷ [],
    )
    ∷ (
      many A 7 3 (0x40 ∷ 0xA9 ∷ 0x80 ∷ 0x7F ∷ 0xFF ∷ 0x07 ∷ 0xFF ∷ 0xFF ∷ 0x07 ∷ []) (0xAC ∷ 0xF1 ∷ 0x95 ∷ 0xB5 ∷ 0x62 ∷ 0x68 ∷ 0x2E ∷ 0x5E
          ∷ 0x2E ∷ 0x8D ∷ 0x96 ∷ 0x6F ∷ []),
      8 ∷ 13 ∷ 8 ∷ 0xAC ∷ 0xF1 ∷ 0x95 ∷ 0xB5 ∷ 0x62 ∷ 0x68 ∷ 0x2E ∷ 0x5E ∷ 0x2E ∷ 0x8D ∷ 0x96 ∷ 0x6F ∷ [],
    )
    ∷ (
      many A 8 3 (0x61 ∷ 0x6D ∷ 0x07 ∷ 0x61 ∷ 0x6D ∷ 0x07 ∷ 0x3F ∷ 0xFF ∷ 0x07 ∷ []) (0x05 ∷ 0xCA ∷ 0x07 ∷ 0x3A ∷ 0x79 ∷ 0x02 ∷ 0x2B ∷ 0x25
          ∷ 0xC4 ∷ 0x78 ∷ 0x13 ∷ 0x8B ∷ []),
      0 ∷ 0 ∷ 0 ∷ 0xAC ∷ 0x61 ∷ 0xD2 ∷ 0x76 ∷ 0xAC ∷ 0x61 ∷ 0xD2 ∷ 0x76 ∷ 0x17 ∷ 0x3F ∷ 0xFF ∷ 0x7F ∷ [],
    )
    ∷ (
      many A 8 16 (0x1B ∷ 0x9A ∷ 0x00 ∷ 0x57 ∷ 0x4A ∷ 0x02 ∷ 0x7F ∷ 0xFF ∷ 0x07 ∷ 0xE3 ∷ 0xDD ∷ 0x00 ∷ 0x1B ∷ 0x9A ∷ 0x00 ∷ 0x57 ∷ 0x4A
          ∷ 0x02 ∷ 0x7F ∷ 0xFF ∷ 0x07 ∷ 0xE3 ∷ 0xDD ∷ 0x00 ∷ 0x1B ∷ 0x9A ∷ 0x00 ∷ 0x57 ∷ 0x4A ∷ 0x02 ∷ 0x7F ∷ 0xFF ∷ 0x07 ∷ 0xE3 ∷ 0xDD
          ∷ 0x00 ∷ 0x1B ∷ 0x9A ∷ 0x00 ∷ 0x57 ∷ 0x4A ∷ 0x02 ∷ 0x7F ∷ 0xFF ∷ 0x07 ∷ 0xE3 ∷ 0xDD ∷ 0x00 ∷ []) (0x40 ∷ 0x77 ∷ 0x4D ∷ 0x93
          ∷ 0xB5 ∷ 0xF3 ∷ 0x34 ∷ 0xE2 ∷ 0xC0 ∷ 0x19 ∷ 0x88 ∷ 0x21 ∷ 0x75 ∷ 0x18 ∷ 0x98 ∷ 0xDD ∷ 0x70 ∷ 0x5A ∷ 0x0C ∷ 0x93 ∷ 0x33 ∷ 0x78
          ∷ 0xB2 ∷ 0xBF ∷ 0x50 ∷ 0x8F ∷ 0x85 ∷ 0x06 ∷ 0x85 ∷ 0x30 ∷ 0x10 ∷ 0xD3 ∷ 0x42 ∷ 0xAD ∷ 0xAE ∷ 0x86 ∷ 0x2A ∷ 0x00 ∷ 0x68 ∷ 0x39
          ∷ 0xDD ∷ 0xCF ∷ 0x1E ∷ 0x1A ∷ 0xD3 ∷ 0x6F ∷ 0x8C ∷ 0xEA ∷ 0xD1 ∷ 0x6F ∷ 0xB4 ∷ 0x3C ∷ 0x02 ∷ 0x29 ∷ 0x2B ∷ 0x7E ∷ 0xC2 ∷ 0x0E
          ∷ 0x44 ∷ 0x7E ∷ 0x51 ∷ 0x7B ∷ 0xD7 ∷ 0x1A ∷ []),
      0 ∷ 0 ∷ 13 ∷ 8 ∷ 0 ∷ 0 ∷ 13 ∷ 8 ∷ 0 ∷ 0 ∷ 13 ∷ 8 ∷ 0 ∷ 0 ∷ 13 ∷ 8 ∷ 0xEF ∷ 0x1B ∷ 0xA6 ∷ 0x09 ∷ 0xA3 ∷ 0x57 ∷ 0xA7 ∷ 0x24 ∷ 0xC0
          ∷ 0x19 ∷ 0x88 ∷ 0x21 ∷ 0x75 ∷ 0x18 ∷ 0x98 ∷ 0xDD ∷ 0xEF ∷ 0x1B ∷ 0xA6 ∷ 0x09 ∷ 0xA3 ∷ 0x57 ∷ 0xA7 ∷ 0x24 ∷ 0x50 ∷ 0x8F ∷ 0x85
          ∷ 0x06 ∷ 0x85 ∷ 0x30 ∷ 0x10 ∷ 0xD3 ∷ 0xEF ∷ 0x1B ∷ 0xA6 ∷ 0x09 ∷ 0xA3 ∷ 0x57 ∷ 0xA7 ∷ 0x24 ∷ 0xDD ∷ 0xCF ∷ 0x1E ∷ 0x1A ∷ 0xD3
          ∷ 0x6F ∷ 0x8C ∷ 0xEA ∷ 0xEF ∷ 0x1B ∷ 0xA6 ∷ 0x09 ∷ 0xA3 ∷ 0x57 ∷ 0xA7 ∷ 0x24 ∷ 0xC2 ∷ 0x0E ∷ 0x44 ∷ 0x7E ∷ 0x51 ∷ 0x7B ∷ 0xD7
          ∷ 0x1A ∷ [],
    )
    ∷ (
      many B 8 4 (0x1F ∷ 0x7F ∷ 0xFF ∷ 0x07 ∷ 0x09 ∷ 0x1E ∷ 0xFC ∷ 0x83 ∷ 0x1C ∷ 0x79 ∷ 0x8A ∷ 0x04 ∷ 0x1C ∷ 0xCC ∷ 0x96 ∷ 0x01 ∷ []) (0x82
          ∷ 0x20 ∷ 0xC6 ∷ 0x81 ∷ 0x6D ∷ 0x05 ∷ 0x11 ∷ 0xCB ∷ 0xE4 ∷ 0x7D ∷ 0x7F ∷ 0x5D ∷ 0x31 ∷ 0x50 ∷ 0xBB ∷ 0xD6 ∷ 0x74 ∷ 0x75 ∷ 0xEA
          ∷ 0x66 ∷ 0x23 ∷ 0xF3 ∷ 0xDC ∷ 0xC5 ∷ []),
      13 ∷ 8 ∷ 0 ∷ 8 ∷ 0x82 ∷ 0x20 ∷ 0xC6 ∷ 0x81 ∷ 0x6D ∷ 0x05 ∷ 0x11 ∷ 0xCB ∷ 0xE4 ∷ 0x7D ∷ 0x7F ∷ 0x5D ∷ 0xBA ∷ 0x73 ∷ 0x8B ∷ 0x79 ∷ 0xAA
          ∷ 0x48 ∷ 0xEA ∷ 0x66 ∷ 0x23 ∷ 0xF3 ∷ 0xDC ∷ 0xC5 ∷ [],
    )
    ∷ (
      many (sheet 4 3 2 6 7 7 0 0) 63 3 (0x01 ∷ 0x00 ∷ 0x01 ∷ 0x01 ∷ 0x01 ∷ 0x01 ∷ 0x00 ∷ 0x00 ∷ 0x81 ∷ []) (0xF1 ∷ 0x30 ∷ 0x95 ∷ 0xBE
          ∷ 0x3D ∷ 0x35 ∷ 0x01 ∷ 0x42 ∷ 0x52 ∷ 0x63 ∷ 0xAB ∷ 0xAE ∷ 0x96 ∷ 0x67 ∷ 0x48 ∷ 0x58 ∷ 0x3F ∷ 0xB6 ∷ []),
      0 ∷ 13 ∷ 8 ∷ 0xFF ∷ 0x7F ∷ 0x00 ∷ 0x00 ∷ 0xFF ∷ 0x7F ∷ 0x01 ∷ 0x42 ∷ 0x52 ∷ 0x63 ∷ 0xAB ∷ 0xAE ∷ 0x96 ∷ 0x67 ∷ 0x48 ∷ 0x58 ∷ 0x3F
          ∷ 0xB6 ∷ [],
    )
    ∷ (
      many (sheet 4 2 1 1 2 0 0 3) 8 3 (0x0F ∷ 0xFF ∷ 0x8B ∷ 0x83 ∷ 0x04 ∷ 0x5B ∷ []) (0xB8 ∷ 0xB4 ∷ 0x2F ∷ 0x9C ∷ 0x60 ∷ 0x1E ∷ 0xC4
          ∷ 0x55 ∷ 0x84 ∷ 0xB4 ∷ 0x8E ∷ 0x69 ∷ []),
      0 ∷ 8 ∷ 0 ∷ 0xF4 ∷ 0x0F ∷ 0xF4 ∷ 0x0F ∷ 0x60 ∷ 0x1E ∷ 0xC4 ∷ 0x55 ∷ 0x6D ∷ 0x04 ∷ 0xBC ∷ 0x05 ∷ [],
    )
    ∷ (
      many (sheet 4 2 1 1 2 0 0 6) 8 2 (0x01 ∷ 0x88 ∷ 0x80 ∷ 0x1E ∷ []) (0x24 ∷ 0xBF ∷ 0x5B ∷ 0x49 ∷ 0xD3 ∷ 0x66 ∷ 0x61 ∷ 0x0F ∷ []),
      8 ∷ 8 ∷ 0x24 ∷ 0xBF ∷ 0x5B ∷ 0x49 ∷ 0xD3 ∷ 0x66 ∷ 0x61 ∷ 0x0F ∷ [],
    )
    ∷ (
      many (sheet 4 3 2 1 2 3 0 4) 33 3 (0x00 ∷ 0x00 ∷ 0x7B ∷ 0x01 ∷ 0x07 ∷ 0x7F ∷ 0x00 ∷ 0x86 ∷ 0x7E ∷ []) (0x98 ∷ 0x32 ∷ 0xE7 ∷ 0x54
          ∷ 0xD6 ∷ 0x4E ∷ 0xD0 ∷ 0x93 ∷ 0x42 ∷ 0xC2 ∷ 0x86 ∷ 0x73 ∷ 0xEC ∷ 0x2B ∷ 0x73 ∷ 0xF7 ∷ 0x59 ∷ 0x3D ∷ []),
      0 ∷ 0 ∷ 8 ∷ 0x46 ∷ 0x02 ∷ 0xC7 ∷ 0x00 ∷ 0xB6 ∷ 0x07 ∷ 0x9A ∷ 0x05 ∷ 0x57 ∷ 0x07 ∷ 0xFA ∷ 0x07 ∷ 0xEC ∷ 0x2B ∷ 0x73 ∷ 0xF7 ∷ 0x59
          ∷ 0x3D ∷ [],
    )
    ∷ []

pub many_listed-hold : map (λ r. r.0) many_listed ≡ map (λ r. r.1) many_listed
unfolding many_listed statuses pages_by pow
many_listed-hold = refl

-- One bit altered, refused: the numbers in their order; lengths, spare bits, and bits that are none.
pub alter_refused : List Row
alter_refused = (
  alter_refusal (sheet 5 2 1 1 2 0 0 4294967295) (0xFF ∷ []) 9 99 9 ∷ alter_refusal (sheet 4 1 1 1 2 0 0 4294967295) (0xFF ∷ []) 9 99 9
      ∷ alter_refusal (sheet 4 2 1 2 2 0 0 4294967295) (0xFF ∷ []) 9 99 9 ∷ alter_refusal (sheet 4 4 2 1 2 3 0 4294967295) (0xFF
      ∷ []) 9 99 9 ∷ alter_refusal (sheet 4 2 1 1 2 0 0 7) (0xFF ∷ []) 9 99 9 ∷ [],
  1 ∷ 2 ∷ 3 ∷ 4 ∷ 14 ∷ [],
)
    ∷ (
      alter_refusal A (0xFF ∷ 0xFF ∷ 0xFF ∷ 0xFF ∷ 0xFF ∷ []) 2 7 2 ∷ alter_refusal A (0xFF ∷ 0xFF ∷ 0xFF ∷ 0xFF ∷ []) 2 7 2
          ∷ alter_refusal A (0xFF ∷ 0x7F ∷ 0xFF ∷ 0x7F ∷ []) 2 7 2 ∷ alter_refusal A (0xFF ∷ 0x7F ∷ 0xFF ∷ 0x7F ∷ []) 0 6 1
          ∷ alter_refusal A (0xFF ∷ 0x7F ∷ 0xFF ∷ 0x7F ∷ []) 0 6 0 ∷ [],
      7 ∷ 8 ∷ 9 ∷ 13 ∷ 0 ∷ [],
    )
    ∷ (
      alter_refusal A (0x6E ∷ 0x46 ∷ 0x7D ∷ []) 0 0 0 ∷ alter_refusal A (0xFF ∷ 0xFF ∷ 0xFF ∷ []) 0 0 1 ∷ alter_refusal A [] 0 0 0
          ∷ alter_refusal A (replicate 64 0x00) 0 0 0 ∷ alter_refusal A (0x6E ∷ 0x46 ∷ 0x7D ∷ []) 0 0 2 ∷ alter_refusal A (0xFF ∷ 0xFF
          ∷ 0xFF ∷ 0xFF ∷ []) 0 7 1 ∷ alter_refusal A (0xFF ∷ 0xFF ∷ 0xFF ∷ 0xFF ∷ []) 0 0 1 ∷ alter_refusal A (0xFF ∷ 0xFF ∷ 0xFF ∷ 0xFF
          ∷ []) 0 0 0 ∷ [],
      7 ∷ 7 ∷ 7 ∷ 7 ∷ 7 ∷ 8 ∷ 8 ∷ 8 ∷ [],
    )
    ∷ (map (λ x. alter_refusal A x 0 0 1) ((0x6E ∷ 0xC6 ∷ 0x7D ∷ 0x0A ∷ []) ∷ (0x6E ∷ 0x46 ∷ 0x7D ∷ 0x8A ∷ []) ∷ []), 8 ∷ 8 ∷ [])
    ∷ (map (λ x. alter_refusal A x 0 0 1) ((0xFF ∷ 0xFF ∷ 0xFF ∷ 0x7F ∷ []) ∷ (0xFF ∷ 0x7F ∷ 0xFF ∷ 0xFF ∷ []) ∷ []), 8 ∷ 8 ∷ [])
    ∷ (
      map (λ x. alter_refusal (sheet 4 3 2 1 2 3 0 4) x 0 0 0) ((0x76 ∷ 0x0B ∷ 0x2B ∷ 0x06 ∷ 0x5D ∷ 0x05 ∷ []) ∷ (0x76 ∷ 0x13 ∷ 0x2B ∷ 0x06
          ∷ 0x5D ∷ 0x05 ∷ []) ∷ (0x76 ∷ 0x23 ∷ 0x2B ∷ 0x06 ∷ 0x5D ∷ 0x05 ∷ []) ∷ (0x76 ∷ 0x43 ∷ 0x2B ∷ 0x06 ∷ 0x5D ∷ 0x05 ∷ []) ∷ (0x76
          ∷ 0x83 ∷ 0x2B ∷ 0x06 ∷ 0x5D ∷ 0x05 ∷ []) ∷ (0x76 ∷ 0x03 ∷ 0x2B ∷ 0x0E ∷ 0x5D ∷ 0x05 ∷ []) ∷ (0x76 ∷ 0x03 ∷ 0x2B ∷ 0x16 ∷ 0x5D
          ∷ 0x05 ∷ []) ∷ (0x76 ∷ 0x03 ∷ 0x2B ∷ 0x26 ∷ 0x5D ∷ 0x05 ∷ []) ∷ (0x76 ∷ 0x03 ∷ 0x2B ∷ 0x46 ∷ 0x5D ∷ 0x05 ∷ []) ∷ (0x76 ∷ 0x03
          ∷ 0x2B ∷ 0x86 ∷ 0x5D ∷ 0x05 ∷ []) ∷ (0x76 ∷ 0x03 ∷ 0x2B ∷ 0x06 ∷ 0x5D ∷ 0x0D ∷ []) ∷ (0x76 ∷ 0x03 ∷ 0x2B ∷ 0x06 ∷ 0x5D ∷ 0x15
          ∷ []) ∷ (0x76 ∷ 0x03 ∷ 0x2B ∷ 0x06 ∷ 0x5D ∷ 0x25 ∷ []) ∷ (0x76 ∷ 0x03 ∷ 0x2B ∷ 0x06 ∷ 0x5D ∷ 0x45 ∷ []) ∷ (0x76 ∷ 0x03 ∷ 0x2B
          ∷ 0x06 ∷ 0x5D ∷ 0x85 ∷ []) ∷ []),
      replicate 15 8,
    )
    ∷ (
      map (λ x. alter_refusal (sheet 4 2 1 1 2 0 0 6) x 0 0 1) ((0xFF ∷ 0x03 ∷ 0xFF ∷ 0x01 ∷ []) ∷ (0xFF ∷ 0x05 ∷ 0xFF ∷ 0x01 ∷ []) ∷ (0xFF
          ∷ 0x09 ∷ 0xFF ∷ 0x01 ∷ []) ∷ (0xFF ∷ 0x11 ∷ 0xFF ∷ 0x01 ∷ []) ∷ (0xFF ∷ 0x21 ∷ 0xFF ∷ 0x01 ∷ []) ∷ (0xFF ∷ 0x41 ∷ 0xFF ∷ 0x01
          ∷ []) ∷ (0xFF ∷ 0x81 ∷ 0xFF ∷ 0x01 ∷ []) ∷ (0xFF ∷ 0x01 ∷ 0xFF ∷ 0x03 ∷ []) ∷ (0xFF ∷ 0x01 ∷ 0xFF ∷ 0x05 ∷ []) ∷ (0xFF ∷ 0x01
          ∷ 0xFF ∷ 0x09 ∷ []) ∷ (0xFF ∷ 0x01 ∷ 0xFF ∷ 0x11 ∷ []) ∷ (0xFF ∷ 0x01 ∷ 0xFF ∷ 0x21 ∷ []) ∷ (0xFF ∷ 0x01 ∷ 0xFF ∷ 0x41 ∷ [])
          ∷ (0xFF ∷ 0x01 ∷ 0xFF ∷ 0x81 ∷ []) ∷ []),
      replicate 14 8,
    )
    ∷ (map (λ i. alter_refusal A (0xE9 ∷ 0x40 ∷ 0xD9 ∷ 0x78 ∷ []) i 0 1) (0 ∷ 1 ∷ 2 ∷ 3 ∷ 4294967295 ∷ []), 0 ∷ 0 ∷ 9 ∷ 9 ∷ 9 ∷ [])
    ∷ (
      map (λ r. alter_refusal A (0xE9 ∷ 0x40 ∷ 0xD9 ∷ 0x78 ∷ []) 0 r 0) (0 ∷ 6 ∷ 7 ∷ 8 ∷ 256 ∷ 4294967295 ∷ []),
      0 ∷ 0 ∷ 9 ∷ 9 ∷ 9 ∷ 9 ∷ [],
    )
    ∷ (
      map (λ r. alter_refusal A (0xE9 ∷ 0x40 ∷ 0xD9 ∷ 0x78 ∷ []) 1 r 0) (0 ∷ 10 ∷ 11 ∷ 12 ∷ 256 ∷ 4294967295 ∷ []),
      0 ∷ 0 ∷ 9 ∷ 9 ∷ 9 ∷ 9 ∷ [],
    )
    ∷ (map (alter_refusal A (0xE9 ∷ 0x40 ∷ 0xD9 ∷ 0x78 ∷ []) 0 0) (0 ∷ 1 ∷ 2 ∷ 3 ∷ 4294967295 ∷ []), 0 ∷ 0 ∷ 9 ∷ 9 ∷ 9 ∷ [])
    ∷ (
      map (λ i. alter_refusal B (0x3D ∷ 0x6E ∷ 0x13 ∷ 0x1F ∷ 0x51 ∷ 0x64 ∷ []) i 0 1) (0 ∷ 2 ∷ 3 ∷ 4 ∷ 4294967295 ∷ []),
      0 ∷ 0 ∷ 9 ∷ 9 ∷ 9 ∷ [],
    )
    ∷ (
      map (λ r. alter_refusal B (0x3D ∷ 0x6E ∷ 0x13 ∷ 0x1F ∷ 0x51 ∷ 0x64 ∷ []) 0 r 0) (0 ∷ 4 ∷ 5 ∷ 6 ∷ 256 ∷ 4294967295 ∷ []),
      0 ∷ 0 ∷ 9 ∷ 9 ∷ 9 ∷ 9 ∷ [],
    )
    ∷ (
      map (λ r. alter_refusal B (0x3D ∷ 0x6E ∷ 0x13 ∷ 0x1F ∷ 0x51 ∷ 0x64 ∷ []) 1 r 0) (0 ∷ 6 ∷ 7 ∷ 8 ∷ 256 ∷ 4294967295 ∷ []),
      0 ∷ 0 ∷ 9 ∷ 9 ∷ 9 ∷ 9 ∷ [],
    )
    ∷ (
      map (λ r. alter_refusal B (0x3D ∷ 0x6E ∷ 0x13 ∷ 0x1F ∷ 0x51 ∷ 0x64 ∷ []) 2 r 0) (0 ∷ 10 ∷ 11 ∷ 12 ∷ 256 ∷ 4294967295 ∷ []),
      0 ∷ 0 ∷ 9 ∷ 9 ∷ 9 ∷ 9 ∷ [],
    )
    ∷ (map (alter_refusal B (0x3D ∷ 0x6E ∷ 0x13 ∷ 0x1F ∷ 0x51 ∷ 0x64 ∷ []) 0 0) (0 ∷ 1 ∷ 2 ∷ 3 ∷ 4294967295 ∷ []), 0 ∷ 0 ∷ 9 ∷ 9 ∷ 9 ∷ [])
    ∷ (
      map (λ i. alter_refusal (sheet 4 2 1 1 2 0 0 6) (0x64 ∷ 0x00 ∷ 0x90 ∷ 0x00 ∷ []) i 0 1) (0 ∷ 1 ∷ 2 ∷ 3 ∷ 4294967295 ∷ []),
      0 ∷ 0 ∷ 9 ∷ 9 ∷ 9 ∷ [],
    )
    ∷ (
      map (λ r. alter_refusal (sheet 4 2 1 1 2 0 0 6) (0x64 ∷ 0x00 ∷ 0x90 ∷ 0x00 ∷ []) 0 r 0) (0 ∷ 1 ∷ 2 ∷ 256 ∷ 4294967295 ∷ []),
      0 ∷ 9 ∷ 9 ∷ 9 ∷ 9 ∷ [],
    )
    ∷ (
      map (λ r. alter_refusal (sheet 4 2 1 1 2 0 0 6) (0x64 ∷ 0x00 ∷ 0x90 ∷ 0x00 ∷ []) 1 r 0) (0 ∷ 4 ∷ 5 ∷ 6 ∷ 256 ∷ 4294967295 ∷ []),
      0 ∷ 0 ∷ 9 ∷ 9 ∷ 9 ∷ 9 ∷ [],
    )
    ∷ (
      map (alter_refusal (sheet 4 2 1 1 2 0 0 6) (0x64 ∷ 0x00 ∷ 0x90 ∷ 0x00 ∷ []) 0 0) (0 ∷ 1 ∷ 2 ∷ 3 ∷ 4294967295 ∷ []),
      0 ∷ 0 ∷ 9 ∷ 9 ∷ 9 ∷ [],
    )
    ∷ (
      map (λ i. alter_refusal (sheet 8 2 1 1 2 0 0 231) (0x2D ∷ 0x73 ∷ 0x55 ∷ 0x49 ∷ 0x85 ∷ 0x71 ∷ []) i 0 1) (0 ∷ 1 ∷ 2 ∷ 3 ∷ 4294967295
          ∷ []),
      0 ∷ 0 ∷ 9 ∷ 9 ∷ 9 ∷ [],
    )
    ∷ (
      map (λ r. alter_refusal (sheet 8 2 1 1 2 0 0 231) (0x2D ∷ 0x73 ∷ 0x55 ∷ 0x49 ∷ 0x85 ∷ 0x71 ∷ []) 0 r 0) (0 ∷ 7 ∷ 8 ∷ 9 ∷ 256
          ∷ 4294967295 ∷ []),
      0 ∷ 0 ∷ 9 ∷ 9 ∷ 9 ∷ 9 ∷ [],
    )
    ∷ (
      map (λ r. alter_refusal (sheet 8 2 1 1 2 0 0 231) (0x2D ∷ 0x73 ∷ 0x55 ∷ 0x49 ∷ 0x85 ∷ 0x71 ∷ []) 1 r 0) (0 ∷ 15 ∷ 16 ∷ 17 ∷ 256
          ∷ 4294967295 ∷ []),
      0 ∷ 0 ∷ 9 ∷ 9 ∷ 9 ∷ 9 ∷ [],
    )
    ∷ (
      map (alter_refusal (sheet 8 2 1 1 2 0 0 231) (0x2D ∷ 0x73 ∷ 0x55 ∷ 0x49 ∷ 0x85 ∷ 0x71 ∷ []) 0 0) (0 ∷ 1 ∷ 2 ∷ 3 ∷ 4294967295 ∷ []),
      0 ∷ 0 ∷ 9 ∷ 9 ∷ 9 ∷ [],
    )
    ∷ (
      map (λ i. alter_refusal A (0xFF ∷ 0x7F ∷ 0xFF ∷ 0x7F ∷ []) i 0 1) (0 ∷ 1 ∷ 2 ∷ 256 ∷ 4294967296 ∷ 18446744073709551615
          ∷ 18446744073709551616 ∷ []),
      13 ∷ 13 ∷ 9 ∷ 9 ∷ 9 ∷ 9 ∷ 9 ∷ [],
    )
    ∷ (
      map (λ r. alter_refusal A (0xFF ∷ 0x7F ∷ 0xFF ∷ 0x7F ∷ []) 0 r 1) (0 ∷ 6 ∷ 7 ∷ 8 ∷ 10 ∷ 256 ∷ 4294967296 ∷ 18446744073709551615
          ∷ 18446744073709551616 ∷ []),
      13 ∷ 13 ∷ replicate 7 9,
    )
    ∷ (
      map (λ r. alter_refusal A (0xFF ∷ 0x7F ∷ 0xFF ∷ 0x7F ∷ []) 1 r 1) (0 ∷ 6 ∷ 7 ∷ 8 ∷ 10 ∷ 11 ∷ 256 ∷ 4294967296 ∷ 18446744073709551615
          ∷ 18446744073709551616 ∷ []),
      13 ∷ 13 ∷ 13 ∷ 13 ∷ 13 ∷ 9 ∷ 9 ∷ 9 ∷ 9 ∷ 9 ∷ [],
    )
    ∷ (
      map (alter_refusal A (0xFF ∷ 0x7F ∷ 0xFF ∷ 0x7F ∷ []) 1 10) (0 ∷ 1 ∷ 2 ∷ 256 ∷ 257 ∷ 4294967296 ∷ 18446744073709551615
          ∷ 18446744073709551617 ∷ []),
      0 ∷ 13 ∷ replicate 6 9,
    )
    ∷ []

pub alter_refused-hold : map (λ r. r.0) alter_refused ≡ map (λ r. r.1) alter_refused
unfolding alter_refused alter_refusal pow
alter_refused-hold = refl

-- A blank page, at an equal value and at another; a page that another value would make blank, and pages near it.
pub alter_blanks : List Row
alter_blanks =
    (map (alter_refusal A (0xFF ∷ 0x7F ∷ 0xFF ∷ 0x7F ∷ []) 0 0) (0 ∷ 1 ∷ []), 0 ∷ 13 ∷ [])
    ∷ (map (alter_refusal A (0xFF ∷ 0x7F ∷ 0xFF ∷ 0x7F ∷ []) 0 6) (0 ∷ 1 ∷ []), 0 ∷ 13 ∷ [])
    ∷ (map (alter_refusal A (0xFF ∷ 0x7F ∷ 0xFF ∷ 0x7F ∷ []) 1 0) (0 ∷ 1 ∷ []), 0 ∷ 13 ∷ [])
    ∷ (map (alter_refusal A (0xFF ∷ 0x7F ∷ 0xFF ∷ 0x7F ∷ []) 1 10) (0 ∷ 1 ∷ []), 0 ∷ 13 ∷ [])
    ∷ (map (alter_refusal A (0x2E ∷ 0x7E ∷ 0xFF ∷ 0x7F ∷ []) 0 0) (0 ∷ 1 ∷ 2 ∷ []), 0 ∷ 13 ∷ 9 ∷ [])
    ∷ (map (alter_refusal A (0x17 ∷ 0x3F ∷ 0xFF ∷ 0x7F ∷ []) 0 6) (0 ∷ 1 ∷ 2 ∷ []), 0 ∷ 13 ∷ 9 ∷ [])
    ∷ (map (alter_refusal A (0xEC ∷ 0x7F ∷ 0xEC ∷ 0x7F ∷ []) 1 0) (0 ∷ 1 ∷ 2 ∷ []), 0 ∷ 13 ∷ 9 ∷ [])
    ∷ (map (alter_refusal A (0x1E ∷ 0x7F ∷ 0xF6 ∷ 0x3F ∷ []) 1 10) (0 ∷ 1 ∷ 2 ∷ []), 0 ∷ 13 ∷ 9 ∷ [])
    ∷ (map (alter_refusal A (0x2F ∷ 0x7E ∷ 0xFF ∷ 0x7F ∷ []) 0 0) (1 ∷ []), 0 ∷ [])
    ∷ (map (alter_refusal (sheet 4 2 1 1 2 0 0 6) (0xFF ∷ 0x01 ∷ 0xFF ∷ 0x01 ∷ []) 0 0) (0 ∷ 1 ∷ []), 0 ∷ 13 ∷ [])
    ∷ (map (alter_refusal (sheet 4 2 1 1 2 0 0 6) (0xFF ∷ 0x01 ∷ 0xFF ∷ 0x01 ∷ []) 1 0) (0 ∷ 1 ∷ []), 0 ∷ 13 ∷ [])
    ∷ (map (alter_refusal (sheet 4 2 1 1 2 0 0 6) (0xFF ∷ 0x01 ∷ 0xFF ∷ 0x01 ∷ []) 1 4) (0 ∷ 1 ∷ []), 0 ∷ 13 ∷ [])
    ∷ (map (alter_refusal (sheet 4 2 1 1 2 0 0 6) (0x2E ∷ 0x00 ∷ 0xFF ∷ 0x01 ∷ []) 0 0) (0 ∷ 1 ∷ 2 ∷ []), 0 ∷ 13 ∷ 9 ∷ [])
    ∷ (map (alter_refusal (sheet 4 2 1 1 2 0 0 6) (0xEC ∷ 0x01 ∷ 0xEC ∷ 0x01 ∷ []) 1 0) (0 ∷ 1 ∷ 2 ∷ []), 0 ∷ 13 ∷ 9 ∷ [])
    ∷ (map (alter_refusal (sheet 4 2 1 1 2 0 0 6) (0x2B ∷ 0x01 ∷ 0xFA ∷ 0x00 ∷ []) 1 4) (0 ∷ 1 ∷ 2 ∷ []), 0 ∷ 13 ∷ 9 ∷ [])
    ∷ (map (alter_refusal (sheet 4 2 1 1 2 0 0 6) (0x2E ∷ 0x00 ∷ 0xFF ∷ 0x01 ∷ []) 1 4) (0 ∷ 1 ∷ []), 0 ∷ 0 ∷ [])
    ∷ (map (alter_refusal (sheet 4 2 1 1 2 0 0 6) (0x2B ∷ 0x01 ∷ 0xFA ∷ 0x00 ∷ []) 0 0) (0 ∷ 1 ∷ []), 0 ∷ 0 ∷ [])
    ∷ (map (alter_refusal (sheet 4 2 1 1 2 0 0 6) (0x2F ∷ 0x00 ∷ 0xFF ∷ 0x01 ∷ []) 0 0) (1 ∷ []), 0 ∷ [])
    ∷ (map (alter_refusal (sheet 4 3 2 1 2 3 0 4) (0xFF ∷ 0x07 ∷ 0xFF ∷ 0x07 ∷ 0xFF ∷ 0x07 ∷ []) 0 0) (0 ∷ 1 ∷ []), 0 ∷ 13 ∷ [])
    ∷ (map (alter_refusal (sheet 4 3 2 1 2 3 0 4) (0xFF ∷ 0x07 ∷ 0xFF ∷ 0x07 ∷ 0xFF ∷ 0x07 ∷ []) 2 6) (0 ∷ 1 ∷ []), 0 ∷ 13 ∷ [])
    ∷ (map (alter_refusal (sheet 4 3 2 1 2 3 0 4) (0xC8 ∷ 0x02 ∷ 0xFF ∷ 0x07 ∷ 0xFF ∷ 0x07 ∷ []) 0 0) (0 ∷ 1 ∷ 2 ∷ []), 0 ∷ 13 ∷ 9 ∷ [])
    ∷ (map (alter_refusal (sheet 4 3 2 1 2 3 0 4) (0x3D ∷ 0x06 ∷ 0x0D ∷ 0x07 ∷ 0xF8 ∷ 0x03 ∷ []) 2 6) (0 ∷ 1 ∷ 2 ∷ []), 0 ∷ 13 ∷ 9 ∷ [])
    ∷ (map (alter_refusal (sheet 4 3 2 1 2 3 0 4) (0xC9 ∷ 0x02 ∷ 0xFF ∷ 0x07 ∷ 0xFF ∷ 0x07 ∷ []) 0 0) (1 ∷ []), 0 ∷ [])
    ∷ []

pub alter_blanks-hold : map (λ r. r.0) alter_blanks ≡ map (λ r. r.1) alter_blanks
unfolding alter_blanks alter_refusal pow
alter_blanks-hold = refl

-- One bit of a member altered: the number, then the page. First and last bits of blocks, both values.
pub alter_members : List Row
alter_members =
    (alter A (0x15 ∷ 0x43 ∷ 0x11 ∷ 0x30 ∷ []) 0 0 0, 0 ∷ 0xC4 ∷ 0x42 ∷ 0x11 ∷ 0x30 ∷ [])
    ∷ (alter A (0x15 ∷ 0x43 ∷ 0x11 ∷ 0x30 ∷ []) 0 0 1, 0 ∷ 0x15 ∷ 0x43 ∷ 0x11 ∷ 0x30 ∷ [])
    ∷ (alter A (0x15 ∷ 0x43 ∷ 0x11 ∷ 0x30 ∷ []) 0 6 0, 0 ∷ 0xFD ∷ 0x03 ∷ 0x11 ∷ 0x30 ∷ [])
    ∷ (alter A (0x15 ∷ 0x43 ∷ 0x11 ∷ 0x30 ∷ []) 0 6 1, 0 ∷ 0x15 ∷ 0x43 ∷ 0x11 ∷ 0x30 ∷ [])
    ∷ (alter A (0x15 ∷ 0x43 ∷ 0x11 ∷ 0x30 ∷ []) 1 0 0, 0 ∷ 0x06 ∷ 0x43 ∷ 0x02 ∷ 0x30 ∷ [])
    ∷ (alter A (0x15 ∷ 0x43 ∷ 0x11 ∷ 0x30 ∷ []) 1 0 1, 0 ∷ 0x15 ∷ 0x43 ∷ 0x11 ∷ 0x30 ∷ [])
    ∷ (alter A (0x15 ∷ 0x43 ∷ 0x11 ∷ 0x30 ∷ []) 1 10 0, 0 ∷ 0x15 ∷ 0x43 ∷ 0x11 ∷ 0x30 ∷ [])
    ∷ (alter A (0x15 ∷ 0x43 ∷ 0x11 ∷ 0x30 ∷ []) 1 10 1, 0 ∷ 0xF4 ∷ 0x43 ∷ 0x18 ∷ 0x70 ∷ [])
    ∷ (alter (sheet 4 3 2 1 2 3 0 4) (0xC0 ∷ 0x04 ∷ 0x46 ∷ 0x02 ∷ 0xB1 ∷ 0x03 ∷ []) 0 0 0, 0 ∷ 0xF7 ∷ 0x01 ∷ 0x46 ∷ 0x02 ∷ 0xB1 ∷ 0x03 ∷ [])
    ∷ (alter (sheet 4 3 2 1 2 3 0 4) (0xFF ∷ 0x06 ∷ 0x1B ∷ 0x07 ∷ 0xD3 ∷ 0x04 ∷ []) 1 2 0, 0 ∷ 0x2E ∷ 0x07 ∷ 0xFD ∷ 0x03 ∷ 0xD3 ∷ 0x04 ∷ [])
    ∷ (alter (sheet 4 3 2 1 2 3 0 4) (0xC0 ∷ 0x04 ∷ 0x97 ∷ 0x03 ∷ 0x60 ∷ 0x02 ∷ []) 2 6 1, 0 ∷ 0x02 ∷ 0x05 ∷ 0x65 ∷ 0x03 ∷ 0x67 ∷ 0x06 ∷ [])
    ∷ (
      alter (sheet 4 5 3 1 2 2 2 0) (0x29 ∷ 0x69 ∷ 0x04 ∷ 0x3F ∷ 0x40 ∷ 0x74 ∷ 0xBC ∷ 0x49 ∷ 0x6A ∷ 0x13 ∷ []) 1 6 1,
      0 ∷ 0x29 ∷ 0x69 ∷ 0xEC ∷ 0x7F ∷ 0x40 ∷ 0x74 ∷ 0xBC ∷ 0x49 ∷ 0x6A ∷ 0x13 ∷ [],
    )
    ∷ (
      alter (sheet 4 5 3 1 2 2 2 0) (0xAF ∷ 0x30 ∷ 0x00 ∷ 0x26 ∷ 0x88 ∷ 0x3B ∷ 0xF5 ∷ 0x17 ∷ 0xDF ∷ 0x2F ∷ []) 4 10 1,
      0 ∷ 0x9A ∷ 0x30 ∷ 0xF2 ∷ 0x26 ∷ 0xAE ∷ 0x3B ∷ 0xF5 ∷ 0x17 ∷ 0xD6 ∷ 0x6F ∷ [],
    )
    ∷ []

pub alter_members-hold : map (λ r. r.0) alter_members ≡ map (λ r. r.1) alter_members
unfolding alter_members alter_refusal altered pow
alter_members-hold = refl

-- Of a page that is none.
pub alter_pages : List Row
alter_pages =
    (alter B (0x1F ∷ 0x56 ∷ 0xB7 ∷ 0x39 ∷ 0x14 ∷ 0x5E ∷ []) 0 0 0, 0 ∷ 0x28 ∷ 0x53 ∷ 0xB7 ∷ 0x39 ∷ 0x14 ∷ 0x5E ∷ [])
    ∷ (alter B (0x1F ∷ 0x56 ∷ 0xB7 ∷ 0x39 ∷ 0x14 ∷ 0x5E ∷ []) 0 0 1, 0 ∷ 0x1F ∷ 0x56 ∷ 0xB7 ∷ 0x39 ∷ 0x14 ∷ 0x5E ∷ [])
    ∷ (alter B (0x1F ∷ 0x56 ∷ 0xB7 ∷ 0x39 ∷ 0x14 ∷ 0x5E ∷ []) 0 4 0, 0 ∷ 0x84 ∷ 0x14 ∷ 0xB7 ∷ 0x39 ∷ 0x14 ∷ 0x5E ∷ [])
    ∷ (alter B (0x1F ∷ 0x56 ∷ 0xB7 ∷ 0x39 ∷ 0x14 ∷ 0x5E ∷ []) 0 4 1, 0 ∷ 0x1F ∷ 0x56 ∷ 0xB7 ∷ 0x39 ∷ 0x14 ∷ 0x5E ∷ [])
    ∷ (alter B (0x1F ∷ 0x56 ∷ 0xB7 ∷ 0x39 ∷ 0x14 ∷ 0x5E ∷ []) 1 0 0, 0 ∷ 0xCE ∷ 0x57 ∷ 0x66 ∷ 0x38 ∷ 0x14 ∷ 0x5E ∷ [])
    ∷ (alter B (0x1F ∷ 0x56 ∷ 0xB7 ∷ 0x39 ∷ 0x14 ∷ 0x5E ∷ []) 1 0 1, 0 ∷ 0x1F ∷ 0x56 ∷ 0xB7 ∷ 0x39 ∷ 0x14 ∷ 0x5E ∷ [])
    ∷ (alter B (0x1F ∷ 0x56 ∷ 0xB7 ∷ 0x39 ∷ 0x14 ∷ 0x5E ∷ []) 1 6 0, 0 ∷ 0x1F ∷ 0x56 ∷ 0xB7 ∷ 0x39 ∷ 0x14 ∷ 0x5E ∷ [])
    ∷ (alter B (0x1F ∷ 0x56 ∷ 0xB7 ∷ 0x39 ∷ 0x14 ∷ 0x5E ∷ []) 1 6 1, 0 ∷ 0x6C ∷ 0x54 ∷ 0x5F ∷ 0x79 ∷ 0x14 ∷ 0x5E ∷ [])
    ∷ (alter B (0x1F ∷ 0x56 ∷ 0xB7 ∷ 0x39 ∷ 0x14 ∷ 0x5E ∷ []) 2 0 0, 0 ∷ 0x39 ∷ 0x56 ∷ 0x82 ∷ 0x39 ∷ 0x07 ∷ 0x5E ∷ [])
    ∷ (alter B (0x1F ∷ 0x56 ∷ 0xB7 ∷ 0x39 ∷ 0x14 ∷ 0x5E ∷ []) 2 0 1, 0 ∷ 0x1F ∷ 0x56 ∷ 0xB7 ∷ 0x39 ∷ 0x14 ∷ 0x5E ∷ [])
    ∷ (alter B (0x1F ∷ 0x56 ∷ 0xB7 ∷ 0x39 ∷ 0x14 ∷ 0x5E ∷ []) 2 10 0, 0 ∷ 0x7F ∷ 0x54 ∷ 0x45 ∷ 0x39 ∷ 0x1D ∷ 0x1E ∷ [])
    ∷ (alter B (0x1F ∷ 0x56 ∷ 0xB7 ∷ 0x39 ∷ 0x14 ∷ 0x5E ∷ []) 2 10 1, 0 ∷ 0x1F ∷ 0x56 ∷ 0xB7 ∷ 0x39 ∷ 0x14 ∷ 0x5E ∷ [])
    ∷ (alter (sheet 4 2 1 1 2 0 0 6) (0x31 ∷ 0x01 ∷ 0xDB ∷ 0x00 ∷ []) 0 0 0, 0 ∷ 0xE0 ∷ 0x00 ∷ 0xDB ∷ 0x00 ∷ [])
    ∷ (alter (sheet 4 2 1 1 2 0 0 6) (0xFB ∷ 0x00 ∷ 0xBB ∷ 0x00 ∷ []) 1 4 1, 0 ∷ 0x2F ∷ 0x00 ∷ 0xBE ∷ 0x01 ∷ [])
    ∷ (
      alter (sheet 4 5 2 1 2 2 0 0) (0x04 ∷ 0x40 ∷ 0x72 ∷ 0x52 ∷ 0x2B ∷ 0x46 ∷ 0xC6 ∷ 0x7F ∷ 0x54 ∷ 0x45 ∷ []) 2 10 0,
      0 ∷ 0x17 ∷ 0x40 ∷ 0x80 ∷ 0x52 ∷ 0x22 ∷ 0x06 ∷ 0xC6 ∷ 0x7F ∷ 0x54 ∷ 0x45 ∷ [],
    )
    ∷ (alter (sheet 4 2 1 4 5 0 0 0) (0x1D ∷ 0x08 ∷ 0x11 ∷ 0x50 ∷ []) 1 0 0, 0 ∷ 0x1D ∷ 0x08 ∷ 0xEE ∷ 0x2F ∷ [])
    ∷ (
      alter (sheet 4 5 3 1 2 2 2 4) (0xAA ∷ 0x02 ∷ 0x1B ∷ 0x07 ∷ 0x3B ∷ 0x03 ∷ 0xFD ∷ 0x07 ∷ 0xB3 ∷ 0x07 ∷ []) 3 0 0,
      0 ∷ 0x32 ∷ 0x02 ∷ 0xE9 ∷ 0x07 ∷ 0x42 ∷ 0x03 ∷ 0xEE ∷ 0x07 ∷ 0xB3 ∷ 0x07 ∷ [],
    )
    ∷ (
      alter (sheet 8 2 1 1 2 0 0 231) (0xBD ∷ 0x25 ∷ 0x93 ∷ 0xC6 ∷ 0x1E ∷ 0x22 ∷ []) 0 7 0,
      0 ∷ 0x3F ∷ 0x96 ∷ 0x13 ∷ 0xC6 ∷ 0x1E ∷ 0x22 ∷ [],
    )
    ∷ []

pub alter_pages-hold : map (λ r. r.0) alter_pages ≡ map (λ r. r.1) alter_pages
unfolding alter_pages alter_refusal altered pow
alter_pages-hold = refl

-- Of the zero page, of a blank one and of one that would be blank; and refused, the page as it was.
pub alter_rest : List Row
alter_rest =
    (alter A (0x00 ∷ 0x00 ∷ 0x00 ∷ 0x00 ∷ []) 1 10 0, 0 ∷ 0x00 ∷ 0x00 ∷ 0x00 ∷ 0x00 ∷ [])
    ∷ (alter A (0x00 ∷ 0x00 ∷ 0x00 ∷ 0x00 ∷ []) 1 10 1, 0 ∷ 0xE1 ∷ 0x00 ∷ 0x09 ∷ 0x40 ∷ [])
    ∷ (alter A (0xFF ∷ 0x7F ∷ 0xFF ∷ 0x7F ∷ []) 1 10 0, 0 ∷ 0x1E ∷ 0x7F ∷ 0xF6 ∷ 0x3F ∷ [])
    ∷ (alter A (0xFF ∷ 0x7F ∷ 0xFF ∷ 0x7F ∷ []) 1 10 1, 13 ∷ 0xFF ∷ 0x7F ∷ 0xFF ∷ 0x7F ∷ [])
    ∷ (alter A (0x1E ∷ 0x7F ∷ 0xF6 ∷ 0x3F ∷ []) 1 10 0, 0 ∷ 0x1E ∷ 0x7F ∷ 0xF6 ∷ 0x3F ∷ [])
    ∷ (alter A (0x1E ∷ 0x7F ∷ 0xF6 ∷ 0x3F ∷ []) 1 10 1, 13 ∷ 0x1E ∷ 0x7F ∷ 0xF6 ∷ 0x3F ∷ [])
    ∷ (alter (sheet 4 3 2 6 7 7 0 0) (replicate 6 0x00) 2 0 0, 0 ∷ replicate 6 0x00)
    ∷ (alter (sheet 4 3 2 6 7 7 0 0) (replicate 6 0x00) 2 0 1, 0 ∷ 0x00 ∷ 0x00 ∷ 0x00 ∷ 0x00 ∷ 0xFF ∷ 0x7F ∷ [])
    ∷ (alter (sheet 4 3 2 6 7 7 0 0) (0xFF ∷ 0x7F ∷ 0xFF ∷ 0x7F ∷ 0xFF ∷ 0x7F ∷ []) 2 0 0, 0 ∷ 0xFF ∷ 0x7F ∷ 0xFF ∷ 0x7F ∷ 0x00 ∷ 0x00 ∷ [])
    ∷ (
      alter (sheet 4 3 2 6 7 7 0 0) (0xFF ∷ 0x7F ∷ 0xFF ∷ 0x7F ∷ 0xFF ∷ 0x7F ∷ []) 2 0 1,
      13 ∷ 0xFF ∷ 0x7F ∷ 0xFF ∷ 0x7F ∷ 0xFF ∷ 0x7F ∷ [],
    )
    ∷ (alter (sheet 4 3 2 6 7 7 0 0) (0xFF ∷ 0x7F ∷ 0xFF ∷ 0x7F ∷ 0x00 ∷ 0x00 ∷ []) 2 0 0, 0 ∷ 0xFF ∷ 0x7F ∷ 0xFF ∷ 0x7F ∷ 0x00 ∷ 0x00 ∷ [])
    ∷ (
      alter (sheet 4 3 2 6 7 7 0 0) (0xFF ∷ 0x7F ∷ 0xFF ∷ 0x7F ∷ 0x00 ∷ 0x00 ∷ []) 2 0 1,
      13 ∷ 0xFF ∷ 0x7F ∷ 0xFF ∷ 0x7F ∷ 0x00 ∷ 0x00 ∷ [],
    )
    ∷ (alter (sheet 4 3 2 1 2 3 0 4) (replicate 6 0x00) 2 6 0, 0 ∷ replicate 6 0x00)
    ∷ (alter (sheet 4 3 2 1 2 3 0 4) (replicate 6 0x00) 2 6 1, 0 ∷ 0xC2 ∷ 0x01 ∷ 0xF2 ∷ 0x00 ∷ 0x07 ∷ 0x04 ∷ [])
    ∷ (alter (sheet 4 3 2 1 2 3 0 4) (0xFF ∷ 0x07 ∷ 0xFF ∷ 0x07 ∷ 0xFF ∷ 0x07 ∷ []) 2 6 0, 0 ∷ 0x3D ∷ 0x06 ∷ 0x0D ∷ 0x07 ∷ 0xF8 ∷ 0x03 ∷ [])
    ∷ (
      alter (sheet 4 3 2 1 2 3 0 4) (0xFF ∷ 0x07 ∷ 0xFF ∷ 0x07 ∷ 0xFF ∷ 0x07 ∷ []) 2 6 1,
      13 ∷ 0xFF ∷ 0x07 ∷ 0xFF ∷ 0x07 ∷ 0xFF ∷ 0x07 ∷ [],
    )
    ∷ (alter (sheet 4 3 2 1 2 3 0 4) (0x3D ∷ 0x06 ∷ 0x0D ∷ 0x07 ∷ 0xF8 ∷ 0x03 ∷ []) 2 6 0, 0 ∷ 0x3D ∷ 0x06 ∷ 0x0D ∷ 0x07 ∷ 0xF8 ∷ 0x03 ∷ [])
    ∷ (
      alter (sheet 4 3 2 1 2 3 0 4) (0x3D ∷ 0x06 ∷ 0x0D ∷ 0x07 ∷ 0xF8 ∷ 0x03 ∷ []) 2 6 1,
      13 ∷ 0x3D ∷ 0x06 ∷ 0x0D ∷ 0x07 ∷ 0xF8 ∷ 0x03 ∷ [],
    )
    ∷ (alter A (0xFF ∷ 0xFF ∷ 0xFF ∷ 0xFF ∷ []) 1 10 0, 8 ∷ 0xFF ∷ 0xFF ∷ 0xFF ∷ 0xFF ∷ [])
    ∷ (alter A (0xFF ∷ 0xFF ∷ 0xFF ∷ 0xFF ∷ []) 1 10 1, 8 ∷ 0xFF ∷ 0xFF ∷ 0xFF ∷ 0xFF ∷ [])
    ∷ (alter A (0xB9 ∷ 0x6E ∷ 0x48 ∷ 0xD5 ∷ []) 0 0 0, 8 ∷ 0xB9 ∷ 0x6E ∷ 0x48 ∷ 0xD5 ∷ [])
    ∷ (alter A (0xB9 ∷ 0x6E ∷ 0x48 ∷ 0x55 ∷ []) 1 11 0, 9 ∷ 0xB9 ∷ 0x6E ∷ 0x48 ∷ 0x55 ∷ [])
    ∷ (alter A (0xB9 ∷ 0x6E ∷ 0x48 ∷ 0x55 ∷ []) 2 0 0, 9 ∷ 0xB9 ∷ 0x6E ∷ 0x48 ∷ 0x55 ∷ [])
    ∷ (alter A (0xB9 ∷ 0x6E ∷ 0x48 ∷ 0x55 ∷ []) 0 0 2, 9 ∷ 0xB9 ∷ 0x6E ∷ 0x48 ∷ 0x55 ∷ [])
    ∷ (alter A (0xB9 ∷ 0x6E ∷ 0x48 ∷ 0x55 ∷ 0x00 ∷ []) 0 0 0, 7 ∷ 0xB9 ∷ 0x6E ∷ 0x48 ∷ 0x55 ∷ 0x00 ∷ [])
    ∷ (alter A (0xB9 ∷ 0x6E ∷ 0x48 ∷ []) 0 0 1, 7 ∷ 0xB9 ∷ 0x6E ∷ 0x48 ∷ [])
    ∷ (alter (sheet 4 4 2 1 2 3 0 0) (replicate 8 0x00) 0 0 1, 4 ∷ replicate 8 0x00)
    ∷ (alter (sheet 4 2 1 1 2 0 0 7) (0xB9 ∷ 0x6E ∷ 0x48 ∷ 0x55 ∷ []) 0 0 1, 14 ∷ 0xB9 ∷ 0x6E ∷ 0x48 ∷ 0x55 ∷ [])
    ∷ []

pub alter_rest-hold : map (λ r. r.0) alter_rest ≡ map (λ r. r.1) alter_rest
unfolding alter_rest alter_refusal altered pow
alter_rest-hold = refl

-- Lists of odd syndromes, S_1, S_3, ..: of words, and of sub-words and nested words of pages.
pub odd_lists : List Row
odd_lists =
    (odd_syndromes A 2 0xD34, 13 ∷ 1 ∷ [])
    ∷ (odd_syndromes B 3 0x76CD, 12 ∷ 4 ∷ 7 ∷ [])
    ∷ (odd_syndromes (sheet 4 2 1 3 7 0 0 0) 7 0x40DD, 0 ∷ 3 ∷ 1 ∷ 0 ∷ 4 ∷ 0 ∷ 0 ∷ [])
    ∷ (odd_syndromes (sheet 8 8 3 1 2 2 2 0) 2 0xDACC7DF401, 143 ∷ 185 ∷ [])
    ∷ (odd_syndromes (sheet 8 4 2 3 5 9 0 0) 5 0x130, 45 ∷ 100 ∷ 221 ∷ 217 ∷ 129 ∷ [])
    ∷ (odd_syndromes (sheet 12 3 2 1 2 3 0 0) 3 0x579BB, 2465 ∷ 2782 ∷ 2779 ∷ [])
    ∷ (odd_syndromes (sheet 12 3 2 1 2 3 0 0) 1 0x7C0113FA81DD, 277 ∷ [])
    ∷ (odd_syndromes (sheet 12 8 3 28 32 39 58 0) 4 0x116B, 312 ∷ 1794 ∷ 842 ∷ 863 ∷ [])
    ∷ (odd_syndromes B 0 0x3517, [])
    ∷ (odd_syndromes B 1 0x1F81, 3 ∷ [])
    ∷ (odd_syndromes B 12 0x56EB, 1 ∷ 11 ∷ 7 ∷ 12 ∷ 14 ∷ 8 ∷ 10 ∷ 0 ∷ 1 ∷ 1 ∷ 9 ∷ 1 ∷ [])
    ∷ (odd_syndromes (sheet 8 8 3 1 2 2 2 0) 1 0x63C7B2DB8583CC6BF563745CFB051119B8BA9CF8897F68440AE1D1216AB4ABDC, 110 ∷ [])
    ∷ (odd_syndromes (sheet 8 8 3 1 2 2 2 0) 1 0x0, 0 ∷ [])
    ∷ (odd_syndromes (sheet 12 3 2 1 2 3 0 0) 1 0x1142BA4EC73CDFE8183F3F458C2CAA0FD, 3594 ∷ [])
    ∷ (syndrome_list B (0xA5 ∷ 0x5F ∷ 0x4A ∷ 0x27 ∷ 0x19 ∷ 0x51 ∷ []) 0, 8 ∷ [])
    ∷ (nested_syndrome_list B (0xA5 ∷ 0x5F ∷ 0x4A ∷ 0x27 ∷ 0x19 ∷ 0x51 ∷ []) 1, 12 ∷ 10 ∷ [])
    ∷ (syndrome_list (sheet 4 2 1 3 7 0 0 0) (0x6C ∷ 0x46 ∷ 0x18 ∷ 0x03 ∷ []) 0, 2 ∷ 14 ∷ 0 ∷ [])
    ∷ (nested_syndrome_list (sheet 4 2 1 3 7 0 0 0) (0x6C ∷ 0x46 ∷ 0x18 ∷ 0x03 ∷ []) 0, 6 ∷ 14 ∷ 1 ∷ 1 ∷ 13 ∷ 1 ∷ 1 ∷ [])
    ∷ (syndrome_list (sheet 4 5 3 1 2 2 2 4) (0x7A ∷ 0x03 ∷ 0xAA ∷ 0x06 ∷ 0x98 ∷ 0x01 ∷ 0x0A ∷ 0x01 ∷ 0x60 ∷ 0x03 ∷ []) 2, 5 ∷ [])
    ∷ (
      nested_syndrome_list (sheet 4 5 3 1 2 2 2 4) (0x7A ∷ 0x03 ∷ 0xAA ∷ 0x06 ∷ 0x98 ∷ 0x01 ∷ 0x0A ∷ 0x01 ∷ 0x60 ∷ 0x03 ∷ []) 2,
      7 ∷ 2 ∷ [],
    )
    ∷ (syndrome_list (sheet 8 2 1 1 2 0 0 231) (0xBB ∷ 0x6C ∷ 0x20 ∷ 0x12 ∷ 0x8D ∷ 0xC8 ∷ []) 0, 198 ∷ [])
    ∷ (nested_syndrome_list (sheet 8 2 1 1 2 0 0 231) (0xBB ∷ 0x6C ∷ 0x20 ∷ 0x12 ∷ 0x8D ∷ 0xC8 ∷ []) 0, 10 ∷ 243 ∷ [])
    ∷ (
      syndrome_list (sheet 12 3 2 1 2 3 0 4050) (0x70 ∷ 0x75 ∷ 0xAD ∷ 0xF6 ∷ 0xC5 ∷ 0x08 ∷ 0x81 ∷ 0x73 ∷ 0xB1 ∷ 0xEA ∷ 0xFF ∷ 0x14 ∷ 0x6E
          ∷ 0xFE ∷ 0x69 ∷ 0xB6 ∷ 0xE3 ∷ 0x1E ∷ []) 1,
      1738 ∷ [],
    )
    ∷ (
      nested_syndrome_list (sheet 12 3 2 1 2 3 0 4050) (0x70 ∷ 0x75 ∷ 0xAD ∷ 0xF6 ∷ 0xC5 ∷ 0x08 ∷ 0x81 ∷ 0x73 ∷ 0xB1 ∷ 0xEA ∷ 0xFF ∷ 0x14
          ∷ 0x6E ∷ 0xFE ∷ 0x69 ∷ 0xB6 ∷ 0xE3 ∷ 0x1E ∷ []) 0,
      3681 ∷ 948 ∷ 450 ∷ [],
    )
    ∷ []

pub odd_lists-hold : map (λ r. r.0) odd_lists ≡ map (λ r. r.1) odd_lists
unfolding odd_lists odd_syndromes syndrome_list nested_syndrome_list
odd_lists-hold = refl

-- Their lengths: t_0 of a sub-word, t_(v-l) of nested word l, in C twice as many bytes.
pub list_lengths : List Row
list_lengths = (
  map (syndromes_refusal 1 B (0xCA ∷ 0x0F ∷ 0xE8 ∷ 0x4C ∷ 0x80 ∷ 0x1F ∷ []) 0) (0 ∷ 1 ∷ 2 ∷ 3 ∷ 4 ∷ 18446744073709551615 ∷ []),
  10 ∷ 0 ∷ 10 ∷ 10 ∷ 10 ∷ 10 ∷ [],
)
    ∷ (
      map (syndromes_refusal 2 B (0xCA ∷ 0x0F ∷ 0xE8 ∷ 0x4C ∷ 0x80 ∷ 0x1F ∷ []) 0) (0 ∷ 1 ∷ 2 ∷ 3 ∷ 4 ∷ 18446744073709551615 ∷ []),
      10 ∷ 10 ∷ 0 ∷ 10 ∷ 10 ∷ 10 ∷ [],
    )
    ∷ (
      map (nested_syndromes_refusal 1 B (0xCA ∷ 0x0F ∷ 0xE8 ∷ 0x4C ∷ 0x80 ∷ 0x1F ∷ []) 0) (0 ∷ 2 ∷ 3 ∷ 4 ∷ 5 ∷ 6 ∷ 7 ∷ 12
          ∷ 18446744073709551615 ∷ []),
      10 ∷ 10 ∷ 0 ∷ replicate 6 10,
    )
    ∷ (
      map (nested_syndromes_refusal 2 B (0xCA ∷ 0x0F ∷ 0xE8 ∷ 0x4C ∷ 0x80 ∷ 0x1F ∷ []) 0) (0 ∷ 2 ∷ 3 ∷ 4 ∷ 5 ∷ 6 ∷ 7 ∷ 12
          ∷ 18446744073709551615 ∷ []),
      10 ∷ 10 ∷ 10 ∷ 10 ∷ 10 ∷ 0 ∷ 10 ∷ 10 ∷ 10 ∷ [],
    )
    ∷ (
      map (syndromes_refusal 1 (sheet 4 2 1 3 7 0 0 0) (0xD8 ∷ 0x7D ∷ 0xDE ∷ 0x73 ∷ []) 0) (0 ∷ 2 ∷ 3 ∷ 4 ∷ 5 ∷ 6 ∷ 7 ∷ 12
          ∷ 18446744073709551615 ∷ []),
      10 ∷ 10 ∷ 0 ∷ replicate 6 10,
    )
    ∷ (
      map (syndromes_refusal 2 (sheet 4 2 1 3 7 0 0 0) (0xD8 ∷ 0x7D ∷ 0xDE ∷ 0x73 ∷ []) 0) (0 ∷ 2 ∷ 3 ∷ 4 ∷ 5 ∷ 6 ∷ 7 ∷ 12
          ∷ 18446744073709551615 ∷ []),
      10 ∷ 10 ∷ 10 ∷ 10 ∷ 10 ∷ 0 ∷ 10 ∷ 10 ∷ 10 ∷ [],
    )
    ∷ (
      map (nested_syndromes_refusal 1 (sheet 4 2 1 3 7 0 0 0) (0xD8 ∷ 0x7D ∷ 0xDE ∷ 0x73 ∷ []) 0) (0 ∷ 6 ∷ 7 ∷ 8 ∷ 13 ∷ 14 ∷ 15 ∷ 28
          ∷ 18446744073709551615 ∷ []),
      10 ∷ 10 ∷ 0 ∷ replicate 6 10,
    )
    ∷ (
      map (nested_syndromes_refusal 2 (sheet 4 2 1 3 7 0 0 0) (0xD8 ∷ 0x7D ∷ 0xDE ∷ 0x73 ∷ []) 0) (0 ∷ 6 ∷ 7 ∷ 8 ∷ 13 ∷ 14 ∷ 15 ∷ 28
          ∷ 18446744073709551615 ∷ []),
      10 ∷ 10 ∷ 10 ∷ 10 ∷ 10 ∷ 0 ∷ 10 ∷ 10 ∷ 10 ∷ [],
    )
    ∷ (
      map (syndromes_refusal 1 (sheet 8 4 2 3 5 9 0 180) (0x30 ∷ 0x3D ∷ 0x1C ∷ 0xD8 ∷ 0xBA ∷ 0x57 ∷ 0x2B ∷ 0x40 ∷ 0x58 ∷ 0x01 ∷ 0xDB ∷ 0x32
          ∷ 0xE1 ∷ 0x05 ∷ 0xD0 ∷ 0x64 ∷ 0xF9 ∷ 0x69 ∷ 0x3B ∷ 0x07 ∷ 0x7C ∷ 0xAE ∷ 0x9B ∷ 0x11 ∷ 0x9D ∷ 0xB3 ∷ 0x88 ∷ 0x9D ∷ 0xF8 ∷ 0x06
          ∷ 0x71 ∷ 0xDC ∷ 0xF2 ∷ 0x72 ∷ 0x29 ∷ 0x7A ∷ 0x32 ∷ 0x61 ∷ 0xD8 ∷ 0x00 ∷ []) 0) (0 ∷ 2 ∷ 3 ∷ 4 ∷ 5 ∷ 6 ∷ 7 ∷ 12
          ∷ 18446744073709551615 ∷ []),
      10 ∷ 10 ∷ 0 ∷ replicate 6 10,
    )
    ∷ (
      map (syndromes_refusal 2 (sheet 8 4 2 3 5 9 0 180) (0x30 ∷ 0x3D ∷ 0x1C ∷ 0xD8 ∷ 0xBA ∷ 0x57 ∷ 0x2B ∷ 0x40 ∷ 0x58 ∷ 0x01 ∷ 0xDB ∷ 0x32
          ∷ 0xE1 ∷ 0x05 ∷ 0xD0 ∷ 0x64 ∷ 0xF9 ∷ 0x69 ∷ 0x3B ∷ 0x07 ∷ 0x7C ∷ 0xAE ∷ 0x9B ∷ 0x11 ∷ 0x9D ∷ 0xB3 ∷ 0x88 ∷ 0x9D ∷ 0xF8 ∷ 0x06
          ∷ 0x71 ∷ 0xDC ∷ 0xF2 ∷ 0x72 ∷ 0x29 ∷ 0x7A ∷ 0x32 ∷ 0x61 ∷ 0xD8 ∷ 0x00 ∷ []) 0) (0 ∷ 2 ∷ 3 ∷ 4 ∷ 5 ∷ 6 ∷ 7 ∷ 12
          ∷ 18446744073709551615 ∷ []),
      10 ∷ 10 ∷ 10 ∷ 10 ∷ 10 ∷ 0 ∷ 10 ∷ 10 ∷ 10 ∷ [],
    )
    ∷ (
      map (nested_syndromes_refusal 1 (sheet 8 4 2 3 5 9 0 180) (0x30 ∷ 0x3D ∷ 0x1C ∷ 0xD8 ∷ 0xBA ∷ 0x57 ∷ 0x2B ∷ 0x40 ∷ 0x58 ∷ 0x01 ∷ 0xDB
          ∷ 0x32 ∷ 0xE1 ∷ 0x05 ∷ 0xD0 ∷ 0x64 ∷ 0xF9 ∷ 0x69 ∷ 0x3B ∷ 0x07 ∷ 0x7C ∷ 0xAE ∷ 0x9B ∷ 0x11 ∷ 0x9D ∷ 0xB3 ∷ 0x88 ∷ 0x9D ∷ 0xF8
          ∷ 0x06 ∷ 0x71 ∷ 0xDC ∷ 0xF2 ∷ 0x72 ∷ 0x29 ∷ 0x7A ∷ 0x32 ∷ 0x61 ∷ 0xD8 ∷ 0x00 ∷ []) 0) (0 ∷ 8 ∷ 9 ∷ 10 ∷ 17 ∷ 18 ∷ 19 ∷ 36
          ∷ 18446744073709551615 ∷ []),
      10 ∷ 10 ∷ 0 ∷ replicate 6 10,
    )
    ∷ (
      map (nested_syndromes_refusal 2 (sheet 8 4 2 3 5 9 0 180) (0x30 ∷ 0x3D ∷ 0x1C ∷ 0xD8 ∷ 0xBA ∷ 0x57 ∷ 0x2B ∷ 0x40 ∷ 0x58 ∷ 0x01 ∷ 0xDB
          ∷ 0x32 ∷ 0xE1 ∷ 0x05 ∷ 0xD0 ∷ 0x64 ∷ 0xF9 ∷ 0x69 ∷ 0x3B ∷ 0x07 ∷ 0x7C ∷ 0xAE ∷ 0x9B ∷ 0x11 ∷ 0x9D ∷ 0xB3 ∷ 0x88 ∷ 0x9D ∷ 0xF8
          ∷ 0x06 ∷ 0x71 ∷ 0xDC ∷ 0xF2 ∷ 0x72 ∷ 0x29 ∷ 0x7A ∷ 0x32 ∷ 0x61 ∷ 0xD8 ∷ 0x00 ∷ []) 0) (0 ∷ 8 ∷ 9 ∷ 10 ∷ 17 ∷ 18 ∷ 19 ∷ 36
          ∷ 18446744073709551615 ∷ []),
      10 ∷ 10 ∷ 10 ∷ 10 ∷ 10 ∷ 0 ∷ 10 ∷ 10 ∷ 10 ∷ [],
    )
    ∷ (
      map (syndromes_refusal 1 (sheet 12 3 2 1 2 3 0 4050) (0x4D ∷ 0x35 ∷ 0xA4 ∷ 0x13 ∷ 0x39 ∷ 0x19 ∷ 0x78 ∷ 0x27 ∷ 0x4B ∷ 0x94 ∷ 0xDC
          ∷ 0x0A ∷ 0x62 ∷ 0x34 ∷ 0x15 ∷ 0x71 ∷ 0x28 ∷ 0x0D ∷ []) 0) (0 ∷ 1 ∷ 2 ∷ 3 ∷ 4 ∷ 18446744073709551615 ∷ []),
      10 ∷ 0 ∷ 10 ∷ 10 ∷ 10 ∷ 10 ∷ [],
    )
    ∷ (
      map (syndromes_refusal 2 (sheet 12 3 2 1 2 3 0 4050) (0x4D ∷ 0x35 ∷ 0xA4 ∷ 0x13 ∷ 0x39 ∷ 0x19 ∷ 0x78 ∷ 0x27 ∷ 0x4B ∷ 0x94 ∷ 0xDC
          ∷ 0x0A ∷ 0x62 ∷ 0x34 ∷ 0x15 ∷ 0x71 ∷ 0x28 ∷ 0x0D ∷ []) 0) (0 ∷ 1 ∷ 2 ∷ 3 ∷ 4 ∷ 18446744073709551615 ∷ []),
      10 ∷ 10 ∷ 0 ∷ 10 ∷ 10 ∷ 10 ∷ [],
    )
    ∷ (
      map (nested_syndromes_refusal 1 (sheet 12 3 2 1 2 3 0 4050) (0x4D ∷ 0x35 ∷ 0xA4 ∷ 0x13 ∷ 0x39 ∷ 0x19 ∷ 0x78 ∷ 0x27 ∷ 0x4B ∷ 0x94
          ∷ 0xDC ∷ 0x0A ∷ 0x62 ∷ 0x34 ∷ 0x15 ∷ 0x71 ∷ 0x28 ∷ 0x0D ∷ []) 0) (0 ∷ 2 ∷ 3 ∷ 4 ∷ 5 ∷ 6 ∷ 7 ∷ 12 ∷ 18446744073709551615 ∷ []),
      10 ∷ 10 ∷ 0 ∷ replicate 6 10,
    )
    ∷ (
      map (nested_syndromes_refusal 2 (sheet 12 3 2 1 2 3 0 4050) (0x4D ∷ 0x35 ∷ 0xA4 ∷ 0x13 ∷ 0x39 ∷ 0x19 ∷ 0x78 ∷ 0x27 ∷ 0x4B ∷ 0x94
          ∷ 0xDC ∷ 0x0A ∷ 0x62 ∷ 0x34 ∷ 0x15 ∷ 0x71 ∷ 0x28 ∷ 0x0D ∷ []) 0) (0 ∷ 2 ∷ 3 ∷ 4 ∷ 5 ∷ 6 ∷ 7 ∷ 12 ∷ 18446744073709551615 ∷ []),
      10 ∷ 10 ∷ 10 ∷ 10 ∷ 10 ∷ 0 ∷ 10 ∷ 10 ∷ 10 ∷ [],
    )
    ∷ []

pub list_lengths-hold : map (λ r. r.0) list_lengths ≡ map (λ r. r.1) list_lengths
unfolding list_lengths word_refusal
list_lengths-hold = refl

-- All syndromes from the odd ones, even ones by squares: those of the word.
pub all_by_odd : List Row
all_by_odd =
    (syndromes A 4 0x146D, 15 ∷ 10 ∷ 3 ∷ 8 ∷ [])
    ∷ (all_syndromes A (15 ∷ 3 ∷ []), 15 ∷ 10 ∷ 3 ∷ 8 ∷ [])
    ∷ (all_syndromes A (odd_syndromes A 2 0x146D), 15 ∷ 10 ∷ 3 ∷ 8 ∷ [])
    ∷ (syndromes B 6 0x42BF, 2 ∷ 4 ∷ 13 ∷ 3 ∷ 0 ∷ 14 ∷ [])
    ∷ (all_syndromes B (2 ∷ 13 ∷ 0 ∷ []), 2 ∷ 4 ∷ 13 ∷ 3 ∷ 0 ∷ 14 ∷ [])
    ∷ (all_syndromes B (odd_syndromes B 3 0x42BF), 2 ∷ 4 ∷ 13 ∷ 3 ∷ 0 ∷ 14 ∷ [])
    ∷ (syndromes (sheet 4 2 1 3 7 0 0 0) 14 0x2A7B, 11 ∷ 9 ∷ 8 ∷ 13 ∷ 6 ∷ 12 ∷ 12 ∷ 14 ∷ 10 ∷ 7 ∷ 8 ∷ 15 ∷ 10 ∷ 15 ∷ [])
    ∷ (
      all_syndromes (sheet 4 2 1 3 7 0 0 0) (11 ∷ 8 ∷ 6 ∷ 12 ∷ 10 ∷ 8 ∷ 10 ∷ []),
      11 ∷ 9 ∷ 8 ∷ 13 ∷ 6 ∷ 12 ∷ 12 ∷ 14 ∷ 10 ∷ 7 ∷ 8 ∷ 15 ∷ 10 ∷ 15 ∷ [],
    )
    ∷ (
      all_syndromes (sheet 4 2 1 3 7 0 0 0) (odd_syndromes (sheet 4 2 1 3 7 0 0 0) 7 0x2A7B),
      11 ∷ 9 ∷ 8 ∷ 13 ∷ 6 ∷ 12 ∷ 12 ∷ 14 ∷ 10 ∷ 7 ∷ 8 ∷ 15 ∷ 10 ∷ 15 ∷ [],
    )
    ∷ (syndromes (sheet 8 8 3 1 2 2 2 0) 4 0xB2689A3725, 162 ∷ 99 ∷ 128 ∷ 188 ∷ [])
    ∷ (all_syndromes (sheet 8 8 3 1 2 2 2 0) (162 ∷ 128 ∷ []), 162 ∷ 99 ∷ 128 ∷ 188 ∷ [])
    ∷ (all_syndromes (sheet 8 8 3 1 2 2 2 0) (odd_syndromes (sheet 8 8 3 1 2 2 2 0) 2 0xB2689A3725), 162 ∷ 99 ∷ 128 ∷ 188 ∷ [])
    ∷ (syndromes (sheet 8 4 2 3 5 9 0 0) 10 0x1E3, 254 ∷ 227 ∷ 248 ∷ 175 ∷ 180 ∷ 247 ∷ 121 ∷ 50 ∷ 110 ∷ 106 ∷ [])
    ∷ (
      all_syndromes (sheet 8 4 2 3 5 9 0 0) (254 ∷ 248 ∷ 180 ∷ 121 ∷ 110 ∷ []),
      254 ∷ 227 ∷ 248 ∷ 175 ∷ 180 ∷ 247 ∷ 121 ∷ 50 ∷ 110 ∷ 106 ∷ [],
    )
    ∷ (
      all_syndromes (sheet 8 4 2 3 5 9 0 0) (odd_syndromes (sheet 8 4 2 3 5 9 0 0) 5 0x1E3),
      254 ∷ 227 ∷ 248 ∷ 175 ∷ 180 ∷ 247 ∷ 121 ∷ 50 ∷ 110 ∷ 106 ∷ [],
    )
    ∷ (syndromes (sheet 12 3 2 1 2 3 0 0) 6 0x1EB47, 3333 ∷ 3906 ∷ 16 ∷ 2967 ∷ 1563 ∷ 256 ∷ [])
    ∷ (all_syndromes (sheet 12 3 2 1 2 3 0 0) (3333 ∷ 16 ∷ 1563 ∷ []), 3333 ∷ 3906 ∷ 16 ∷ 2967 ∷ 1563 ∷ 256 ∷ [])
    ∷ (all_syndromes (sheet 12 3 2 1 2 3 0 0) (odd_syndromes (sheet 12 3 2 1 2 3 0 0) 3 0x1EB47), 3333 ∷ 3906 ∷ 16 ∷ 2967 ∷ 1563 ∷ 256 ∷ [])
    ∷ (syndromes (sheet 12 3 2 1 2 3 0 0) 2 0x2F35B11E68D03, 3037 ∷ 2449 ∷ [])
    ∷ (all_syndromes (sheet 12 3 2 1 2 3 0 0) (3037 ∷ []), 3037 ∷ 2449 ∷ [])
    ∷ (all_syndromes (sheet 12 3 2 1 2 3 0 0) (odd_syndromes (sheet 12 3 2 1 2 3 0 0) 1 0x2F35B11E68D03), 3037 ∷ 2449 ∷ [])
    ∷ (syndromes (sheet 12 8 3 28 32 39 58 0) 8 0x19F, 415 ∷ 1321 ∷ 1906 ∷ 878 ∷ 75 ∷ 1771 ∷ 2564 ∷ 1444 ∷ [])
    ∷ (all_syndromes (sheet 12 8 3 28 32 39 58 0) (415 ∷ 1906 ∷ 75 ∷ 2564 ∷ []), 415 ∷ 1321 ∷ 1906 ∷ 878 ∷ 75 ∷ 1771 ∷ 2564 ∷ 1444 ∷ [])
    ∷ (
      all_syndromes (sheet 12 8 3 28 32 39 58 0) (odd_syndromes (sheet 12 8 3 28 32 39 58 0) 4 0x19F),
      415 ∷ 1321 ∷ 1906 ∷ 878 ∷ 75 ∷ 1771 ∷ 2564 ∷ 1444 ∷ [],
    )
    ∷ (
      map (λ x. sum (drop 1 (all_syndromes A (x ∷ [])))) (range 0 16),
      0 ∷ 1 ∷ 4 ∷ 5 ∷ 3 ∷ 2 ∷ 7 ∷ 6 ∷ 12 ∷ 13 ∷ 8 ∷ 9 ∷ 15 ∷ 14 ∷ 11 ∷ 10 ∷ [],
    )
    ∷ []

pub all_by_odd-hold : map (λ r. r.0) all_by_odd ≡ map (λ r. r.1) all_by_odd
unfolding all_by_odd all_syndromes odd_syndromes syndromes range sum
all_by_odd-hold = refl

-- Lists of no word: none, of any length, and numbers that are no elements, squared as polynomials.
pub all_others : List Row
all_others =
    (all_syndromes A [], [])
    ∷ (all_syndromes A (8 ∷ 2 ∷ 9 ∷ 0 ∷ 1 ∷ []), 8 ∷ 12 ∷ 2 ∷ 15 ∷ 9 ∷ 4 ∷ 0 ∷ 10 ∷ 1 ∷ 13 ∷ [])
    ∷ (all_syndromes A (15 ∷ []), 15 ∷ 10 ∷ [])
    ∷ (all_syndromes A (16 ∷ []), 16 ∷ 5 ∷ [])
    ∷ (all_syndromes A (17 ∷ []), 17 ∷ 4 ∷ [])
    ∷ (all_syndromes A (19 ∷ []), 19 ∷ 0 ∷ [])
    ∷ (all_syndromes A (18 ∷ []), 18 ∷ 1 ∷ [])
    ∷ (all_syndromes A (65535 ∷ []), 65535 ∷ 1 ∷ [])
    ∷ (all_syndromes A (50805 ∷ 29544 ∷ 44890 ∷ 37607 ∷ []), 50805 ∷ 13 ∷ 29544 ∷ 14 ∷ 44890 ∷ 7 ∷ 37607 ∷ 11 ∷ [])
    ∷ (all_syndromes A (0 ∷ 16 ∷ 0 ∷ 65535 ∷ 19 ∷ []), 0 ∷ 0 ∷ 16 ∷ 0 ∷ 0 ∷ 5 ∷ 65535 ∷ 0 ∷ 19 ∷ 0 ∷ [])
    ∷ (all_syndromes A (18446744073709551615 ∷ 1 ∷ []), 18446744073709551615 ∷ 10 ∷ 1 ∷ 8 ∷ [])
    ∷ (
      all_syndromes (sheet 8 8 3 1 2 2 2 0) (208 ∷ 236 ∷ 179 ∷ 170 ∷ 95 ∷ []),
      208 ∷ 195 ∷ 236 ∷ 219 ∷ 179 ∷ 250 ∷ 170 ∷ 134 ∷ 95 ∷ 127 ∷ [],
    )
    ∷ (all_syndromes (sheet 8 8 3 1 2 2 2 0) (255 ∷ []), 255 ∷ 226 ∷ [])
    ∷ (all_syndromes (sheet 8 8 3 1 2 2 2 0) (256 ∷ []), 256 ∷ 76 ∷ [])
    ∷ (all_syndromes (sheet 8 8 3 1 2 2 2 0) (257 ∷ []), 257 ∷ 77 ∷ [])
    ∷ (all_syndromes (sheet 8 8 3 1 2 2 2 0) (285 ∷ []), 285 ∷ 0 ∷ [])
    ∷ (all_syndromes (sheet 8 8 3 1 2 2 2 0) (284 ∷ []), 284 ∷ 1 ∷ [])
    ∷ (all_syndromes (sheet 8 8 3 1 2 2 2 0) (65535 ∷ []), 65535 ∷ 44 ∷ [])
    ∷ (
      all_syndromes (sheet 8 8 3 1 2 2 2 0) (53251 ∷ 21340 ∷ 31592 ∷ 39131 ∷ []),
      53251 ∷ 242 ∷ 21340 ∷ 179 ∷ 31592 ∷ 118 ∷ 39131 ∷ 127 ∷ [],
    )
    ∷ (all_syndromes (sheet 8 8 3 1 2 2 2 0) (0 ∷ 256 ∷ 0 ∷ 65535 ∷ 285 ∷ []), 0 ∷ 0 ∷ 256 ∷ 0 ∷ 0 ∷ 76 ∷ 65535 ∷ 0 ∷ 285 ∷ 0 ∷ [])
    ∷ (all_syndromes (sheet 8 8 3 1 2 2 2 0) (18446744073709551615 ∷ 1 ∷ []), 18446744073709551615 ∷ 223 ∷ 1 ∷ 150 ∷ [])
    ∷ (
      all_syndromes (sheet 12 3 2 1 2 3 0 0) (2963 ∷ 3486 ∷ 2868 ∷ 1219 ∷ 3343 ∷ []),
      2963 ∷ 2454 ∷ 3486 ∷ 3348 ∷ 2868 ∷ 3915 ∷ 1219 ∷ 3651 ∷ 3343 ∷ 3279 ∷ [],
    )
    ∷ (all_syndromes (sheet 12 3 2 1 2 3 0 0) (4095 ∷ []), 4095 ∷ 3978 ∷ [])
    ∷ (all_syndromes (sheet 12 3 2 1 2 3 0 0) (4096 ∷ []), 4096 ∷ 342 ∷ [])
    ∷ (all_syndromes (sheet 12 3 2 1 2 3 0 0) (4097 ∷ []), 4097 ∷ 343 ∷ [])
    ∷ (all_syndromes (sheet 12 3 2 1 2 3 0 0) (4179 ∷ []), 4179 ∷ 0 ∷ [])
    ∷ (all_syndromes (sheet 12 3 2 1 2 3 0 0) (4178 ∷ []), 4178 ∷ 1 ∷ [])
    ∷ (all_syndromes (sheet 12 3 2 1 2 3 0 0) (65535 ∷ []), 65535 ∷ 2600 ∷ [])
    ∷ (
      all_syndromes (sheet 12 3 2 1 2 3 0 0) (50125 ∷ 29704 ∷ 54152 ∷ 20868 ∷ []),
      50125 ∷ 321 ∷ 29704 ∷ 1378 ∷ 54152 ∷ 866 ∷ 20868 ∷ 888 ∷ [],
    )
    ∷ (all_syndromes (sheet 12 3 2 1 2 3 0 0) (0 ∷ 4096 ∷ 0 ∷ 65535 ∷ 4179 ∷ []), 0 ∷ 0 ∷ 4096 ∷ 0 ∷ 0 ∷ 342 ∷ 65535 ∷ 0 ∷ 4179 ∷ 0 ∷ [])
    ∷ (all_syndromes (sheet 12 3 2 1 2 3 0 0) (18446744073709551615 ∷ 1 ∷ []), 18446744073709551615 ∷ 2780 ∷ 1 ∷ 3232 ∷ [])
    ∷ []

pub all_others-hold : map (λ r. r.0) all_others ≡ map (λ r. r.1) all_others
unfolding all_others all_syndromes
all_others-hold = refl

-- A nested word past 2t_0: the remainder by g_0 has its S_1 and another S_3, the short remainder its S_3 and another S_1.
pub past_remainders : List Row
past_remainders =
    (nested_syndrome_list A (0x10 ∷ 0x00 ∷ 0x00 ∷ 0x00 ∷ []) 0, 3 ∷ 15 ∷ [])
    ∷ (odd_syndromes A 2 (remainder A 0 (nested A 0 (words_of A (0x10 ∷ 0x00 ∷ 0x00 ∷ 0x00 ∷ [])))), 3 ∷ 9 ∷ [])
    ∷ (odd_syndromes A 2 (short_remainder A 0 (words_of A (0x10 ∷ 0x00 ∷ 0x00 ∷ 0x00 ∷ []))), 15 ∷ 15 ∷ [])
    ∷ (all_syndromes A (nested_syndrome_list A (0x10 ∷ 0x00 ∷ 0x00 ∷ 0x00 ∷ []) 0), 3 ∷ 5 ∷ 15 ∷ 2 ∷ [])
    ∷ (nested_syndrome_list A (0x96 ∷ 0x3C ∷ 0xE3 ∷ 0x4E ∷ []) 0, 13 ∷ 13 ∷ [])
    ∷ (odd_syndromes A 2 (remainder A 0 (nested A 0 (words_of A (0x96 ∷ 0x3C ∷ 0xE3 ∷ 0x4E ∷ [])))), 13 ∷ 7 ∷ [])
    ∷ (odd_syndromes A 2 (short_remainder A 0 (words_of A (0x96 ∷ 0x3C ∷ 0xE3 ∷ 0x4E ∷ []))), 5 ∷ 13 ∷ [])
    ∷ (all_syndromes A (nested_syndrome_list A (0x96 ∷ 0x3C ∷ 0xE3 ∷ 0x4E ∷ []) 0), 13 ∷ 14 ∷ 13 ∷ 11 ∷ [])
    ∷ (nested_syndrome_list A (0x9A ∷ 0x16 ∷ 0xA7 ∷ 0x30 ∷ []) 0, 8 ∷ 13 ∷ [])
    ∷ (odd_syndromes A 2 (remainder A 0 (nested A 0 (words_of A (0x9A ∷ 0x16 ∷ 0xA7 ∷ 0x30 ∷ [])))), 8 ∷ 10 ∷ [])
    ∷ (odd_syndromes A 2 (short_remainder A 0 (words_of A (0x9A ∷ 0x16 ∷ 0xA7 ∷ 0x30 ∷ []))), 5 ∷ 13 ∷ [])
    ∷ (all_syndromes A (nested_syndrome_list A (0x9A ∷ 0x16 ∷ 0xA7 ∷ 0x30 ∷ []) 0), 8 ∷ 12 ∷ 13 ∷ 15 ∷ [])
    ∷ []

pub past_remainders-hold : map (λ r. r.0) past_remainders ≡ map (λ r. r.1) past_remainders
unfolding past_remainders odd_syndromes all_syndromes nested_syndrome_list short_remainder rem gen degree nested words_of pow xor
past_remainders-hold = refl

-- All from the odd ones, refused: the numbers in their order; levels, and the lengths of both lists, of numbers and of bytes.
pub all_refused : List Row
all_refused = (
  all_refusal 1 (sheet 5 2 1 1 2 0 0 4294967295) 9 99 99 ∷ all_refusal 1 (sheet 4 1 1 1 2 0 0 4294967295) 9 99 99
      ∷ all_refusal 1 (sheet 4 2 1 2 2 0 0 4294967295) 9 99 99 ∷ all_refusal 1 (sheet 4 4 2 1 2 3 0 4294967295) 9 99 99
      ∷ all_refusal 1 (sheet 4 2 1 1 2 0 0 7) 9 99 99 ∷ [],
  1 ∷ 2 ∷ 3 ∷ 4 ∷ 14 ∷ [],
)
    ∷ (
      all_refusal 1 A 2 99 99 ∷ all_refusal 1 A 1 99 99 ∷ all_refusal 1 A 1 2 99 ∷ all_refusal 1 A 1 99 4 ∷ all_refusal 1 A 1 2 4
          ∷ all_refusal 1 A 2 2 4 ∷ all_refusal 1 A 2 99 4 ∷ all_refusal 1 A 2 2 99 ∷ [],
      9 ∷ 10 ∷ 10 ∷ 10 ∷ 0 ∷ 9 ∷ 9 ∷ 9 ∷ [],
    )
    ∷ (
      all_refusal 1 A 0 0 0 ∷ all_refusal 1 A 1 0 0 ∷ all_refusal 1 A 2 0 0 ∷ all_refusal 1 A 4 0 0 ∷ all_refusal 1 A 256 0 0
          ∷ all_refusal 1 A 4294967295 0 0 ∷ all_refusal 1 B 0 0 0 ∷ all_refusal 1 B 2 0 0 ∷ all_refusal 1 B 3 0 0 ∷ all_refusal 1 B 4 0 0
          ∷ all_refusal 1 B 256 0 0 ∷ all_refusal 1 B 4294967295 0 0 ∷ [],
      10 ∷ 10 ∷ 9 ∷ 9 ∷ 9 ∷ 9 ∷ 10 ∷ 10 ∷ 9 ∷ 9 ∷ 9 ∷ 9 ∷ [],
    )
    ∷ (map (λ k. all_refusal 1 A 0 k 2) (0 ∷ 1 ∷ 2 ∷ 256 ∷ 18446744073709551615 ∷ []), 10 ∷ 0 ∷ 10 ∷ 10 ∷ 10 ∷ [])
    ∷ (map (all_refusal 1 A 0 1) (0 ∷ 1 ∷ 2 ∷ 3 ∷ 4 ∷ 256 ∷ 18446744073709551615 ∷ []), 10 ∷ 10 ∷ 0 ∷ 10 ∷ 10 ∷ 10 ∷ 10 ∷ [])
    ∷ (map (λ k. all_refusal 1 A 1 k 4) (0 ∷ 1 ∷ 2 ∷ 3 ∷ 4 ∷ 256 ∷ 18446744073709551615 ∷ []), 10 ∷ 10 ∷ 0 ∷ 10 ∷ 10 ∷ 10 ∷ 10 ∷ [])
    ∷ (map (all_refusal 1 A 1 2) (0 ∷ 2 ∷ 3 ∷ 4 ∷ 5 ∷ 8 ∷ 256 ∷ 18446744073709551615 ∷ []), 10 ∷ 10 ∷ 10 ∷ 0 ∷ 10 ∷ 10 ∷ 10 ∷ 10 ∷ [])
    ∷ (map (λ k. all_refusal 1 B 1 k 4) (0 ∷ 1 ∷ 2 ∷ 3 ∷ 4 ∷ 256 ∷ 18446744073709551615 ∷ []), 10 ∷ 10 ∷ 0 ∷ 10 ∷ 10 ∷ 10 ∷ 10 ∷ [])
    ∷ (map (all_refusal 1 B 1 2) (0 ∷ 2 ∷ 3 ∷ 4 ∷ 5 ∷ 8 ∷ 256 ∷ 18446744073709551615 ∷ []), 10 ∷ 10 ∷ 10 ∷ 0 ∷ 10 ∷ 10 ∷ 10 ∷ 10 ∷ [])
    ∷ (
      map (λ k. all_refusal 1 (sheet 4 2 1 3 7 0 0 0) 0 k 6) (0 ∷ 2 ∷ 3 ∷ 4 ∷ 6 ∷ 256 ∷ 18446744073709551615 ∷ []),
      10 ∷ 10 ∷ 0 ∷ 10 ∷ 10 ∷ 10 ∷ 10 ∷ [],
    )
    ∷ (
      map (all_refusal 1 (sheet 4 2 1 3 7 0 0 0) 0 3) (0 ∷ 3 ∷ 5 ∷ 6 ∷ 7 ∷ 12 ∷ 256 ∷ 18446744073709551615 ∷ []),
      10 ∷ 10 ∷ 10 ∷ 0 ∷ 10 ∷ 10 ∷ 10 ∷ 10 ∷ [],
    )
    ∷ (
      map (λ k. all_refusal 1 (sheet 4 5 3 1 2 2 2 4) 3 k 4) (0 ∷ 1 ∷ 2 ∷ 3 ∷ 4 ∷ 256 ∷ 18446744073709551615 ∷ []),
      10 ∷ 10 ∷ 0 ∷ 10 ∷ 10 ∷ 10 ∷ 10 ∷ [],
    )
    ∷ (
      map (all_refusal 1 (sheet 4 5 3 1 2 2 2 4) 3 2) (0 ∷ 2 ∷ 3 ∷ 4 ∷ 5 ∷ 8 ∷ 256 ∷ 18446744073709551615 ∷ []),
      10 ∷ 10 ∷ 10 ∷ 0 ∷ 10 ∷ 10 ∷ 10 ∷ 10 ∷ [],
    )
    ∷ (
      map (λ k. all_refusal 1 (sheet 8 8 3 1 2 2 2 0) 3 k 4) (0 ∷ 1 ∷ 2 ∷ 3 ∷ 4 ∷ 256 ∷ 18446744073709551615 ∷ []),
      10 ∷ 10 ∷ 0 ∷ 10 ∷ 10 ∷ 10 ∷ 10 ∷ [],
    )
    ∷ (
      map (all_refusal 1 (sheet 8 8 3 1 2 2 2 0) 3 2) (0 ∷ 2 ∷ 3 ∷ 4 ∷ 5 ∷ 8 ∷ 256 ∷ 18446744073709551615 ∷ []),
      10 ∷ 10 ∷ 10 ∷ 0 ∷ 10 ∷ 10 ∷ 10 ∷ 10 ∷ [],
    )
    ∷ (
      map (λ k. all_refusal 1 (sheet 12 3 2 1 2 3 0 0) 2 k 6) (0 ∷ 1 ∷ 2 ∷ 3 ∷ 4 ∷ 6 ∷ 256 ∷ 18446744073709551615 ∷ []),
      10 ∷ 10 ∷ 10 ∷ 0 ∷ 10 ∷ 10 ∷ 10 ∷ 10 ∷ [],
    )
    ∷ (
      map (all_refusal 1 (sheet 12 3 2 1 2 3 0 0) 2 3) (0 ∷ 2 ∷ 3 ∷ 5 ∷ 6 ∷ 7 ∷ 12 ∷ 256 ∷ 18446744073709551615 ∷ []),
      10 ∷ 10 ∷ 10 ∷ 10 ∷ 0 ∷ 10 ∷ 10 ∷ 10 ∷ 10 ∷ [],
    )
    ∷ (
      all_refusal 2 (sheet 5 2 1 1 2 0 0 4294967295) 9 99 99 ∷ all_refusal 2 (sheet 4 1 1 1 2 0 0 4294967295) 9 99 99
          ∷ all_refusal 2 (sheet 4 2 1 2 2 0 0 4294967295) 9 99 99 ∷ all_refusal 2 (sheet 4 4 2 1 2 3 0 4294967295) 9 99 99
          ∷ all_refusal 2 (sheet 4 2 1 1 2 0 0 7) 9 99 99 ∷ [],
      1 ∷ 2 ∷ 3 ∷ 4 ∷ 14 ∷ [],
    )
    ∷ (
      all_refusal 2 A 2 99 99 ∷ all_refusal 2 A 1 99 99 ∷ all_refusal 2 A 1 4 99 ∷ all_refusal 2 A 1 99 8 ∷ all_refusal 2 A 1 4 8
          ∷ all_refusal 2 A 2 4 8 ∷ all_refusal 2 A 2 99 8 ∷ all_refusal 2 A 2 4 99 ∷ [],
      9 ∷ 10 ∷ 10 ∷ 10 ∷ 0 ∷ 9 ∷ 9 ∷ 9 ∷ [],
    )
    ∷ (
      all_refusal 2 A 0 0 0 ∷ all_refusal 2 A 1 0 0 ∷ all_refusal 2 A 2 0 0 ∷ all_refusal 2 A 4 0 0 ∷ all_refusal 2 A 256 0 0
          ∷ all_refusal 2 A 4294967295 0 0 ∷ all_refusal 2 B 0 0 0 ∷ all_refusal 2 B 2 0 0 ∷ all_refusal 2 B 3 0 0 ∷ all_refusal 2 B 4 0 0
          ∷ all_refusal 2 B 256 0 0 ∷ all_refusal 2 B 4294967295 0 0 ∷ [],
      10 ∷ 10 ∷ 9 ∷ 9 ∷ 9 ∷ 9 ∷ 10 ∷ 10 ∷ 9 ∷ 9 ∷ 9 ∷ 9 ∷ [],
    )
    ∷ (map (λ k. all_refusal 2 A 0 k 4) (0 ∷ 1 ∷ 2 ∷ 3 ∷ 4 ∷ 256 ∷ 18446744073709551615 ∷ []), 10 ∷ 10 ∷ 0 ∷ 10 ∷ 10 ∷ 10 ∷ 10 ∷ [])
    ∷ (map (all_refusal 2 A 0 2) (0 ∷ 2 ∷ 3 ∷ 4 ∷ 5 ∷ 8 ∷ 256 ∷ 18446744073709551615 ∷ []), 10 ∷ 10 ∷ 10 ∷ 0 ∷ 10 ∷ 10 ∷ 10 ∷ 10 ∷ [])
    ∷ (
      map (λ k. all_refusal 2 A 1 k 8) (0 ∷ 2 ∷ 3 ∷ 4 ∷ 5 ∷ 8 ∷ 256 ∷ 18446744073709551615 ∷ []),
      10 ∷ 10 ∷ 10 ∷ 0 ∷ 10 ∷ 10 ∷ 10 ∷ 10 ∷ [],
    )
    ∷ (map (all_refusal 2 A 1 4) (0 ∷ 4 ∷ 7 ∷ 8 ∷ 9 ∷ 16 ∷ 256 ∷ 18446744073709551615 ∷ []), 10 ∷ 10 ∷ 10 ∷ 0 ∷ 10 ∷ 10 ∷ 10 ∷ 10 ∷ [])
    ∷ (
      map (λ k. all_refusal 2 B 1 k 8) (0 ∷ 2 ∷ 3 ∷ 4 ∷ 5 ∷ 8 ∷ 256 ∷ 18446744073709551615 ∷ []),
      10 ∷ 10 ∷ 10 ∷ 0 ∷ 10 ∷ 10 ∷ 10 ∷ 10 ∷ [],
    )
    ∷ (map (all_refusal 2 B 1 4) (0 ∷ 4 ∷ 7 ∷ 8 ∷ 9 ∷ 16 ∷ 256 ∷ 18446744073709551615 ∷ []), 10 ∷ 10 ∷ 10 ∷ 0 ∷ 10 ∷ 10 ∷ 10 ∷ 10 ∷ [])
    ∷ (
      map (λ k. all_refusal 2 (sheet 4 2 1 3 7 0 0 0) 0 k 12) (0 ∷ 3 ∷ 5 ∷ 6 ∷ 7 ∷ 12 ∷ 256 ∷ 18446744073709551615 ∷ []),
      10 ∷ 10 ∷ 10 ∷ 0 ∷ 10 ∷ 10 ∷ 10 ∷ 10 ∷ [],
    )
    ∷ (
      map (all_refusal 2 (sheet 4 2 1 3 7 0 0 0) 0 6) (0 ∷ 6 ∷ 11 ∷ 12 ∷ 13 ∷ 24 ∷ 256 ∷ 18446744073709551615 ∷ []),
      10 ∷ 10 ∷ 10 ∷ 0 ∷ 10 ∷ 10 ∷ 10 ∷ 10 ∷ [],
    )
    ∷ (
      map (λ k. all_refusal 2 (sheet 4 5 3 1 2 2 2 4) 3 k 8) (0 ∷ 2 ∷ 3 ∷ 4 ∷ 5 ∷ 8 ∷ 256 ∷ 18446744073709551615 ∷ []),
      10 ∷ 10 ∷ 10 ∷ 0 ∷ 10 ∷ 10 ∷ 10 ∷ 10 ∷ [],
    )
    ∷ (
      map (all_refusal 2 (sheet 4 5 3 1 2 2 2 4) 3 4) (0 ∷ 4 ∷ 7 ∷ 8 ∷ 9 ∷ 16 ∷ 256 ∷ 18446744073709551615 ∷ []),
      10 ∷ 10 ∷ 10 ∷ 0 ∷ 10 ∷ 10 ∷ 10 ∷ 10 ∷ [],
    )
    ∷ (
      map (λ k. all_refusal 2 (sheet 8 8 3 1 2 2 2 0) 3 k 8) (0 ∷ 2 ∷ 3 ∷ 4 ∷ 5 ∷ 8 ∷ 256 ∷ 18446744073709551615 ∷ []),
      10 ∷ 10 ∷ 10 ∷ 0 ∷ 10 ∷ 10 ∷ 10 ∷ 10 ∷ [],
    )
    ∷ (
      map (all_refusal 2 (sheet 8 8 3 1 2 2 2 0) 3 4) (0 ∷ 4 ∷ 7 ∷ 8 ∷ 9 ∷ 16 ∷ 256 ∷ 18446744073709551615 ∷ []),
      10 ∷ 10 ∷ 10 ∷ 0 ∷ 10 ∷ 10 ∷ 10 ∷ 10 ∷ [],
    )
    ∷ (
      map (λ k. all_refusal 2 (sheet 12 3 2 1 2 3 0 0) 2 k 12) (0 ∷ 2 ∷ 3 ∷ 4 ∷ 5 ∷ 6 ∷ 7 ∷ 12 ∷ 256 ∷ 18446744073709551615 ∷ []),
      10 ∷ 10 ∷ 10 ∷ 10 ∷ 10 ∷ 0 ∷ 10 ∷ 10 ∷ 10 ∷ 10 ∷ [],
    )
    ∷ (
      map (all_refusal 2 (sheet 12 3 2 1 2 3 0 0) 2 6) (0 ∷ 4 ∷ 6 ∷ 11 ∷ 12 ∷ 13 ∷ 24 ∷ 256 ∷ 18446744073709551615 ∷ []),
      10 ∷ 10 ∷ 10 ∷ 10 ∷ 0 ∷ 10 ∷ 10 ∷ 10 ∷ 10 ∷ [],
    )
    ∷ []

pub all_refused-hold : map (λ r. r.0) all_refused ≡ map (λ r. r.1) all_refused
unfolding all_refused all_refusal
all_refused-hold = refl

-- The call: the number, then what it leaves in the list.
pub all_made : List Row
all_made =
    (all A 0 (4 ∷ []) (258 ∷ 259 ∷ []), 0 ∷ 4 ∷ 3 ∷ [])
    ∷ (all A 1 (0 ∷ 11 ∷ []) (258 ∷ 259 ∷ 260 ∷ 261 ∷ []), 0 ∷ 0 ∷ 0 ∷ 11 ∷ 0 ∷ [])
    ∷ (all B 0 (4 ∷ []) (258 ∷ 259 ∷ []), 0 ∷ 4 ∷ 3 ∷ [])
    ∷ (all B 1 (7 ∷ 8 ∷ []) (258 ∷ 259 ∷ 260 ∷ 261 ∷ []), 0 ∷ 7 ∷ 6 ∷ 8 ∷ 7 ∷ [])
    ∷ (all B 2 (6 ∷ 11 ∷ 7 ∷ []) (258 ∷ 259 ∷ 260 ∷ 261 ∷ 262 ∷ 263 ∷ []), 0 ∷ 6 ∷ 7 ∷ 11 ∷ 6 ∷ 7 ∷ 9 ∷ [])
    ∷ (all (sheet 4 2 1 3 7 0 0 0) 0 (1 ∷ 9 ∷ 0 ∷ []) (258 ∷ 259 ∷ 260 ∷ 261 ∷ 262 ∷ 263 ∷ []), 0 ∷ 1 ∷ 1 ∷ 9 ∷ 1 ∷ 0 ∷ 13 ∷ [])
    ∷ (
      all (sheet 4 2 1 3 7 0 0 0) 1 (9 ∷ 8 ∷ 1 ∷ 7 ∷ 10 ∷ 6 ∷ 7 ∷ []) (258 ∷ 259 ∷ 260 ∷ 261 ∷ 262 ∷ 263 ∷ 264 ∷ 265 ∷ 266 ∷ 267 ∷ 268
          ∷ 269 ∷ 270 ∷ 271 ∷ []),
      0 ∷ 9 ∷ 13 ∷ 8 ∷ 14 ∷ 1 ∷ 12 ∷ 7 ∷ 11 ∷ 10 ∷ 1 ∷ 6 ∷ 15 ∷ 7 ∷ 6 ∷ [],
    )
    ∷ (all (sheet 4 5 3 1 2 2 2 4) 0 (7 ∷ []) (258 ∷ 259 ∷ []), 0 ∷ 7 ∷ 6 ∷ [])
    ∷ (all (sheet 4 5 3 1 2 2 2 4) 1 (2 ∷ 9 ∷ []) (258 ∷ 259 ∷ 260 ∷ 261 ∷ []), 0 ∷ 2 ∷ 4 ∷ 9 ∷ 3 ∷ [])
    ∷ (all (sheet 4 5 3 1 2 2 2 4) 2 (14 ∷ 4 ∷ []) (258 ∷ 259 ∷ 260 ∷ 261 ∷ []), 0 ∷ 14 ∷ 11 ∷ 4 ∷ 9 ∷ [])
    ∷ (all (sheet 4 5 3 1 2 2 2 4) 3 (3 ∷ 13 ∷ []) (258 ∷ 259 ∷ 260 ∷ 261 ∷ []), 0 ∷ 3 ∷ 5 ∷ 13 ∷ 2 ∷ [])
    ∷ (all (sheet 8 8 3 1 2 2 2 0) 0 (117 ∷ []) (258 ∷ 259 ∷ []), 0 ∷ 117 ∷ 181 ∷ [])
    ∷ (all (sheet 8 8 3 1 2 2 2 0) 1 (148 ∷ 99 ∷ []) (258 ∷ 259 ∷ 260 ∷ 261 ∷ []), 0 ∷ 148 ∷ 30 ∷ 99 ∷ 73 ∷ [])
    ∷ (all (sheet 8 8 3 1 2 2 2 0) 2 (119 ∷ 36 ∷ []) (258 ∷ 259 ∷ 260 ∷ 261 ∷ []), 0 ∷ 119 ∷ 177 ∷ 36 ∷ 123 ∷ [])
    ∷ (all (sheet 8 8 3 1 2 2 2 0) 3 (73 ∷ 86 ∷ []) (258 ∷ 259 ∷ 260 ∷ 261 ∷ []), 0 ∷ 73 ∷ 140 ∷ 86 ∷ 67 ∷ [])
    ∷ (all (sheet 12 3 2 1 2 3 0 0) 0 (2618 ∷ []) (258 ∷ 259 ∷ []), 0 ∷ 2618 ∷ 2475 ∷ [])
    ∷ (all (sheet 12 3 2 1 2 3 0 0) 1 (627 ∷ 1253 ∷ []) (258 ∷ 259 ∷ 260 ∷ 261 ∷ []), 0 ∷ 627 ∷ 453 ∷ 1253 ∷ 1086 ∷ [])
    ∷ (
      all (sheet 12 3 2 1 2 3 0 0) 2 (512 ∷ 1562 ∷ 901 ∷ []) (258 ∷ 259 ∷ 260 ∷ 261 ∷ 262 ∷ 263 ∷ []),
      0 ∷ 512 ∷ 1171 ∷ 1562 ∷ 598 ∷ 901 ∷ 1992 ∷ [],
    )
    ∷ (all B 1 (65535 ∷ 19 ∷ []) (258 ∷ 259 ∷ 260 ∷ 261 ∷ []), 0 ∷ 65535 ∷ 1 ∷ 19 ∷ 1 ∷ [])
    ∷ (all A 2 (1 ∷ []) (258 ∷ 259 ∷ []), 9 ∷ 258 ∷ 259 ∷ [])
    ∷ (all A 1 (1 ∷ []) (258 ∷ 259 ∷ []), 10 ∷ 258 ∷ 259 ∷ [])
    ∷ (all A 1 (1 ∷ []) (258 ∷ 259 ∷ 260 ∷ 261 ∷ []), 10 ∷ 258 ∷ 259 ∷ 260 ∷ 261 ∷ [])
    ∷ (all A 0 (1 ∷ []) (258 ∷ 259 ∷ 260 ∷ 261 ∷ []), 10 ∷ 258 ∷ 259 ∷ 260 ∷ 261 ∷ [])
    ∷ (all A 0 [] [], 10 ∷ [])
    ∷ (all A 0 (1 ∷ 2 ∷ []) (258 ∷ 259 ∷ []), 10 ∷ 258 ∷ 259 ∷ [])
    ∷ (all A 0 (1 ∷ []) (258 ∷ []), 10 ∷ 258 ∷ [])
    ∷ (all A 0 (1 ∷ []) (258 ∷ 259 ∷ 260 ∷ []), 10 ∷ 258 ∷ 259 ∷ 260 ∷ [])
    ∷ (all (sheet 4 4 2 1 2 3 0 0) 0 (1 ∷ []) (258 ∷ 259 ∷ []), 4 ∷ 258 ∷ 259 ∷ [])
    ∷ (all (sheet 4 2 1 1 2 0 0 7) 0 (1 ∷ []) (258 ∷ 259 ∷ []), 14 ∷ 258 ∷ 259 ∷ [])
    ∷ []

pub all_made-hold : map (λ r. r.0) all_made ≡ map (λ r. r.1) all_made
unfolding all_made all_refusal all_syndromes
all_made-hold = refl

-- In C's bytes.
pub all_bytes : List Row
all_bytes =
    (as_bytes (all_syndromes A (as_numbers (0x0F ∷ 0x00 ∷ 0x09 ∷ 0x00 ∷ []))), 0x0F ∷ 0x00 ∷ 0x0A ∷ 0x00 ∷ 0x09 ∷ 0x00 ∷ 0x08 ∷ 0x00 ∷ [])
    ∷ (
      as_bytes (all_syndromes (sheet 8 8 3 1 2 2 2 0) (as_numbers (0x6A ∷ 0x00 ∷ 0x05 ∷ 0x00 ∷ []))),
      0x6A ∷ 0x00 ∷ 0xFD ∷ 0x00 ∷ 0x05 ∷ 0x00 ∷ 0xE6 ∷ 0x00 ∷ [],
    )
    ∷ (
      as_bytes (all_syndromes (sheet 12 3 2 1 2 3 0 0) (as_numbers (0x4C ∷ 0x02 ∷ 0x44 ∷ 0x08 ∷ 0x0E ∷ 0x0D ∷ []))),
      0x4C ∷ 0x02 ∷ 0x90 ∷ 0x04 ∷ 0x44 ∷ 0x08 ∷ 0x53 ∷ 0x02 ∷ 0x0E ∷ 0x0D ∷ 0x3F ∷ 0x08 ∷ [],
    )
    ∷ []

pub all_bytes-hold : map (λ r. r.0) all_bytes ≡ map (λ r. r.1) all_bytes
unfolding all_bytes all_syndromes as_bytes as_numbers
all_bytes-hold = refl
