-- The requirement's worked cases (docs/REQUIREMENT.md):
-- those of 'On the counter' that are marked *, and the writer program's two, in one table with one proof;
-- and those of the quote, in another.
use Rattle.std.specs.Prelude.{◌≡◌, refl, List, [], ◌∷◌, map}
use Rattle.polynomial.specs.Digits.{value}
use Rattle.field.specs.Field.{pow}
use Rattle.field.specs.Fields.{field_of}
use Rattle.generator.specs.Generator.{generator, width}
use Rattle.code.specs.Parameters.{sheet, sheet_refusal}
use Rattle.code.specs.Code.{all_syndromes, odd_syndromes, syndromes}
use Rattle.code.specs.Refusals.{write_refusal}
use Rattle.code.specs.Layout.{page_of}
use Rattle.code.specs.Calls.{judgement_number, judge_answer, quote}
use Rattle.code.specs.Writer.{writer}
use Rattle.cases.specs.Sheets.{Row, A, B, page}

pub table : List Row
table =
    (generator (field_of 4) 1 ∷ [], 0x13 ∷ [])
    ∷ (generator (field_of 4) 2 ∷ [], 0x1D1 ∷ [])
    ∷ (generator (field_of 4) 3 ∷ [], 0x537 ∷ [])
    ∷ (generator (field_of 4) 4 ∷ [], 0x7FFF ∷ [])
    ∷ (generator (field_of 4) 7 ∷ [], 0x7FFF ∷ [])
    ∷ (page A 4 (0x00 ∷ 0x01 ∷ 0x00 ∷ []), 0x13 ∷ 0x00 ∷ 0x13 ∷ 0x00 ∷ [])
    ∷ (page A 4 (0x01 ∷ 0x01 ∷ 0x00 ∷ []), 0xC2 ∷ 0x01 ∷ 0x13 ∷ 0x00 ∷ [])
    ∷ (page B 6 (0x00 ∷ 0x00 ∷ 0x01 ∷ 0x00 ∷ []), 0x26 ∷ 0x00 ∷ 0x35 ∷ 0x00 ∷ 0x13 ∷ 0x00 ∷ [])
    ∷ (judgement_number (judge_answer A (0xFF ∷ 0x7F ∷ 0xFF ∷ 0x7F ∷ [])) ∷ [], 96 ∷ [])
    ∷ (judgement_number (judge_answer A (0x01 ∷ 0x00 ∷ 0x00 ∷ 0x00 ∷ [])) ∷ [], 32 ∷ [])
    ∷ (judgement_number (judge_answer A (0x13 ∷ 0x00 ∷ 0x00 ∷ 0x00 ∷ [])) ∷ [], 64 ∷ [])
    ∷ (syndromes A 4 (value 8 (0x02 ∷ 0x00 ∷ [])), 2 ∷ 4 ∷ 8 ∷ 3 ∷ [])
    ∷ (odd_syndromes A 2 (value 8 (0x02 ∷ 0x00 ∷ [])), 2 ∷ 8 ∷ [])
    ∷ (all_syndromes A (2 ∷ 8 ∷ []), 2 ∷ 4 ∷ 8 ∷ 3 ∷ [])
    ∷ (sheet_refusal (sheet 4 4 2 1 2 3 0 0) ∷ [], 4 ∷ [])
    ∷ (sheet_refusal (sheet 4 4 2 1 2 2 0 0) ∷ [], 0 ∷ [])
    ∷ (sheet_refusal (sheet 8 4 1 1 42 0 0 0) ∷ [], 0 ∷ [])
    ∷ (sheet_refusal (sheet 8 4 1 1 43 0 0 0) ∷ [], 4 ∷ [])
    ∷ (writer (0x04 ∷ 0x02 ∷ 0x01 ∷ 0x08 ∷ 0x01 ∷ 0x02 ∷ 0x01 ∷ 0x01 ∷ 0x00 ∷ []), 0x00 ∷ 0xC2 ∷ 0x01 ∷ 0x13 ∷ 0x00 ∷ [])
    ∷ (writer [], 0x01 ∷ [])
    ∷ []

pub starred : map (λ r. r.0) table ≡ map (λ r. r.1) table
unfolding table value generator field_of pow write_refusal page_of judge_answer syndromes odd_syndromes all_syndromes sheet_refusal writer
starred = refl

-- ---- check and data bits
pub quotes : List Row
quotes =
    (map (width (field_of 4)) (1 ∷ 2 ∷ 3 ∷ 4 ∷ 7 ∷ []), 4 ∷ 8 ∷ 10 ∷ 14 ∷ 14 ∷ [])
    ∷ (width (field_of 12) 39 ∷ [], 462 ∷ [])
    ∷ (map (width (field_of 8)) (16 ∷ 17 ∷ []), 124 ∷ 124 ∷ [])
    ∷ (quote A, 4 ∷ 8 ∷ 0 ∷ 0 ∷ 7 ∷ 11 ∷ 0 ∷ 0 ∷ 0 ∷ 0 ∷ 0 ∷ 0 ∷ [])
    ∷ (quote B, 4 ∷ 8 ∷ 10 ∷ 0 ∷ 5 ∷ 7 ∷ 11 ∷ 0 ∷ 0 ∷ 0 ∷ 0 ∷ 0 ∷ [])
    ∷ []

pub quotes-hold : map (λ r. r.0) quotes ≡ map (λ r. r.1) quotes
unfolding quotes width field_of quote
quotes-hold = refl
