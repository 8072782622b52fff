-- The row of a generator holds it, and its degree is that of the row's polynomial.
use Rattle.std.specs.Prelude.{◌≡◌, List, ℕ, ◌*◌, ◌≤◌, ◌<◌, length}
use Rattle.std.proofs.Common.{ap, ◌∙◌, suc-le-suc, arith, lit≤, pow_mono}
use Rattle.std.proofs.Math.Nat as Nat
use Rattle.polynomial.specs.Digits.{value, length_digits, value-digits}
use Rattle.polynomial.specs.Division.{deg, lt-of-deg}
use Rattle.field.specs.Fields.{Known, field_of, field_of-exponent}
use Rattle.generator.specs.Generator.{generator, width}
use Rattle.generator.proofs.Generator.{deg-generator, generator-deg, generator-pos}
use Rattle.generator.proofs.Next.{width-le}
use Rattle.code.proofs.Accepted.{q-high}
use Rattle.tables.specs.Generators.{strengths}
use Rattle.generator_rows.specs.Rows.{row}

module _ (q t : ℕ) (k : Known q) (h : t ≤ strengths q) where
  -- at most q t, so at most 768
  pub width-high : width (field_of q) t ≤ 768
  width-high =
      Nat.le_trans (width-le (field_of q) t)
      (Nat.le_trans (Nat.le_of_eq (ap (λ (e : ℕ). e * t) (field_of-exponent q k)))
      (Nat.mul-le-mul {n₂ = 12} {m₂ = 64} (q-high q k) (omega arith)))

  module _ (r : List ℕ) (e : r ≡ row (generator (field_of q) t)) where
    pub row_words : length r ≡ 13
    row_words = ap length e ∙ length_digits 64 13 (generator (field_of q) t)

    row-value : value 64 r ≡ generator (field_of q) t
    row-value =
        ap (value 64) e
        ∙ value-digits 64 13 (generator (field_of q) t)
        (Nat.lt_of_lt_of_le (lt-of-deg (width (field_of q) t) (generator-deg (field_of q) t))
        (pow_mono {j = 64 * 13} (Nat.le_trans (suc-le-suc width-high) (lit≤ {m = 769} {n = 832} tt))))

    pub row-pos : 0 < value 64 r
    row-pos = rw row-value (generator-pos (field_of q) t)

    pub row-deg : deg (value 64 r) ≡ width (field_of q) t
    row-deg = ap deg row-value ∙ deg-generator (field_of q) t
