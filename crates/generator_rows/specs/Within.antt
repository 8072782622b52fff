-- The strengths of an accepted sheet stand in the tables.
use Rattle.std.specs.Prelude.{◌≡◌, ℕ, ◌≤◌}
use Rattle.std.proofs.Common.{ap, sym, ◌∙◌, zero-le, arith}
use Rattle.std.proofs.Math.Nat as Nat
use Rattle.field.specs.Fields.{Known, field_of}
use Rattle.generator.specs.Generator.{width}
use Rattle.code.specs.declared.Parameters.{Parameters}
use Rattle.code.specs.Accepted.{Rules}
use Rattle.code.proofs.Accepted.{accepted, rising}
use Rattle.code.specs.Code.{degree}
use Rattle.code.specs.Parameters.{Accepted, strength}
use Rattle.code.proofs.Steps.{degree-eq}
use Rattle.tables.specs.Generators.{strengths}
use Rattle.element.specs.declared.Field.{Field}
use Rattle.element.specs.Fields.{field_at}

-- level a of the sheet, f being its field
module _ (p : Parameters) (A : Accepted p) (f : Field) (e : f ≡ field_at p.q) (a : ℕ) (h : a ≤ p.v) where
  R : Rules p
  R = accepted p A

  pub q-is : f.q ≡ p.q
  q-is = ap (λ (f : Field). f.q) e

  -- what generator_row and degree require
  pub level-within : Known f.q × (1 ≤ strength p a) × (strength p a ≤ strengths f.q)
  level-within =
      rw q-is (
        R.known,
        omega (arith, R.t-low, rising p R 0 a zero-le h),
        omega (arith, R.high, R.short, rising p R a p.v h (Nat.le_refl p.v)),
      )

  pub level-degree : width (field_of f.q) (strength p a) ≡ degree p a
  level-degree = ap (λ (q : ℕ). width (field_of q) (strength p a)) q-is ∙ sym (degree-eq p a)
