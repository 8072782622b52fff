use mathlib.Core.Path.{◌≡◌, sym, ◌∙◌}
use Prim.Native.Nat.{ℕ}
use native.Mathlib.Omega.{arith}
use Rattle.field.specs.Elements.{power}
use Rattle.std.specs.Prelude.{Result}
use Rattle.element.specs.declared.Element.{Element}
use Rattle.element.specs.declared.Field.{Field}
use Rattle.element.specs.declared.FieldError.{FieldError}
use Rattle.element.specs.Exponents.{raise, power-raise}
use Rattle.element.specs.Operations.{Gives, refusal, refusal-small}
use Rattle.element.proofs.Field.alpha_power.Goals as goal

of-alpha : (f : Field) (k : ℕ) (r : Result Element FieldError) → Gives (refusal f 2 0) (raise f.q 2 k) r → Gives (refusal f 0 0) (power f.q k) r
of-alpha f k r h =
    let e : refusal f 0 0 ≡ refusal f 2 0 = refusal-small f 0 0 (omega arith) (omega arith) ∙ sym (refusal-small f 2 0 (omega arith) (omega arith)) in
    rw (e, power-raise f.q k) h

pub returns : goal.returns
returns c = of-alpha _ _ _ c.power.ensures
