use mathlib.Core.Path.{◌≡◌, refl, sym, ap, ◌∙◌}
use mathlib.Core.Bool.{Bool, true, false, ◌&&◌}
use lib.Dec.{eqb}
use Rattle.std.proofs.Common.{rules}
use borrow.Author.Tests.{eq-eqb}
use Rattle.std.specs.Prelude.{Result, Ok, Err}
use Rattle.std.specs.Result.{MatchResult}
use Rattle.element.specs.declared.Field.{Field}
use Rattle.element.specs.declared.FieldError.{FieldError}
use Rattle.element.specs.Fields.{MadeOf, agrees, is_field, is_field-by, made-known, made-field, made_none}
use Rattle.element.proofs.Field.known.Goals as goal

abbrev same : Field → Field → Bool
same f e = eqb f.q e.q && (eqb f.polynomial e.polynomial && (eqb f.size e.size && eqb f.order e.order))

-- where the first of the four numbers agrees
other-three : (a b c d : Bool) → a ≡ true → a && (b && (c && d)) ≡ b && c && d
other-three a true c d e = rw e refl
other-three a false c d e = rw e refl

agrees-by : (f e : Field) → eqb f.q e.q ≡ true → same f e ≡ agrees f e
agrees-by f e h = other-three (eqb f.q e.q) (eqb f.polynomial e.polynomial) (eqb f.size e.size) (eqb f.order e.order) h

-- P is what the closure says of the field that is made
by_made : (f : Field) (m : Result Field FieldError) (r : Bool) (P : Field → Type 0) → MadeOf f.q m → ((e : Field) → P e → r ≡ same f e)
    → MatchResult m P (λ _. r ≡ false) → r ≡ is_field f
by_made f (Ok e) r P h t s =
    let g = made-field _ _ h _ refl in
    let q : eqb f.q e.q ≡ true = eq-eqb _ _ (sym (ap (λ (f : Field). f.q) g)) in
    t e s ∙ agrees-by f e q ∙ sym (is_field-by f true (made-known _ _ h _ refl) ∙ ap (agrees f) (sym g))
by_made f (Err e) r P h t s = s ∙ sym (is_field-by f false (made_none _ _ h _ refl))

pub returns : goal.returns
returns c = by_made c.args.self c.make.result c.is_ok_and.result _ c.make.ensures (λ e p. search rules) c.is_ok_and.ensures
