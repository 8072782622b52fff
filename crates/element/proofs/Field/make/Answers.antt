use Rattle.std.proofs.Common.{rules, tests, sym, refl, ◌∙◌, ◌≡◌, ℕ, Bool, true, false, cond, eqb, eqb-true, List, [], ◌∷◌}
use borrow.Author.Tests.{eqb-false}
use Rattle.std.specs.Prelude.{Option, Some, None}
use Rattle.std.specs.Option.{ok_or}
use Rattle.std.specs.List.{find}
use Rattle.std.proofs.lemmas.Iterator.{YieldsList-from_slice}
use Rattle.std.proofs.lemmas.Iterator.Search.{find_from_yields_List}
use Rattle.field.specs.Fields.{field_polynomial}
use Rattle.element.specs.declared.Field.{Field}
use Rattle.element.specs.declared.FieldError.{FieldError}
use Rattle.element.specs.Fields.{MadeOf, field_at, made_by_lem, unknown}
use Rattle.element.proofs.Field.make.Goals as goal

-- the table
abbrev fields : List Field
fields = field_at 4 ∷ field_at 8 ∷ field_at 12 ∷ []

abbrev found : ℕ → Option Field
found q = find (λ f. eqb f.q q) fields

made-found : (q : ℕ) → MadeOf q (ok_or (found q) FieldError.NoField)
made-found q = go (eqb 4 q) (eqb 8 q) (eqb 12 q) refl refl refl
  where
    go : (a b c : Bool) → eqb 4 q ≡ a → eqb 8 q ≡ b → eqb 12 q ≡ c
        → MadeOf q (ok_or (cond a (Some (field_at 4)) (cond b (Some (field_at 8)) (cond c (Some (field_at 12)) None))) FieldError.NoField)
    go true b c x y z = made_by_lem q 4 true (sym (eqb-true 4 q x)) refl
    go false true c x y z = made_by_lem q 8 true (sym (eqb-true 8 q y)) refl
    go false false true x y z = made_by_lem q 12 true (sym (eqb-true 12 q z)) refl
    go false false false x y z =
        made_by_lem q q false refl (unknown q (λ e. eqb-false 4 q x (sym e)) (λ e. eqb-false 8 q y (sym e)) (λ e. eqb-false 12 q z (sym e)))

pub returns : goal.returns
unfolding field_polynomial
returns c =
    let e : c.copied.result ≡ found c.args.q =
    c.copied.ensures ∙ find_from_yields_List (λ f. eqb f.q c.args.q) _ _ c.find.result c.find.ensures.ran
    (YieldsList-from_slice fields c.iter.ensures.rest) (λ x b q k. search (rules, tests)) in
    rw (c.ok_or.ensures.value, e) (made-found c.args.q)
