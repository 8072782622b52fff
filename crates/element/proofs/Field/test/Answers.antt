use mathlib.Core.Path.{◌≡◌, refl, sym, ap, ◌∙◌}
use mathlib.Core.Bool.{true, false}
use Prim.Native.Nat.{ℕ, ◌≤◌, ◌<◌, ◌^◌}
use lib.Dec.{ltb}
use borrow.Author.Tests.{lt-ltb, le-ltb}
use Rattle.element.specs.declared.Field.{Field}
use Rattle.element.specs.Fields.{is_field, field-sized}
use Rattle.element.specs.Operations.{refusal-by}
use Rattle.element.proofs.Field.test.Goals as goal
use Rattle.element.proofs.Field.test.Goals.{Else-not-known, then-self-a-via-then-self-a, then-self-a-via-else-self-a+then-self-b}

field : (c : Else-not-known) → is_field c.args.self ≡ true
field c = sym c.known.ensures ∙ c.if-not-known.false

-- where the field is known, an operand's test
module _ (f : Field) (i : is_field f ≡ true) (x : ℕ) where
  inside : x < f.size → ltb x (2 ^ f.q) ≡ true
  inside h = ap (ltb x) (sym (field-sized f i).size) ∙ lt-ltb x f.size h

  outside : f.size ≤ x → ltb x (2 ^ f.q) ≡ false
  outside h = ap (ltb x) (sym (field-sized f i).size) ∙ le-ltb x f.size h

pub returns-then-not-known : goal.returns-then-not-known
returns-then-not-known c =
    let s = c.args in
    sym (refusal-by s.self s.a.0 s.b.0 false _ _ (sym c.known.ensures ∙ c.if-not-known.true) refl refl)

pub returns-then-self-a : goal.returns-then-self-a
returns-then-self-a c =
    let s = c.args in
    let i = field (goal.at.returns-then-self-a c).Else-not-known in
    elim c.then-self-a.branch [
      | then-self-a-via-then-self-a w ↦ sym (refusal-by s.self s.a.0 s.b.0 true false _ i (outside s.self i s.a.0 w.if-self-a.true) refl)
      | then-self-a-via-else-self-a+then-self-b w ↦
          sym (refusal-by s.self s.a.0 s.b.0 true true false i (inside s.self i s.a.0 w.if-self-a.false) (outside s.self i s.b.0 w.if-self-b.true))
    ]

pub returns : goal.returns
returns c =
    let s = c.args in
    let i = field (goal.at.returns c).Else-not-known in
    sym (refusal-by s.self s.a.0 s.b.0 true true true i (inside s.self i s.a.0 c.if-self-a.false) (inside s.self i s.b.0 c.if-self-b.false))
