use mathlib.Core.Path.{refl, sym, ap, ◌∙◌}
use native.Mathlib.Nat as Nat
use native.Mathlib.Omega.{arith}
use Prim.Native.Nat.{ℕ, ◌+◌, ◌≤◌, zero-le}
use lib.ListN.{length-take}
use Rattle.code.proofs.Answers.{named}
use Rattle.code.proofs.Judge.{answer-sub, answer-nested, answer-member}
use Rattle.code.specs.Layout.{words_of}
use Rattle.layout.specs.Sizes.{nested-high}
use Rattle.judge.proofs.verdict_of.Goals as goal
use Rattle.judge.proofs.verdict_of.Goals.{After-nested_bytes-k}

-- the room for a nested word lies within the array
fit : (c : After-nested_bytes-k) → c.nested_bytes-k.result + 8 ≤ 520
fit c = omega (arith, c.nested_bytes-k.ensures, nested-high c.args.p c.requires.0)

pub overflow_add-k : goal.overflow_add-k
overflow_add-k c = omega (arith, fit (goal.at.overflow_add-k c).After-nested_bytes-k)

pub prepare-requires : goal.prepare-requires
prepare-requires c = (c.requires.0, c.requires.1, zero-le, c.degree_at-w.ensures, refl)

pub first_failing-i-requires : goal.first_failing-i-requires
first_failing-i-requires c = record { accepts = c.requires.0; width = c.degree_at-w.ensures; table = c.prepare.ensures; exact = c.requires.2; clear = c.requires.3 }

pub returns-then-i-p : goal.returns-then-i-p
returns-then-i-p c =
    let a = c.args in
    let cs = words_of a.p a.page.now in
    named a.p cs _ (answer-sub a.p cs c.first_failing-i.result c.first_failing-i.ensures c.if-i-p.true)

pub slice_bounds-room-end : goal.slice_bounds-room-end
slice_bounds-room-end c = fit (goal.at.slice_bounds-room-end c).After-nested_bytes-k

pub slice_bounds-first_failing_nested-end : goal.slice_bounds-first_failing_nested-end
slice_bounds-first_failing_nested-end c = sym (length-take (c.nested_bytes-k.result + 8) _ ∙ Nat.min-eq_left (fit (goal.at.slice_bounds-first_failing_nested-end c).After-nested_bytes-k))

pub first_failing_nested-l-requires : goal.first_failing_nested-l-requires
first_failing_nested-l-requires c =
    record {
      accepts = c.requires.0;
      rowed = c.requires.1;
      exact = c.requires.2;
      table = c.t-1.given;
      room = length-take (c.nested_bytes-k.result + 8) _ ∙ Nat.min-eq_left (fit (goal.at.first_failing_nested-l-requires c).After-nested_bytes-k) ∙ ap (λ (j : ℕ). j + 8) c.nested_bytes-k.ensures;
    }

pub returns-then-l-p : goal.returns-then-l-p
returns-then-l-p c =
    let a = c.args in
    let cs = words_of a.p a.page.now in
    named a.p cs _ (answer-nested a.p cs c.first_failing-i.result c.first_failing_nested-l.result c.first_failing-i.ensures c.if-i-p.false c.first_failing_nested-l.ensures c.if-l-p.true)

pub returns : goal.returns
returns c =
    let a = c.args in
    let cs = words_of a.p a.page.now in
    named a.p cs _ (answer-member a.p cs c.first_failing-i.result c.first_failing_nested-l.result c.first_failing-i.ensures c.if-i-p.false c.first_failing_nested-l.ensures c.if-l-p.false)
