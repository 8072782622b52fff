use Rattle.code.specs.Answers.{answer_number}
use borrow.Author.Tests.{eq-eqb}
use mathlib.Core.Bool.{false}
use mathlib.Core.Path.{◌≡◌, sym, ◌∙◌}
use Rattle.gate_rounds.specs.Answers.{is_done}
use Rattle.gate_rounds.specs.Singles.{page-kept, same_number, same-page}
use Rattle.gate_rounds.proofs.single.Goals as goal
use Rattle.gate_rounds.proofs.single.Goals.{After-write-r}

-- the two calls
found : (w : After-write-r) → (let a = w.args in
    (answer_number w.write-r.result ≡ a.said) × (w.write-r.new.page ≡ a.page.now)
    × (is_done w.write-r.result ≡ false → a.page.now ≡ a.one.now))
found w =
    let a = w.args in (
      same_number a.p a.l a.blocks.now a.one.now a.page.now _ a.said _ w.requires.0 w.write-r.ensures,
      same-page a.p a.l a.blocks.now a.one.now a.page.now _ a.said _ w.requires.0 w.write-r.ensures,
      page-kept a.p a.l a.blocks.now a.one.now a.page.now _ a.said _ w.requires.0 w.write-r.ensures,
    )

pub expect-requires : goal.expect-requires
expect-requires c = c.listable.ensures c.requires.2

pub expect-requires-2 : goal.expect-requires-2
expect-requires-2 c = eq-eqb _ _ (c.number.ensures ∙ (found (goal.at.expect-requires-2 c).After-write-r).0)

pub expect-requires-3 : goal.expect-requires-3
expect-requires-3 c = c.same.ensures.1 (found (goal.at.expect-requires-3 c).After-write-r).1

pub expect-requires-4 : goal.expect-requires-4
expect-requires-4 c = c.same-2.ensures.1 ((found (goal.at.expect-requires-4 c).After-write-r).2 (sym c.done.ensures ∙ c.if-done.false) ∙ sym c.requires.1)
