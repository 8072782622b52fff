use borrow.Author.Tests.{eq-eqb}
use mathlib.Core.Path.{sym, ap, ◌∙◌}
use Rattle.code.specs.Answers.{answer_number}
use Rattle.code.specs.Demands.{Alike}
use Rattle.code.proofs.Theorems.{demands}
use Rattle.gate_rounds.specs.Answers.{is-done}
use Rattle.gate_rounds.proofs.two_widths.Goals as goal
use Rattle.gate_rounds.proofs.two_widths.Goals.{After-write-s}

alike : (c : After-write-s) → (Alike c.write-r.new.page c.write-s.new.page c.write-r.result c.write-s.result)
alike c =
    let a = c.args in
    (demands a.p c.requires.0).1.alike a.l a.m a.blocks.now a.one.now a.two.now _ _ _ _ c.requires.1 c.requires.2 c.requires.3 c.write-r.ensures c.write-s.ensures

pub expect-requires : goal.expect-requires
expect-requires c = eq-eqb _ _ (c.number.ensures ∙ ap answer_number (alike (goal.at.expect-requires c).After-write-s).answers ∙ sym c.number-2.ensures)

pub expect-requires-2 : goal.expect-requires-2
expect-requires-2 c = c.same.ensures.1 ((alike (goal.at.expect-requires-2 c).After-write-s).pages (is-done _ (sym c.done.ensures ∙ c.if-not-done.false)))
