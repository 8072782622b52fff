use Rattle.std.specs.Prelude.{Result, Ok, Err}
use mathlib.Core.Path.{sym, ap, ◌∙◌}
use Rattle.code.specs.Answers.{Outcome}
use Rattle.code.specs.Demands.{Sums}
use Rattle.code.proofs.Theorems.{demands}
use Rattle.gate_rounds.specs.Answers.{is_done}
use Rattle.gate_rounds.proofs.sums.Goals as goal
use Rattle.gate_rounds.proofs.sums.Goals.{After-write-r}

summed : (c : After-write-r) → (let a = c.args in
    Sums a.p a.a.now a.b.now c.put.new.page c.put-2.new.page c.write-r.new.page (Ok tt) (Ok tt) c.write-r.result)
summed c =
    let a = c.args in
    (demands a.p c.requires.0).1.sums a.k a.l a.m a.a.now a.b.now a.x.now a.y.now a.xy.now _ _ _ _ _ _ c.requires.1 c.requires.2 c.requires.3 c.requires.4.fits c.requires.5.fits
    c.requires.7 c.requires.8 c.requires.9 c.requires.4.other c.requires.5.other c.requires.11.other c.put.ensures c.put-2.ensures (rw c.add_bytes.ensures at c.write-r.ensures)

pub expect-requires : goal.expect-requires
expect-requires c = c.done.ensures ∙ ap is_done (summed (goal.at.expect-requires c).After-write-r).done

pub expect-requires-2 : goal.expect-requires-2
expect-requires-2 c = c.same.ensures.1 ((summed (goal.at.expect-requires-2 c).After-write-r).page ∙ sym c.add_bytes-2.ensures)
