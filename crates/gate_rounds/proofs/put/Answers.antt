use mathlib.Core.Path.{◌∙◌, ap}
use Rattle.code.specs.Demands.{WriteLaws}
use Rattle.code.proofs.Theorems.{demands}
use Rattle.gate_rounds.specs.Answers.{is_done}
use Rattle.gate_rounds.proofs.put.Goals as goal
use Rattle.gate_rounds.proofs.put.Goals.{After-write-r}

written : (c : After-write-r) → (let a = c.args in WriteLaws a.p a.blocks.now c.write-r.new.page c.write-r.result)
written c =
    let a = c.args in
    (demands a.p c.requires.0).0.write-laws a.l a.blocks.now a.page.now _ _ c.requires.1 c.requires.2.fits c.requires.3 c.requires.2.other c.write-r.ensures

pub expect-requires : goal.expect-requires
expect-requires c = c.done.ensures ∙ ap is_done (written (goal.at.expect-requires c).After-write-r).done

pub returns : goal.returns
returns c = rw (written (goal.at.returns c).After-write-r).done at c.write-r.ensures
