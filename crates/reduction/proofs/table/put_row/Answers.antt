-- The loop: j words are written.
use mathlib.Core.Path.{refl, ◌∙◌}
use native.Mathlib.Omega.{arith}
use lib.ListN.{length-set}
use Rattle.reduction.specs.Build.{put-end, put-turn}
use Rattle.reduction.proofs.table.put_row.Goals as goal

pub loop-j-init : goal.loop-j-init
loop-j-init c = (c.requires.0, record { before = refl; done = refl })

pub loop-j-preserved : goal.loop-j-preserved
loop-j-preserved c =
    let l = c.loop-j in
    let a = c.args in
    (length-set l.t _ _ ∙ l.invariant.0, put-turn a.t.now l.t a.v.now a.at l.j (omega arith) (omega arith) l.invariant.1)

pub returns : goal.returns
returns c =
    let l = c.loop-j in
    put-end c.args.t.now l.t c.args.v.now c.args.at l.j c.requires.1 (omega arith) l.invariant.1
