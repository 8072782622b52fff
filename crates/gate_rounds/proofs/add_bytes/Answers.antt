use native.Mathlib.Omega.{arith}
use Rattle.gate_rounds.specs.Sum.{summed-start, summed-next, summed-all}
use Rattle.gate_rounds.proofs.add_bytes.Goals as goal

pub loop-i-init : goal.loop-i-init
loop-i-init c = summed-start _ _ _ c.requires.1

pub loop-i-preserved : goal.loop-i-preserved
loop-i-preserved c =
    let l = c.loop-i in
    summed-next _ _ l.sum l.i (omega arith) l.invariant

pub returns : goal.returns
returns c =
    let l = c.loop-i in
    summed-all _ _ l.sum l.i c.requires.0 (omega arith) l.invariant
