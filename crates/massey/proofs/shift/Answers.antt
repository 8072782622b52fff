use native.Mathlib.Omega.{arith}
use Rattle.massey.specs.Loops.{shift-first, shift-last, shift-step}
use Rattle.massey.proofs.shift.Goals as goal

pub loop-x-init : goal.loop-x-init
loop-x-init c = shift-first _

pub loop-x-preserved : goal.loop-x-preserved
loop-x-preserved c = rw (c.swap.ensures.x_after, c.swap.ensures.y_after) (shift-step c.loop-x.invariant (omega arith))

pub returns : goal.returns
returns c = shift-last c.loop-x.invariant (omega arith)
