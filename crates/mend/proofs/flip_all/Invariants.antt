use Rattle.mend.specs.Left.{Flipping}
use Rattle.mend.proofs.flip_all.Given as goal

abbrev pub invariant-loop-e : goal.invariant-loop-e
invariant-loop-e l = Flipping l.initial.s l.list l.e-index l.s
