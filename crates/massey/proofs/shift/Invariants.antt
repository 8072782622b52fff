use Rattle.massey.specs.Loops.{Shifting}
use Rattle.massey.proofs.shift.Given as goal

abbrev pub invariant-loop-x : goal.invariant-loop-x
invariant-loop-x l = Shifting l.initial.old l.x-index l.c l.old
