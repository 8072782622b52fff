use Rattle.massey.specs.Loops.{Jumping}
use Rattle.massey.proofs.jump.Given as goal

abbrev pub invariant-loop-i : goal.invariant-loop-i
invariant-loop-i l = Jumping l.f.q l.initial.sig l.initial.old l.d l.e l.i l.sig l.old
