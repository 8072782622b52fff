-- The loop: i words are moved up, and c is carried on.
use Rattle.kernels.specs.Move.{Shifted}
use Rattle.kernels.proofs.row.shift.Given as goal

abbrev pub invariant-loop-i : goal.invariant-loop-i
invariant-loop-i l = Shifted l.initial.r l.r l.l l.c l.i
