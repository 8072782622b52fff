-- The loop: i words are moved up, and c is carried on.
use Rattle.kernels.specs.Move.{Shifted}
use Rattle.kernels.specs.Value.{Bounded}
use Rattle.kernels.proofs.row.shift_word.Given as goal

abbrev pub invariant-loop-i : goal.invariant-loop-i
invariant-loop-i l = Bounded 64 l.r × Shifted l.initial.r l.r 64 l.c l.i
