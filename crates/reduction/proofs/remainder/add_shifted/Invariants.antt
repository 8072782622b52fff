-- The loop: the first j words of r are moved up and added, and c is carried on.
use Rattle.polynomial.specs.Digits.{value}
use Rattle.kernels.specs.Move.{Moving}
use Rattle.reduction.proofs.remainder.add_shifted.Given as goal

abbrev pub invariant-loop-j : goal.invariant-loop-j
invariant-loop-j l = Moving l.r l.l (value 64 l.initial.v) l.c l.v l.j
