-- The loop: the first j words of the row are moved up and added, and the word below word j says what is carried on.
use Prim.Native.Nat.{◌+◌, ◌-◌, ◌/◌, ◌^◌}
use lib.ListN.{get_or, drop}
use Rattle.polynomial.specs.Digits.{value}
use Rattle.kernels.specs.Move.{Moving}
use Rattle.reduction.proofs.table.add_moved.Given as goal

abbrev pub invariant-loop-j : goal.invariant-loop-j
invariant-loop-j l = Moving (drop l.at l.t) l.s (value 64 l.initial.v) (get_or l.t (l.at + l.j - 1) 0 / 2 ^ (64 - l.s)) l.v l.j
