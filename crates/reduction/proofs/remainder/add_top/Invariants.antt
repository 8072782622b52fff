-- The loop: u is left of top, to be added from digit 4 k on. The measure is u.
use mathlib.Core.Path.{◌≡◌}
use lib.ListN.{length, take}
use Rattle.polynomial.specs.Digits.{value}
use Rattle.reduction.specs.Reduce.{TopLeft}
use Rattle.reduction.proofs.remainder.add_top.Given as goal

abbrev pub invariant-loop-u : goal.invariant-loop-u
invariant-loop-u l = (length l.v ≡ 12) × (take l.from l.v ≡ take l.from l.initial.v) × TopLeft l.t (value 64 l.initial.v) l.top (value 64 l.v) l.u l.k

abbrev pub decreases-loop-u : goal.decreases-loop-u
decreases-loop-u l = l.u
