-- The loop: u is left of top, to be added from byte 2 k on. The measure is u.
use mathlib.Core.Path.{◌≡◌}
use mathlib.Core.List.{List}
use Prim.Native.Nat.{ℕ}
use lib.ListN.{length, take}
use Rattle.polynomial.specs.Digits.{value}
use Rattle.reduction.specs.Reduce.{TopLeft}
use Rattle.bytewise.specs.Bytes.{Widened}
use Rattle.bytewise.proofs.add_top.Given as goal

abbrev pub invariant-loop-u : goal.invariant-loop-u
invariant-loop-u l = (length l.v ≡ 12) × (take 6 l.v ≡ take 6 l.initial.v) × ((t : List ℕ) → Widened t l.b → TopLeft t (value 64 l.initial.v) l.top (value 64 l.v) l.u l.k)

abbrev pub decreases-loop-u : goal.decreases-loop-u
decreases-loop-u l = l.u
