-- The loop: what stands from x^q on is fed to v.
use mathlib.Core.Path.{◌≡◌}
use Prim.Native.Nat.{◌*◌, ◌/◌, ◌%◌, ◌^◌, ◌≤◌, ◌<◌}
use lib.ListN.{length}
use Rattle.polynomial.specs.Digits.{value}
use Rattle.kernels.specs.Row.{D}
use Rattle.reduction.specs.Table.{Reduced}
use Rattle.reduction.proofs.remainder.feed_top.Given as goal

abbrev pub invariant-loop-q : goal.invariant-loop-q
invariant-loop-q l = (1 ≤ l.most) × (l.most < 64) × (l.q ≤ l.n) × (l.w ≤ l.q) × (length l.v ≡ 13) × Reduced l.t (value 8 l.s % 2 ^ l.n / 2 ^ l.q * 2 ^ D) (value 64 l.v)

abbrev pub decreases-loop-q : goal.decreases-loop-q
decreases-loop-q l = l.q
