-- The loop: what stands from the i-th word on is fed to v.
use mathlib.Core.Path.{◌≡◌}
use Prim.Native.Nat.{◌+◌, ◌*◌, ◌/◌, ◌%◌, ◌^◌}
use lib.ListN.{length}
use Rattle.polynomial.specs.Digits.{value}
use Rattle.kernels.specs.Row.{D}
use Rattle.reduction.specs.Table.{Reduced}
use Rattle.reduction.proofs.remainder.feed_words.Given as goal

abbrev pub invariant-loop-i : goal.invariant-loop-i
invariant-loop-i l = (length l.v ≡ 13) × Reduced l.t (value 8 l.s % 2 ^ l.n / 2 ^ (l.q + 64 * l.i) * 2 ^ D) (value 64 l.v)
