-- The loop: what stands from x^(w + 64 i) on is fed to v.
use mathlib.Core.Path.{◌≡◌}
use mathlib.Core.List.{List}
use Prim.Native.Nat.{ℕ, ◌+◌, ◌*◌, ◌/◌, ◌%◌, ◌^◌}
use lib.ListN.{length}
use Rattle.polynomial.specs.Digits.{value}
use Rattle.kernels.specs.Row.{D}
use Rattle.reduction.specs.Table.{Reduced}
use Rattle.bytewise.specs.Bytes.{Widened}
use Rattle.bytewise.proofs.feed.Given as goal

abbrev pub invariant-loop-i : goal.invariant-loop-i
invariant-loop-i l = (length l.v ≡ 13) × ((t : List ℕ) → Widened t l.b → Reduced t (value 8 l.s % 2 ^ (l.w + 64 * l.k) / 2 ^ (l.w + 64 * l.i) * 2 ^ D) (value 64 l.v))
