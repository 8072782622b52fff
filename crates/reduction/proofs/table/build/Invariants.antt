-- The loop: the rows of k places are there.
use mathlib.Core.Path.{◌≡◌}
use Prim.Native.Nat.{◌*◌}
use lib.ListN.{length}
use Rattle.polynomial.specs.Digits.{value}
use Rattle.reduction.specs.Build.{Rows}
use Rattle.reduction.proofs.table.build.Given as goal

abbrev pub invariant-loop-k : goal.invariant-loop-k
invariant-loop-k l = (length l.t ≡ 3072) × Rows (value 64 l.g) l.t (16 * l.k)
