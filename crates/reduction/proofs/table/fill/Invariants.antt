-- The loop: the rows of the digits up to m + b - 1 are there.
use mathlib.Core.Path.{◌≡◌}
use Prim.Native.Nat.{◌+◌, ◌*◌}
use lib.ListN.{length}
use Rattle.reduction.specs.Build.{Grown}
use Rattle.reduction.proofs.table.fill.Given as goal

abbrev pub invariant-loop-b : goal.invariant-loop-b
invariant-loop-b l = (length l.t ≡ 3072) × Grown l.initial.t l.t (16 * l.k + l.m + 1) (16 * l.k + l.m + l.b)
