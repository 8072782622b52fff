-- The loop: the rows of the m = 2 ^ s lowest digits are there.
use mathlib.Core.Path.{◌≡◌}
use Prim.Native.Nat.{◌+◌, ◌*◌, ◌^◌}
use lib.ListN.{length}
use Rattle.reduction.specs.Build.{Grown}
use Rattle.reduction.proofs.table.fill_place.Given as goal

abbrev pub invariant-loop-s : goal.invariant-loop-s
invariant-loop-s l = (length l.t ≡ 3072) × Grown l.initial.t l.t (16 * l.k + 2) (16 * l.k + 2 ^ l.s)
