-- The loop: j words of the row are written.
use mathlib.Core.Path.{◌≡◌}
use Prim.Native.Nat.{◌+◌}
use lib.ListN.{length}
use Rattle.reduction.specs.Build.{Putting}
use Rattle.bytewise.specs.Bytes.{sums}
use Rattle.bytewise.proofs.put_row.Given as goal

abbrev pub invariant-loop-j : goal.invariant-loop-j
invariant-loop-j l = (length l.b ≡ 12288) × Putting l.initial.b l.b l.at l.j (sums l.t (l.a + 6) (l.c + 6) l.j)
