-- The loop: j words are written.
use mathlib.Core.Path.{◌≡◌}
use lib.ListN.{length, take}
use Rattle.polynomial.specs.Digits.{value}
use Rattle.reduction.specs.Build.{Putting}
use Rattle.reduction.proofs.table.put_row.Given as goal

abbrev pub invariant-loop-j : goal.invariant-loop-j
invariant-loop-j l = (length l.t ≡ 3072) × Putting l.initial.t l.t l.at l.j (value 64 (take l.j l.v))
