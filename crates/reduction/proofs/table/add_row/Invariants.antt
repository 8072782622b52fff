-- The loop: the first j words of the row are added.
use mathlib.Core.Path.{◌≡◌}
use lib.ListN.{take, drop}
use Rattle.polynomial.specs.Digits.{value}
use Rattle.polynomial.specs.Xor.{xor}
use Rattle.reduction.proofs.table.add_row.Given as goal

abbrev pub invariant-loop-j : goal.invariant-loop-j
invariant-loop-j l = value 64 l.v ≡ xor (value 64 l.initial.v) (value 64 (take l.j (drop l.at l.t)))
