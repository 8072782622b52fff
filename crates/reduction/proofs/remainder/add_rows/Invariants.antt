-- The loop: the first j words of the rows are added.
use mathlib.Core.Path.{◌≡◌}
use lib.ListN.{take}
use Rattle.polynomial.specs.Digits.{value}
use Rattle.polynomial.specs.Xor.{xor}
use Rattle.reduction.specs.Sum.{rows_of}
use Rattle.reduction.proofs.remainder.add_rows.Given as goal

abbrev pub invariant-loop-j : goal.invariant-loop-j
invariant-loop-j l = (take l.from l.v ≡ take l.from l.initial.v) × (value 64 l.v ≡ xor (value 64 l.initial.v) (rows_of l.t l.a l.b l.c l.d l.j))
