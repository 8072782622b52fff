-- The loop: the first j words of the rows are added.
use mathlib.Core.Path.{◌≡◌}
use Prim.Native.Nat.{◌*◌, ◌^◌}
use lib.ListN.{take}
use Rattle.polynomial.specs.Digits.{value}
use Rattle.polynomial.specs.Xor.{xor}
use Rattle.bytewise.specs.Bytes.{half, sums}
use Rattle.bytewise.proofs.add_rows.Given as goal

abbrev pub invariant-loop-j : goal.invariant-loop-j
invariant-loop-j l = (take 6 l.v ≡ take 6 l.initial.v) × (value 64 l.v ≡ xor (value 64 l.initial.v) (sums l.b l.a l.c l.j * 2 ^ half))
