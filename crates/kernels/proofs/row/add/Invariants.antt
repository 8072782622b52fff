-- The loop: j words of g are added. That e's words fit is told by the first that is read.
use mathlib.Core.Path.{◌≡◌}
use Prim.Native.Nat.{◌<◌}
use lib.ListN.{take}
use Rattle.polynomial.specs.Digits.{value}
use Rattle.polynomial.specs.Xor.{xor}
use Rattle.kernels.specs.Value.{Bounded}
use Rattle.kernels.proofs.row.add.Given as goal

abbrev pub invariant-loop-j : goal.invariant-loop-j
invariant-loop-j l = (value 64 l.e ≡ xor (value 64 l.initial.e) (value 64 (take l.j l.g))) × (0 < l.j → Bounded 64 l.e)
