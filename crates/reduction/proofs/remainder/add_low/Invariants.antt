use mathlib.Core.Path.{◌≡◌}
use Prim.Native.Nat.{◌*◌, ◌%◌, ◌^◌}
use Rattle.polynomial.specs.Digits.{value}
use Rattle.polynomial.specs.Xor.{xor}
use Rattle.kernels.specs.Value.{Bounded}
use Rattle.reduction.proofs.remainder.add_low.Given as goal

abbrev pub invariant-loop-j : goal.invariant-loop-j
invariant-loop-j l = (value 64 l.r ≡ xor (value 64 l.initial.r) (value 8 l.s % 2 ^ (64 * l.j))) × Bounded 64 l.r
