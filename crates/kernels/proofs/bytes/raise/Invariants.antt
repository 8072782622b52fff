-- The loop: k words of a are moved up with b added, and c is carried on.
use Prim.Native.Nat.{◌*◌}
use Rattle.polynomial.specs.Digits.{value}
use Rattle.kernels.specs.Value.{Bounded}
use Rattle.kernels.specs.Raise.{Raised}
use Rattle.kernels.proofs.bytes.raise.Given as goal

abbrev pub invariant-loop-k : goal.invariant-loop-k
invariant-loop-k l = Bounded 8 l.a × Raised l.initial.a l.a (value 8 l.b) l.s l.c (8 * l.k)
