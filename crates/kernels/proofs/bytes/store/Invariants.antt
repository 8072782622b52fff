-- The loop: k words of r are written. The bytes are digits, so that the list is known by its number: store-list.
use Prim.Native.Nat.{◌*◌}
use Rattle.polynomial.specs.Digits.{value}
use Rattle.kernels.specs.Value.{Bounded}
use Rattle.kernels.specs.Write.{Written}
use Rattle.kernels.proofs.bytes.store.Given as goal

abbrev pub invariant-loop-k : goal.invariant-loop-k
invariant-loop-k l = Bounded 8 l.dst × Written 8 l.initial.dst l.dst (value 64 l.r) (8 * l.k)
