-- The loop: k words of x are added.
use Prim.Native.Nat.{◌*◌}
use Rattle.polynomial.specs.Digits.{value}
use Rattle.kernels.specs.Add.{Added}
use Rattle.kernels.proofs.bytes.add_in.Given as goal

abbrev pub invariant-loop-k : goal.invariant-loop-k
invariant-loop-k l = Added l.initial.acc l.acc 0 (value 8 l.x) (8 * l.k)
