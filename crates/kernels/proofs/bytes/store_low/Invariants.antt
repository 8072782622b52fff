-- The loop: k words of r are added. Below the data the sum is +: under.
use Prim.Native.Nat.{◌*◌}
use Rattle.polynomial.specs.Digits.{value}
use Rattle.kernels.specs.Add.{Added}
use Rattle.kernels.proofs.bytes.store_low.Given as goal

abbrev pub invariant-loop-k : goal.invariant-loop-k
invariant-loop-k l = Added l.initial.dst l.dst 0 (value 64 l.r) (8 * l.k)
