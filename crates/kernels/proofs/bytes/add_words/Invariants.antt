-- The loop: k words of x * 2 ^ up / 2 ^ pos are added.
use Prim.Native.Nat.{◌*◌, ◌/◌, ◌^◌}
use Rattle.polynomial.specs.Digits.{value}
use Rattle.kernels.specs.Add.{Added}
use Rattle.kernels.proofs.bytes.add_words.Given as goal

abbrev pub invariant-loop-k : goal.invariant-loop-k
invariant-loop-k l = Added l.initial.acc l.acc l.from (value 8 l.x * 2 ^ l.up / 2 ^ l.pos) (8 * l.k)
