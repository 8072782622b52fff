-- The loop: i bytes of v are added.
use Rattle.kernels.specs.Add.{Added}
use Rattle.kernels.proofs.bytes.add_bytes.Given as goal

abbrev pub invariant-loop-i : goal.invariant-loop-i
invariant-loop-i l = Added l.initial.acc l.acc l.at l.v l.i
