use Rattle.gate_rounds.specs.Sum.{Summed}
use Rattle.gate_rounds.proofs.add_bytes.Given as goal

abbrev pub invariant-loop-i : goal.invariant-loop-i
invariant-loop-i l = Summed l.a l.b l.sum l.i
