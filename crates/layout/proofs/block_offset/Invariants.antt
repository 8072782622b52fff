use Rattle.layout.specs.Parts.{Summed}
use Rattle.layout.proofs.block_offset.Given as goal

abbrev pub invariant-loop-j : goal.invariant-loop-j
invariant-loop-j l = Summed l.p l.i l.at l.j
