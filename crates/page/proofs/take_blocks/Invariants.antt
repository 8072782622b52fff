use Rattle.page.specs.Taken.{Taken}
use Rattle.page.proofs.take_blocks.Given as goal

abbrev pub invariant-loop-i : goal.invariant-loop-i
invariant-loop-i l = Taken l.p l.page l.i l.blocks
