use Rattle.encode.specs.Page.{Going}
use Rattle.encode.proofs.write_span.Given as goal

abbrev pub invariant-loop-i : goal.invariant-loop-i
invariant-loop-i l = Going l.p l.blocks l.to l.from l.i l.page l.acc
