use Rattle.code.specs.Filled.{Filled}
use Rattle.unmix.specs.Nodes.{unmixed_at}
use Rattle.unmix.proofs.error_into.Given as goal

abbrev pub invariant-loop-k : goal.invariant-loop-k
invariant-loop-k l = Filled (unmixed_at l.f.q l.rows l.others l.i) l.k l.odd
