use Rattle.sizes.specs.Least.{Lowest}
use Rattle.sizes.proofs.least.Given as goal

abbrev pub invariant-loop-b : goal.invariant-loop-b
invariant-loop-b l = Lowest l.p l.b l.d
