use Rattle.sizes.specs.Quoting.{Quoting}
use Rattle.sizes.proofs.quote_into.Given as goal

abbrev pub invariant-loop-k : goal.invariant-loop-k
invariant-loop-k l = Quoting l.p l.k l.list
