use Prim.Native.Nat.{◌≤◌}
use Rattle.search.specs.Zeros.{Collected}
use Rattle.search.proofs.collect.Given as goal

abbrev pub invariant-loop-k : goal.invariant-loop-k
invariant-loop-k l = Collected l.acc l.k l.c l.initial.list l.list × (l.c ≤ l.k)
