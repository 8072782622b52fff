use Prim.Native.Nat.{◌+◌}
use lib.ListN.{get_or}
use Rattle.field.specs.Odd.{from_odd}
use Rattle.code.specs.Filled.{Filled}
use Rattle.syndrome.proofs.all_into.Given as goal

abbrev pub invariant-loop-j : goal.invariant-loop-j
invariant-loop-j l = Filled (λ k. from_odd l.f.q (λ i. get_or l.odd i 0) (1 + k)) l.j l.list
