use Prim.Native.Nat.{◌+◌, ◌*◌}
use lib.ListN.{get_or}
use Rattle.code.specs.Filled.{Filled}
use Rattle.unmix.proofs.column.Given as goal

abbrev pub invariant-loop-l : goal.invariant-loop-l
invariant-loop-l l = Filled (λ i. get_or l.rows (64 * i + l.k) 0) l.l l.sums
