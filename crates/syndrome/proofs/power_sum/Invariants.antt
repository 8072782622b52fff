use mathlib.Core.Path.{◌≡◌}
use lib.ListN.{get_or}
use Rattle.field.specs.Elements.{sum_below}
use Rattle.syndrome.proofs.power_sum.Given as goal

abbrev pub invariant-loop-i : goal.invariant-loop-i
invariant-loop-i l = l.x ≡ sum_below l.i-index (λ k. get_or l.powers (get_or l.e k 0) 0)
