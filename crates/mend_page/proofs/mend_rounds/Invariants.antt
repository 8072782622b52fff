use mathlib.Core.Path.{◌≡◌}
use lib.ListN.{length}
use Rattle.code.specs.Nest.{rounds}
use Rattle.mend_page.specs.Ends.{Turning, in_work}
use Rattle.mend_page.proofs.mend_rounds.Given as goal

abbrev pub invariant-loop-n : goal.invariant-loop-n
invariant-loop-n l = Turning l.p (rounds l.p l.p.v (in_work l.p l.initial.page l.initial.broken l.b)) l.page l.broken l.n × (length l.left ≡ 8)

abbrev pub decreases-loop-n : goal.decreases-loop-n
decreases-loop-n l = l.n
