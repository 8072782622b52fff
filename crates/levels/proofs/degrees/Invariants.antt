use mathlib.Core.Path.{◌≡◌}
use lib.ListN.{length}
use Rattle.levels.specs.Ready.{Counted}
use Rattle.levels.proofs.degrees.Given as goal

abbrev pub invariant-loop-a : goal.invariant-loop-a
invariant-loop-a l = (length l.w ≡ 4) × Counted l.p l.a l.w
