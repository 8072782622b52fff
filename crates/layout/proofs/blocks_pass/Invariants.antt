use Rattle.std.proofs.Common.{◌≡◌}
use Rattle.code.specs.Layout.{block_offset}
use Rattle.layout.specs.Tested.{AnswersRuns, BlocksPassed}
use Rattle.layout.proofs.blocks_pass.Given as goal

abbrev pub invariant-loop-j : goal.invariant-loop-j
invariant-loop-j g l =
    (l.at ≡ block_offset l.p l.j) × ((P : _) → AnswersRuns (goal.T-post g l.test) P l.blocks → BlocksPassed P l.p l.blocks l.at l.j)
