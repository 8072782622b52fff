use Rattle.search.specs.Zeros.{keeps-full, keeps-not, keeps-put}
use Rattle.search.proofs.keep.Goals as goal
use Rattle.search.proofs.keep.Goals.{then-c-list, else-c-list}

pub returns-then-x-ne0 : goal.returns-then-x-ne0
returns-then-x-ne0 c = keeps-not _ _ _ _ c.if-x-ne0.true

pub returns : goal.returns
returns c =
    elim c.if-c-list.branch [
      | then-c-list w ↦ rw w.list-is (keeps-put _ _ _ _ c.if-x-ne0.false w.if-c-list.true)
      | else-c-list w ↦ rw w.list-is (keeps-full _ _ _ _ c.if-x-ne0.false w.if-c-list.false)
    ]
