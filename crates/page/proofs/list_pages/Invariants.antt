use Rattle.page.specs.Listed.{Listing}
use Rattle.page.proofs.list_pages.Given as goal

abbrev pub invariant-loop-k : goal.invariant-loop-k
invariant-loop-k l = Listing l.p l.width l.blocks l.k l.initial.list l.list
