use lib.Dec.{lit≤}
use Rattle.tables.proofs.Generated.{words, holds4}
use Rattle.tables.proofs.generators4.Goals as goal

pub returns : goal.returns
unfolding words
returns c = holds4 0 7 (lit≤ tt)
