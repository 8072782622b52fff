use borrow.Author.Rules.{rules}
use Rattle.mend_page.proofs.Ends.{first_ends, first-stands}
use Rattle.mend_page.proofs.mend_by.Goals as goal

pub first_pass-b-requires : goal.first_pass-b-requires
first_pass-b-requires c = (c.requires.0, c.requires.1, c.requires.2, search rules)

pub mend_rounds-requires : goal.mend_rounds-requires
mend_rounds-requires c = (c.requires.0, c.requires.1, first-stands c.args.p c.requires.0.accepts c.args.page.now c.requires.2 _ _ _ c.first_pass-b.ensures)

pub returns : goal.returns
returns c = first_ends c.args.p c.requires.0.accepts c.args.page.now _ _ _ c.first_pass-b.ensures _ _ c.mend_rounds.ensures
