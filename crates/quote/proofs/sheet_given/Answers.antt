use Rattle.quote.specs.Given.{sheet-read}
use Rattle.quote.proofs.sheet_given.Goals as goal

pub returns : goal.returns
returns c = sheet-read c.args.input _ _ _ _ _ c.strength_given.ensures c.strength_given-2.ensures c.strength_given-3.ensures c.strength_given-4.ensures c.shortening_given.ensures
