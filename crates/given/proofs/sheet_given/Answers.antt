use mathlib.Core.Path.{refl}
use Rattle.given.specs.Input.{sheet-is}
use Rattle.given.proofs.sheet_given.Goals as goal

pub returns : goal.returns
returns c =
    sheet-is c.args.input.now _ c.lead.ensures c.lead-2.ensures c.lead-3.ensures
    c.strength_given.ensures c.strength_given-2.ensures c.strength_given-3.ensures c.strength_given-4.ensures refl
