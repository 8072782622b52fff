use Rattle.gii_bch.specs.Number.{made-number}
use Rattle.gii_bch.proofs.gii_write.Goals as goal

pub returns : goal.returns
returns c = let r = c.write-r in made-number _ _ _ _ r.result _ r.ensures c.outcome_number.ensures
