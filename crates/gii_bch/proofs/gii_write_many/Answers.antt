use Rattle.gii_bch.specs.Number.{made-number}
use Rattle.gii_bch.proofs.gii_write_many.Goals as goal

pub returns : goal.returns
returns c =
    let r = c.write_many-r in
    let n = c.outcome_number.ensures in
    (made-number _ _ _ _ r.result _ r.ensures.0 n, made-number _ _ _ _ r.result _ r.ensures.1 n)
