use Rattle.gii_bch.specs.Number.{read-out-low, read-out-number}
use Rattle.gii_bch.proofs.gii_read_out.Goals as goal

pub judgement_number-requires : goal.judgement_number-requires
judgement_number-requires c = let r = c.read_out-r in read-out-low _ _ _ _ r.result r.ensures

pub returns : goal.returns
returns c = let r = c.read_out-r in read-out-number _ _ _ _ r.result _ r.ensures c.judgement_number.ensures
