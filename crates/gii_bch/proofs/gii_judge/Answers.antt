use Rattle.gii_bch.specs.Number.{judged-low, judged-number}
use Rattle.gii_bch.proofs.gii_judge.Goals as goal

pub judgement_number-requires : goal.judgement_number-requires
judgement_number-requires c = judged-low _ _ c.judge.result c.judge.ensures

pub returns : goal.returns
returns c = let j = c.judge in judged-number _ _ j.result _ j.ensures c.judgement_number.ensures
