use Rattle.gii_bch.proofs.answers.judgement_number.Goals as goal

pub verdict_number-requires : goal.verdict_number-requires
verdict_number-requires c = rw c.in-Ok.is at c.requires
