use Rattle.gii_bch.proofs.syndromes.syndrome_list.Goals as goal

pub returns-then-nested : goal.returns-then-nested
returns-then-nested c = rw c.if-nested.true c.nested_syndromes.ensures

pub returns : goal.returns
returns c = rw c.if-nested.false c.syndromes.ensures
