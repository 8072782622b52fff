use Rattle.layout.proofs.last_bound.Goals as goal

pub returns : goal.returns
returns c = c.two_to.ensures
