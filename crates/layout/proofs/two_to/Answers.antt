use Rattle.layout.specs.Sizes.{shifted}
use Rattle.layout.proofs.two_to.Goals as goal

pub returns : goal.returns
returns c = shifted _ c.requires
