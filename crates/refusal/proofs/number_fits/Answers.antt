use Rattle.refusal.specs.Tests.{below-pow}
use Rattle.refusal.proofs.number_fits.Goals as goal

pub returns : goal.returns
returns c = below-pow c.args.u c.args.width c.requires.0
