use Rattle.element.specs.Lent.{log-in}
use Rattle.element.proofs.log.Goals as goal

pub returns : goal.returns
returns c = log-in c.args.logs.now c.args.a
