use Rattle.std.proofs.Common.{arith}
use Rattle.given.specs.Input.{many-low, many-high, many-within}
use Rattle.given.proofs.strengths_given.Goals as goal

pub returns-in-1-to-3 : goal.returns-in-1-to-3
returns-in-1-to-3 c = many-within c.args.input.now c.lead.result c.lead.ensures (omega arith) (omega arith)

pub returns-in_default : goal.returns-in_default
returns-in_default c = many-low c.args.input.now c.lead.result c.lead.ensures (omega arith)

pub returns-in_default-2 : goal.returns-in_default-2
returns-in_default-2 c = many-high c.args.input.now c.lead.result c.lead.ensures (omega arith) (omega arith)
