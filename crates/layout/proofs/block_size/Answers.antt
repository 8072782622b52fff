use Rattle.std.proofs.Common.{arith}
use Rattle.std.proofs.lemmas.Grind.{common_steps}
use Rattle.layout.proofs.block_size.Goals as goal

pub returns : goal.returns
returns c = grind (arith, common_steps, c.div_ceil.ensures)
