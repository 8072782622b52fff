use Rattle.std.proofs.Common.{arith}
use Rattle.std.proofs.lemmas.Grind.{common_steps}
use Rattle.layout.proofs.sub_word_bytes.Goals as goal

pub returns : goal.returns
returns c = grind (arith, common_steps, c.div_ceil.ensures)
