use Rattle.std.proofs.Common.{rules, ◌∙◌}
use Rattle.code.specs.Lists.{ones_in}
use Rattle.layout.specs.Tested.{blocks-full-is}
use Rattle.layout.proofs.blocks_full.Goals as goal

pub returns : goal.returns
returns c = c.blocks_pass.ensures ones_in (λ x at k b r e p. search rules) ∙ blocks-full-is _ _
