use Rattle.std.proofs.Common.{rules, ◌∙◌}
use Rattle.code.specs.Lists.{fits_in}
use Rattle.layout.specs.Tested.{blocks-clear-is}
use Rattle.layout.proofs.blocks_clear.Goals as goal

pub returns : goal.returns
returns c = c.blocks_pass.ensures fits_in (λ x at k b r e p. search rules) ∙ blocks-clear-is _ _
