use Rattle.std.proofs.Common.{rules, ◌∙◌}
use Rattle.code.specs.Lists.{ones_in}
use Rattle.layout.specs.Tested.{page-blank-is}
use Rattle.layout.proofs.page_blank.Goals as goal

pub returns : goal.returns
returns c = c.words_pass.ensures ones_in (λ x at k b r e p. search rules) ∙ page-blank-is _ _
