use Rattle.std.proofs.Common.{rules, ◌∙◌}
use Rattle.code.specs.Lists.{fits_in}
use Rattle.layout.specs.Tested.{page-clear-is}
use Rattle.layout.proofs.page_clear.Goals as goal

pub returns : goal.returns
returns c = c.words_pass.ensures fits_in (λ x at k b r e p. search rules) ∙ page-clear-is _ _
