use borrow.Author.Rules.{rules}
use mathlib.Core.Path.{◌∙◌}
use Rattle.gate_rounds.proofs.on.Goals as goal

pub round_again-requires : goal.round_again-requires
round_again-requires c = (c.requires.0, c.requires.1, c.requires.3, search rules, search rules)

pub sums-requires : goal.sums-requires
sums-requires c = (c.requires.0, search rules, search rules, search rules, c.requires.1, c.requires.2, c.ab-1.given ∙ c.requires.3, c.x-2-1.given ∙ c.x-1.given ∙ c.requires.4, c.y-2-1.given ∙ c.y-1.given ∙ c.requires.5, c.requires.6, c.requires.7, c.requires.8)
