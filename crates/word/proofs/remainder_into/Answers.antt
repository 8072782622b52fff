use borrow.Author.Rules.{rules}
use mathlib.Core.Path.{ap, ◌∙◌}
use Rattle.polynomial.specs.Digits.{digits}
use Rattle.word.specs.Level.{level-room}
use Rattle.word.proofs.remainder_into.Goals as goal

pub store-requires : goal.store-requires
store-requires c = (search rules, level-room _ c.requires.0 _ c.requires.1 _ _ c.level_remainder.ensures.1)

pub returns : goal.returns
returns c = c.store.ensures ∙ ap (digits 8 96) c.level_remainder.ensures.1
