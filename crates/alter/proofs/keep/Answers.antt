use mathlib.Core.Path.{ap, sym, ◌∙◌}
use Rattle.alter.specs.Sum.{unless_blank}
use Rattle.alter.proofs.keep.Goals as goal

pub returns-then-page_blank : goal.returns-then-page_blank
returns-then-page_blank c = ap unless_blank (sym c.if-page_blank.true ∙ c.page_blank.ensures)

pub returns : goal.returns
returns c = ap unless_blank (sym c.if-page_blank.false ∙ c.page_blank.ensures)
