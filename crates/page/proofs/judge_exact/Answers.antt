use mathlib.Core.Path.{sym, ◌∙◌}
use Rattle.page.specs.Exact.{exact-blank, exact-stray, exact-else}
use Rattle.page.proofs.judge_exact.Goals as goal

pub returns-then-page_blank : goal.returns-then-page_blank
returns-then-page_blank c = exact-blank c.args.p c.args.page.now c.requires.0 c.requires.2 (sym c.if-page_blank.true ∙ c.page_blank.ensures)

pub returns-then-not-page_clear : goal.returns-then-not-page_clear
returns-then-not-page_clear c =
    exact-stray c.args.p c.args.page.now c.requires.0 c.requires.2 (sym c.if-page_blank.false ∙ c.page_blank.ensures)
    (sym c.if-not-page_clear.true ∙ c.page_clear.ensures)

pub verdict_of-requires : goal.verdict_of-requires
verdict_of-requires c = (c.requires.0, c.requires.1, c.requires.2, rw (sym c.page_clear.ensures ∙ c.if-not-page_clear.false) tt)

pub returns : goal.returns
returns c =
    exact-else c.args.p c.args.page.now c.requires.0 c.requires.2 (sym c.if-page_blank.false ∙ c.page_blank.ensures) c.verdict_of.result
    (sym c.if-not-page_clear.false ∙ c.page_clear.ensures) c.verdict_of.ensures.answers
