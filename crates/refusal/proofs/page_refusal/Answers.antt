use mathlib.Core.Path.{sym, ◌∙◌}
use Rattle.refusal.specs.Judging.{page-length, page-clear, page-stray}
use Rattle.refusal.proofs.page_refusal.Goals as goal

pub returns-then-page-page_bytes : goal.returns-then-page-page_bytes
returns-then-page-page_bytes c = page-length c.args.p c.args.page.now c.requires (λ e. c.if-page-page_bytes.true (e ∙ sym c.page_bytes.ensures))

pub page_clear-requires : goal.page_clear-requires
page_clear-requires c = (c.requires, c.if-page-page_bytes.false ∙ c.page_bytes.ensures)

pub returns-then-not-page_clear : goal.returns-then-not-page_clear
returns-then-not-page_clear c = page-stray c.args.p c.args.page.now c.requires (c.if-page-page_bytes.false ∙ c.page_bytes.ensures) (sym c.if-not-page_clear.true ∙ c.page_clear.ensures)

pub returns : goal.returns
returns c = page-clear c.args.p c.args.page.now c.requires (c.if-page-page_bytes.false ∙ c.page_bytes.ensures) (sym c.if-not-page_clear.false ∙ c.page_clear.ensures)
