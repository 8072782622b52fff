use mathlib.Core.Path.{sym, ◌∙◌}
use Rattle.refusal.specs.Reading.{lengths-blocks, lengths-page, lengths_none}
use Rattle.refusal.proofs.read_lengths.Goals as goal

pub returns-then-blocks-data_bytes : goal.returns-then-blocks-data_bytes
returns-then-blocks-data_bytes c = lengths-blocks c.args.p c.args.page c.args.blocks c.requires.0 (λ e. c.if-blocks-data_bytes.true (e ∙ sym c.data_bytes.ensures))

pub returns-then-page-page_bytes : goal.returns-then-page-page_bytes
returns-then-page-page_bytes c = lengths-page c.args.p c.args.page c.args.blocks c.requires.0 (c.if-blocks-data_bytes.false ∙ c.data_bytes.ensures) (λ z. c.if-page-page_bytes.true (z ∙ sym c.page_bytes.ensures))

pub returns : goal.returns
returns c = lengths_none c.args.p c.args.page c.args.blocks c.requires.0 (c.if-blocks-data_bytes.false ∙ c.data_bytes.ensures) (c.if-page-page_bytes.false ∙ c.page_bytes.ensures)
