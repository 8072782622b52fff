use mathlib.Core.Path.{sym, ◌∙◌}
use Rattle.refusal.specs.Writing.{write-width, write-blocks, write-page, write-stray, write-full, write-else}
use Rattle.refusal.proofs.write_refusal.Goals as goal

pub returns-then-not-width_good : goal.returns-then-not-width_good
returns-then-not-width_good c =
    let a = c.args in
    write-width a.p a.width a.blocks.now a.page c.requires.0 (sym c.if-not-width_good.true ∙ c.width_good.ensures)

pub returns-then-blocks-data_bytes : goal.returns-then-blocks-data_bytes
returns-then-blocks-data_bytes c =
    let a = c.args in
    write-blocks a.p a.width a.blocks.now a.page c.requires.0 (sym c.if-not-width_good.false ∙ c.width_good.ensures) (λ z. c.if-blocks-data_bytes.true (z ∙ sym c.data_bytes.ensures))

pub returns-then-page-page_bytes : goal.returns-then-page-page_bytes
returns-then-page-page_bytes c =
    let a = c.args in
    write-page a.p a.width a.blocks.now a.page c.requires.0 (sym c.if-not-width_good.false ∙ c.width_good.ensures) (c.if-blocks-data_bytes.false ∙ c.data_bytes.ensures) (λ z. c.if-page-page_bytes.true (z ∙ sym c.page_bytes.ensures))

pub blocks_clear-requires : goal.blocks_clear-requires
blocks_clear-requires c = (c.requires.0, c.requires.1, c.if-blocks-data_bytes.false ∙ c.data_bytes.ensures)

pub returns-then-not-blocks_clear : goal.returns-then-not-blocks_clear
returns-then-not-blocks_clear c =
    let a = c.args in
    write-stray a.p a.width a.blocks.now a.page c.requires.0 (sym c.if-not-width_good.false ∙ c.width_good.ensures) (c.if-blocks-data_bytes.false ∙ c.data_bytes.ensures) (c.if-page-page_bytes.false ∙ c.page_bytes.ensures) (sym c.if-not-blocks_clear.true ∙ c.blocks_clear.ensures)

pub page_ones-requires : goal.page_ones-requires
page_ones-requires c = (c.requires.0, c.requires.1, c.if-blocks-data_bytes.false ∙ c.data_bytes.ensures)

pub returns-then-page_ones : goal.returns-then-page_ones
returns-then-page_ones c =
    let a = c.args in
    write-full a.p a.width a.blocks.now a.page c.requires.0 (sym c.if-not-width_good.false ∙ c.width_good.ensures) (c.if-blocks-data_bytes.false ∙ c.data_bytes.ensures) (c.if-page-page_bytes.false ∙ c.page_bytes.ensures) (λ i. (c.type_inv.blocks i).fits) (sym c.if-not-blocks_clear.false ∙ c.blocks_clear.ensures) (sym c.if-page_ones.true ∙ c.page_ones.ensures)

pub returns : goal.returns
returns c =
    let a = c.args in
    write-else a.p a.width a.blocks.now a.page c.requires.0 (sym c.if-not-width_good.false ∙ c.width_good.ensures) (c.if-blocks-data_bytes.false ∙ c.data_bytes.ensures) (c.if-page-page_bytes.false ∙ c.page_bytes.ensures) (λ i. (c.type_inv.blocks i).fits) (sym c.if-not-blocks_clear.false ∙ c.blocks_clear.ensures) (sym c.if-page_ones.false ∙ c.page_ones.ensures)
