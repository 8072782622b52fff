use Rattle.std.proofs.lemmas.Result.{err_from_is_err_and}
use Rattle.code.proofs.Answers.{refusal-ne}
use mathlib.Core.Path.{sym, ◌∙◌}
use Rattle.refusal.specs.Altering.{bit-nine, bit-none, bit-page}
use Rattle.refusal.proofs.bit_refusal.Goals as goal

pub returns-in_err-page_refusal : goal.returns-in_err-page_refusal
returns-in_err-page_refusal c =
    let a = c.args in
    let p = err_from_is_err_and c.from_residual.result c.from_residual.ensures.1 in
    rw (p.1, p.2) (bit-page a.p a.page.now a.i a.r a.b _ c.in_err-page_refusal.ensures (refusal-ne _))

pub returns-then-not-names_bit : goal.returns-then-not-names_bit
returns-then-not-names_bit c =
    let a = c.args in
    bit-nine a.p a.page.now a.i a.r a.b (sym c.in_ok-page_refusal.ensures) (sym c.if-not-names_bit.true ∙ c.names_bit.ensures)

pub returns : goal.returns
returns c =
    let a = c.args in
    bit-none a.p a.page.now a.i a.r a.b (sym c.in_ok-page_refusal.ensures) (sym c.if-not-names_bit.false ∙ c.names_bit.ensures)
