use Rattle.std.proofs.lemmas.Result.{err_from_is_err_and}
use Rattle.code.proofs.Answers.{refusal-ne}
use mathlib.Core.Path.{sym}
use Rattle.refusal.specs.Judging.{page-sheet, page-zero}
use Rattle.layout.specs.SubWords.{is-page}
use Rattle.mend_page.proofs.Called.{mended-refused}
use Rattle.mend_page.proofs.mend_page.Goals as goal

pub returns-in_err-sheet_refusal : goal.returns-in_err-sheet_refusal
returns-in_err-sheet_refusal c =
    let p = err_from_is_err_and c.from_residual.result c.from_residual.ensures.1 in
    rw (p.1, p.2) (mended-refused _ _ _ (page-sheet _ _ _ c.in_err-sheet_refusal.ensures (refusal-ne _)))

pub page_refusal-requires : goal.page_refusal-requires
page_refusal-requires c = sym c.in_ok-sheet_refusal.ensures

pub returns-in_err-page_refusal : goal.returns-in_err-page_refusal
returns-in_err-page_refusal c =
    let p = err_from_is_err_and c.from_residual-in_err-page_refusal.result c.from_residual-in_err-page_refusal.ensures.1 in
    rw (p.1, p.2) (mended-refused _ _ _ c.in_err-page_refusal.ensures)

pub mend_exact-requires : goal.mend_exact-requires
mend_exact-requires c =
    let a = c.args in
    let z = page-zero a.p a.page.now (sym c.in_ok-page_refusal.ensures) in
    (z.accepted, is-page a.p a.page.now (λ i. (c.slice_known-1.given i).fits) z.exact z.clear)

pub returns : goal.returns
returns c = c.mend_exact.ensures
