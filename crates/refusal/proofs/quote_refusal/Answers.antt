use Rattle.std.proofs.lemmas.Result.{err_from_is_err_and}
use Rattle.code.proofs.Answers.{refusal-ne}
use mathlib.Core.Path.{sym}
use Rattle.code.proofs.Quote.{quote-sheet, quote-none, quote-ten}
use Rattle.refusal.proofs.quote_refusal.Goals as goal

pub returns-in_err-sheet_refusal : goal.returns-in_err-sheet_refusal
returns-in_err-sheet_refusal c =
    let p = err_from_is_err_and c.from_residual.result c.from_residual.ensures.1 in
    rw (p.1, p.2) (quote-sheet _ _ _ _ c.in_err-sheet_refusal.ensures (refusal-ne _))

pub returns-then-out-ne12 : goal.returns-then-out-ne12
returns-then-out-ne12 c = quote-ten _ _ _ (sym c.in_ok-sheet_refusal.ensures) c.if-out-ne12.true

pub returns : goal.returns
returns c = sym (quote-none _ _ _ (sym c.in_ok-sheet_refusal.ensures) c.if-out-ne12.false)
