use Rattle.std.proofs.lemmas.Result.{err_from_is_err_and}
use Rattle.code.proofs.Answers.{refusal-ne}
use mathlib.Core.Path.{sym}
use Rattle.code.proofs.Refused.{open-sheet, open_above, open_none}
use Rattle.refusal.proofs.open_refusal.Goals as goal

pub returns-in_err-sheet_refusal : goal.returns-in_err-sheet_refusal
returns-in_err-sheet_refusal c =
    let p = err_from_is_err_and c.from_residual.result c.from_residual.ensures.1 in
    rw (p.1, p.2) (open-sheet _ _ _ c.in_err-sheet_refusal.ensures (refusal-ne _))

pub returns-then-p-level : goal.returns-then-p-level
returns-then-p-level c = open_above _ _ (sym c.in_ok-sheet_refusal.ensures) c.if-p-level.true

pub returns : goal.returns
returns c = open_none _ _ (sym c.in_ok-sheet_refusal.ensures) c.if-p-level.false
