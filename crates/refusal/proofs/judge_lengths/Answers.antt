use Rattle.std.proofs.lemmas.Result.{err_from_is_err_and}
use Rattle.code.proofs.Answers.{refusal-ne}
use mathlib.Core.Path.{sym, ◌∙◌}
use Rattle.code.specs.Parameters.{Accepted}
use Rattle.refusal.specs.Judging.{lengths-sheet, lengths-exact, lengths-other}
use Rattle.refusal.proofs.judge_lengths.Goals as goal
use Rattle.refusal.proofs.judge_lengths.Goals.{In_ok-sheet_refusal}

-- where the sheet is accepted
accepts : (c : In_ok-sheet_refusal) → Accepted c.args.p
accepts c = sym c.in_ok-sheet_refusal.ensures

pub returns-in_err-sheet_refusal : goal.returns-in_err-sheet_refusal
returns-in_err-sheet_refusal c =
    let p = err_from_is_err_and c.from_residual.result c.from_residual.ensures.1 in
    rw (p.1, p.2) (lengths-sheet _ _ _ c.in_err-sheet_refusal.ensures (refusal-ne _))

pub page_bytes-requires : goal.page_bytes-requires
page_bytes-requires c = accepts (goal.at.page_bytes-requires c).In_ok-sheet_refusal

pub returns-then-page-page_bytes : goal.returns-then-page-page_bytes
returns-then-page-page_bytes c =
    lengths-other _ _ (accepts (goal.at.returns-then-page-page_bytes c).In_ok-sheet_refusal) (λ e. c.if-page-page_bytes.true (e ∙ sym c.page_bytes.ensures))

pub returns : goal.returns
returns c = lengths-exact _ _ (accepts (goal.at.returns c).In_ok-sheet_refusal) (c.if-page-page_bytes.false ∙ c.page_bytes.ensures)
