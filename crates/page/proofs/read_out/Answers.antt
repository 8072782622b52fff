use Rattle.code.proofs.Answers.{refusal-ne}
use Rattle.std.proofs.lemmas.Result.{err_from_is_err_and}
use mathlib.Core.Path.{sym}
use Rattle.code.proofs.Answers.{read-refused}
use Rattle.refusal.specs.Reading.{read-sheet}
use Rattle.page.proofs.read_out.Goals as goal

pub returns-in_err-sheet_refusal : goal.returns-in_err-sheet_refusal
returns-in_err-sheet_refusal c =
    let p = err_from_is_err_and c.from_residual.result c.from_residual.ensures.1 in
    rw (p.1, p.2) (read-refused _ _ _ _ (read-sheet _ _ _ _ c.in_err-sheet_refusal.ensures (refusal-ne _)))

pub read_accepted-requires : goal.read_accepted-requires
read_accepted-requires c = sym c.in_ok-sheet_refusal.ensures
