use Rattle.code.proofs.Answers.{refusal-ne}
use Rattle.std.proofs.lemmas.Result.{err_from_is_err_and}
use mathlib.Core.Path.{sym}
use Rattle.code.proofs.Answers.{written-refused}
use Rattle.refusal.specs.Writing.{write-sheet}
use Rattle.page.proofs.write.Goals as goal

pub returns-in_err-sheet_refusal : goal.returns-in_err-sheet_refusal
returns-in_err-sheet_refusal c =
    let p = err_from_is_err_and c.from_residual.result c.from_residual.ensures.1 in
    rw (p.1, p.2) (written-refused _ _ _ _ _ (write-sheet _ _ _ _ _ c.in_err-sheet_refusal.ensures (refusal-ne _)))

pub write_accepted-requires : goal.write_accepted-requires
write_accepted-requires c = sym c.in_ok-sheet_refusal.ensures
