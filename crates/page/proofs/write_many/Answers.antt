use Rattle.code.proofs.Answers.{refusal-ne}
use Rattle.std.proofs.lemmas.Result.{err_from_is_err_and}
use mathlib.Core.Path.{sym}
use Rattle.refusal.specs.Many.{many-sheet}
use Rattle.page.specs.Listed.{many-refused}
use Rattle.page.proofs.write_many.Goals as goal

pub returns-in_err-sheet_refusal : goal.returns-in_err-sheet_refusal
returns-in_err-sheet_refusal c =
    let p = err_from_is_err_and c.from_residual.result c.from_residual.ensures.1 in
    rw (p.1, p.2) (many-refused _ _ _ _ _ _ _ (many-sheet _ _ _ _ _ _ _ c.in_err-sheet_refusal.ensures (refusal-ne _)))

pub many_accepted-requires : goal.many_accepted-requires
many_accepted-requires c = sym c.in_ok-sheet_refusal.ensures
