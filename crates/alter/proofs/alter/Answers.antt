use Rattle.std.proofs.lemmas.Result.{err_from_is_err_and}
use mathlib.Core.Path.{sym}
use Rattle.refusal.specs.Altering.{sheet-refused}
use Rattle.alter.proofs.alter.Goals as goal

pub returns-in_err-sheet_refusal : goal.returns-in_err-sheet_refusal
returns-in_err-sheet_refusal c =
    let p = err_from_is_err_and c.from_residual.result c.from_residual.ensures.1 in
    rw (p.1, p.2) (sheet-refused _ _ _ _ _ _ c.in_err-sheet_refusal.ensures)

pub alter_accepted-requires : goal.alter_accepted-requires
alter_accepted-requires c = sym c.in_ok-sheet_refusal.ensures
