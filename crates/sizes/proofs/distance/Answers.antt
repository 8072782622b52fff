use mathlib.Core.Path.{sym}
use Rattle.std.proofs.lemmas.Result.{err_from_is_err_and}
use Rattle.sizes.specs.Sized.{sheet-refused, sized-is}
use Rattle.sizes.proofs.distance.Goals as goal

pub returns-in_err-sheet_refusal : goal.returns-in_err-sheet_refusal
returns-in_err-sheet_refusal c =
    let p = err_from_is_err_and c.from_residual.result c.from_residual.ensures.1 in
    rw (p.1, p.2) (sheet-refused _ _ _ c.in_err-sheet_refusal.ensures)

pub least-d-requires : goal.least-d-requires
least-d-requires c = sym c.in_ok-sheet_refusal.ensures

pub returns : goal.returns
returns c = sized-is _ _ _ (sym c.in_ok-sheet_refusal.ensures) c.least-d.ensures
