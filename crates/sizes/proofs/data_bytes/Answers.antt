use mathlib.Core.Path.{sym}
use Rattle.std.proofs.lemmas.Result.{err_from_is_err_and}
use Rattle.code.specs.Parameters.{Accepted}
use Rattle.sizes.specs.Sized.{sheet-refused, sized-is}
use Rattle.sizes.proofs.data_bytes.Goals as goal
use Rattle.sizes.proofs.data_bytes.Goals.{In_ok-sheet_refusal}

-- where the test has passed
passed : (c : In_ok-sheet_refusal) → Accepted c.args.p
passed c = sym c.in_ok-sheet_refusal.ensures

pub returns-in_err-sheet_refusal : goal.returns-in_err-sheet_refusal
returns-in_err-sheet_refusal c =
    let p = err_from_is_err_and c.from_residual.result c.from_residual.ensures.1 in
    rw (p.1, p.2) (sheet-refused _ _ _ c.in_err-sheet_refusal.ensures)

pub rows-rows-requires : goal.rows-rows-requires
rows-rows-requires c = passed (goal.at.rows-rows-requires c).In_ok-sheet_refusal

pub degrees-w-requires : goal.degrees-w-requires
degrees-w-requires c = (passed (goal.at.degrees-w-requires c).In_ok-sheet_refusal, c.rows-rows.ensures)

pub data_bytes-n-requires : goal.data_bytes-n-requires
data_bytes-n-requires c = (passed (goal.at.data_bytes-n-requires c).In_ok-sheet_refusal, c.degrees-w.ensures)

pub returns : goal.returns
returns c = sized-is _ _ _ (passed (goal.at.returns c).In_ok-sheet_refusal) c.data_bytes-n.ensures
