use Rattle.std.proofs.lemmas.Result.{err_from_is_err_and}
use mathlib.Core.Path.{◌≡◌}
use lib.ListN.{length}
use Rattle.code.specs.Parameters.{Accepted}
use Rattle.sizes.specs.Quoting.{quote-accepted, quote-refused, quote-done}
use Rattle.sizes.proofs.quote.Goals as goal
use Rattle.sizes.proofs.quote.Goals.{In_ok-quote_refusal}

-- where the tests have passed
passed : (c : In_ok-quote_refusal) → (let a = c.args in Accepted a.p × (length a.list.now ≡ 12))
passed c = quote-accepted _ _ c.in_ok-quote_refusal.ensures

pub returns-in_err-quote_refusal : goal.returns-in_err-quote_refusal
returns-in_err-quote_refusal c =
    let p = err_from_is_err_and c.from_residual.result c.from_residual.ensures.1 in
    rw (p.1, p.2) (quote-refused _ _ _ c.in_err-quote_refusal.ensures)

pub rows-rows-requires : goal.rows-rows-requires
rows-rows-requires c = (passed (goal.at.rows-rows-requires c).In_ok-quote_refusal).0

pub degrees-w-requires : goal.degrees-w-requires
degrees-w-requires c = ((passed (goal.at.degrees-w-requires c).In_ok-quote_refusal).0, c.rows-rows.ensures)

pub quote_into-requires : goal.quote_into-requires
quote_into-requires c =
    let p = passed (goal.at.quote_into-requires c).In_ok-quote_refusal in
    (p.0, c.degrees-w.ensures, p.1)

pub returns : goal.returns
returns c = quote-done _ _ _ c.in_ok-quote_refusal.ensures c.quote_into.ensures
