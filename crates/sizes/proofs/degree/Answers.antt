use Rattle.std.proofs.lemmas.Result.{err_from_is_err_and}
use mathlib.Core.Path.{◌≡◌, sym}
use Rattle.code.specs.Refusals.{open_refusal}
use Rattle.code.proofs.Refused.{open-le, open-zero}
use Rattle.sizes.specs.Sized.{sized-refused, sized-is}
use Rattle.sizes.proofs.degree.Goals as goal
use Rattle.sizes.proofs.degree.Goals.{In_ok-open_refusal}

-- where the tests have passed
none : (c : In_ok-open_refusal) → (let a = c.args in open_refusal a.p a.level) ≡ 0
none c = sym c.in_ok-open_refusal.ensures

pub returns-in_err-open_refusal : goal.returns-in_err-open_refusal
returns-in_err-open_refusal c =
    let p = err_from_is_err_and c.from_residual.result c.from_residual.ensures.1 in
    rw (p.1, p.2) (sized-refused _ _ _ c.in_err-open_refusal.ensures (open-le c.args.p c.args.level))

pub rows-rows-requires : goal.rows-rows-requires
rows-rows-requires c = (open-zero _ _ (none (goal.at.rows-rows-requires c).In_ok-open_refusal)).0

pub degree_at-w-requires : goal.degree_at-w-requires
degree_at-w-requires c = let o = open-zero _ _ (none (goal.at.degree_at-w-requires c).In_ok-open_refusal) in (o.0, c.rows-rows.ensures, o.1)

pub returns : goal.returns
returns c = sized-is _ _ _ (none (goal.at.returns c).In_ok-open_refusal) c.degree_at-w.ensures
