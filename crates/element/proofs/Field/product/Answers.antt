use Rattle.std.proofs.lemmas.Result.{err_from_is_err_and}
use mathlib.Core.Path.{◌≡◌, sym}
use native.Mathlib.Omega.{arith}
use Rattle.element.specs.Exponents.{times-lt}
use Rattle.element.specs.Fields.{size-most}
use Rattle.element.specs.Operations.{Clear, clear, refusal, gives-refused, gives-element}
use Rattle.element.proofs.Field.product.Goals as goal
use Rattle.element.proofs.Field.product.Goals.{In_ok-test}

-- where nothing is refused
module _ (c : In_ok-test) where
  none : refusal c.args.self c.args.a.0 c.args.b.0 ≡ 0
  none = sym c.in_ok-test.ensures

  ok : Clear c.args.self c.args.a.0 c.args.b.0
  ok = clear c.args.self c.args.a.0 c.args.b.0 none

pub returns-in_err-test : goal.returns-in_err-test
returns-in_err-test c =
    let p = err_from_is_err_and c.from_residual.result c.from_residual.ensures.1 in
    rw (p.1, p.2) (gives-refused _ _ _ c.in_err-test.ensures)

pub times_in-r-requires : goal.times_in-r-requires
times_in-r-requires c = ((ok (goal.at.times_in-r-requires c).In_ok-test).sized, (ok (goal.at.times_in-r-requires c).In_ok-test).left, (ok (goal.at.times_in-r-requires c).In_ok-test).right)

pub overflow_cast-result : goal.overflow_cast-result
overflow_cast-result c =
    let a = c.args in
    omega (arith, c.times_in-r.ensures, times-lt a.self.q (ok (goal.at.overflow_cast-result c).In_ok-test).sized.known a.a.0 a.b.0, size-most a.self.q (ok (goal.at.overflow_cast-result c).In_ok-test).sized.known)

pub returns : goal.returns
returns c = gives-element _ _ _ (none (goal.at.returns c).In_ok-test) c.times_in-r.ensures
