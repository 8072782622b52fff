use Rattle.std.proofs.lemmas.Result.{err_from_is_err_and}
use mathlib.Core.Path.{◌≡◌, sym}
use native.Mathlib.Omega.{arith}
use Rattle.element.specs.Exponents.{raise-lt}
use Rattle.element.specs.Fields.{size-most}
use Rattle.element.specs.Operations.{Clear, clear, refusal, gives-refused, gives-element}
use Rattle.element.proofs.Field.power.Goals as goal
use Rattle.element.proofs.Field.power.Goals.{In_ok-test}

-- where nothing is refused
module _ (c : In_ok-test) where
  none : refusal c.args.self c.args.a.0 0 ≡ 0
  none = sym c.in_ok-test.ensures

  ok : Clear c.args.self c.args.a.0 0
  ok = clear c.args.self c.args.a.0 0 none

pub returns-in_err-test : goal.returns-in_err-test
returns-in_err-test c =
    let p = err_from_is_err_and c.from_residual.result c.from_residual.ensures.1 in
    rw (p.1, p.2) (gives-refused _ _ _ c.in_err-test.ensures)

pub raise_in-r-requires : goal.raise_in-r-requires
raise_in-r-requires c = ((ok (goal.at.raise_in-r-requires c).In_ok-test).sized, (ok (goal.at.raise_in-r-requires c).In_ok-test).left)

pub overflow_cast-result : goal.overflow_cast-result
overflow_cast-result c =
    let a = c.args in
    omega (arith, c.raise_in-r.ensures, raise-lt a.self.q (ok (goal.at.overflow_cast-result c).In_ok-test).sized.known a.a.0 a.k, size-most a.self.q (ok (goal.at.overflow_cast-result c).In_ok-test).sized.known)

pub returns : goal.returns
returns c = gives-element _ _ _ (none (goal.at.returns c).In_ok-test) c.raise_in-r.ensures
