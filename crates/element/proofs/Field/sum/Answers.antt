use Rattle.std.proofs.lemmas.Result.{err_from_is_err_and}
use mathlib.Core.Path.{sym}
use Rattle.polynomial.specs.Xor.{xor_is}
use Rattle.element.specs.Operations.{gives-refused, gives-element}
use Rattle.element.proofs.Field.sum.Goals as goal

pub returns-in_err-test : goal.returns-in_err-test
returns-in_err-test c =
    let p = err_from_is_err_and c.from_residual.result c.from_residual.ensures.1 in
    rw (p.1, p.2) (gives-refused _ _ _ c.in_err-test.ensures)

pub returns : goal.returns
returns c = gives-element _ _ _ (sym c.in_ok-test.ensures) (xor_is _ _)
