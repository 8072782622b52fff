use Rattle.std.proofs.lemmas.Result.{err_from_is_err_and}
use mathlib.Core.Path.{sym}
use native.Mathlib.Omega.{arith}
use Rattle.code.proofs.Answers.{made-done, made-refused}
use Rattle.code.proofs.Odd.{all-le, all-zero}
use Rattle.oneword.proofs.all_syndromes.Goals as goal

pub returns-in_err-all_refusal : goal.returns-in_err-all_refusal
returns-in_err-all_refusal c =
    let p = err_from_is_err_and c.from_residual.result c.from_residual.ensures.1 in
    rw (p.1, p.2) (made-refused _ _ _ _ c.in_err-all_refusal.ensures (all-le 1 _ _ _ _))

pub all_from-requires : goal.all_from-requires
all_from-requires c =
    let z = all-zero 1 _ _ _ _ (sym c.in_ok-all_refusal.ensures) in
    (z.0, omega (arith, z.2, z.3))

pub returns : goal.returns
returns c = made-done _ _ _ _ (sym c.in_ok-all_refusal.ensures) c.all_from.ensures
