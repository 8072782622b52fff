-- The parts, one after the other: up-law.
use native.Mathlib.Omega.{arith}
use lib.ListN.{length}
use Rattle.polynomial.specs.Digits.{value}
use Rattle.kernels.specs.Add.{all-law, up-law, up_none}
use Rattle.kernels.proofs.bytes.add_up.Goals as goal

pub returns-then-s-eq0 : goal.returns-then-s-eq0
returns-then-s-eq0 c = up_none _ _ _ _ _ c.if-s-eq0.true c.add_low.ensures

pub returns-then-acc-h : goal.returns-then-acc-h
returns-then-acc-h c = all-law _ _ _ _ (length c.args.acc.now) (omega arith) c.add_rest.ensures

pub returns : goal.returns
returns c =
    let a = c.args in
    up-law (value 8 a.x.now) a.s _ _ _ _ (length a.acc.now) _ _ _ _ (omega arith) (omega arith) c.add_words.ensures c.add_windows.ensures c.add_rest-2.ensures
