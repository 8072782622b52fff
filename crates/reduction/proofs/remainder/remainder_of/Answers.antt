use mathlib.Core.Path.{refl}
use native.Mathlib.Omega.{arith}
use Prim.Native.Nat.{◌-◌}
use Rattle.polynomial.specs.Digits.{value}
use Rattle.reduction.specs.Above.{short-rest, whole-rest}
use Rattle.reduction.proofs.remainder.remainder_of.Goals as goal

pub returns-then-n-w : goal.returns-then-n-w
returns-then-n-w c =
    let a = c.args in
    (short-rest a.t.now a.p a.n (value 8 a.s.now) _ _ c.requires.3 c.if-n-w.true c.clear.ensures c.add_low.ensures.0, c.add_low.ensures.1)

pub returns-else-n-w : goal.returns-else-n-w
returns-else-n-w c =
    let a = c.args in
    (whole-rest a.t.now a.p a.n (768 - a.p) (value 8 a.s.now) _ _ _ c.requires.3 refl (omega (arith, c.if-n-w.false)) c.feed_top.ensures c.lower.ensures.0 c.add_low-else-n-w.ensures.0, c.add_low-else-n-w.ensures.1)
