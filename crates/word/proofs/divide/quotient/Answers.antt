use mathlib.Core.Path.{refl, ap, ◌∙◌}
use native.Mathlib.Omega.{arith}
use Prim.Native.Nat.{ℕ}
use Rattle.polynomial.specs.Digits.{value}
use Rattle.polynomial.specs.Xor.{xor, xor_zero_l}
use Rattle.word.specs.Quotient.{divide-start, divide-next, divide-room, divide-done}
use Rattle.word.specs.Row.{aligned-deg}
use Rattle.word.proofs.divide.quotient.Goals as goal

pub loop-init : goal.loop-init
loop-init c = (
  divide-start _ _ _ _ (aligned-deg _ c.args.w c.requires.1 _ (omega arith) c.align.ensures.0) (aligned-deg _ c.args.u c.requires.0 _ c.requires.3 refl)
      (c.insert.ensures.0 ∙ ap (λ (x : ℕ). xor x 1) c.clear.ensures ∙ xor_zero_l 1) (c.add.ensures.0 ∙ ap (λ (x : ℕ). xor x (value 64 c.align.new.r)) c.align-2.ensures.0),
  c.insert.ensures.1,
)

pub divide_step-requires : goal.divide_step-requires
divide_step-requires c =
    let v = c.loop.invariant.0 in (
      aligned-deg _ c.args.w c.requires.1 _ (omega arith) c.align.ensures.0,
      divide-room _ _ _ _ _ v (omega (arith, c.loop-test.true)),
      v.low,
    )

pub loop-preserved : goal.loop-preserved
loop-preserved c = (divide-next _ _ _ _ _ _ _ c.loop.invariant.0 c.divide_step.ensures.0, c.divide_step.ensures.1)

pub returns : goal.returns
returns c = (divide-done _ c.args.u _ c.args.w c.requires.1 c.requires.2 c.requires.3 _ _ _ _ _ c.align.ensures.0 refl (omega (arith, c.loop.auto, c.loop-test.false)) c.loop.invariant.0, c.loop.invariant.1)
