use mathlib.Core.Path.{ap, ◌∙◌}
use Prim.Native.Nat.{ℕ, ◌^◌}
use Rattle.polynomial.specs.Xor.{xor}
use Rattle.polynomial.specs.Digits.{value}
use Rattle.mend.specs.Left.{flip-first, flip-next}
use Rattle.mend.proofs.flip_all.Goals as goal

pub loop-e-init : goal.loop-e-init
loop-e-init c = flip-first c.args.s.now c.args.list.now

pub loop-e-preserved : goal.loop-e-preserved
loop-e-preserved c =
    flip-next c.args.s.now c.args.list.now c.loop-e.s _ c.loop-e.e-index c.loop-e.invariant c.loop-e-test.true c.flip.auto.s
    (c.flip.ensures ∙ ap (λ (n : ℕ). xor (value 8 c.loop-e.s) (2 ^ n)) c.from.ensures)
