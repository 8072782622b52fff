use mathlib.Core.Path.{◌≡◌, refl, sym}
use native.Mathlib.Omega.{arith}
use lib.ListN.{length}
use Rattle.field.specs.Elements.{sum_below-zero}
use Rattle.syndrome.specs.Sum.{sum-next}
use Rattle.syndrome.proofs.power_sum.Goals as goal

pub loop-i-init : goal.loop-i-init
loop-i-init c = sym (sum_below-zero _)

pub offset_bounds-powers-i : goal.offset_bounds-powers-i
offset_bounds-powers-i c = omega (arith, c.requires.below c.loop-i.i-index (omega arith))

pub bounds-powers-i : goal.bounds-powers-i
bounds-powers-i c = c.requires.below c.loop-i.i-index (omega arith)

pub loop-i-preserved : goal.loop-i-preserved
loop-i-preserved c = sum-next c.args.powers.now c.args.e.now c.loop-i.i-index c.loop-i.x _ c.loop-i.invariant refl

pub returns : goal.returns
returns c =
    let w : c.loop-i.i-index ≡ length c.args.e.now = omega arith in
    rw w at c.loop-i.invariant
