use mathlib.Core.Path.{◌≡◌, sym, ◌∙◌}
use native.Mathlib.Nat as Nat
use native.Mathlib.Omega.{arith}
use Prim.Native.Nat.{◌+◌, ◌*◌}
use lib.ListN.{length}
use Rattle.code.proofs.Filled.{filled-all, filled-first, filled_next}
use Rattle.syndrome.specs.Sum.{roots-room, runs-below, runs-one, sum_is, runs-two, runs-next}
use Rattle.syndrome.proofs.sums_into.Goals as goal

pub advance-requires : goal.advance-requires
advance-requires c = (c.requires.0.field, sym c.requires.1, c.requires.3, c.requires.2)

pub loop-x-init : goal.loop-x-init
loop-x-init c =
    let known = c.requires.0.field.known in (
      runs-two c.args.f.q known c.args.e.now c.args.d.now _ c.requires.4 c.requires.2 c.advance.ensures,
      runs-one c.args.f.q known c.args.e.now c.requires.2,
      filled-first _ _,
    )

pub power_sum-requires : goal.power_sum-requires
power_sum-requires c =
    let r = runs-below c.args.f.q c.requires.0.field.known c.args.e.now _ c.loop-x.e c.loop-x.invariant.1 in
    record { below = λ i h. Nat.lt_of_lt_of_le (r.below i h) (roots-room c.requires.0) }

pub advance-requires-in-loop-x : goal.advance-requires-in-loop-x
advance-requires-in-loop-x c =
    let d = c.loop-x.invariant.0 in
    let e = c.loop-x.invariant.1 in
    (c.requires.0.field, e.size ∙ sym d.size, runs-below c.args.f.q c.requires.0.field.known c.args.e.now _ c.loop-x.e e, runs-below c.args.f.q c.requires.0.field.known c.args.e.now _ _ d)

pub loop-x-preserved : goal.loop-x-preserved
loop-x-preserved c =
    let i = c.loop-x.x-index in (
      c.loop-x.invariant.0,
      runs-next c.args.f.q c.requires.0.field.known c.args.e.now i c.loop-x.e _ _ c.loop-x.invariant.1 c.loop-x.invariant.0 c.advance-in-loop-x.ensures,
      filled_next _ i _ c.loop-x.list c.loop-x.invariant.2 (omega arith)
          (c.power_sum.ensures ∙ sum_is c.args.f c.args.powers.now c.requires.0 c.args.e.now c.loop-x.e (2 * i + 1) c.loop-x.invariant.1),
    )

pub returns : goal.returns
returns c =
    let w : c.loop-x.x-index ≡ length c.args.list.now = omega arith in
    filled-all _ (length c.args.list.now) c.loop-x.list (rw w at c.loop-x.invariant.2) (omega arith)
