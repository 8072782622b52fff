use mathlib.Core.Path.{◌≡◌, refl, ◌∙◌}
use native.Mathlib.Nat as Nat
use native.Mathlib.Omega.{arith}
use Prim.Native.Nat.{◌+◌, ◌-◌, zero-le}
use Rattle.code.proofs.Accepted.{accepted}
use Rattle.pages.specs.Filling.{level-own, same-given, stage-next, stage-start}
use Rattle.pages.proofs.write_earlier.Goals as goal

pub loop-i-init : goal.loop-i-init
loop-i-init c =
    let a = c.args in
    (stage-start a.p a.blocks.now a.list.now a.pages.now a.p.v c.requires.1, c.requires.0.table, c.requires.0.filling.room, refl)

pub write_level-requires : goal.write_level-requires
write_level-requires c =
    let a = c.args in
    let i = c.loop-i.invariant in
    let f = c.requires.0.filling in
    let e : c.loop-i.i - 1 + 1 ≡ c.loop-i.i = omega arith in
    rw e (
      record {
        filling = record {
          given = same-given a.p a.w.now a.blocks.now a.pages.now c.loop-i.pages a.list.now a.width i.0.exact f.given;
          room = i.2;
        };
        rowed = c.requires.0.rowed;
        table = i.1;
      },
      level-own a.p c.loop-i.i c.loop-i-test.true (omega (arith, (accepted a.p f.given.accepts).m-low)),
      i.0.begun,
    )

pub loop-i-preserved : goal.loop-i-preserved
loop-i-preserved c =
    let a = c.args in
    let i = c.loop-i.invariant in (
      stage-next a.p a.blocks.now a.list.now a.pages.now c.loop-i.pages _ c.loop-i.i (c.loop-i.i - 1) i.0 c.write_level.ensures,
      c.t-1.given ∙ i.1,
      c.acc-1.given ∙ i.2,
      c.b-1.given ∙ i.3,
    )

pub returns : goal.returns
returns c =
    let e : c.loop-i.i ≡ 0 = Nat.le_antisymm c.loop-i-test.false zero-le in
    rw e at c.loop-i.invariant.0
