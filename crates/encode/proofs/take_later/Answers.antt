use mathlib.Core.Path.{refl, ◌∙◌}
use native.Mathlib.Omega.{arith}
use Prim.Native.Nat.{◌*◌}
use lib.ListN.{length}
use Rattle.code.proofs.Accepted.{accepted}
use Rattle.encode.specs.Horner.{over-room, same-room}
use Rattle.encode.specs.Carried.{later-start, later-turn, later-done}
use Rattle.encode.proofs.take_later.Goals as goal

pub loop-k-init : goal.loop-k-init
loop-k-init c = (refl, c.requires.5, c.requires.6, omega (arith, c.requires.2, (accepted _ c.requires.0).m-low), later-start c.args.p c.args.page.now c.args.i (8 * length c.args.a.now) _ _ _ c.requires.7 c.requires.8 c.requires.9)

pub overflow_add-k-start : goal.overflow_add-k-start
overflow_add-k-start c = omega (arith, c.requires.2, (accepted _ c.requires.0).v_high)

pub sub_word-x-requires : goal.sub_word-x-requires
sub_word-x-requires c = (c.requires.0, c.requires.1, omega arith)

pub add_up-requires : goal.add_up-requires
add_up-requires c = omega (arith, c.loop-k.invariant.0, c.requires.4)

pub raise_over-requires : goal.raise_over-requires
raise_over-requires c =
    let e = c.add_up.auto.acc ∙ c.loop-k.invariant.0 in
    (omega (arith, e, c.requires.3), omega (arith, e, c.loop-k.invariant.1), omega (arith, e, c.loop-k.invariant.2))

pub loop-k-preserved : goal.loop-k-preserved
loop-k-preserved c =
    let a = c.args in
    let v = c.loop-k.invariant in
    let e = c.add_up.auto.acc ∙ v.0 in (
      e,
      c.b-1.given ∙ v.1,
      c.c-1.given ∙ v.2,
      omega arith,
      later-turn a.p a.page.now a.i (8 * length a.a.now) _ c.loop-k.k _ _ _ _ _ _ (omega (arith, v.3)) (omega arith) c.sub_word-x.ensures
          (same-room _ _ _ _ (length a.a.now) v.0 c.add_up.ensures) (over-room a.i _ (length a.a.now) _ _ _ _ _ e c.raise_over.ensures) v.4,
    )

pub shape_of-b : goal.shape_of-b
shape_of-b c = omega (arith, c.loop-k.invariant.1, c.requires.5)

pub shape_of-c : goal.shape_of-c
shape_of-c c = omega (arith, c.loop-k.invariant.2, c.requires.6)

pub returns : goal.returns
returns c = later-done _ _ _ _ c.loop-k.k _ _ _ c.loop-k.invariant.3 c.loop-k-test.false c.loop-k.invariant.4
