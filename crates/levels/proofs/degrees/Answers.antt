use mathlib.Core.Path.{refl}
use Prim.Native.Nat.{◌+◌}
use native.Mathlib.Omega.{arith}
use lib.ListN.{length-set}
use Rattle.levels.specs.Ready.{counted_start, counted_next, counted-all, level-lt}
use Rattle.levels.proofs.degrees.Goals as goal

pub loop-a-init : goal.loop-a-init
loop-a-init c = (refl, counted_start _)

pub degree_at-requires : goal.degree_at-requires
degree_at-requires c = (c.requires.0, c.requires.1, omega arith)

pub bounds-w-a : goal.bounds-w-a
bounds-w-a c = level-lt c.args.p c.requires.0 c.loop-a.a (omega arith)

pub loop-a-preserved : goal.loop-a-preserved
loop-a-preserved c =
    let h = level-lt c.args.p c.requires.0 c.loop-a.a (omega arith) in
    (simp length-set c.loop-a.invariant.0, counted_next c.args.p c.loop-a.a c.degree_at.result c.loop-a.w (omega (arith, c.loop-a.invariant.0, h)) c.loop-a.invariant.1 c.degree_at.ensures)

pub returns : goal.returns
returns c = counted-all c.args.p c.loop-a.a c.loop-a.w c.loop-a.invariant.0 (omega arith) c.loop-a.invariant.1

pub returns-2 : goal.returns-2
returns-2 c =
    let h = level-lt c.args.p c.requires.0 c.loop-a.a (omega arith) in
    counted-all c.args.p (c.loop-a.a + 1) _ (simp length-set c.loop-a.invariant.0) (omega arith)
    (counted_next c.args.p c.loop-a.a c.degree_at.result c.loop-a.w (omega (arith, c.loop-a.invariant.0, h)) c.loop-a.invariant.1 c.degree_at.ensures)
