-- The loop: u is left of top, to be added from byte 2 k on. The measure is u.
use borrow.Author.Rules.{rules}
use mathlib.Core.Path.{refl, ◌∙◌}
use Prim.Native.Nat.{◌<◌}
use Rattle.polynomial.specs.Digits.{value}
use Rattle.reduction.specs.Reduce.{top_start, top-more, top-turn, top-done}
use Rattle.bytewise.proofs.add_top.Goals as goal

pub loop-u-init : goal.loop-u-init
loop-u-init c = (search rules, refl, λ t W. top_start _ _ _ c.ranges.top.fits)

pub add_two-requires : goal.add_two-requires
add_two-requires c =
    let l = c.loop-u in
    let w = c.requires in
    (w.words, top-more _ _ _ _ l.u l.k c.loop-u-test.true (l.invariant.2 w.hex w.widened))

pub overflow_add-k : goal.overflow_add-k
overflow_add-k c =
    let l = c.loop-u in
    let w = c.requires in
    let h = (l.invariant.2 w.hex w.widened).four in
    search rules

pub loop-u-smaller : goal.loop-u-smaller
loop-u-smaller c =
    let z = c.loop-u-test.true in
    search rules

pub loop-u-preserved : goal.loop-u-preserved
loop-u-preserved c =
    let l = c.loop-u in
    let w = c.requires in
    let q = c.add_two in
    let m : l.k < 4 = top-more _ _ _ _ l.u l.k c.loop-u-test.true (l.invariant.2 w.hex w.widened) in
    (q.array_long, q.ensures.1 ∙ l.invariant.1, λ t W. top-turn _ _ _ (value 64 l.v) _ l.u l.k m (q.ensures.0 t W) (l.invariant.2 t W))

pub returns : goal.returns
returns c =
    let l = c.loop-u in
    (λ t W. top-done _ _ _ _ l.u l.k c.loop-u-test.false (l.invariant.2 t W), l.invariant.1)
