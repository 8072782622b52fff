-- The loop: u is left of top, to be added from digit 4 k on. The measure is u.
use mathlib.Core.Path.{refl, ◌∙◌}
use borrow.Author.Rules.{rules}
use Rattle.polynomial.specs.Digits.{value}
use Rattle.reduction.specs.Reduce.{top_start, top-more, top-turn, top-done}
use Rattle.reduction.proofs.remainder.add_top.Goals as goal

pub loop-u-init : goal.loop-u-init
loop-u-init c = (search rules, refl, top_start _ _ _ c.ranges.top.fits)

pub add_four-requires : goal.add_four-requires
add_four-requires c =
    let l = c.loop-u in
    (record { words = l.invariant.0; table = c.requires.0.table; from = c.requires.0.from }, c.requires.1, top-more _ _ _ _ l.u l.k c.loop-u-test.true l.invariant.2)

pub overflow_add-k : goal.overflow_add-k
overflow_add-k c =
    let l = c.loop-u in
    let h = l.invariant.2.four in
    search rules

pub loop-u-smaller : goal.loop-u-smaller
loop-u-smaller c =
    let z = c.loop-u-test.true in
    search rules

pub loop-u-preserved : goal.loop-u-preserved
loop-u-preserved c =
    let l = c.loop-u in
    let q = c.add_four in
    (q.array_long, q.ensures.1 ∙ l.invariant.1, top-turn _ _ _ (value 64 l.v) _ l.u l.k (top-more _ _ _ _ l.u l.k c.loop-u-test.true l.invariant.2) q.ensures.0 l.invariant.2)

pub returns : goal.returns
returns c =
    let l = c.loop-u in
    (top-done _ _ _ _ l.u l.k c.loop-u-test.false l.invariant.2, l.invariant.1)
