use native.Mathlib.Omega.{arith}
use mathlib.Core.Path.{◌≡◌, sym, ◌∙◌}
use Rattle.code.specs.Layout.{words_of}
use Rattle.alter.specs.Spread.{spread-next, spread-start}
use Rattle.alter.proofs.add_words.Goals as goal

pub loop-k-init : goal.loop-k-init
loop-k-init c = spread-start c.args.p c.args.sum.now _ c.requires.1

pub add_word-requires : goal.add_word-requires
add_word-requires c = (c.requires.0, c.loop-k.invariant.exact, c.requires.2, c.requires.3, c.requires.4, c.requires.5, c.loop-k-test.true)

pub loop-k-preserved : goal.loop-k-preserved
loop-k-preserved c =
    let a = c.args in
    spread-next a.p a.sum.now (words_of a.q a.short.now) _ _ c.loop-k.k c.loop-k.invariant c.loop-k-test.true c.add_word.ensures

pub shape_of-sum : goal.shape_of-sum
shape_of-sum c = c.loop-k.invariant.exact ∙ sym c.requires.1

pub returns : goal.returns
returns c =
    let e : c.loop-k.k ≡ c.args.p.m = omega arith in
    rw e at c.loop-k.invariant
