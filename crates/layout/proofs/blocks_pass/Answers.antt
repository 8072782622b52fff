use Rattle.std.proofs.Common.{refl, sym, ◌∙◌, arith}
use Rattle.layout.specs.Parts.{offset-next, offset-zero}
use Rattle.layout.specs.Tested.{RunIn, run-there, blocks_start, blocks-turn, blocks-found, blocks-done}
use Rattle.layout.proofs.blocks_pass.Goals as goal
use Rattle.layout.proofs.blocks_pass.Goals.{After-block_size-size}

-- the run of the block at hand
there : (g : _) (c : After-block_size-size g) → RunIn c.args.blocks.now c.loop-j.at c.block_size-size.result c.data_bits-b.result
there g c =
    run-there c.args.p c.args.blocks.now c.requires.lengths.0 c.requires.lengths.2 c.loop-j.at c.loop-j.j _ _ c.loop-j.invariant.0 c.loop-j-test.true
    c.data_bits-b.ensures c.block_size-size.ensures

pub loop-j-init : goal.loop-j-init
loop-j-init g c = (sym (offset-zero c.args.p), λ P h. blocks_start P c.args.p c.args.blocks.now)

pub test-requires : goal.test-requires
test-requires g c = c.requires.callable _ _ _ _ refl (there g (goal.at.test-requires g c).After-block_size-size)

pub returns-then-not-test : goal.returns-then-not-test
returns-then-not-test g c = λ P h.
    let r = h _ _ _ _ c.test.result refl c.test.ensures in
    blocks-found P _ _ _ _ _ _ (c.loop-j.invariant.1 P h) c.loop-j-test.true c.data_bits-b.ensures c.block_size-size.ensures (sym r ∙ c.if-not-test.true)

pub overflow_add-at : goal.overflow_add-at
overflow_add-at g c = omega (arith, there g (goal.at.overflow_add-at g c).After-block_size-size)

pub loop-j-preserved : goal.loop-j-preserved
loop-j-preserved g c = (
  rw (c.block_size-size.ensures, c.loop-j.invariant.0) (sym (offset-next c.args.p c.loop-j.j c.loop-j-test.true)),
  λ P h.
      let r = h _ _ _ _ c.test.result refl c.test.ensures in
      blocks-turn P _ _ _ _ _ _ (c.loop-j.invariant.1 P h) c.loop-j-test.true c.data_bits-b.ensures c.block_size-size.ensures (sym r ∙ c.if-not-test.false),
)

pub returns : goal.returns
returns g c = λ P h. blocks-done P _ _ _ _ (c.loop-j.invariant.1 P h) c.loop-j-test.false
