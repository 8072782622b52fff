use native.Mathlib.Omega.{arith}
use Rattle.layout.specs.Parts.{summed-start, summed_turn, summed-done, block_room, bytes_high}
use Rattle.layout.proofs.block_offset.Goals as goal

pub loop-j-init : goal.loop-j-init
loop-j-init c = summed-start _ _

pub overflow_add-at : goal.overflow_add-at
overflow_add-at c =
    let l = c.loop-j in
    omega (arith, l.invariant.begins, c.block_size-at.ensures, block_room c.args.p l.j (omega arith), bytes_high _ c.requires.0)

pub loop-j-preserved : goal.loop-j-preserved
loop-j-preserved c = summed_turn _ _ _ _ _ c.loop-j.invariant c.loop-j-test.true c.requires.2 c.block_size-at.ensures

pub returns : goal.returns
returns c = summed-done _ _ _ _ c.loop-j.invariant c.loop-j-test.false
