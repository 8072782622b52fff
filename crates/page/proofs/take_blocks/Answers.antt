use mathlib.Core.Path.{refl, sym, ◌∙◌}
use Prim.Native.Nat.{◌/◌, ◌^◌}
use lib.ListN.{get_or}
use Rattle.polynomial.specs.Digits.{digits}
use Rattle.code.specs.Code.{check_bits}
use Rattle.code.specs.Layout.{stored_of}
use Rattle.page.specs.Taken.{taken_start, taken_next, taken-all, size_of}
use Rattle.page.proofs.take_blocks.Goals as goal

pub loop-i-init : goal.loop-i-init
loop-i-init c = taken_start c.args.p c.args.page.now c.args.blocks.now c.requires.room

pub take_block-requires : goal.take_block-requires
take_block-requires c =
    let r = c.requires in
    (record { accepts = r.accepts; degrees = r.degrees; exact = r.exact; room = c.loop-i.invariant.exact }, c.loop-i-test.true)

pub loop-i-preserved : goal.loop-i-preserved
loop-i-preserved c =
    let a = c.args in
    rw c.take_block.ensures (taken_next a.p a.page.now c.loop-i.blocks
    (digits 8 (size_of a.p c.loop-i.i) (get_or (stored_of a.p a.page.now) c.loop-i.i 0 / 2 ^ check_bits a.p c.loop-i.i))
    c.loop-i.i c.loop-i.invariant c.loop-i-test.true refl)

pub shape_of-blocks : goal.shape_of-blocks
shape_of-blocks c = c.loop-i.invariant.exact ∙ sym c.requires.room

pub returns : goal.returns
returns c =
    let a = c.args in
    taken-all a.p a.page.now c.loop-i.blocks c.loop-i.i c.loop-i.invariant c.loop-i-test.false
