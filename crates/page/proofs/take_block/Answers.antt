use mathlib.Core.Path.{◌≡◌, sym, ap, ◌∙◌}
use native.Mathlib.Omega.{arith}
use Prim.Native.Nat.{ℕ, ◌+◌, ◌-◌, ◌/◌, ◌≤◌}
use lib.ListN.{length, take, drop}
use Rattle.polynomial.specs.Digits.{length_digits, value}
use Rattle.code.proofs.Placement.{word_at}
use Rattle.layout.specs.Parts.{block_room, bytes_high}
use Rattle.layout.specs.Sizes.{check-below, data-high, data-low, stored-high}
use Rattle.layout.specs.Replaced.{put_is, middle-bytes, part_length}
use Rattle.page.specs.Taken.{size_of, moved_down}
use Rattle.page.proofs.take_block.Goals as goal
use Rattle.page.proofs.take_block.Goals.{After-block_size-size}

-- block i is the part of the blocks that is lent
room : (z : After-block_size-size) → z.block_offset-at.result + z.block_size-size.result ≤ length z.args.blocks.now
room z = omega (arith, z.requires.0.room, z.block_offset-at.ensures, z.block_size-size.ensures, block_room z.args.p z.args.i z.requires.1)

pub overflow_add-stop : goal.overflow_add-stop
overflow_add-stop c = omega (arith, room (goal.at.overflow_add-stop c).After-block_size-size, c.requires.0.room, bytes_high c.args.p c.requires.0.accepts)

pub slice_bounds-data_into-end : goal.slice_bounds-data_into-end
slice_bounds-data_into-end c = room (goal.at.slice_bounds-data_into-end c).After-block_size-size

pub data_into-requires : goal.data_into-requires
data_into-requires c =
    let a = c.args in
    let l = part_length a.blocks.now c.block_offset-at.result c.block_size-size.result (room (goal.at.data_into-requires c).After-block_size-size) in (
      omega (arith, c.check_bits-bits.ensures, check-below a.p c.requires.0.accepts a.i, stored-high a.p c.requires.0.accepts),
      rw c.data_bits-b.ensures (data-low a.p c.requires.0.accepts a.i),
      rw c.data_bits-b.ensures (data-high a.p c.requires.0.accepts a.i),
      l ∙ c.block_size-size.ensures ∙ ap (λ (b : ℕ). (b + 7) / 8) (sym c.data_bits-b.ensures),
    )

pub returns : goal.returns
returns c =
    let a = c.args in
    let r = c.requires.0 in
    let at = c.block_offset-at.result in
    let size = c.block_size-size.result in
    let back : length c.data_into.new.block ≡ length (take (at + size - at) (drop at a.blocks.now)) = c.blocks-1.given.0 in
    let part = part_length a.blocks.now at size (room (goal.at.returns c).After-block_size-size) in
    let e = sym (word_at a.p a.page.now a.i c.requires.1) in
    let y = moved_down a.p r.accepts c.data_into.new.block a.page.now c.check_bits-bits.result a.i size c.data_bits-b.result
    (middle-bytes (take at a.blocks.now) c.data_into.new.block (drop (at + size - at) (drop at a.blocks.now)) (λ i. (c.type_inv.blocks i).fits))
    c.requires.1 c.check_bits-bits.ensures c.data_bits-b.ensures c.block_size-size.ensures (back ∙ part)
    (rw (ap (value 8) c.sub_word-s.ensures ∙ e) at c.data_into.ensures) in
    put_is a.blocks.now c.data_into.new.block _ at size _ c.block_offset-at.ensures y (length_digits 8 (size_of a.p a.i) _ ∙ sym c.block_size-size.ensures)
