use mathlib.Core.Path.{ap, ◌∙◌}
use native.Mathlib.Omega.{arith}
use Prim.Native.Nat.{ℕ, ◌+◌, ◌-◌, ◌^◌, ◌≤◌, ◌<◌}
use lib.ListN.{length, take, drop}
use Rattle.polynomial.specs.Digits.{value}
use Rattle.code.specs.Layout.{data_bits}
use Rattle.layout.specs.Parts.{block_room, bytes_high}
use Rattle.layout.specs.Written.{written}
use Rattle.encode.specs.Encoding.{block-lt, block-part, late-word, putting, word_from}
use Rattle.encode.proofs.write_word.Goals as goal
use Rattle.encode.proofs.write_word.Goals.{After-block_size-size}

taken : (c : After-block_size-size) → (let o = c.block_offset-at.result in
    (o + c.block_size-size.result ≤ length c.args.blocks.now) × (o + c.block_size-size.result ≤ 4096))
taken c =
    let a = c.args in (
      omega (arith, c.requires.0.ready.exact, c.block_offset-at.ensures, c.block_size-size.ensures, block_room a.p a.i c.requires.1),
      omega (arith, c.block_offset-at.ensures, c.block_size-size.ensures, block_room a.p a.i c.requires.1, bytes_high a.p c.requires.0.ready.accepts),
    )

block-small : (c : After-block_size-size) → (let o = c.block_offset-at.result in let a = c.args in
    value 8 (take (o + c.block_size-size.result - o) (drop o a.blocks.now)) < 2 ^ data_bits a.p a.i)
block-small c =
    let a = c.args in
    rw (block-part a.p a.blocks.now a.i c.block_offset-at.result c.block_size-size.result c.requires.1 c.block_offset-at.ensures c.block_size-size.ensures)
    (block-lt a.p a.w.now a.blocks.now c.requires.0.ready (λ i. (c.type_inv.blocks i).fits) a.i c.requires.1)

pub block_offset-at-requires : goal.block_offset-at-requires
block_offset-at-requires c = (c.requires.0.ready.accepts, c.requires.0.ready.degrees, omega (arith, c.requires.1))

pub block_size-size-requires : goal.block_size-size-requires
block_size-size-requires c = (c.requires.0.ready.accepts, c.requires.0.ready.degrees)

pub overflow_add-stop : goal.overflow_add-stop
overflow_add-stop c = omega (arith, (taken (goal.at.overflow_add-stop c).After-block_size-size).1)

pub slice_bounds-s-end : goal.slice_bounds-s-end
slice_bounds-s-end c = (taken (goal.at.slice_bounds-s-end c).After-block_size-size).0

pub write_alone-requires : goal.write_alone-requires
write_alone-requires c =
    let a = c.args in
    (putting a.p a.w.now a.blocks.now a.page.now a.width a.acc.now c.requires.0, c.requires.1, c.requires.2, block-small (goal.at.write_alone-requires c).After-block_size-size)

pub returns-then-p-i : goal.returns-then-p-i
returns-then-p-i c =
    let a = c.args in
    let e = block-part a.p a.blocks.now a.i c.block_offset-at.result c.block_size-size.result c.requires.1 c.block_offset-at.ensures c.block_size-size.ensures in
    c.write_alone.ensures ∙ ap (written a.p a.page.now a.i) (late-word a.p a.blocks.now a.page.now a.i _ (omega (arith, c.if-p-i.true)) e)

pub write_early-requires : goal.write_early-requires
write_early-requires c =
    let a = c.args in
    (putting a.p a.w.now a.blocks.now a.page.now a.width a.acc.now c.requires.0, c.requires.1, c.requires.2, block-small (goal.at.write_early-requires c).After-block_size-size, c.if-p-i.false, c.requires.0.room)

pub returns-else-p-i : goal.returns-else-p-i
returns-else-p-i c =
    let a = c.args in
    let e = block-part a.p a.blocks.now a.i c.block_offset-at.result c.block_size-size.result c.requires.1 c.block_offset-at.ensures c.block_size-size.ensures in
    c.write_early.ensures ∙ ap (λ (d : ℕ). written a.p a.page.now a.i (word_from a.p d a.page.now a.i)) e
