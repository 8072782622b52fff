use native.Mathlib.Omega.{arith}
use Prim.Native.Nat.{◌<◌}
use lib.ListN.{length}
use Rattle.code.specs.Layout.{data_bytes}
use Rattle.code.proofs.Many.{part_room}
use Rattle.page.specs.Listed.{listing-done, listing-next, listing_start}
use Rattle.page.proofs.list_pages.Goals as goal

pub loop-k-init : goal.loop-k-init
loop-k-init c = let a = c.args in listing_start a.p a.width a.blocks.now a.list.now

pub status_at-requires : goal.status_at-requires
status_at-requires c =
    let a = c.args in
    let h : c.loop-k.k < length a.list.now = omega (arith, c.loop-k.invariant.exact) in (
      c.requires.0,
      c.requires.1,
      omega (arith, c.requires.2),
      rw c.requires.3 (part_room (data_bytes a.p) (length a.list.now) c.loop-k.k h),
    )

pub loop-k-preserved : goal.loop-k-preserved
loop-k-preserved c =
    let a = c.args in
    listing-next a.p a.width a.blocks.now c.loop-k.k c.status_at.result a.list.now c.loop-k.list (omega arith) c.loop-k.invariant c.status_at.ensures

pub returns : goal.returns
returns c =
    let a = c.args in
    listing-done a.p a.width a.blocks.now c.loop-k.k a.list.now c.loop-k.list (omega arith) c.loop-k.invariant
