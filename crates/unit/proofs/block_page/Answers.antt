use mathlib.Core.Path.{sym, ◌∙◌}
use native.Mathlib.Omega.{arith}
use Prim.Native.Nat.{ℕ}
use lib.ListN.{length-replicate}
use Rattle.code.proofs.Pages.{zeros-length}
use Rattle.polynomial.specs.Digits.{value}
use Rattle.unit.specs.Unit.{built-next, built-start, room-high, unit-done}
use Rattle.unit.proofs.block_page.Goals as goal

pub slice_bounds-room-end : goal.slice_bounds-room-end
slice_bounds-room-end c = room-high c.args.p c.requires.0 c.room_bytes-n.result c.room_bytes-n.ensures

pub slice_bounds-acc-end : goal.slice_bounds-acc-end
slice_bounds-acc-end c = sym (zeros-length c.room_bytes-n.result 520 (room-high c.args.p c.requires.0 c.room_bytes-n.result c.room_bytes-n.ensures))

pub own_word-requires : goal.own_word-requires
own_word-requires c = (
  record { accepts = c.requires.0; generated = c.requires.1; degrees = c.requires.2; exact = rw c.requires.3 (length-replicate {A = ℕ} _ 0); table = c.requires.6 },
  c.requires.4,
  c.requires.5,
)

pub loop-j-init : goal.loop-j-init
loop-j-init c =
    let a = c.args in
    let n = c.room_bytes-n.result in
    built-start a.p c.requires.0 a.i (value 8 a.d.now) c.requires.4 c.requires.5 c.min-j.result _ _ _ c.min-j.ensures
    (rw c.requires.3 at c.own_word.ensures) (c.t-1.given ∙ c.requires.6) (zeros-length n 520 (room-high a.p c.requires.0 n c.room_bytes-n.ensures) ∙ c.room_bytes-n.ensures)

pub carried_word-requires : goal.carried_word-requires
carried_word-requires c =
    let v = c.loop-j.invariant in (
      record { accepts = c.requires.0; generated = c.requires.1; degrees = c.requires.2; exact = v.page.exact; table = v.table },
      omega (arith, v.early, c.loop-j-test.true),
      v.room,
    )

pub loop-j-preserved : goal.loop-j-preserved
loop-j-preserved c =
    let a = c.args in
    built-next a.p c.requires.0 a.i (value 8 a.d.now) c.requires.4 c.requires.5 c.loop-j.j _ _ _ _ _ _ c.loop-j.invariant (omega (arith, c.loop-j-test.true)) c.carried_word.ensures c.t-in-loop-j-1.given c.acc-in-loop-j-1.given

pub shape_of-unit : goal.shape_of-unit
shape_of-unit c = c.loop-j.invariant.page.exact ∙ sym (rw c.requires.3 (length-replicate {A = ℕ} _ 0))

pub shape_of-t : goal.shape_of-t
shape_of-t c = c.loop-j.invariant.table ∙ sym c.requires.6

pub returns : goal.returns
returns c =
    let a = c.args in
    unit-done a.p c.requires.0 a.i (value 8 a.d.now) c.requires.4 c.requires.5 _ c.loop-j.j (omega (arith, c.loop-j-test.false)) c.loop-j.invariant.page
