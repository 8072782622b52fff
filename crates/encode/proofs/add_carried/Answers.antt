use mathlib.Core.Path.{◌≡◌, refl, sym, ◌∙◌}
use native.Mathlib.Nat as Nat
use native.Mathlib.Omega.{arith}
use Prim.Native.Nat.{ℕ, suc, ◌≤◌}
use lib.ListN.{length, drop, take, replicate, length-take}
use Rattle.code.specs.Layout.{words_of}
use Rattle.layout.specs.Sizes.{word-high}
use Rattle.encode.specs.Horner.{sums-room}
use Rattle.encode.specs.Carried.{zero-value}
use Rattle.encode.proofs.add_carried.Goals as goal
use Rattle.encode.proofs.add_carried.Goals.{After-room_bytes-n}

-- the rooms suffice
fit : (c : After-room_bytes-n) → c.room_bytes-n.result ≤ 520
fit c = omega (arith, c.room_bytes-n.ensures, word-high c.args.p c.requires.0)

size : (n : ℕ) → n ≤ 520 → length {A = ℕ} (take n (replicate 520 0)) ≡ n
size n h = length-take n (replicate {A = ℕ} 520 0) ∙ Nat.min-eq_left h

pub slice_bounds-r0-end : goal.slice_bounds-r0-end
slice_bounds-r0-end c = fit (goal.at.slice_bounds-r0-end c).After-room_bytes-n

pub slice_bounds-a-end : goal.slice_bounds-a-end
slice_bounds-a-end c = sym (size _ (fit (goal.at.slice_bounds-a-end c).After-room_bytes-n))

pub slice_bounds-r1-end : goal.slice_bounds-r1-end
slice_bounds-r1-end c = fit (goal.at.slice_bounds-r1-end c).After-room_bytes-n

pub slice_bounds-b-end : goal.slice_bounds-b-end
slice_bounds-b-end c = sym (size _ (fit (goal.at.slice_bounds-b-end c).After-room_bytes-n))

pub slice_bounds-r2-end : goal.slice_bounds-r2-end
slice_bounds-r2-end c = fit (goal.at.slice_bounds-r2-end c).After-room_bytes-n

pub slice_bounds-c-end : goal.slice_bounds-c-end
slice_bounds-c-end c = sym (size _ (fit (goal.at.slice_bounds-c-end c).After-room_bytes-n))

pub take_later-requires : goal.take_later-requires
take_later-requires c =
    let n = c.room_bytes-n.result in
    let e = size n (fit (goal.at.take_later-requires c).After-room_bytes-n) in
    (c.requires.0, c.requires.1, c.requires.2, omega (arith, e, c.room_bytes-n.ensures), omega (arith, e, fit (goal.at.take_later-requires c).After-room_bytes-n), refl, refl, zero-value n 520, zero-value n 520, zero-value n 520)

pub add_sums-requires : goal.add_sums-requires
add_sums-requires c =
    let n = c.room_bytes-n.result in
    let e = c.a-1.given ∙ size n (fit (goal.at.add_sums-requires c).After-room_bytes-n) in
    (c.requires.0, c.requires.1, c.requires.2, c.requires.3, e ∙ c.room_bytes-n.ensures, sums-room c.args.i _ _ _ _ _ (drop (suc c.args.i) (words_of c.args.p c.args.page.now)) (sym c.a-1.given) c.take_later.ensures)
