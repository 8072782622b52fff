use mathlib.Core.Path.{sym, ap, ◌∙◌}
use native.Mathlib.Nat as Nat
use native.Mathlib.Omega.{arith}
use Prim.Native.Nat.{ℕ, ◌+◌, ◌-◌, ◌*◌, ◌^◌, ◌≤◌}
use lib.ListN.{length, take, drop}
use lib.Pow.{pow_mono}
use Rattle.polynomial.specs.Digits.{length_digits, value}
use Rattle.polynomial.specs.Xor.{xor}
use Rattle.code.proofs.Pages.{whole}
use Rattle.code.specs.Parameters.{stored, sub_word_bytes}
use Rattle.layout.specs.Replaced.{put_is, middle-bytes, part_length}
use Rattle.layout.specs.Sizes.{word-high}
use Rattle.layout.specs.SubWords.{part_room, part_small}
use Rattle.layout.specs.Written.{part-made, part-word}
use Rattle.alter.proofs.add_at.Goals as goal
use Rattle.alter.proofs.add_at.Goals.{After-sub_word_bytes-b}

-- sub-word i lies within the page
room : (c : After-sub_word_bytes-b) → (let a = c.args in a.i * c.sub_word_bytes-b.result + c.sub_word_bytes-b.result ≤ length a.sum.now)
room c = omega (arith, c.requires.1, part_room c.args.p c.requires.0 c.args.i c.sub_word_bytes-b.result c.sub_word_bytes-b.ensures c.requires.2)

pub overflow_mul-at : goal.overflow_mul-at
overflow_mul-at c = omega (arith, part_small c.args.p c.requires.0 c.args.i c.sub_word_bytes-b.result c.sub_word_bytes-b.ensures c.requires.2)

pub overflow_add-end : goal.overflow_add-end
overflow_add-end c = omega (arith, part_small c.args.p c.requires.0 c.args.i c.sub_word_bytes-b.result c.sub_word_bytes-b.ensures c.requires.2)

pub slice_bounds-add_both-end : goal.slice_bounds-add_both-end
slice_bounds-add_both-end c = room (goal.at.slice_bounds-add_both-end c).After-sub_word_bytes-b

pub add_both-requires : goal.add_both-requires
add_both-requires c =
    let a = c.args in
    let l = part_length a.sum.now (a.i * c.sub_word_bytes-b.result) c.sub_word_bytes-b.result (room (goal.at.add_both-requires c).After-sub_word_bytes-b) ∙ c.sub_word_bytes-b.ensures in (
      omega (arith, l, c.requires.3, whole (stored a.p)),
      omega (arith, l, word-high a.p c.requires.0),
      rw l (Nat.lt_of_lt_of_le c.requires.4 (pow_mono (whole (stored a.p)))),
    )

pub returns : goal.returns
returns c =
    let a = c.args in
    let b = c.sub_word_bytes-b.result in
    let start = a.i * b in
    let l = c.sum-1.given.0 ∙ part_length a.sum.now start b (room (goal.at.returns c).After-sub_word_bytes-b) in
    let y = part-made a.p c.add_both.new.part _ b
    (middle-bytes (take start a.sum.now) c.add_both.new.part (drop (start + b - start) (drop start a.sum.now)) (λ j. (c.type_inv.sum j).fits))
    l c.sub_word_bytes-b.ensures
    (c.add_both.ensures ∙ ap (λ (f : ℕ). xor (xor f (value 8 a.y.now)) (2 ^ a.e)) (part-word a.p c.requires.0 a.sum.now a.i b c.sub_word_bytes-b.ensures c.requires.2)) in
    put_is a.sum.now c.add_both.new.part _ start b _ (ap (λ (j : ℕ). a.i * j) c.sub_word_bytes-b.ensures) y (length_digits 8 (sub_word_bytes a.p) _ ∙ sym c.sub_word_bytes-b.ensures)
