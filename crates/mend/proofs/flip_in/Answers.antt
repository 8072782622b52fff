use mathlib.Core.Path.{sym, ap, ◌∙◌}
use native.Mathlib.Nat as Nat
use native.Mathlib.Omega.{arith}
use Prim.Native.Nat.{ℕ, ◌+◌, ◌-◌, ◌*◌, ◌≤◌}
use lib.ListN.{length, take, drop}
use Rattle.polynomial.specs.Digits.{length_digits}
use Rattle.polynomial.specs.Xor.{xor}
use Rattle.field.specs.Flips.{flips}
use Rattle.code.proofs.Pages.{whole}
use Rattle.code.specs.Parameters.{stored, sub_word_bytes}
use Rattle.layout.specs.Replaced.{put_is, middle-bytes, part_length}
use Rattle.layout.specs.SubWords.{part_room, part_small}
use Rattle.layout.specs.Written.{part-made, part-word}
use Rattle.mend.proofs.flip_in.Goals as goal
use Rattle.mend.proofs.flip_in.Goals.{After-sub_word_bytes-b}

-- sub-word i lies within the page
room : (c : After-sub_word_bytes-b) → (let a = c.args in a.i * c.sub_word_bytes-b.result + c.sub_word_bytes-b.result ≤ length a.page.now)
room c = omega (arith, c.requires.1, part_room c.args.p c.requires.0 c.args.i c.sub_word_bytes-b.result c.sub_word_bytes-b.ensures c.requires.2)

pub overflow_mul-at : goal.overflow_mul-at
overflow_mul-at c = omega (arith, part_small c.args.p c.requires.0 c.args.i c.sub_word_bytes-b.result c.sub_word_bytes-b.ensures c.requires.2)

pub overflow_add-end : goal.overflow_add-end
overflow_add-end c = omega (arith, part_small c.args.p c.requires.0 c.args.i c.sub_word_bytes-b.result c.sub_word_bytes-b.ensures c.requires.2)

pub slice_bounds-flip_all-end : goal.slice_bounds-flip_all-end
slice_bounds-flip_all-end c = room (goal.at.slice_bounds-flip_all-end c).After-sub_word_bytes-b

pub flip_all-requires : goal.flip_all-requires
flip_all-requires c =
    let a = c.args in
    let l = part_length a.page.now (a.i * c.sub_word_bytes-b.result) c.sub_word_bytes-b.result (room (goal.at.flip_all-requires c).After-sub_word_bytes-b) ∙ c.sub_word_bytes-b.ensures in
    record { below = λ j h. Nat.lt_of_lt_of_le (c.requires.3.below j h) (omega (arith, l, whole (stored a.p))) }

pub returns : goal.returns
returns c =
    let a = c.args in
    let b = c.sub_word_bytes-b.result in
    let start = a.i * b in
    let l = c.page-1.given.0 ∙ part_length a.page.now start b (room (goal.at.returns c).After-sub_word_bytes-b) in
    let y = part-made a.p c.flip_all.new.s _ b
    (middle-bytes (take start a.page.now) c.flip_all.new.s (drop (start + b - start) (drop start a.page.now)) (λ j. (c.type_inv.page j).fits))
    l c.sub_word_bytes-b.ensures
    (c.flip_all.ensures ∙ ap (λ (f : ℕ). xor f (flips a.list.now)) (part-word a.p c.requires.0 a.page.now a.i b c.sub_word_bytes-b.ensures c.requires.2)) in
    put_is a.page.now c.flip_all.new.s _ start b _ (ap (λ (j : ℕ). a.i * j) c.sub_word_bytes-b.ensures) y (length_digits 8 (sub_word_bytes a.p) _ ∙ sym c.sub_word_bytes-b.ensures)
