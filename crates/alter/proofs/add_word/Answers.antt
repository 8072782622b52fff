use mathlib.Core.Path.{sym, ap, ap₂, ◌∙◌}
use native.Mathlib.Omega.{arith}
use Prim.Native.Nat.{ℕ, ◌+◌, ◌-◌, ◌*◌, ◌%◌, ◌^◌, ◌≤◌, ◌<◌}
use lib.ListN.{length, get_or, take, drop}
use Rattle.polynomial.specs.Digits.{length_digits, value}
use Rattle.polynomial.specs.Xor.{xor}
use Rattle.code.specs.Layout.{words_of}
use Rattle.code.specs.Parameters.{sub_word_bytes}
use Rattle.code.proofs.Placement.{word_at}
use Rattle.layout.specs.Replaced.{put_is, middle-bytes, part_length}
use Rattle.layout.specs.Sizes.{word-high}
use Rattle.layout.specs.SubWords.{part_room, part_small}
use Rattle.layout.specs.Written.{part-made, part-word}
use Rattle.alter.specs.Spread.{word_fits}
use Rattle.alter.specs.Sum.{no_shift}
use Rattle.alter.proofs.add_word.Goals as goal
use Rattle.alter.proofs.add_word.Goals.{After-sub_word_bytes-b}

-- sub-word k lies within the page
room : (c : After-sub_word_bytes-b) → (let a = c.args in a.k * c.sub_word_bytes-b.result + c.sub_word_bytes-b.result ≤ length a.sum.now)
room c = omega (arith, c.requires.1, part_room c.args.p c.requires.0 c.args.k c.sub_word_bytes-b.result c.sub_word_bytes-b.ensures c.requires.6)

pub sub_word_bytes-b-requires : goal.sub_word_bytes-b-requires
sub_word_bytes-b-requires c = c.requires.0

pub sub_word-x-requires : goal.sub_word-x-requires
sub_word-x-requires c = (c.requires.2, c.requires.3, omega (arith, c.requires.4, c.requires.6))

pub overflow_mul-at : goal.overflow_mul-at
overflow_mul-at c = omega (arith, part_small c.args.p c.requires.0 c.args.k c.sub_word_bytes-b.result c.sub_word_bytes-b.ensures c.requires.6)

pub overflow_add-end : goal.overflow_add-end
overflow_add-end c = omega (arith, part_small c.args.p c.requires.0 c.args.k c.sub_word_bytes-b.result c.sub_word_bytes-b.ensures c.requires.6)

pub slice_bounds-add_up-end : goal.slice_bounds-add_up-end
slice_bounds-add_up-end c = room (goal.at.slice_bounds-add_up-end c).After-sub_word_bytes-b

pub add_up-requires : goal.add_up-requires
add_up-requires c =
    let l = part_length c.args.sum.now (c.args.k * c.sub_word_bytes-b.result) c.sub_word_bytes-b.result (room (goal.at.add_up-requires c).After-sub_word_bytes-b) in
    omega (arith, l, c.sub_word_bytes-b.ensures, word-high c.args.p c.requires.0)

pub returns : goal.returns
returns c =
    let a = c.args in
    let b = c.sub_word_bytes-b.result in
    let start = a.k * b in
    let l₀ = part_length a.sum.now start b (room (goal.at.returns c).After-sub_word_bytes-b) in
    let l = c.sum-1.given.0 ∙ l₀ in
    let h : a.k < a.q.m = omega (arith, c.requires.4, c.requires.6) in
    let e = ap (value 8) c.sub_word-x.ensures ∙ sym (word_at a.q a.short.now a.k h) in
    let g = get_or (words_of a.q a.short.now) a.k 0 in
    let v = ap₂ (λ (f n : ℕ). f * 2 ^ 0 % 2 ^ (8 * n)) e l₀
    ∙ no_shift g (8 * b) (word_fits a.p a.q c.requires.2 a.short.now a.k b (λ j. (c.type_inv.short j).fits) c.requires.3 h (omega (arith, c.sub_word_bytes-b.ensures, c.requires.5))) in
    let y = part-made a.p c.add_up.new.acc _ b
    (middle-bytes (take start a.sum.now) c.add_up.new.acc (drop (start + b - start) (drop start a.sum.now)) (λ j. (c.type_inv.sum j).fits))
    l c.sub_word_bytes-b.ensures
    (c.add_up.ensures ∙ ap₂ xor (part-word a.p c.requires.0 a.sum.now a.k b c.sub_word_bytes-b.ensures c.requires.6) v) in
    put_is a.sum.now c.add_up.new.acc _ start b _ (ap (λ (j : ℕ). a.k * j) c.sub_word_bytes-b.ensures) y (length_digits 8 (sub_word_bytes a.p) _ ∙ sym c.sub_word_bytes-b.ensures)
