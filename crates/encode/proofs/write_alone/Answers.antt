use mathlib.Core.Path.{refl, sym, ap, ◌∙◌}
use native.Mathlib.Omega.{arith}
use Prim.Native.Nat.{ℕ, ◌+◌, ◌-◌, ◌*◌, ◌^◌, ◌≤◌}
use lib.ListN.{length, take, drop}
use Rattle.polynomial.specs.Digits.{length_digits, value}
use Rattle.code.specs.Code.{remainder}
use Rattle.code.specs.Parameters.{sub_word_bytes}
use Rattle.layout.specs.Replaced.{put_is, middle-bytes, part_length}
use Rattle.layout.specs.Sizes.{level-low, word-high}
use Rattle.layout.specs.SubWords.{part_room, part_small}
use Rattle.encode.specs.Encoding.{check-room, data-fits, word_made}
use Rattle.encode.specs.Rule.{ruled-alone}
use Rattle.encode.proofs.write_alone.Goals as goal
use Rattle.encode.proofs.write_alone.Goals.{After-sub_word_bytes-k}

-- sub-word i lies within the page
room : (c : After-sub_word_bytes-k) → (let a = c.args in a.i * c.sub_word_bytes-k.result + c.sub_word_bytes-k.result ≤ length a.page.now)
room c = omega (arith, c.requires.0.exact, part_room c.args.p c.requires.0.accepts c.args.i c.sub_word_bytes-k.result c.sub_word_bytes-k.ensures c.requires.1)

pub check_bits-bits-requires : goal.check_bits-bits-requires
check_bits-bits-requires c = (c.requires.0.accepts, c.requires.0.degrees)

pub sub_word_bytes-k-requires : goal.sub_word_bytes-k-requires
sub_word_bytes-k-requires c = c.requires.0.accepts

pub overflow_mul-start : goal.overflow_mul-start
overflow_mul-start c = omega (arith, part_small c.args.p c.requires.0.accepts c.args.i c.sub_word_bytes-k.result c.sub_word_bytes-k.ensures c.requires.1)

pub overflow_add-end : goal.overflow_add-end
overflow_add-end c = omega (arith, part_small c.args.p c.requires.0.accepts c.args.i c.sub_word_bytes-k.result c.sub_word_bytes-k.ensures c.requires.1)

pub slice_bounds-put_alone-end : goal.slice_bounds-put_alone-end
slice_bounds-put_alone-end c = room (goal.at.slice_bounds-put_alone-end c).After-sub_word_bytes-k

pub put_alone-requires : goal.put_alone-requires
put_alone-requires c =
    let a = c.args in
    let A = c.requires.0.accepts in
    let l = part_length a.page.now (a.i * c.sub_word_bytes-k.result) c.sub_word_bytes-k.result (room (goal.at.put_alone-requires c).After-sub_word_bytes-k) ∙ c.sub_word_bytes-k.ensures in (
      A,
      rw c.level_of-a.ensures (level-low a.p a.i),
      rw c.level_of-a.ensures c.check_bits-bits.ensures,
      rw c.level_of-a.ensures c.requires.2,
      check-room a.p A a.i c.check_bits-bits.result _ c.check_bits-bits.ensures l,
      omega (arith, l, word-high a.p A),
      data-fits a.p A a.i _ c.check_bits-bits.result _ c.requires.3 c.check_bits-bits.ensures l,
      c.requires.0.low,
      c.requires.0.high,
    )

pub returns : goal.returns
returns c =
    let a = c.args in
    let A = c.requires.0.accepts in
    let d = value 8 a.s.now in
    let start = a.i * c.sub_word_bytes-k.result in
    let l = c.page-1.given.0 ∙ part_length a.page.now start c.sub_word_bytes-k.result (room (goal.at.returns c).After-sub_word_bytes-k) in
    let y = word_made a.p A a.i c.put_alone.new.part d 0 (d * 2 ^ c.check_bits-bits.result) (remainder a.p c.level_of-a.result (d * 2 ^ c.check_bits-bits.result)) c.level_of-a.result c.check_bits-bits.result c.sub_word_bytes-k.result
    (middle-bytes (take start a.page.now) c.put_alone.new.part (drop (start + c.sub_word_bytes-k.result - start) (drop start a.page.now)) (λ j. (c.type_inv.page j).fits))
    l c.sub_word_bytes-k.ensures c.check_bits-bits.ensures c.level_of-a.ensures (ruled-alone a.p d c.check_bits-bits.result a.i c.check_bits-bits.ensures) refl c.put_alone.ensures in
    put_is a.page.now c.put_alone.new.part _ start c.sub_word_bytes-k.result _ (ap (λ (j : ℕ). a.i * j) c.sub_word_bytes-k.ensures) y (length_digits 8 (sub_word_bytes a.p) _ ∙ sym c.sub_word_bytes-k.ensures)
