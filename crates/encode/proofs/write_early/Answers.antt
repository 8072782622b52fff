use mathlib.Core.Path.{sym, ap, ◌∙◌}
use native.Mathlib.Omega.{arith}
use Prim.Native.Nat.{ℕ, ◌+◌, ◌-◌, ◌*◌, ◌≤◌}
use lib.ListN.{length, take, drop}
use Rattle.polynomial.specs.Digits.{length_digits, value}
use Rattle.code.proofs.Accepted.{accepted, degree-high}
use Rattle.code.specs.Code.{level}
use Rattle.code.specs.Parameters.{sub_word_bytes}
use Rattle.layout.specs.Replaced.{put_is, middle-bytes, part_length}
use Rattle.layout.specs.Sizes.{level-low, word-high}
use Rattle.layout.specs.SubWords.{part_room, part_small}
use Rattle.encode.specs.Encoding.{check-fits, check-room, data-fits, word_made}
use Rattle.encode.proofs.write_early.Goals as goal
use Rattle.encode.proofs.write_early.Goals.{After-sub_word_bytes-k}

room : (c : After-sub_word_bytes-k) → (let a = c.args in a.i * c.sub_word_bytes-k.result + c.sub_word_bytes-k.result ≤ length a.page.now)
room c = omega (arith, c.requires.0.exact, part_room c.args.p c.requires.0.accepts c.args.i c.sub_word_bytes-k.result c.sub_word_bytes-k.ensures c.requires.1)

pub check_bits-bits-requires : goal.check_bits-bits-requires
check_bits-bits-requires c = (c.requires.0.accepts, c.requires.0.degrees)

pub ruled_into-requires : goal.ruled_into-requires
ruled_into-requires c = (c.requires.0.accepts, c.requires.0.exact, c.requires.4, c.check_bits-bits.ensures, c.requires.5, c.requires.3)

pub check_of-requires : goal.check_of-requires
check_of-requires c =
    let a = c.args in
    (c.requires.0.accepts, rw c.level_of-a.ensures (level-low a.p a.i), rw c.level_of-a.ensures c.check_bits-bits.ensures, rw c.level_of-a.ensures c.requires.2, omega (arith, c.acc-1.given, c.requires.5, word-high a.p c.requires.0.accepts), c.requires.0.low, c.requires.0.high)

pub overflow_mul-start : goal.overflow_mul-start
overflow_mul-start c = omega (arith, part_small c.args.p c.requires.0.accepts c.args.i c.sub_word_bytes-k.result c.sub_word_bytes-k.ensures c.requires.1)

pub overflow_add-end : goal.overflow_add-end
overflow_add-end c = omega (arith, part_small c.args.p c.requires.0.accepts c.args.i c.sub_word_bytes-k.result c.sub_word_bytes-k.ensures c.requires.1)

pub slice_bounds-put_sub_word-end : goal.slice_bounds-put_sub_word-end
slice_bounds-put_sub_word-end c = room (goal.at.slice_bounds-put_sub_word-end c).After-sub_word_bytes-k

pub put_sub_word-requires : goal.put_sub_word-requires
put_sub_word-requires c =
    let a = c.args in
    let A = c.requires.0.accepts in
    let l = part_length a.page.now (a.i * c.sub_word_bytes-k.result) c.sub_word_bytes-k.result (room (goal.at.put_sub_word-requires c).After-sub_word_bytes-k) ∙ c.sub_word_bytes-k.ensures in (
      omega (arith, c.check_bits-bits.ensures, degree-high a.p (accepted a.p A) (level a.p a.i) (level-low a.p a.i)),
      check-room a.p A a.i c.check_bits-bits.result _ c.check_bits-bits.ensures l,
      omega (arith, l, word-high a.p A),
      check-fits a.p A a.i _ c.level_of-a.result c.check_bits-bits.result _ c.check_of.ensures.0 c.level_of-a.ensures c.check_bits-bits.ensures,
      data-fits a.p A a.i _ c.check_bits-bits.result _ c.requires.3 c.check_bits-bits.ensures l,
    )

pub returns : goal.returns
returns c =
    let a = c.args in
    let start = a.i * c.sub_word_bytes-k.result in
    let l = c.page-1.given.0 ∙ part_length a.page.now start c.sub_word_bytes-k.result (room (goal.at.returns c).After-sub_word_bytes-k) in
    let y = word_made a.p c.requires.0.accepts a.i c.put_sub_word.new.part (value 8 a.s.now) _ _ _ c.level_of-a.result c.check_bits-bits.result c.sub_word_bytes-k.result
    (middle-bytes (take start a.page.now) c.put_sub_word.new.part (drop (start + c.sub_word_bytes-k.result - start) (drop start a.page.now)) (λ j. (c.type_inv.page j).fits))
    l c.sub_word_bytes-k.ensures c.check_bits-bits.ensures c.level_of-a.ensures c.ruled_into.ensures c.check_of.ensures.0 c.put_sub_word.ensures in
    put_is a.page.now c.put_sub_word.new.part _ start c.sub_word_bytes-k.result _ (ap (λ (j : ℕ). a.i * j) c.sub_word_bytes-k.ensures) y (length_digits 8 (sub_word_bytes a.p) _ ∙ sym c.sub_word_bytes-k.ensures)
