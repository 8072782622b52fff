use Rattle.std.specs.Prelude.{◌≡◌, ℕ, ◌≤◌, get_or, take}
use Rattle.std.proofs.Common.{sym, ap, ◌∙◌, zero-le, arith, length-take-le}
use Rattle.std.proofs.Math.Nat as Nat
use Rattle.std.proofs.Math.Option.{some}
use lib.Dec.{lit<}
use Rattle.polynomial.specs.Digits.{value}
use Rattle.field.specs.Flips.{Rising}
use Rattle.code.proofs.Accepted.{accepted, strength-high}
use Rattle.code.specs.Code.{nearest}
use Rattle.code.specs.Layout.{place_list, words_of}
use Rattle.code.proofs.Mend.{word_low}
use Rattle.code.specs.Parameters.{stored, strength}
use Rattle.code.proofs.Placement.{word_at}
use Rattle.layout.specs.SubWords.{part-is}
use Rattle.mend.specs.Call.{found-rising, mend-made, mend-nowhere, rising-all, written-flipped}
use Rattle.mend.proofs.mend_word.Goals as goal
use Rattle.mend.proofs.mend_word.Goals.{In-Some}

-- what is found
module _ (k : In-Some) where
  found : nearest k.args.p 0 (get_or (words_of k.args.p k.args.page.now) k.args.i 0) ≡ some (take k.in-Some.c k.find.new.list)
  found = ap (nearest k.args.p 0) (word_at k.args.p k.args.page.now k.args.i k.requires.0.index ∙ ap (value 8) (sym k.sub_word-s.ensures)) ∙ k.in-Some.ensures.0

  rises : Rising 0 (stored k.args.p) (take k.in-Some.c k.find.new.list)
  rises =
      let u = k.requires.0 in
      found-rising k.args.p u.accepted (get_or (words_of k.args.p k.args.page.now) k.args.i 0) (word_low k.args.p (accepted k.args.p u.accepted) k.args.page.now u.page k.args.i u.index) _ found

  most : k.in-Some.c ≤ 64
  most = omega (arith, k.in-Some.ensures.1, k.requires.1, strength-high k.args.p k.requires.0.accepted 0 zero-le)

pub find-requires : goal.find-requires
find-requires c =
    let u = c.requires.0 in
    (u.accepted, rw c.sub_word-s.ensures (part-is c.args.p u.accepted c.args.page.now u.page c.args.i u.index), c.requires.1, omega (arith, c.requires.1, strength-high c.args.p u.accepted 0 zero-le))

pub returns-in_default : goal.returns-in_default
returns-in_default c =
    let a = c.args in
    mend-nowhere a.p a.page.now a.i a.places.now a.flips.now c.requires.0 (ap (nearest a.p 0) (word_at a.p a.page.now a.i c.requires.0.index ∙ ap (value 8) (sym c.sub_word-s.ensures)) ∙ c.in_default.ensures.0)

pub slice_bounds-list-end : goal.slice_bounds-list-end
slice_bounds-list-end c = omega (arith, most (goal.at.slice_bounds-list-end c).In-Some)

pub slice_bounds-found-end : goal.slice_bounds-found-end
slice_bounds-found-end c = sym (length-take-le _ _ (omega (arith, most (goal.at.slice_bounds-found-end c).In-Some)))

pub flip_in-requires : goal.flip_in-requires
flip_in-requires c =
    let u = c.requires.0 in
    (u.accepted, u.page.exact, u.index, rising-all (stored c.args.p) (take c.in-Some.c c.find.new.list) (rises (goal.at.flip_in-requires c).In-Some))

pub overflow_cast-flips : goal.overflow_cast-flips
overflow_cast-flips c = record { fits = Nat.lt_of_le_of_lt (most (goal.at.overflow_cast-flips c).In-Some) (lit< tt) }

pub returns : goal.returns
returns c =
    let a = c.args in
    let u = c.requires.0 in
    let k = (goal.at.returns c).In-Some in
    let Q = take c.in-Some.c c.find.new.list in
    mend-made a.p a.page.now a.i a.places.now a.flips.now u Q _ _ _ (found k)
    (c.flip_in.ensures ∙ written-flipped a.p u.accepted a.page.now u.page a.i u.index Q (rises k))
    (c.list_into.ensures ∙ ap (λ (n : ℕ). place_list n Q) (u.list ∙ Nat.one-mul (strength a.p 0)))
    (sym (length-take-le c.in-Some.c c.find.new.list (omega (arith, most k))))
