use mathlib.Core.Path.{sym, ap, ◌∙◌}
use native.Mathlib.Omega.{arith}
use Prim.Native.Nat.{ℕ, ◌+◌, ◌^◌, ◌≤◌}
use lib.ListN.{length}
use lib.Seq.{length-take-le}
use Rattle.polynomial.specs.Division.{rem}
use Rattle.layout.specs.Sizes.{word-high, word-nested}
use Rattle.nested.specs.Turned.{front_length, front-value, summed-fold, summed-folded, summed-places}
use Rattle.nested.proofs.nested_into.Goals as goal
use Rattle.nested.proofs.nested_into.Goals.{After-sub_word_bytes-k}

-- the sum has room
room : (c : After-sub_word_bytes-k) → c.sub_word_bytes-k.result + 8 ≤ length c.args.acc.now
room c = omega (arith, c.sub_word_bytes-k.ensures, c.requires.3, word-nested _ c.requires.0)

pub overflow_add-k : goal.overflow_add-k
overflow_add-k c = omega (arith, c.sub_word_bytes-k.ensures, word-high _ c.requires.0)

pub slice_bounds-sum_into-end : goal.slice_bounds-sum_into-end
slice_bounds-sum_into-end c = room (goal.at.slice_bounds-sum_into-end c).After-sub_word_bytes-k

pub slice_bounds-sum_into-end-2 : goal.slice_bounds-sum_into-end-2
slice_bounds-sum_into-end-2 c = sym (length-take-le _ _ (room (goal.at.slice_bounds-sum_into-end-2 c).After-sub_word_bytes-k))

pub sum_into-requires : goal.sum_into-requires
sum_into-requires c = (c.requires.0, c.requires.1, c.requires.2, length-take-le _ _ (room (goal.at.sum_into-requires c).After-sub_word_bytes-k) ∙ ap (λ (k : ℕ). k + 8) c.sub_word_bytes-k.ensures)

pub clear_bytes-requires : goal.clear_bytes-requires
clear_bytes-requires c = rw (front_length c.sum_into.new.acc _ _ c.sum_into.auto.acc (room (goal.at.clear_bytes-requires c).After-sub_word_bytes-k)) (room (goal.at.clear_bytes-requires c).After-sub_word_bytes-k)

pub fold_cyclic-requires : goal.fold_cyclic-requires
fold_cyclic-requires c =
    summed-fold _ c.requires.0 _ _ c.clear_bytes.new.acc _ _ c.length_of-n.ensures
    (c.clear_bytes.auto.acc ∙ front_length c.sum_into.new.acc _ _ c.sum_into.auto.acc (room (goal.at.fold_cyclic-requires c).After-sub_word_bytes-k) ∙ c.requires.3)
    (c.clear_bytes.ensures ∙ front-value c.sum_into.new.acc _ _ c.sum_into.auto.acc (room (goal.at.fold_cyclic-requires c).After-sub_word_bytes-k)) c.sum_into.ensures

pub shape_of-acc : goal.shape_of-acc
shape_of-acc c = c.fold_cyclic.auto.acc ∙ c.clear_bytes.auto.acc ∙ front_length c.sum_into.new.acc _ _ c.sum_into.auto.acc (room (goal.at.shape_of-acc c).After-sub_word_bytes-k)

pub returns : goal.returns
returns c =
    let n = c.length_of-n in
    let e = c.fold_cyclic.ensures ∙ ap (rem (2 ^ n.result + 1) n.result) (c.clear_bytes.ensures ∙ front-value c.sum_into.new.acc _ _ c.sum_into.auto.acc (room (goal.at.returns c).After-sub_word_bytes-k)) in
    (summed-folded _ c.requires.0 _ _ _ _ _ n.ensures e c.sum_into.ensures, summed-places _ c.requires.0 _ _ _ _ _ n.ensures e c.sum_into.ensures)
