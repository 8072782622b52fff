-- The first k numbers of the room are loaded and lent: k is what the bytes hold, 128 at most.
use mathlib.Core.Path.{◌≡◌, sym, ap, ◌∙◌}
use Prim.Native.Nat.{ℕ, ◌≤◌}
use lib.ListN.{length}
use lib.Seq.{length-take-le, take_at}
use Rattle.gii_bch.specs.All.{given}
use Rattle.numbers.specs.List.{first_numbers, numbers_fit, numbers-most, front-room}
use Rattle.gii_bch.proofs.all.all_list.Goals as goal
use Rattle.gii_bch.proofs.all.all_list.Goals.{After-load}

came : (c : After-load) → length c.load.new.numbers ≡ c.numbers_in-k.result
came c = c.load.auto.numbers ∙ length-take-le _ _ (rw c.numbers_in-k.ensures (numbers-most _))

is-given : (c : After-load) → c.load.new.numbers ≡ given c.args.odd.now
is-given c =
    let b = c.args.odd.now in
    c.load.ensures ∙ ap (λ (n : ℕ). first_numbers n b) (length-take-le _ _ (rw c.numbers_in-k.ensures (numbers-most _)) ∙ c.numbers_in-k.ensures)

pub slice_bounds-room-end : goal.slice_bounds-room-end
slice_bounds-room-end c = rw c.numbers_in-k.ensures (numbers-most _)

pub slice_bounds-load-end : goal.slice_bounds-load-end
slice_bounds-load-end c = sym (length-take-le _ _ (rw c.numbers_in-k.ensures (numbers-most _)))

pub load-requires : goal.load-requires
load-requires c =
    let low : c.numbers_in-k.result ≤ 128 = rw c.numbers_in-k.ensures (numbers-most _) in
    rw (length-take-le, c.numbers_in-k.ensures) (numbers_fit _)

pub slice_bounds-room-end-2 : goal.slice_bounds-room-end-2
slice_bounds-room-end-2 c = front-room c.load.new.numbers _ _ (came (goal.at.slice_bounds-room-end-2 c).After-load)

pub slice_bounds-all_syndromes-end : goal.slice_bounds-all_syndromes-end
slice_bounds-all_syndromes-end c = sym (ap length (take_at c.load.new.numbers _ _ (came (goal.at.slice_bounds-all_syndromes-end c).After-load)) ∙ came (goal.at.slice_bounds-all_syndromes-end c).After-load)

pub returns : goal.returns
returns c = rw (take_at c.load.new.numbers _ _ (came (goal.at.returns c).After-load), is-given (goal.at.returns c).After-load) at c.all_syndromes.ensures
