-- The first k numbers of the room are lent and read back: k is what the bytes hold, 128 at most.
use mathlib.Core.Path.{◌≡◌, sym, ap, ◌∙◌}
use lib.ListN.{length}
use lib.Seq.{length-take-le, take_at}
use Rattle.numbers.specs.List.{numbers-most, front-room}
use Rattle.gii_bch.specs.All.{all_room, all_made}
use Rattle.gii_bch.proofs.all.all_bytes.Goals as goal
use Rattle.gii_bch.proofs.all.all_bytes.Goals.{After-all_list-r}

came : (c : After-all_list-r) → length c.all_list-r.new.list ≡ c.numbers_in-k.result
came c = c.all_list-r.auto.list ∙ length-take-le _ _ (rw c.numbers_in-k.ensures (numbers-most _))

pub slice_bounds-room-end : goal.slice_bounds-room-end
slice_bounds-room-end c = rw c.numbers_in-k.ensures (numbers-most _)

pub slice_bounds-all_list-end : goal.slice_bounds-all_list-end
slice_bounds-all_list-end c = sym (length-take-le _ _ (rw c.numbers_in-k.ensures (numbers-most _)))

pub slice_bounds-room-end-2 : goal.slice_bounds-room-end-2
slice_bounds-room-end-2 c = front-room c.all_list-r.new.list _ _ (came (goal.at.slice_bounds-room-end-2 c).After-all_list-r)

pub slice_bounds-store_when-end : goal.slice_bounds-store_when-end
slice_bounds-store_when-end c = sym (ap length (take_at c.all_list-r.new.list _ _ (came (goal.at.slice_bounds-store_when-end c).After-all_list-r)) ∙ came (goal.at.slice_bounds-store_when-end c).After-all_list-r)

pub store_when-requires : goal.store_when-requires
store_when-requires c =
    let a = c.args in
    rw (take_at c.all_list-r.new.list _ _ (came (goal.at.store_when-requires c).After-all_list-r))
    (all_room a.p a.level a.odd.now a.list.now _ c.all_list-r.new.list _ _ (length-take-le _ _ (rw c.numbers_in-k.ensures (numbers-most _)) ∙ c.numbers_in-k.ensures) c.all_list-r.ensures c.outcome_number-n.ensures c.all_list-r.auto.list)

pub returns : goal.returns
returns c =
    let a = c.args in
    all_made a.p a.level a.odd.now a.list.now _ c.all_list-r.new.list _ _ (length-take-le _ _ (rw c.numbers_in-k.ensures (numbers-most _)) ∙ c.numbers_in-k.ensures) c.all_list-r.ensures c.outcome_number-n.ensures _
    (rw (take_at c.all_list-r.new.list _ _ (came (goal.at.returns c).After-all_list-r)) at c.store_when.ensures)
