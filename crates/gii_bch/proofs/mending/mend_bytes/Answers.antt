-- The first k numbers of the room are lent and read back: k is what the bytes hold, 128 at most.
use mathlib.Core.Path.{◌≡◌, sym, ap, ◌∙◌}
use lib.ListN.{length}
use lib.Seq.{length-take-le, take_at}
use Rattle.numbers.specs.List.{numbers-most, front-room}
use Rattle.gii_bch.specs.Mending.{mend-room, mend-made}
use Rattle.gii_bch.proofs.mending.mend_bytes.Goals as goal
use Rattle.gii_bch.proofs.mending.mend_bytes.Goals.{After-mend-r}

came : (c : After-mend-r) → length c.mend-r.new.places ≡ c.numbers_in-k.result
came c = c.mend-r.auto.places ∙ length-take-le _ _ (rw c.numbers_in-k.ensures (numbers-most _))

pub slice_bounds-room-end : goal.slice_bounds-room-end
slice_bounds-room-end c = rw c.numbers_in-k.ensures (numbers-most _)

pub slice_bounds-mend-end : goal.slice_bounds-mend-end
slice_bounds-mend-end c = sym (length-take-le _ _ (rw c.numbers_in-k.ensures (numbers-most _)))

pub slice_bounds-room-end-2 : goal.slice_bounds-room-end-2
slice_bounds-room-end-2 c = front-room c.mend-r.new.places _ _ (came (goal.at.slice_bounds-room-end-2 c).After-mend-r)

pub slice_bounds-store_when-end : goal.slice_bounds-store_when-end
slice_bounds-store_when-end c = sym (ap length (take_at c.mend-r.new.places _ _ (came (goal.at.slice_bounds-store_when-end c).After-mend-r)) ∙ came (goal.at.slice_bounds-store_when-end c).After-mend-r)

pub store_when-requires : goal.store_when-requires
store_when-requires c =
    let a = c.args in
    rw (take_at c.mend-r.new.places _ _ (came (goal.at.store_when-requires c).After-mend-r))
    (mend-room a.p a.page.now _ a.i a.list.now _ c.mend-r.new.places _ _ _ _ (length-take-le _ _ (rw c.numbers_in-k.ensures (numbers-most _)) ∙ c.numbers_in-k.ensures) c.mend-r.ensures c.outcome_number-n.ensures c.mend-r.auto.places)

pub returns : goal.returns
returns c =
    let a = c.args in
    mend-made a.p a.page.now _ a.i a.list.now _ c.mend-r.new.places _ _ _ _ (length-take-le _ _ (rw c.numbers_in-k.ensures (numbers-most _)) ∙ c.numbers_in-k.ensures) c.mend-r.ensures c.outcome_number-n.ensures _
    (rw (take_at c.mend-r.new.places _ _ (came (goal.at.returns c).After-mend-r)) at c.store_when.ensures)
