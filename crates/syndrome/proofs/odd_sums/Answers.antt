use mathlib.Core.Path.{sym, ap, ◌∙◌}
use Prim.Native.Nat.{ℕ, ◌+◌, ◌*◌}
use mathlib.Core.List.{List, map}
use lib.ListN.{length}
use Rattle.code.proofs.Pages.{zeros-length}
use Rattle.field.specs.Elements.{syndrome}
use Rattle.field.specs.Flips.{flips}
use Rattle.code.specs.Lists.{range}
use Rattle.syndrome.specs.Places.{places_same}
use Rattle.syndrome.proofs.odd_sums.Goals as goal

pub slice_bounds-room-end : goal.slice_bounds-room-end
slice_bounds-room-end c = c.requires.1

pub slice_bounds-e-end : goal.slice_bounds-e-end
slice_bounds-e-end c = sym (zeros-length (length c.args.places.now) 768 c.requires.1)

pub slice_bounds-spare-end : goal.slice_bounds-spare-end
slice_bounds-spare-end c = c.requires.1

pub slice_bounds-d-end : goal.slice_bounds-d-end
slice_bounds-d-end c = sym (zeros-length (length c.args.places.now) 768 c.requires.1)

pub copy-requires : goal.copy-requires
copy-requires c = zeros-length (length c.args.places.now) 768 c.requires.1

pub copy-requires-2 : goal.copy-requires-2
copy-requires-2 c = zeros-length (length c.args.places.now) 768 c.requires.1

pub sums_into-requires : goal.sums_into-requires
sums_into-requires c =
    let E = c.copy.ensures in
    let D = c.copy-2.ensures in
    (c.requires.0, ap length (E ∙ sym D), places_same (sym E) c.requires.2, places_same (sym D) c.requires.2, D ∙ sym E)

pub returns : goal.returns
returns c = c.sums_into.ensures ∙ ap (λ (l : List ℕ). map (λ i. syndrome c.args.f.q (flips l) (2 * i + 1)) (range 0 (length c.args.list.now))) c.copy.ensures
