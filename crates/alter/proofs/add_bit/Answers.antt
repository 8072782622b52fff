use mathlib.Core.Path.{refl, sym, ap, ◌∙◌}
use native.Mathlib.Omega.{arith}
use Prim.Native.Nat.{ℕ, ◌+◌, ◌≤◌}
use lib.ListN.{replicate}
use Rattle.code.proofs.Pages.{zeros-length}
use Rattle.layout.specs.Sizes.{check-below, stored-high}
use Rattle.unit.specs.Short.{shortest-accepted, shortest-high}
use Rattle.unit.specs.Unit.{no-data, zeros-take}
use Rattle.alter.proofs.add_bit.Goals as goal
use Rattle.alter.proofs.add_bit.Goals.{After-page_bytes-n}

-- the short page has its room
short-room : (c : After-page_bytes-n) → c.page_bytes-n.result ≤ 776
short-room c = shortest-high c.args.p c.shortest_of-q.result c.page_bytes-n.result c.requires.0 c.shortest_of-q.ensures c.page_bytes-n.ensures

pub shortest_of-q-requires : goal.shortest_of-q-requires
shortest_of-q-requires c = (c.requires.0, c.requires.2)

pub page_bytes-n-requires : goal.page_bytes-n-requires
page_bytes-n-requires c = rw c.shortest_of-q.ensures (shortest-accepted c.args.p c.requires.0)

pub slice_bounds-room-end : goal.slice_bounds-room-end
slice_bounds-room-end c = short-room (goal.at.slice_bounds-room-end c).After-page_bytes-n

pub slice_bounds-short-end : goal.slice_bounds-short-end
slice_bounds-short-end c = sym (zeros-length _ 776 (short-room (goal.at.slice_bounds-short-end c).After-page_bytes-n))

pub work_out-requires : goal.work_out-requires
work_out-requires c = (c.requires.0, c.requires.1, c.requires.2, c.requires.5, c.requires.6, no-data 96, refl, c.shortest_of-q.ensures, zeros-take c.page_bytes-n.result 776 (short-room (goal.at.work_out-requires c).After-page_bytes-n) ∙ ap (λ (b : ℕ). replicate b 0) c.page_bytes-n.ensures)

pub check_bits-requires : goal.check_bits-requires
check_bits-requires c = (c.requires.0, c.requires.2)

pub overflow_add-e : goal.overflow_add-e
overflow_add-e c =
    let a = c.args in
    omega (arith, c.check_bits.ensures, c.requires.6, check-below a.p c.requires.0 a.i, stored-high a.p c.requires.0)

pub add_short-requires : goal.add_short-requires
add_short-requires c =
    let a = c.args in
    record {
      accepts = c.requires.0;
      page-exact = c.requires.3;
      clear = c.requires.4;
      block = c.requires.5;
      bit = c.requires.6;
      placed = ap (λ (b : ℕ). b + a.r) c.check_bits.ensures;
      remains = c.work_out.ensures.0;
      sheet = c.shortest_of-q.ensures;
      shorted = c.work_out.ensures.1;
    }
