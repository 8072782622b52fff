use mathlib.Core.Path.{refl, sym, ◌∙◌}
use native.Mathlib.Nat as Nat
use native.Mathlib.Omega.{arith}
use Prim.Native.Nat.{◌+◌, ◌*◌, ◌≤◌}
use lib.ListN.{length-take}
use Rattle.gate_rounds.specs.Singles.{blocks-room, blocks-small, page-room, page-small, single_of}
use Rattle.gate_rounds.proofs.single_rooms.Goals as goal
use Rattle.gate_rounds.proofs.single_rooms.Goals.{After-shared_slice_known-3-1}

-- the page's places, and those of its blocks
small : (c : After-shared_slice_known-3-1) → (let a = c.args in
    (a.k * a.b + a.b ≤ 16384) × (a.k * a.n + a.n ≤ 16384))
small c =
    let a = c.args in (
      blocks-small a.p a.l a.blocks.now a.pages.now a.list.now c.requires.0 a.k c.requires.1 a.b a.n c.requires.2 c.requires.3 c.requires.4,
      page-small a.p a.l a.blocks.now a.pages.now a.list.now c.requires.0 a.k c.requires.1 a.b a.n c.requires.2 c.requires.3 c.requires.5,
    )

pub overflow_mul-at : goal.overflow_mul-at
overflow_mul-at c = omega (arith, (small (goal.at.overflow_mul-at c).After-shared_slice_known-3-1).0)

pub overflow_add-end : goal.overflow_add-end
overflow_add-end c = omega (arith, (small (goal.at.overflow_add-end c).After-shared_slice_known-3-1).0)

pub overflow_mul-start : goal.overflow_mul-start
overflow_mul-start c = omega (arith, (small (goal.at.overflow_mul-start c).After-shared_slice_known-3-1).1)

pub overflow_add-stop : goal.overflow_add-stop
overflow_add-stop c = omega (arith, (small (goal.at.overflow_add-stop c).After-shared_slice_known-3-1).1)

pub slice_bounds-single-end : goal.slice_bounds-single-end
slice_bounds-single-end c =
    let a = c.args in
    blocks-room a.p a.l a.blocks.now a.pages.now a.list.now c.requires.0 a.k c.requires.1 a.b a.n c.requires.2 c.requires.3

pub slice_bounds-single-end-2 : goal.slice_bounds-single-end-2
slice_bounds-single-end-2 c =
    let a = c.args in
    page-room a.p a.l a.blocks.now a.pages.now a.list.now c.requires.0 a.k c.requires.1 a.b a.n c.requires.2 c.requires.3

pub slice_bounds-single-end-3 : goal.slice_bounds-single-end-3
slice_bounds-single-end-3 c = sym (length-take c.args.n _ ∙ Nat.min-eq_left c.requires.5)

pub slice_bounds-single-end-4 : goal.slice_bounds-single-end-4
slice_bounds-single-end-4 c = sym (length-take c.args.n _ ∙ Nat.min-eq_left c.requires.5)

pub single-requires : goal.single-requires
single-requires c =
    let a = c.args in (
      single_of a.p a.l a.blocks.now a.pages.now a.list.now c.requires.0 a.k c.requires.1 a.b a.n c.requires.2 c.requires.3,
      refl,
      c.requires.0.says a.k c.requires.1,
    )
