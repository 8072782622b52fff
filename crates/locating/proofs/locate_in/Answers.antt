use mathlib.Core.Path.{◌≡◌, sym, ap, ◌∙◌}
use Prim.Native.Nat.{ℕ, ◌*◌}
use native.Mathlib.Omega.{arith}
use lib.ListN.{length, take}
use Rattle.locator.specs.Locate.{agree}
use Rattle.locating.specs.Look.{listed, agree_same, from_list, listed-is}
use Rattle.locating.specs.Whole.{Candidates, candidates, places, size, whole-far, whole-found, whole-many, whole-none}
use Rattle.syndrome.specs.Sum.{table-roots}
use Rattle.locating.proofs.locate_in.Goals as goal
use Rattle.locating.proofs.locate_in.Goals.{After-roots-c, else-c-t-via-else-c-t, else-c-t-via-then-c-t+else-agrees}

-- what is found
module _ (c : After-roots-c) where
  given : Candidates c.args.f.q c.args.s.now c.args.t c.args.z c.roots-c.result c.args.list.now c.roots-c.new.list
  given = candidates c.args.f.q c.args.s.now c.args.t c.args.z c.massey-l.result _ _ (c.massey-l.ensures.found c.if-t-l.false) (omega arith) c.roots-c.ensures

  looked : agree c.args.f.q (from_list c.args.f.q c.args.odd.now) (take c.roots-c.result c.roots-c.new.list) (2 * length c.args.odd.now) ≡ agree c.args.f.q (listed c.args.s.now) (take c.roots-c.result c.roots-c.new.list) (2 * c.args.t)
  looked =
      let e = listed-is c.args.f.q c.requires.0.field.known c.args.odd.now c.args.s.now c.args.t c.requires.12 in
      ap (λ (k : ℕ). agree c.args.f.q (from_list c.args.f.q c.args.odd.now) (take c.roots-c.result c.roots-c.new.list) (2 * k)) c.requires.11
      ∙ sym (agree_same c.args.f.q (listed c.args.s.now) _ (from_list c.args.f.q c.args.odd.now) (2 * c.args.t) e)

pub returns-then-t-l : goal.returns-then-t-l
returns-then-t-l c = (whole-far c.args.f.q c.args.s.now c.args.t c.args.z c.requires.0.field.known c.requires.5 c.massey-l.result _ _ c.args.list.now c.massey-l.ensures c.if-t-l.true, tt)

pub roots-c-requires : goal.roots-c-requires
roots-c-requires c = (c.requires.0, (c.massey-l.ensures.found c.if-t-l.false).locators.small, omega arith, omega (arith, c.requires.4), c.requires.5)

pub slice_bounds-agrees-end : goal.slice_bounds-agrees-end
slice_bounds-agrees-end c = omega (arith, c.roots-c.ensures.size, c.if-c-t.true, c.requires.6)

pub agrees-requires : goal.agrees-requires
agrees-requires c =
    let a = c.args in
    let C = given (goal.at.agrees-requires c).After-roots-c in (
      table-roots c.requires.0,
      omega (arith, size a.f.q a.s.now a.t a.z C c.if-c-t.true c.requires.6, c.if-c-t.true, c.requires.2),
      places a.f.q a.s.now a.t a.z C c.if-c-t.true c.requires.6 c.requires.5,
      omega (arith, c.requires.11, c.requires.2),
    )

pub returns-then-agrees : goal.returns-then-agrees
returns-then-agrees c =
    let o = (goal.at.returns-then-agrees c).After-roots-c in
    (whole-found c.args.f.q c.args.s.now c.args.t c.args.z (given o) c.if-c-t.true c.requires.6 (sym c.if-agrees.true ∙ c.agrees.ensures ∙ looked o), c.if-c-t.true)

pub returns-else-c-t : goal.returns-else-c-t
returns-else-c-t c =
    let o = (goal.at.returns-else-c-t c).After-roots-c in
    elim c.else-c-t.branch [
      | else-c-t-via-else-c-t w ↦ (whole-many c.args.f.q c.args.s.now c.args.t c.args.z (given o) w.if-c-t.false, tt)
      | else-c-t-via-then-c-t+else-agrees w ↦ (whole-none c.args.f.q c.args.s.now c.args.t c.args.z (given o) w.if-c-t.true c.requires.6 (sym w.if-agrees.false ∙ w.agrees.ensures ∙ looked o), tt)
    ]
