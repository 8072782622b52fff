-- The rows of the digits 0 and 1, then the others.
use mathlib.Core.Path.{◌≡◌, ◌∙◌, subst}
use Prim.Native.Nat.{◌+◌, ◌*◌}
use native.Mathlib.Omega.{arith}
use Rattle.reduction.specs.Build.{Begun, Grown, begun-on, grown-clear, grown-on, hex-next}
use Rattle.reduction.proofs.table.place.Goals as goal

pub move_row-requires : goal.move_row-requires
move_row-requires c =
    let q = c.clear_row in
    let k = c.args.k in (
      begun-on c.args.t.now q.new.t _ _ c.requires.0 (q.auto.t ∙ c.requires.0.words) (grown-clear c.args.t.now q.new.t k q.ensures),
      omega arith,
      omega arith,
      omega arith,
      omega arith,
      omega arith,
      omega arith,
      hex-next k c.requires.1,
    )

pub fill_place-requires : goal.fill_place-requires
fill_place-requires c =
    let q = c.clear_row in
    let r = c.move_row in
    let k = c.args.k in
    let e : 16 * k + 1 + 1 ≡ 16 * k + 2 = omega arith in
    let b : Begun q.new.t (16 * k + 1) = begun-on c.args.t.now q.new.t _ _ c.requires.0 (q.auto.t ∙ c.requires.0.words) (grown-clear c.args.t.now q.new.t k q.ensures) in
    (subst (Begun r.new.t) e (begun-on q.new.t r.new.t _ _ b (r.auto.t ∙ b.words) r.ensures), c.requires.2)

pub returns : goal.returns
returns c =
    let q = c.clear_row in
    let r = c.move_row in
    let x = c.fill_place in
    let k = c.args.k in
    let e : 16 * k + 1 + 1 ≡ 16 * k + 2 = omega arith in
    grown-on c.args.t.now q.new.t x.new.t _ _ _ (grown-clear c.args.t.now q.new.t k q.ensures)
    (grown-on q.new.t r.new.t x.new.t _ _ _ (subst (Grown q.new.t r.new.t (16 * k + 1)) e r.ensures) x.ensures)
