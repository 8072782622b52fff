-- The loop: the rows of the 2 ^ s lowest digits are there.
use mathlib.Core.Path.{◌≡◌, refl, ◌∙◌, subst}
use Prim.Native.Nat.{ℕ, ◌+◌, ◌*◌, ◌%◌, ◌^◌, ◌≤◌, ◌<◌}
use native.Mathlib.Nat as Nat
use native.Mathlib.Omega.{arith}
use Rattle.reduction.specs.Build.{Grown, begun-on, few, grown-on, grown-start, hex-move, next_power}
use Rattle.reduction.proofs.table.fill_place.Goals as goal

shifted : (s : ℕ) → 1 ≤ s → s < 4 → 1 * 2 ^ s % 18446744073709551616 ≡ 2 ^ s
shifted s l h = omega (arith, (few s (2 ^ s) refl l h).1)

pub loop-s-init : goal.loop-s-init
loop-s-init c = (c.requires.0.words, grown-start c.args.t.now (16 * c.args.k + 2))

pub overflow_add-k-in-loop-s : goal.overflow_add-k-in-loop-s
overflow_add-k-in-loop-s c =
    let l = c.loop-s in
    omega (arith, (few l.s (2 ^ l.s) refl l.auto.s c.loop-s-test.true).1)

pub move_row-requires : goal.move_row-requires
move_row-requires c =
    let l = c.loop-s in
    let f = few l.s (2 ^ l.s) refl l.auto.s c.loop-s-test.true in
    rw (shifted l.s l.auto.s c.loop-s-test.true) (
      begun-on c.args.t.now l.t _ _ c.requires.0 l.invariant.0 l.invariant.1,
      omega (arith, f.1),
      omega (arith, f.0),
      omega arith,
      l.auto.s,
      omega arith,
      Nat.le-add_left (2 ^ l.s) (16 * c.args.k),
      hex-move c.args.k (2 ^ l.s) l.s refl (omega (arith, f.1)),
    )

pub fill-requires : goal.fill-requires
fill-requires c =
    let l = c.loop-s in
    let q = c.move_row in
    let f = few l.s (2 ^ l.s) refl l.auto.s c.loop-s-test.true in
    let e = shifted l.s l.auto.s c.loop-s-test.true in
    rw e (
      begun-on l.t q.new.t _ _ (begun-on c.args.t.now l.t _ _ c.requires.0 l.invariant.0 l.invariant.1) (q.auto.t ∙ l.invariant.0) (rw e at q.ensures),
      c.requires.1,
      omega (arith, f.0),
      f.1,
      record { exponent = l.s; is = refl },
    )

pub loop-s-preserved : goal.loop-s-preserved
loop-s-preserved c =
    let l = c.loop-s in
    let q = c.move_row in
    let r = c.fill in
    let w = shifted l.s l.auto.s c.loop-s-test.true in
    let e : 16 * c.args.k + 2 ^ l.s + 2 ^ l.s ≡ 16 * c.args.k + 2 ^ (l.s + 1) = omega (arith, next_power l.s (2 ^ l.s) refl) in (
      r.auto.t ∙ q.auto.t ∙ l.invariant.0,
      grown-on c.args.t.now l.t r.new.t _ _ _ l.invariant.1
          (subst (Grown l.t r.new.t (16 * c.args.k + 2 ^ l.s)) e (grown-on l.t q.new.t r.new.t _ _ _ (rw w at q.ensures) (rw w at r.ensures))),
    )

pub returns : goal.returns
returns c =
    let l = c.loop-s in
    let e : l.s ≡ 4 = omega arith in
    rw e at l.invariant.1
