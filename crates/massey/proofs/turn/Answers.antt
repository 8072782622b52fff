use native.Mathlib.Nat as Nat
use native.Mathlib.Omega.{arith}
use Rattle.massey.specs.Steps.{inverse-pos, step-far, step-jump, step-near, step-zero, turned-jump, turned-near, turned-off}
use Rattle.massey.proofs.turn.Goals as goal

pub discrepancy-d-requires : goal.discrepancy-d-requires
discrepancy-d-requires c = (c.requires.0, c.requires.8.locators.small, c.requires.1, omega arith, c.requires.7, omega arith)

pub returns-then-d-eq0 : goal.returns-then-d-eq0
returns-then-d-eq0 c =
    turned-near c.requires.6
    (step-zero c.requires.0.field.known c.requires.8 (omega arith) c.discrepancy-d.ensures
    c.if-d-eq0.true c.shift.ensures)

pub returns-then-r-l : goal.returns-then-r-l
returns-then-r-l c =
    turned-near c.requires.6
    (step-near c.requires.0.field.known c.requires.8 (omega arith) c.discrepancy-d.ensures c.if-d-eq0.false c.if-r-l.true c.add_times.ensures
    c.sig-1.given c.shift-then-r-l.ensures)

pub returns-then-t-r : goal.returns-then-t-r
returns-then-t-r c =
    turned-off c.args.l (omega (arith, c.if-t-r.true))
    (step-far c.requires.0.field.known c.requires.8 (omega arith) c.discrepancy-d.ensures c.if-d-eq0.false c.if-r-l.false)

pub jump-requires : goal.jump-requires
jump-requires c =
    let e = c.inverse-e.ensures in (
      c.requires.0,
      c.requires.8.locators.small,
      c.requires.8.helpers.small,
      Nat.pos_of_ne-zero c.if-d-eq0.false,
      c.discrepancy-d.ensures.small,
      inverse-pos c.args.f.q c.discrepancy-d.result c.inverse-e.result e.0,
      e.1,
      c.requires.8.same,
    )

pub returns : goal.returns
returns c =
    turned-jump _ c.if-t-r.false
    (step-jump c.requires.0.field.known c.requires.8 (omega arith) c.discrepancy-d.ensures c.if-d-eq0.false c.if-r-l.false c.jump.ensures
    c.inverse-e.ensures c.sig-2-1.given c.shift-2.ensures)
