use mathlib.Core.Path.{refl}
use native.Mathlib.Omega.{arith}
use Rattle.search.specs.Slots.{five-is, five-lt, run-first, run-next}
use Rattle.search.specs.Values.{adding-first, adding-next}
use Rattle.search.proofs.add_five.Goals as goal

pub loop-k-init : goal.loop-k-init
loop-k-init c =
    let q = c.args.f.q in
    let k = c.requires.0.field.known in
    let h = c.requires in (
      adding-first q _ _ h.1,
      record { first = run-first q k _ h.3; second = run-first q k _ h.4; third = run-first q k _ h.5; fourth = run-first q k _ h.6; fifth = run-first q k _ h.7 },
    )

pub loop-k-preserved : goal.loop-k-preserved
loop-k-preserved c =
    let g = c.loop-k-test.true in
    let h = c.requires in
    let i = c.loop-k.invariant in
    let k = c.requires.0.field.known in
    let x = c.powers_sum-x in (
      adding-next _ i.0 (omega (arith, g, h.2)) (five-lt c.args.f c.args.powers.now c.args.logs.now c.requires.0 i.1 _ x.result refl x.ensures h.3 h.4 h.5 h.6 h.7)
          (five-is c.args.f c.args.powers.now c.args.logs.now c.requires.0 i.1 _ x.result refl x.ensures),
      record {
        first = run-next k _ h.3 i.1.first c.next-p.ensures;
        second = run-next k _ h.4 i.1.second c.next-q.ensures;
        third = run-next k _ h.5 i.1.third c.next-r.ensures;
        fourth = run-next k _ h.6 i.1.fourth c.next-s.ensures;
        fifth = run-next k _ h.7 i.1.fifth c.next-t.ensures;
      },
    )
