use native.Mathlib.Omega.{arith}
use Rattle.search.specs.Slots.{slot_is, slot-past, slot-zero}
use Rattle.search.proofs.slot_of.Goals as goal
use Rattle.search.proofs.slot_of.Goals.{then-l-i-via-then-l-i, then-l-i-via-else-l-i+then-sig-i-eq0}

pub returns-then-l-i : goal.returns-then-l-i
returns-then-l-i c =
    let q = c.args.f.q in
    let k = c.requires.0.known in
    elim c.then-l-i.branch [
      | then-l-i-via-then-l-i w ↦ slot-past q k c.args.sig.now c.args.l c.args.i w.if-l-i.true
      | then-l-i-via-else-l-i+then-sig-i-eq0 w ↦ slot-zero q k c.args.sig.now c.args.l c.args.i w.if-l-i.false w.if-sig-i-eq0.true
    ]

pub returns : goal.returns
returns c =
    let q = c.args.f.q in
    let L = c.log-e.ensures.log q c.requires.1 (omega (arith, c.from.ensures, c.if-sig-i-eq0.false)) (omega (arith, c.from.ensures, c.requires.2.lt c.args.i)) in
    slot_is q c.requires.0.known c.args.sig.now c.args.l c.args.i c.log-e.result c.if-l-i.false (omega (arith, c.if-l-i.false, c.requires.4)) (rw c.from.ensures at L)
