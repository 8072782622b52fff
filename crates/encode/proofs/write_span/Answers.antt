use native.Mathlib.Nat as Nat
use native.Mathlib.Omega.{arith}
use Prim.Native.Nat.{◌-◌, ◌≤◌}
use Rattle.encode.specs.Page.{going_done, going_next}
use Rattle.encode.specs.Encoding.{fits}
use Rattle.encode.proofs.write_span.Goals as goal

pub loop-i-init : goal.loop-i-init
loop-i-init c = record { page = c.requires.2; low = c.requires.1.rising; high = Nat.le_refl c.args.from; room = c.requires.0.room }

pub write_word-requires : goal.write_word-requires
write_word-requires c =
    let g = c.loop-i.invariant in
    let r = c.requires.0 in
    let last : c.args.to ≤ c.loop-i.i - 1 = omega (arith, c.loop-i-test.true) in (
      record { ready = r.ready; exact = g.page.exact; low = r.low; high = r.high; room = g.room },
      omega (arith, g.high, c.loop-i-test.true, c.requires.1.inside),
      c.requires.1.loaded (c.loop-i.i - 1) last (omega (arith, g.high, c.loop-i-test.true)),
    )

pub loop-i-preserved : goal.loop-i-preserved
loop-i-preserved c =
    let a = c.args in
    going_next a.p c.requires.0.ready.accepts a.blocks.now (fits a.p a.w.now a.blocks.now c.requires.0.ready (λ i. (c.type_inv.blocks i).fits)) a.to a.from c.loop-i.i _ _ _ _
    c.loop-i.invariant c.loop-i-test.true c.requires.1.inside c.write_word.ensures c.acc-1.given

pub returns : goal.returns
returns c =
    let a = c.args in
    going_done a.p a.blocks.now a.to a.from c.loop-i.i c.loop-i.page c.loop-i.acc c.loop-i.invariant c.loop-i-test.false
