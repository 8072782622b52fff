use native.Mathlib.Omega.{arith}
use mathlib.Core.Path.{◌≡◌}
use Prim.Native.Nat.{◌+◌, ◌-◌}
use Rattle.massey.specs.Entries.{product-log}
use Rattle.unmix.specs.Sums.{taking-next}
use Rattle.unmix.proofs.take_out.Goals as goal

pub loop-l-preserved : goal.loop-l-preserved
loop-l-preserved c =
    let l = c.loop-l.l in
    let e : l - 1 + 1 ≡ l = omega (arith, c.loop-l.auto.l) in
    let n : l + 1 - 1 ≡ l = omega arith in
    rw n (rw e at (taking-next c.requires.0.field.known c.requires.3 c.loop-l.invariant (omega (arith, e, c.loop-l-test.true)) c.multiple-x.result (product-log (c.log-k.ensures.log c.args.f.q c.requires.0.logs c.requires.2 c.requires.3) c.multiple-x.ensures)))
