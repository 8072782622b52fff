use mathlib.Core.Path.{◌≡◌}
use native.Mathlib.Omega.{arith}
use lib.ListN.{length}
use Rattle.code.proofs.Filled.{filled-all}
use Rattle.unmix.proofs.error_into.Goals as goal

pub error_at-requires : goal.error_at-requires
error_at-requires c =
    let h = c.loop-k-test.true in
    (c.requires.0, c.requires.1, c.requires.2, c.requires.3, omega (arith, h, c.requires.4), c.requires.5, c.requires.6, c.requires.7.at c.loop-k.k h)

pub returns : goal.returns
returns c =
    let w : c.loop-k.k ≡ length c.args.odd.now = omega (arith, c.loop-k.auto.k-end, c.loop-k-test.false) in
    filled-all _ (length c.args.odd.now) c.loop-k.odd (rw w at c.loop-k.invariant) c.loop-k.auto.odd
