use native.Mathlib.Omega.{arith}
use mathlib.Core.Path.{◌≡◌}
use lib.ListN.{length}
use Rattle.code.proofs.Filled.{filled-all}
use Rattle.unmix.proofs.column.Goals as goal

pub returns : goal.returns
returns c =
    let w : c.loop-l.l ≡ length c.args.sums.now = omega (arith, c.loop-l.auto.l-end, c.loop-l-test.false) in
    filled-all _ (length c.args.sums.now) c.loop-l.sums (rw w at c.loop-l.invariant) c.loop-l.auto.sums
