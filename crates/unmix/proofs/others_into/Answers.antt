use native.Mathlib.Omega.{arith}
use Rattle.unmix.specs.Others.{kept-else, kept-first, kept_same}
use Rattle.unmix.proofs.others_into.Goals as goal
use Rattle.unmix.proofs.others_into.Goals.{then-k-i, else-k-i}

pub loop-k-init : goal.loop-k-init
loop-k-init c = kept-first _ _ _

pub loop-k-preserved : goal.loop-k-preserved
loop-k-preserved c =
    let K = c.loop-k.invariant in
    elim c.if-k-i.branch [
      | then-k-i w ↦ rw (w.list-is, w.c-is) (kept-else K c.loop-k-test.true (omega (arith, K.few, c.loop-k.auto.list, c.requires, c.loop-k-test.true)) w.if-k-i.true)
      | else-k-i w ↦ rw (w.list-is, w.c-is) (kept_same K c.loop-k-test.true w.if-k-i.false)
    ]
