-- The loop: k words of x are added.
use native.Mathlib.Omega.{arith}
use Rattle.kernels.specs.Add.{added-start, added-low-word, added-low-done}
use Rattle.kernels.proofs.bytes.add_in.Goals as goal

pub loop-k-init : goal.loop-k-init
loop-k-init c = added-start _ _ _ (omega arith)

pub loop-k-preserved : goal.loop-k-preserved
loop-k-preserved c =
    let l = c.loop-k in
    let q = c.add_word in
    added-low-word _ l.acc _ _ l.k _ q.ensures (omega arith) q.auto.acc c.word_in-v.ensures l.invariant

pub returns : goal.returns
returns c =
    let l = c.loop-k in
    added-low-done _ l.acc _ l.k _ (omega arith) l.invariant
