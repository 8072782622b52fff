-- The loop: k words of x / 2 ^ (8 * at + sh) are added.
use mathlib.Core.Path.{◌≡◌}
use Prim.Native.Nat.{◌*◌}
use native.Mathlib.Omega.{arith}
use Rattle.kernels.specs.Add.{added-start, added-word, next-bits}
use Rattle.kernels.proofs.bytes.add_windows.Goals as goal

pub loop-k-init : goal.loop-k-init
loop-k-init c = added-start _ _ _ (omega arith)

pub loop-k-preserved : goal.loop-k-preserved
loop-k-preserved c =
    let l = c.loop-k in
    let a = c.args in
    let q = c.add_word in
    added-word _ l.acc _ a.from _ l.k _ q.ensures (omega arith) q.auto.acc (next-bits _ _ _ (8 * l.k) 64 _ (omega arith) c.window_in-v.ensures) l.invariant

pub returns : goal.returns
returns c =
    let l = c.loop-k in
    let a = c.args in
    let e : l.k ≡ a.count = omega arith in
    rw e at l.invariant.done
