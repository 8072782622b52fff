-- The loop: k words of r are added. Below the data the sum is +: under.
use mathlib.Core.Path.{◌≡◌, refl}
use Prim.Native.Nat.{◌+◌, ◌*◌, ◌/◌}
use native.Mathlib.Nat.{zero-add}
use native.Mathlib.Omega.{arith}
use Rattle.polynomial.specs.Digits.{value}
use Rattle.kernels.specs.Add.{added-start, added-word, bytes-law}
use Rattle.kernels.specs.Store.{word-digit, last-lt, under}
use Rattle.kernels.specs.Value.{Bounded}
use Rattle.kernels.proofs.bytes.store_low.Goals as goal

pub loop-k-init : goal.loop-k-init
loop-k-init c = added-start _ 0 _ (omega arith)

pub loop-k-preserved : goal.loop-k-preserved
loop-k-preserved c =
    let l = c.loop-k in
    let r = c.args.r.now in
    let b : Bounded 64 r = λ k. (c.shared_slice_known-1.given k).fits in
    let q = c.add_word in
    added-word _ l.dst _ 0 _ l.k _ (rw zero-add q.ensures) (omega arith) q.auto.acc (word-digit r b l.k) l.invariant

pub add_bytes-requires : goal.add_bytes-requires
add_bytes-requires c =
    let l = c.loop-k in
    let r = c.args.r.now in
    let b : Bounded 64 r = λ k. (c.shared_slice_known-1.given k).fits in
    (omega arith, last-lt r b c.args.w (c.args.w / 64) _ c.requires.2 refl (omega arith))

pub returns-then-w-ne0 : goal.returns-then-w-ne0
returns-then-w-ne0 c =
    let l = c.loop-k in
    let r = c.args.r.now in
    let w = c.args.w in
    let n = w / 64 in
    let b : Bounded 64 r = λ k. (c.shared_slice_known-1.given k).fits in
    let e : l.k ≡ n = omega arith in
    under (value 8 c.args.dst.now) (value 64 r) w (8 * (8 * n + 8)) _ c.requires.3 c.requires.2 (omega arith)
    (bytes-law _ _ _ 0 _ (8 * n) 8 (8 * n + 8) _ refl (rw e at l.invariant.done) (word-digit r b n) (rw zero-add c.add_bytes.ensures))

pub returns-else-w-ne0 : goal.returns-else-w-ne0
returns-else-w-ne0 c =
    let l = c.loop-k in
    under (value 8 c.args.dst.now) (value 64 c.args.r.now) c.args.w (8 * (8 * l.k)) _ c.requires.3 c.requires.2 (omega arith) l.invariant.done
