-- The loop: k words of r are written. The bytes are digits, so that the list is known by its number: store-list.
use mathlib.Core.Path.{◌≡◌}
use Prim.Native.Nat.{◌+◌, ◌*◌}
use Rattle.std.proofs.Common.{arith, rules}
use Rattle.kernels.specs.Store.{word-digit, store-list}
use Rattle.kernels.specs.Value.{Bounded}
use Rattle.kernels.specs.Write.{written_start, written-done, written-word}
use Rattle.kernels.proofs.bytes.store.Goals as goal

pub loop-k-init : goal.loop-k-init
loop-k-init c = ((λ k. (c.type_inv.dst k).fits), written_start 8 _ _)

pub loop-k-preserved : goal.loop-k-preserved
loop-k-preserved c =
    let l = c.loop-k in
    let r = c.args.r.now in
    let b : Bounded 64 r = search rules in
    let q = c.put_word in
    let e : 8 * l.k + 8 ≡ 8 * (l.k + 1) = omega arith in (
      (λ k. (c.type_inv.dst k).fits),
      rw e at (written-word _ l.dst _ _ (8 * l.k) _ (omega arith) q.auto.dst q.ensures (word-digit r b l.k) l.invariant.1),
    )

pub returns : goal.returns
returns c =
    let l = c.loop-k in
    store-list l.dst _ l.invariant.0 (omega arith) c.requires.1 (written-done 8 _ l.dst _ (8 * l.k) 96 (omega arith) (omega arith) l.invariant.1)
