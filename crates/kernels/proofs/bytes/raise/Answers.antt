-- The loop: k words of a are moved up with b added, and c is carried on.
use mathlib.Core.Path.{◌≡◌}
use Prim.Native.Nat.{◌+◌, ◌*◌}
use native.Mathlib.Omega.{arith}
use Rattle.kernels.specs.Raise.{raised-start, raised-fits, raised-turn, raised-done}
use Rattle.kernels.proofs.bytes.raise.Goals as goal

pub loop-k-init : goal.loop-k-init
loop-k-init c = ((λ k. (c.type_inv.a k).fits), raised-start _ _ _)

pub overflow_add-w : goal.overflow_add-w
overflow_add-w c =
    let l = c.loop-k in
    record { fits = raised-fits _ l.a _ c.args.s l.c (8 * l.k) c.requires.2 l.invariant.1 c.word_in-w.result }

pub loop-k-preserved : goal.loop-k-preserved
loop-k-preserved c =
    let l = c.loop-k in
    let w = c.word_in-w in
    let x = c.word_in-x in
    let q = c.put_word in
    let e : 8 * l.k + 8 ≡ 8 * (l.k + 1) = omega arith in (
      (λ k. (c.type_inv.a k).fits),
      rw e at (raised-turn _ l.a _ c.args.s l.c (8 * l.k) c.requires.2 l.invariant.1 _ w.result x.result (λ k. (c.slice_known-1.given k).fits) l.invariant.0
          (omega arith) q.auto.dst w.ensures x.ensures q.ensures),
    )

pub returns : goal.returns
returns c =
    let l = c.loop-k in
    raised-done _ l.a _ _ l.c (8 * l.k) (omega arith) l.invariant.1
