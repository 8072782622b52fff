-- The loop: the first j words of the rows are added.
use mathlib.Core.Path.{refl, ◌∙◌}
use Prim.Native.Nat.{◌+◌}
use native.Mathlib.Omega.{arith}
use borrow.Author.Rules.{rules}
use lib.Bits.{xor_assoc}
use lib.Seq.{take-set-le}
use Rattle.bytewise.specs.Bytes.{add_done, add_start, add_turn}
use Rattle.bytewise.proofs.add_rows.Goals as goal

pub loop-j-init : goal.loop-j-init
loop-j-init c = (refl, add_start c.args.b.now c.args.a c.args.c _)

pub loop-j-preserved : goal.loop-j-preserved
loop-j-preserved c =
    let l = c.loop-j in
    let a = c.args in (
      take-set-le 6 l.v (6 + l.j) _ (omega arith) ∙ l.invariant.0,
      rw (← xor_assoc _ _ _) (add_turn a.b.now a.a a.c _ l.v l.j (search rules) (λ k. (c.type_inv.b k).fits) (omega arith) (omega arith) (omega arith) l.invariant.1),
    )

pub returns : goal.returns
returns c =
    let l = c.loop-j in
    let a = c.args in
    (add_done a.b.now a.a a.c _ _ l.j (omega arith) l.invariant.1, l.invariant.0)
