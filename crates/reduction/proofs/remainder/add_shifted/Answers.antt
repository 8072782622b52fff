-- The loop: the first j words of r are moved up and added, and c is carried on.
use lib.Bits.{xor_assoc}
use native.Mathlib.Omega.{arith}
use borrow.Author.Rules.{rules}
use Rattle.kernels.specs.Move.{moving-done, moving-start, moving-turn}
use Rattle.reduction.proofs.remainder.add_shifted.Goals as goal

pub loop-j-init : goal.loop-j-init
loop-j-init c = moving-start c.args.r.now c.args.v.now c.args.l

pub loop-j-preserved : goal.loop-j-preserved
loop-j-preserved c =
    let l = c.loop-j in
    let a = c.args in
    rw (← xor_assoc _ _ _) (moving-turn a.r.now a.l _ l.c l.v l.j (λ k. (c.type_inv.r k).fits) (search rules) c.requires.2 (omega arith) (omega arith) l.invariant)

pub returns : goal.returns
returns c =
    let l = c.loop-j in
    let a = c.args in
    moving-done a.r.now a.l _ l.c l.v l.j (omega arith) l.invariant
