-- The loop: the first j words of the row are moved up and added, and the word below word j says what is carried on.
use lib.Bits.{xor_assoc}
use native.Mathlib.Omega.{arith}
use borrow.Author.Rules.{rules}
use Rattle.reduction.specs.Sum.{row-moved-done, row-moving-start, row-moving-turn}
use Rattle.reduction.proofs.table.add_moved.Goals as goal

pub loop-j-init : goal.loop-j-init
loop-j-init c = row-moving-start c.args.t.now c.args.at c.args.s c.args.v.now c.requires.3

pub loop-j-preserved : goal.loop-j-preserved
loop-j-preserved c =
    let l = c.loop-j in
    let a = c.args in
    rw (← xor_assoc _ _ _) (row-moving-turn a.t.now a.at a.s _ l.v l.j (λ k. (c.type_inv.t k).fits) (search rules) (omega arith) (omega arith) (omega arith) l.invariant)

pub returns : goal.returns
returns c =
    let l = c.loop-j in
    let a = c.args in
    row-moved-done a.t.now a.at a.s _ _ l.v l.j (omega arith) l.invariant
