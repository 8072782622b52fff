-- The loop: the first j words of the row are added.
use native.Mathlib.Omega.{arith}
use borrow.Author.Rules.{rules}
use Rattle.polynomial.specs.Xor.{xors}
use Rattle.kernels.specs.Value.{value-nil}
use Rattle.reduction.specs.Sum.{row_done, row-turn}
use Rattle.reduction.proofs.table.add_row.Goals as goal

pub loop-j-init : goal.loop-j-init
loop-j-init c = simp (value-nil 64, xors)

pub loop-j-preserved : goal.loop-j-preserved
loop-j-preserved c =
    let l = c.loop-j in
    let a = c.args in
    row-turn a.t.now a.at _ l.v l.j (search rules) (λ k. (c.type_inv.t k).fits) (omega arith) (omega arith) l.invariant

pub returns : goal.returns
returns c =
    let l = c.loop-j in
    let a = c.args in
    row_done a.t.now a.at _ _ l.j (omega arith) l.invariant
