use Prim.Native.Nat.{◌≤◌}
use native.Mathlib.Omega.{arith}
use lib.Dec.{lit≤}
use Rattle.tables.specs.Generators.{strengths}
use Rattle.element.specs.Fields.{known-last}
use Rattle.generator_rows.specs.Rows.{row_is}
use Rattle.generator_rows.proofs.generator_row.Goals as goal

pub row_of-requires : goal.row_of-requires
row_of-requires c =
    let h : c.args.t ≤ strengths 4 = rw c.in-4.is at c.requires.2 in
    (lit≤ tt, omega (arith, c.generators4.ensures.count))

pub returns-in-4 : goal.returns-in-4
returns-in-4 c =
    let h : c.args.t ≤ strengths 4 = rw c.in-4.is at c.requires.2 in
    row_is 4 1 0 7 _ _ _ (omega arith) c.generators4.ensures c.row_of.ensures _ _ c.in-4.is (omega arith)

pub returns-in-8 : goal.returns-in-8
returns-in-8 c = row_is 8 4 _ 16 _ _ _ (omega arith) c.generators8.ensures c.row_of-in-8.ensures _ _ c.in-8.is (omega arith)

pub returns-in_default : goal.returns-in_default
returns-in_default c =
    row_is 12 12 _ 16 _ _ _ (omega arith) c.generators12.ensures c.row_of-in_default.ensures _ _ (known-last _ c.requires.0 (λ e. omega arith) (λ e. omega arith)) (omega arith)
