-- What passes x^768 is a digit, whose row is added to the row that is moved: top-is, grown-move.
use native.Mathlib.Omega.{arith}
use Rattle.reduction.specs.Build.{aside, grown-move, top-is, word-before}
use Rattle.reduction.proofs.table.move_row.Goals as goal

pub overflow_mul-top : goal.overflow_mul-top
overflow_mul-top c =
    let p = c.requires in
    omega (arith, (top-is c.args.t.now c.args.n c.args.i c.args.s (λ k. (c.slice_known-1.given k).fits) p.0 p.1 p.2 p.5).1)

pub add_row-requires : goal.add_row-requires
add_row-requires c =
    let p = c.requires in
    (p.0.words, omega (arith, (top-is c.args.t.now c.args.n c.args.i c.args.s (λ k. (c.slice_known-1.given k).fits) p.0 p.1 p.2 p.5).1))

pub add_moved-requires : goal.add_moved-requires
add_moved-requires c =
    let p = c.requires in
    (p.0.words, omega arith, omega arith, word-before c.args.t.now c.args.n c.args.i (λ k. (c.slice_known-1.given k).fits) p.0 p.2 p.3, p.4, omega arith)

pub returns : goal.returns
returns c =
    let p = c.requires in
    let t = (top-is c.args.t.now c.args.n c.args.i c.args.s (λ k. (c.slice_known-1.given k).fits) p.0 p.1 p.2 p.5).0 in
    grown-move c.args.t.now _ c.args.i c.args.s c.args.n _ p.2 p.5 p.6 p.7
    (rw t at (aside _ _ _ _ c.add_row.ensures c.add_moved.ensures)) c.put_row.ensures
