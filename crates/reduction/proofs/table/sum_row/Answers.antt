-- The sum is made aside, and put.
use Rattle.reduction.specs.Build.{aside, grown-sum}
use Rattle.reduction.proofs.table.sum_row.Goals as goal

pub returns : goal.returns
returns c =
    let p = c.requires in
    grown-sum c.args.t.now _ c.args.a c.args.b c.args.n _ p.2 p.3 p.4
    (aside _ _ _ _ c.add_row.ensures c.add_row-2.ensures) c.put_row.ensures
