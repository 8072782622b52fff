use Rattle.std.proofs.Common.{rules, ◌∙◌, ◌≡◌, ◌&&◌, leb}
use Rattle.refusal.specs.Tests.{between}
use Rattle.refusal.proofs.count_good.Goals as goal

pub returns : goal.returns
returns c =
    let e : c.contains.result ≡ (leb 1 c.args.count && leb c.args.count 16) = search rules in
    e ∙ between 16 c.args.count
