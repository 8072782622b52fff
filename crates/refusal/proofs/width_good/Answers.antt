use Rattle.std.proofs.Common.{rules, ◌∙◌, ◌≡◌, ◌&&◌, leb}
use Rattle.refusal.specs.Tests.{between}
use Rattle.refusal.proofs.width_good.Goals as goal

pub returns : goal.returns
returns c =
    let e : c.contains.result ≡ (leb 1 c.args.width && leb c.args.width 64) = search rules in
    e ∙ between 64 c.args.width
