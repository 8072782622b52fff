use Rattle.std.proofs.Common.{◌≡◌, ◌∙◌, ap, rules, length}
use Rattle.std.proofs.Math.ListN.{replicate}
use Rattle.polynomial.specs.Digits.{value}
use Rattle.kernels.specs.Value.{value-nil}
use Rattle.kernels.proofs.Zeros.{zeros-above}
use Rattle.kernels.proofs.row.clear.Goals as goal

pub returns : goal.returns
returns c =
    let e : c.fill.new.self ≡ replicate (length c.args.r.now) 0 = c.fill.ensures.after (search rules) in
    ap (value 64) e ∙ zeros-above 64 _ _ ∙ value-nil 64
