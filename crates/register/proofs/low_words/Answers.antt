use native.Mathlib.Omega.{arith}
use Rattle.std.proofs.Common.{rules}
use mathlib.Core.Path.{◌≡◌, refl, ap, ◌∙◌}
use lib.ListN.{take}
use Rattle.std.proofs.lemmas.List.{take-take}
use Rattle.kernels.specs.Value.{Bounded}
use Rattle.register.specs.Advance.{copied-digits}
use Rattle.register.proofs.low_words.Goals as goal

pub returns : goal.returns
returns c =
    let r = c.args.r.now in
    let low = c.copy_from_slice.new.self in
    let e : low ≡ take 12 r = c.copy_from_slice.ensures.after in
    let b : Bounded 64 r = search rules in
    copied-digits low low r 12 (search rules) (search rules) refl (record { left = refl; done = ap (take 12) e ∙ take-take 12 12 r (omega arith) }) b
