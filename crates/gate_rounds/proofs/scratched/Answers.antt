use mathlib.Core.Bool.{not}
use mathlib.Core.Path.{ap, ◌∙◌}
use Rattle.gate_rounds.specs.Scratched.{byte-changed}
use Rattle.gate_rounds.proofs.scratched.Goals as goal

pub expect-requires : goal.expect-requires
expect-requires c =
    let a = c.args in
    ap not c.member.ensures ∙ byte-changed a.p c.requires.0 a.page.now a.k a.e c.requires.1 c.requires.3 c.ranges.e.fits c.requires.4 c.requires.2 _ c.judge-j.ensures
