use mathlib.Core.Path.{ap, ◌∙◌}
use lib.Dec.{lit≤}
use Rattle.gate_rounds.specs.Answers.{is_member}
use Rattle.gate_rounds.specs.Scratched.{middle}
use Rattle.gate_rounds.proofs.round_again.Goals as goal

pub expect-requires : goal.expect-requires
expect-requires c = c.rewrites.ensures ∙ ap is_member c.round.ensures.1

pub scratched-requires : goal.scratched-requires
scratched-requires c =
    let e = c.round.ensures in
    (c.requires.0, e.0, e.1, middle c.args.p c.requires.0 _ e.0, lit≤ tt)
