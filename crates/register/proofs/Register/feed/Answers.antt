use mathlib.Core.Path.{sym}
use Rattle.code.proofs.Answers.{refusal-ne}
use Rattle.refusal.specs.Feeding.{feed-sheet}
use Rattle.register.specs.Register.{value_of, feeding-refused}
use Rattle.register.proofs.Register.feed.Goals as goal

pub returns-in-Err : goal.returns-in-Err
returns-in-Err c =
    let a = c.args in
    feeding-refused a.p a.width a.self a.u c.in-Err.e _ c.refused.ensures
    (feed-sheet a.p a.width (value_of a.self) a.u _ c.in-Err.ensures (refusal-ne c.in-Err.e))

pub feed_accepted-requires : goal.feed_accepted-requires
feed_accepted-requires c = sym c.in_default.ensures
