use Rattle.std.specs.Prelude.{Result, Ok, Err}
use mathlib.Core.Path.{◌≡◌, ap, ◌∙◌}
use Rattle.code.specs.Answers.{Outcome}
use Rattle.code.specs.Calls.{statuses}
use Rattle.gate_rounds.specs.Answers.{is_done}
use Rattle.gate_rounds.specs.Singles.{Each, many-done, many-each, many-list}
use Rattle.gate_rounds.proofs.three.Goals as goal
use Rattle.gate_rounds.proofs.three.Goals.{After-write_many-r}

-- the call
made : (w : After-write_many-r) → (let a = w.args in
    (w.write_many-r.result ≡ Ok tt) × Each a.p a.l a.blocks.now w.write_many-r.new.pages w.write_many-r.new.list
    × (w.write_many-r.new.list ≡ statuses a.p a.l 3 a.blocks.now))
made w =
    let a = w.args in
    let h = rw w.requires.6 at w.requires.8 in (
      many-done a.p w.requires.0 a.l w.requires.1 a.blocks.now a.pages.now _ a.list.now _ _ w.requires.2 w.requires.3 h w.requires.4 w.write_many-r.ensures,
      many-each a.p w.requires.0 a.l w.requires.1 a.blocks.now a.pages.now _ a.list.now _ _ w.requires.2 w.requires.3 h w.requires.4 w.write_many-r.ensures,
      many-list a.p w.requires.0 a.l w.requires.1 a.blocks.now a.pages.now _ a.list.now _ _ w.requires.2 w.requires.3 h w.requires.4 w.write_many-r.ensures,
    )

pub expect-requires : goal.expect-requires
expect-requires c = c.done.ensures ∙ ap is_done (made (goal.at.expect-requires c).After-write_many-r).0

pub singles-requires : goal.singles-requires
singles-requires c = ((made (goal.at.singles-requires c).After-write_many-r).1, c.requires.5, c.requires.6, c.requires.7, c.requires.8)

pub returns : goal.returns
returns c = (made (goal.at.returns c).After-write_many-r).2
