use Rattle.std.specs.Prelude.{Result, Ok, Err}
use mathlib.Core.Path.{◌≡◌, ◌∙◌, ap}
use lib.ListN.{length, get_or}
use Rattle.code.specs.Answers.{Outcome}
use Rattle.code.specs.Demands.{QuoteLaws}
use Rattle.code.proofs.Theorems.{demands}
use Rattle.gate_rounds.specs.Answers.{is_done}
use Rattle.gate_rounds.proofs.quoted.Goals as goal
use Rattle.gate_rounds.proofs.quoted.Goals.{After-quote-r}

said : (c : After-quote-r) → (c.quote-r.result ≡ Ok tt) × (length c.quote-r.new.list ≡ 12) × QuoteLaws c.args.p (λ j. get_or c.quote-r.new.list j 0)
said c = (demands c.args.p c.requires.0).0.quote-laws c.args.list.now _ _ c.requires.4 c.quote-r.ensures

pub expect-requires : goal.expect-requires
expect-requires c = c.done.ensures ∙ ap is_done (said (goal.at.expect-requires c).After-quote-r).0

pub put-requires : goal.put-requires
put-requires c = (c.requires.0, c.requires.1, c.requires.2, c.requires.3)

pub returns : goal.returns
returns c = (demands c.args.p c.requires.0).0.quoted-pages _ c.args.l c.args.blocks.now c.args.page.now _ (Ok tt) (said (goal.at.returns c).After-quote-r).2 c.requires.1 c.requires.2.fits c.requires.3 c.requires.2.other c.put.ensures
