use mathlib.Core.Path.{◌∙◌}
use native.Mathlib.Nat as Nat
use native.Mathlib.Omega.{arith}
use lib.ListN.{length-take}
use Rattle.std.proofs.lemmas.Result.{IfOk-weaker}
use Rattle.code.specs.Writer.{mender}
use Rattle.given.specs.Output.{Answered}
use Rattle.returns.specs.Beyond.{owed}
use Rattle.returns.proofs.respond.Given.{Over}
use Rattle.returns.proofs.respond.Goals as goal
use Rattle.returns.proofs.respond.Goals.{After-page_mended}

-- what is owed
page-owed : (g : Over) (c : After-page_mended g) → Answered mender c.args.room.now c.args.got c.page_mended.result.count c.page_mended.result.bytes
page-owed g c = owed c.args.room.now c.args.got c.page_mended.result.count c.page_mended.result.bytes (omega (arith, c.requires.0)) c.page_mended.ensures

pub page_mended-requires : goal.page_mended-requires
page_mended-requires g c = (c.sheet_given-p.ensures, omega (arith, c.requires.0, c.requires.1, length-take c.args.got c.args.room.now ∙ Nat.min-eq_left c.requires.1))

pub put-requires : goal.put-requires
put-requires g c = page-owed g (goal.at.put-requires g c).After-page_mended

pub returns : goal.returns
returns g c = IfOk-weaker c.put.result _ _ (λ r e. rw e (page-owed g (goal.at.returns g c).After-page_mended)) c.put.ensures
