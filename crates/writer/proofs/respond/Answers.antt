use mathlib.Core.Path.{ap, ◌∙◌}
use Rattle.code.specs.Answers.{answer_number}
use lib.ListN.{take}
use Rattle.std.proofs.lemmas.Result.{IfOk-weaker}
use Rattle.code.specs.Writer.{writer}
use Rattle.given.specs.Output.{Answered}
use Rattle.writer.specs.Beyond.{owed}
use Rattle.writer.specs.Sheet.{sheet-refused, accepted-is, accepted-sheet}
use Rattle.writer.proofs.respond.Given.{Over}
use Rattle.writer.proofs.respond.Goals as goal
use Rattle.writer.proofs.respond.Goals.{After-page_written, After-refused}

-- what is owed where the sheet is refused, and where it is not
number-owed : (g : Over) (c : After-refused g) → Answered writer c.args.room.now c.args.got c.refused.result.count c.refused.result.bytes
number-owed g c =
    owed c.args.room.now c.args.got c.refused.result.count c.refused.result.bytes c.requires.0
    (sheet-refused (take c.args.got c.args.room.now) c.sheet_given-p.result _ c.number_of-k.result c.refused.result.count c.refused.result.bytes
    c.sheet_given-p.ensures (rw c.in_default.is at c.test-tested.ensures) (c.number_of-k.ensures ∙ ap answer_number c.in_default.is) c.refused.ensures.0 c.refused.ensures.1)

page-owed : (g : Over) (c : After-page_written g) → Answered writer c.args.room.now c.args.got c.page_written.result.count c.page_written.result.bytes
page-owed g c = owed c.args.room.now c.args.got c.page_written.result.count c.page_written.result.bytes c.requires.0 c.page_written.ensures

pub put-requires : goal.put-requires
put-requires g c = number-owed g (goal.at.put-requires g c).After-refused

pub returns-in_default : goal.returns-in_default
returns-in_default g c = IfOk-weaker c.put.result _ _ (λ r e. rw e (number-owed g (goal.at.returns-in_default g c).After-refused)) c.put.ensures

pub page_written-requires : goal.page_written-requires
page_written-requires g c =
    let e = rw c.in-Ok.is at c.test-tested.ensures in
    (accepted-is c.sheet_given-p.result _ e ∙ c.sheet_given-p.ensures, accepted-sheet c.sheet_given-p.result _ e)

pub put-requires-2 : goal.put-requires-2
put-requires-2 g c = page-owed g (goal.at.put-requires-2 g c).After-page_written

pub returns : goal.returns
returns g c = IfOk-weaker c.put-2.result _ _ (λ r e. rw e (page-owed g (goal.at.returns g c).After-page_written)) c.put-2.ensures
