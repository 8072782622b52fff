use mathlib.Core.Path.{sym, ◌∙◌}
use Rattle.code.specs.Layout.{blank, words_of}
use Rattle.mend_page.proofs.Ends.{member-else}
use Rattle.mend_page.proofs.is_member.Goals as goal

pub returns-then-not-page_blank : goal.returns-then-not-page_blank
returns-then-not-page_blank c =
    member-else c.args.p (words_of c.args.p c.args.page.now) c.verdict_of.result _ (blank c.args.p c.args.page.now) c.verdict_of.ensures c.says_member.ensures
    (sym c.page_blank.ensures ∙ c.if-not-page_blank.true)
