use Rattle.std.proofs.lemmas.Result.{err_from_is_err_and}
use Rattle.code.proofs.Answers.{refusal-ne}
use mathlib.Core.Path.{sym}
use Rattle.refusal.specs.Indexed.{word-page, word-index, word-length, word_none}
use Rattle.refusal.proofs.index_refusal.Goals as goal

pub returns-in_err-page_refusal : goal.returns-in_err-page_refusal
returns-in_err-page_refusal c =
    let p = err_from_is_err_and c.from_residual.result c.from_residual.ensures.1 in
    rw (p.1, p.2) (word-page _ _ _ _ _ _ _ c.in_err-page_refusal.ensures (refusal-ne _))

pub returns-then-many-i : goal.returns-then-many-i
returns-then-many-i c = word-index _ _ _ _ _ _ (sym c.in_ok-page_refusal.ensures) c.if-many-i.true

pub returns-then-out-exact : goal.returns-then-out-exact
returns-then-out-exact c = word-length _ _ _ _ _ _ (sym c.in_ok-page_refusal.ensures) c.if-many-i.false c.if-out-exact.true

pub returns : goal.returns
returns c = word_none _ _ _ _ _ _ (sym c.in_ok-page_refusal.ensures) c.if-many-i.false c.if-out-exact.false
