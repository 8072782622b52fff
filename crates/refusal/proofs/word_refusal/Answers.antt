use Rattle.std.proofs.lemmas.Result.{err_from_is_err_and}
use Rattle.code.proofs.Answers.{refusal-ne}
use mathlib.Core.Path.{sym}
use Rattle.refusal.specs.Indexed.{word-sheet}
use Rattle.refusal.proofs.word_refusal.Goals as goal

pub returns-in_err-sheet_refusal : goal.returns-in_err-sheet_refusal
returns-in_err-sheet_refusal c =
    let p = err_from_is_err_and c.from_residual.result c.from_residual.ensures.1 in
    rw (p.1, p.2) (word-sheet _ _ _ _ _ _ _ c.in_err-sheet_refusal.ensures (refusal-ne _))

pub index_refusal-requires : goal.index_refusal-requires
index_refusal-requires c = sym c.in_ok-sheet_refusal.ensures
