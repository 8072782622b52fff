use Rattle.code.proofs.Answers.{refusal-ne}
use Rattle.std.proofs.lemmas.Result.{err_from_is_err_and}
use mathlib.Core.Path.{◌≡◌, sym}
use lib.ListN.{length}
use Rattle.code.proofs.Answers.{judged-refused}
use Rattle.code.specs.Layout.{page_bytes}
use Rattle.code.specs.Parameters.{Accepted}
use Rattle.refusal.specs.Judging.{judge-lengths, lengths-zero}
use Rattle.page.proofs.judge.Goals as goal
use Rattle.page.proofs.judge.Goals.{In_ok-judge_lengths}

-- where the lengths have passed
exact : (c : In_ok-judge_lengths) → (let a = c.args in Accepted a.p × (length a.page.now ≡ page_bytes a.p))
exact c =
    let a = c.args in
    lengths-zero a.p (length a.page.now) (sym c.in_ok-judge_lengths.ensures)

pub returns-in_err-judge_lengths : goal.returns-in_err-judge_lengths
returns-in_err-judge_lengths c =
    let p = err_from_is_err_and c.from_residual.result c.from_residual.ensures.1 in
    rw (p.1, p.2) (judged-refused _ _ _ (judge-lengths _ _ _ c.in_err-judge_lengths.ensures (refusal-ne _)))

pub rows-rows-requires : goal.rows-rows-requires
rows-rows-requires c = (exact (goal.at.rows-rows-requires c).In_ok-judge_lengths).0

pub judge_exact-requires : goal.judge_exact-requires
judge_exact-requires c = ((exact (goal.at.judge_exact-requires c).In_ok-judge_lengths).0, c.rows-rows.ensures, (exact (goal.at.judge_exact-requires c).In_ok-judge_lengths).1)
