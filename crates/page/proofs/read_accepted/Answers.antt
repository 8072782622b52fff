use Rattle.code.proofs.Answers.{refusal-ne}
use Rattle.std.proofs.lemmas.Result.{err_from_is_err_and}
use mathlib.Core.Path.{◌≡◌, sym}
use lib.ListN.{length}
use Rattle.code.proofs.Answers.{read-refused}
use Rattle.code.specs.Layout.{data_bytes, page_bytes}
use Rattle.refusal.specs.Reading.{lengths-zero, read-lengths}
use Rattle.page.specs.Exact.{read-given, read_kept}
use Rattle.page.proofs.read_accepted.Goals as goal
use Rattle.page.proofs.read_accepted.Goals.{In_ok-read_lengths}

-- where the lengths have passed
exact : (c : In_ok-read_lengths) → (let a = c.args in (length a.blocks.now ≡ data_bytes a.p) × (length a.page.now ≡ page_bytes a.p))
exact c = lengths-zero c.args.p (length c.args.page.now) (length c.args.blocks.now) c.requires (sym c.in_ok-read_lengths.ensures)

pub returns-in_err-read_lengths : goal.returns-in_err-read_lengths
returns-in_err-read_lengths c =
    let p = err_from_is_err_and c.from_residual.result c.from_residual.ensures.1 in
    rw (p.1, p.2) (read-refused _ _ _ _ (read-lengths _ _ _ _ c.in_err-read_lengths.ensures (refusal-ne _)))

pub judge_exact-requires : goal.judge_exact-requires
judge_exact-requires c = (c.requires, c.rows-rows.ensures, (exact (goal.at.judge_exact-requires c).In_ok-read_lengths).1)

pub returns-in_err-verdict : goal.returns-in_err-verdict
returns-in_err-verdict c =
    let a = c.args in
    let p = err_from_is_err_and c.from_residual-in_err-verdict.result c.from_residual-in_err-verdict.ensures.1 in
    rw (p.1, p.2) (read_kept a.p a.page.now a.blocks.now (exact (goal.at.returns-in_err-verdict c).In_ok-read_lengths).0 _ c.in_err-verdict.ensures)

pub take_blocks-requires : goal.take_blocks-requires
take_blocks-requires c = record { accepts = c.requires; degrees = c.degrees-w.ensures; exact = (exact (goal.at.take_blocks-requires c).In_ok-read_lengths).1; room = (exact (goal.at.take_blocks-requires c).In_ok-read_lengths).0 }

pub returns : goal.returns
returns c =
    let a = c.args in
    read-given a.p a.page.now a.blocks.now (exact (goal.at.returns c).In_ok-read_lengths).0 _ _ c.in_ok-verdict.ensures c.take_blocks.ensures
