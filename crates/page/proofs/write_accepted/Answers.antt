use Rattle.std.proofs.lemmas.Result.{err_from_is_err_and}
use mathlib.Core.Path.{◌≡◌, sym, ◌∙◌}
use lib.ListN.{length}
use Rattle.code.proofs.Answers.{written-refused, written-done}
use Rattle.code.proofs.Many.{one-page}
use Rattle.code.specs.Refusals.{write_refusal}
use Rattle.refusal.specs.Writing.{Writable, write-zero}
use Rattle.pages.specs.Filling.{one-given}
use Rattle.page.proofs.write_accepted.Goals as goal
use Rattle.page.proofs.write_accepted.Goals.{In_ok-write_refusal}

-- where the tests have passed
passed : (c : In_ok-write_refusal) → (let a = c.args in write_refusal a.p a.width a.blocks.now (length a.page.now)) ≡ 0
passed c = sym c.in_ok-write_refusal.ensures

writable : (c : In_ok-write_refusal) → (let a = c.args in Writable a.p a.width a.blocks.now (length a.page.now))
writable c =
    let a = c.args in
    write-zero a.p a.width a.blocks.now (length a.page.now) c.requires (passed c)

pub returns-in_err-write_refusal : goal.returns-in_err-write_refusal
returns-in_err-write_refusal c =
    let p = err_from_is_err_and c.from_residual.result c.from_residual.ensures.1 in
    rw (p.1, p.2) (written-refused _ _ _ _ _ c.in_err-write_refusal.ensures)

pub encode-requires : goal.encode-requires
encode-requires c =
    let a = c.args in
    let x = writable (goal.at.encode-requires c).In_ok-write_refusal in
    (one-given a.p c.degrees-w.result a.blocks.now a.page.now a.width c.requires c.degrees-w.ensures x.blocks x.page x.clear x.width.low x.width.high, c.rows-rows.ensures)

pub returns : goal.returns
returns c =
    let a = c.args in
    written-done a.p a.width a.blocks.now a.page.now _ (passed (goal.at.returns c).In_ok-write_refusal) (c.encode.ensures ∙ one-page a.p a.blocks.now a.page.now (writable (goal.at.returns c).In_ok-write_refusal).blocks)
