use Rattle.std.proofs.lemmas.Result.{err_from_is_err_and}
use mathlib.Core.Path.{◌≡◌, sym, ap, ◌∙◌}
use Prim.Native.Nat.{ℕ, ◌*◌}
use lib.ListN.{length}
use Rattle.code.specs.Layout.{data_bytes}
use Rattle.code.specs.Many.{Lent}
use Rattle.code.proofs.Many.{many-lent}
use Rattle.code.specs.Refusals.{many_refusal}
use Rattle.page.specs.Listed.{many-done, many-given, many-refused}
use Rattle.page.proofs.many_accepted.Goals as goal
use Rattle.page.proofs.many_accepted.Goals.{In_ok-many_refusal}

-- where the tests have passed
passed : (c : In_ok-many_refusal) → (let a = c.args in many_refusal a.p a.width a.count (length a.blocks.now) (length a.pages.now) (length a.list.now)) ≡ 0
passed c = sym c.in_ok-many_refusal.ensures

lent : (c : In_ok-many_refusal) → (let a = c.args in Lent a.p a.width a.count (length a.blocks.now) (length a.pages.now) (length a.list.now))
lent c =
    let a = c.args in
    many-lent a.p a.width a.count (length a.blocks.now) (length a.pages.now) (length a.list.now) (passed c)

pub returns-in_err-many_refusal : goal.returns-in_err-many_refusal
returns-in_err-many_refusal c =
    let p = err_from_is_err_and c.from_residual.result c.from_residual.ensures.1 in
    rw (p.1, p.2) (many-refused _ _ _ _ _ _ _ c.in_err-many_refusal.ensures)

pub list_pages-requires : goal.list_pages-requires
list_pages-requires c =
    let l = lent (goal.at.list_pages-requires c).In_ok-many_refusal in
    (c.requires, c.degrees-w.ensures, rw l.list-exact l.high, l.blocks-exact ∙ ap (λ (k : ℕ). k * data_bytes c.args.p) (sym l.list-exact))

pub encode_many-requires : goal.encode_many-requires
encode_many-requires c =
    let a = c.args in
    (many-given a.p a.width a.count a.blocks.now a.pages.now a.list.now (passed (goal.at.encode_many-requires c).In_ok-many_refusal) _ c.list_pages.ensures c.requires c.degrees-w.result c.degrees-w.ensures, c.rows-rows.ensures)

pub returns : goal.returns
returns c =
    let a = c.args in
    many-done a.p a.width a.count a.blocks.now a.pages.now a.list.now (passed (goal.at.returns c).In_ok-many_refusal) _ c.list_pages.ensures _ c.encode_many.ensures
