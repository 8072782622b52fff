use Rattle.std.proofs.lemmas.Result.{err_from_is_err_and}
use borrow.Author.Rules.{rules}
use mathlib.Core.Path.{◌≡◌, sym, ap, ◌∙◌}
use native.Mathlib.Omega.{arith}
use Prim.Native.Nat.{ℕ}
use lib.ListN.{length}
use Rattle.code.proofs.Answers.{refusal-ne}
use Rattle.code.specs.Parameters.{Accepted, nested_bytes}
use Rattle.code.specs.Refusals.{nested_refusal, word_refusal}
use Rattle.layout.specs.Sizes.{nested-high}
use Rattle.refusal.specs.Indexed.{Unrefused, word-sheet, word-zero, word-refused, word-done}
use Rattle.word.specs.WordBytes.{nested-made}
use Rattle.oneword.proofs.nested_word.Goals as goal
use Rattle.oneword.proofs.nested_word.Goals.{After-nested_bytes-exact, In_ok-sheet_refusal}

passed : (c : In_ok-sheet_refusal) → Accepted c.args.p
passed c = sym c.in_ok-sheet_refusal.ensures

-- the chain, by the bytes as the definition has them
chain : (c : After-nested_bytes-exact) (k : ℕ)
    → (let a = c.args in k ≡ word_refusal a.p a.page.now a.l a.p.v (length a.out.now) c.nested_bytes-exact.result
    → k ≡ nested_refusal a.p a.page.now a.l (length a.out.now))
chain c k e =
    let a = c.args in
    e ∙ ap (λ (b : ℕ). word_refusal a.p a.page.now a.l a.p.v (length a.out.now) b) c.nested_bytes-exact.ensures

pub returns-in_err-sheet_refusal : goal.returns-in_err-sheet_refusal
returns-in_err-sheet_refusal c =
    let p = err_from_is_err_and c.from_residual.result c.from_residual.ensures.1 in
    rw (p.1, p.2) (word-refused _ _ _ _ _ _ _ _ _ (word-sheet _ _ _ _ _ _ _ c.in_err-sheet_refusal.ensures (refusal-ne _)))

pub nested_bytes-exact-requires : goal.nested_bytes-exact-requires
nested_bytes-exact-requires c = passed (goal.at.nested_bytes-exact-requires c).In_ok-sheet_refusal

pub index_refusal-requires : goal.index_refusal-requires
index_refusal-requires c = passed (goal.at.index_refusal-requires c).In_ok-sheet_refusal

pub returns-in_err-index_refusal : goal.returns-in_err-index_refusal
returns-in_err-index_refusal c =
    let p = err_from_is_err_and c.from_residual-in_err-index_refusal.result c.from_residual-in_err-index_refusal.ensures.1 in
    rw (p.1, p.2) (word-refused _ _ _ _ _ _ _ _ _ (chain (goal.at.returns-in_err-index_refusal c).After-nested_bytes-exact _ c.in_err-index_refusal.ensures))

pub nested_of-s-requires : goal.nested_of-s-requires
nested_of-s-requires c =
    let free : let a = c.args in Unrefused a.p a.page.now a.l a.p.v (length a.out.now) (nested_bytes a.p) = word-zero _ _ _ _ _ _ (λ k. (c.type_inv.page k).fits) (sym (chain (goal.at.nested_of-s-requires c).After-nested_bytes-exact _ c.in_ok-index_refusal.ensures)) in
    let u = free in (u.accepted, u.page, u.index)

pub copy_down-requires : goal.copy_down-requires
copy_down-requires c =
    let free : let a = c.args in Unrefused a.p a.page.now a.l a.p.v (length a.out.now) (nested_bytes a.p) = word-zero _ _ _ _ _ _ (λ k. (c.type_inv.page k).fits) (sym (chain (goal.at.copy_down-requires c).After-nested_bytes-exact _ c.in_ok-index_refusal.ensures)) in
    let u = free in (search rules, omega (arith, u.list, nested-high _ u.accepted))

pub returns : goal.returns
returns c =
    let free : let a = c.args in Unrefused a.p a.page.now a.l a.p.v (length a.out.now) (nested_bytes a.p) = word-zero _ _ _ _ _ _ (λ k. (c.type_inv.page k).fits) (sym (chain (goal.at.returns c).After-nested_bytes-exact _ c.in_ok-index_refusal.ensures)) in
    let u = free in
    word-done _ _ _ _ _ _ _ _ _ (chain (goal.at.returns c).After-nested_bytes-exact _ c.in_ok-index_refusal.ensures)
    (nested-made _ _ _ _ c.nested_of-s.ensures u.accepted _ _ (λ k. (c.type_inv.out k).fits) c.copy_down.auto.dst u.list c.copy_down.ensures)
