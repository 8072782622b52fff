use Rattle.std.proofs.lemmas.Result.{err_from_is_err_and}
use mathlib.Core.Path.{◌≡◌, ◌∙◌, sym}
use Prim.Native.Nat.{ℕ, ◌*◌}
use native.Mathlib.Omega.{arith}
use lib.ListN.{length}
use Rattle.code.specs.Parameters.{strength}
use Rattle.code.specs.Refusals.{word_refusal}
use Rattle.refusal.specs.Indexed.{word-alike, word-zero}
use Rattle.mend.specs.Call.{mend-refused}
use Rattle.mend.proofs.mend.Goals as goal
use Rattle.mend.proofs.mend.Goals.{After-strength_at-t}

-- the chain, by the strength as the definition has it
chain : (s : After-strength_at-t) (k : ℕ)
    → (let a = s.args in k ≡ word_refusal a.p a.page.now a.i a.p.m (length a.places.now) s.strength_at-t.result
    → k ≡ word_refusal a.p a.page.now a.i a.p.m (length a.places.now) (1 * strength a.p 0))
chain s k e = e ∙ word-alike _ _ _ _ _ _ _ (λ _. omega (arith, s.strength_at-t.ensures))

pub returns-in_err-word_refusal : goal.returns-in_err-word_refusal
returns-in_err-word_refusal c =
    let p = err_from_is_err_and c.from_residual.result c.from_residual.ensures.1 in
    rw (p.1, p.2) (mend-refused _ _ _ _ _ _ (chain (goal.at.returns-in_err-word_refusal c).After-strength_at-t _ c.in_err-word_refusal.ensures))

pub mend_word-requires : goal.mend_word-requires
mend_word-requires c = (word-zero _ _ _ _ _ _ (λ j. (c.slice_known-1.given j).fits) (sym (chain (goal.at.mend_word-requires c).After-strength_at-t _ c.in_ok-word_refusal.ensures)), c.strength_at-t.ensures)
