-- The chain of the calls on one word, link by link, what its end shows, and the promises met.
--   Unrefused p x i many out exact    the page x is one of accepted parameters, i is below `many`, the list of `out` has its exact length
use Rattle.std.specs.Prelude.{Ok, Err, ◌≡◌, ◌⊎◌, List, ℕ, ◌^◌, ◌≤◌, ◌<◌, leb, get_or}
use Rattle.std.proofs.Math.Path.{refl}
use Rattle.std.proofs.Common.{sym, ap, ◌∙◌, inl, inr, le-leb, leb-false, eq-eqb, ne_eqb}
use Rattle.std.proofs.Math.Nat as Nat
use Rattle.std.proofs.lemmas.Bool.{lt-leb}
use Rattle.polynomial.specs.Sums.{at_all}
use Rattle.code.specs.declared.Refusal.{Refusal}
use Rattle.code.specs.Answers.{refusal_number}
use Rattle.code.specs.declared.Parameters.{Parameters}
use Rattle.code.proofs.Answers.{made-done, made-refused}
use Rattle.code.specs.Calls.{Made}
use Rattle.code.proofs.Chains.{exact-of, or-first, or-none, or-second, when-none}
use Rattle.code.specs.Layout.{IsPage}
use Rattle.code.specs.Lists.{◌when◌, ◌or_else◌}
use Rattle.code.specs.Parameters.{Accepted, sheet_refusal}
use Rattle.code.specs.Refusals.{not_exact, page_refusal, word_refusal}
use Rattle.code.proofs.Refused.{word-le}
use Rattle.refusal.specs.Judging.{page-sheet, page-zero}

pub record Unrefused (p : Parameters) (x : List ℕ) (i many out exact : ℕ) : Type 0 where
  pub accepted : Accepted p
  pub page : IsPage p x
  pub index : i < many
  pub list : out ≡ exact

module _ (p : Parameters) (x : List ℕ) (i many out exact : ℕ) where
  abbrev index-9 : ℕ
  index-9 = 9 when leb many i

  abbrev list-10 : ℕ
  list-10 = 10 when not_exact out exact

  word-eq : word_refusal p x i many out exact ≡ (page_refusal p x or_else index-9 or_else list-10)
  unfolding word_refusal
  word-eq = refl

  -- ---- the links
  pub word-page : (r : ℕ) → r ≡ page_refusal p x → (r ≡ 0 → ⊥) → r ≡ word_refusal p x i many out exact
  word-page r e h = e ∙ sym (word-eq ∙ or-first (page_refusal p x) (index-9 or_else list-10) (Nat.pos_of_ne-zero (λ z. h (e ∙ z))))

  pub word-sheet : (k : ℕ) → k ≡ sheet_refusal p → (k ≡ 0 → ⊥) → k ≡ word_refusal p x i many out exact
  word-sheet k e h = word-page k (page-sheet p x k e h) h

  module _ (e : page_refusal p x ≡ 0) where
    behind : word_refusal p x i many out exact ≡ (index-9 or_else list-10)
    behind = word-eq ∙ or-second (page_refusal p x) (index-9 or_else list-10) e

    pub word-index : many ≤ i → 9 ≡ word_refusal p x i many out exact
    word-index h = sym (behind ∙ simp (le-leb many i h))

    pub word-length : i < many → (out ≡ exact → ⊥) → 10 ≡ word_refusal p x i many out exact
    word-length h f = sym (behind ∙ simp (lt-leb many i h, ne_eqb out exact f))

    pub word_none : i < many → out ≡ exact → 0 ≡ word_refusal p x i many out exact
    word_none h f = sym (behind ∙ simp (lt-leb many i h, eq-eqb out exact f))

  -- ---- a chain that ends in 0
  pub word-zero : ((k : ℕ) → get_or x k 0 < 2 ^ 8) → word_refusal p x i many out exact ≡ 0 → Unrefused p x i many out exact
  word-zero b e =
      let j = or-none (page_refusal p x) (index-9 or_else list-10) (sym word-eq ∙ e) in
      let k = or-none index-9 list-10 j.1 in
      let c = page-zero p x j.0 in
      record {
        accepted = c.accepted;
        page = record { bytes = at_all (λ d. d < 256) x (λ k h. b k); exact = c.exact; clear = c.clear };
        index = leb-false many i (when-none 8 (leb many i) k.0);
        list = exact-of 9 out exact k.1;
      }

  -- ---- the promises
  pub word-refused : (e : Refusal) (result old : List ℕ) → refusal_number e ≡ word_refusal p x i many out exact
      → Made (word_refusal p x i many out exact) result old old (Err e)
  word-refused e result old h = made-refused (word_refusal p x i many out exact) e result old h (word-le p x i many out exact)

  pub word-done : (result old after : List ℕ) → 0 ≡ word_refusal p x i many out exact → after ≡ result
      → Made (word_refusal p x i many out exact) result old after (Ok tt)
  word-done result old after e f = made-done (word_refusal p x i many out exact) result old after (sym e) f

-- only accepted parameters have an exact length
pub word-alike : (p : Parameters) (x : List ℕ) (i many out exact exact' : ℕ) → (Accepted p → exact ≡ exact')
    → word_refusal p x i many out exact ≡ word_refusal p x i many out exact'
word-alike p x i many out exact exact' h = go (Nat.eq-zero-or-pos (page_refusal p x))
  where
    go : (page_refusal p x ≡ 0) ⊎ (0 < page_refusal p x) → word_refusal p x i many out exact ≡ word_refusal p x i many out exact'
    go (inl z) = ap (word_refusal p x i many out) (h (page-zero p x z).accepted)
    go (inr l) =
        word-eq p x i many out exact ∙ or-first (page_refusal p x) (index-9 p x i many out exact or_else list-10 p x i many out exact) l
        ∙ sym (word-eq p x i many out exact'
        ∙ or-first (page_refusal p x) (index-9 p x i many out exact' or_else list-10 p x i many out exact') l)
