-- Vandermonde: weights at distinct nodes whose power sums vanish, as many as there are nodes, vanish.
--   sum F l j       the j-th power sum of the pairs (node, weight): Σ weight × node^j
--   Distinct F l    no node stands twice
use Rattle.std.specs.Prelude.{◌≡◌, ◌≢◌, List, [], ◌∷◌, map, ℕ, zero, suc, ◌<◌, length}
use Rattle.std.proofs.Math.Path.{refl}
use Rattle.std.proofs.Common.{sym, ◌∙◌, suc-le-suc, zero-le, suc-ne-zero, arith}
use Rattle.std.proofs.Math.Nat.{suc_inj}
use Rattle.std.proofs.lemmas.List.{length-map}
use Rattle.polynomial.specs.Sums.{All}
use Rattle.field.specs.Field.{Field2, ring, add-eq-zero, mul-eq-zero, pow, pow-zero, pow-suc}

module _ (F : Field2) where
  open F use {K, 𝟘, 𝟙, ◌⊕◌, ◌⊗◌}

  infixl 65 ◌⊕◌
  infixl 70 ◌⊗◌
  -- the j-th power sum of the pairs (node, weight)
  unfoldable pub sum : List (K × K) → ℕ → K
  sum [] j = 𝟘
  sum (p ∷ l) j = p.1 ⊗ pow F p.0 j ⊕ sum l j

  pub sum-nil : (j : ℕ) → sum [] j ≡ 𝟘
  unfolding sum
  sum-nil j = refl

  pub sum-cons : (p : K × K) (l : List (K × K)) (j : ℕ) → sum (p ∷ l) j ≡ p.1 ⊗ pow F p.0 j ⊕ sum l j
  unfolding sum
  sum-cons p l j = refl

  abbrev pub Distinct : List (K × K) → Type 0
  Distinct [] = Unit {0}
  Distinct (p ∷ l) = All (λ q. q.0 ≢ p.0) l × Distinct l

  -- one node taken out
  abbrev pub less : K → K × K → K × K
  less x p = (p.0, p.1 ⊗ (p.0 ⊕ x))

  pub sum_less : (x : K) (l : List (K × K)) (j : ℕ) → sum (map (less x) l) j ≡ sum l (suc j) ⊕ x ⊗ sum l j
  sum_less x [] j = simp (sum-nil, ring)
  sum_less x (p ∷ l) j = simp (sum-cons, sum_less x l j, pow-suc, ring)

  pub all-less : (x : K) (P : K → Type 0) (l : List (K × K)) → All (λ q. P q.0) l → All (λ q. P q.0) (map (less x) l)
  all-less x P [] h = tt
  all-less x P (p ∷ l) h = (h.0, all-less x P l h.1)

  distinct-less : (x : K) (l : List (K × K)) → Distinct l → Distinct (map (less x) l)
  distinct-less x [] h = tt
  distinct-less x (p ∷ l) h = (all-less x (λ y. y ≢ p.0) l h.0, distinct-less x l h.1)

  back : (x : K) (l : List (K × K)) → All (λ q. q.0 ≢ x) l → All (λ q. q.1 ≡ 𝟘) (map (less x) l) → All (λ q. q.1 ≡ 𝟘) l
  back x [] h z = tt
  back x (p ∷ l) h z = (mul-eq-zero F p.1 (p.0 ⊕ x) z.0 (λ e. h.0 (add-eq-zero F p.0 x e)), back x l h.1 z.1)

  pub sum-zero : (l : List (K × K)) (j : ℕ) → All (λ q. q.1 ≡ 𝟘) l → sum l j ≡ 𝟘
  sum-zero [] j h = sum-nil j
  sum-zero (p ∷ l) j h = simp (sum-cons, h.0, sum-zero l j h.1, ring)

  -- the node itself adds nothing to the new sums
  drops : (p : K × K) (l : List (K × K)) (j : ℕ) → sum l (suc j) ⊕ p.0 ⊗ sum l j ≡ sum (p ∷ l) (suc j) ⊕ p.0 ⊗ sum (p ∷ l) j
  drops p l j = simp (sum-cons, pow-suc, ring)

  first : (p : K × K) (l : List (K × K)) → sum l zero ≡ 𝟘 → sum (p ∷ l) zero ≡ p.1
  first p l e = simp (sum-cons, e, pow-zero, ring)

  vand : (n : ℕ) (l : List (K × K)) → length l ≡ n → Distinct l → ((j : ℕ) → j < n → sum l j ≡ 𝟘) → All (λ q. q.1 ≡ 𝟘) l
  vand zero [] e d h = tt
  vand zero (p ∷ l) e d h = absurd (suc-ne-zero (length l) e)
  vand (suc n) [] e d h = tt
  vand (suc n) (p ∷ l) e d h =
      let rest : All (λ q. q.1 ≡ 𝟘) l =
      back p.0 l d.0 (vand n (map (less p.0) l) (length-map l (less p.0) ∙ suc_inj e) (distinct-less p.0 l d.1)
      (λ j i. sum_less p.0 l j ∙ drops p l j ∙ rw (h (suc j) (suc-le-suc i), h j (omega arith)) (simp ring)))
      in (sym (first p l (sum-zero l zero rest)) ∙ h zero (suc-le-suc zero-le), rest)

  -- THE THEOREM
  pub vandermonde : (l : List (K × K)) → Distinct l → ((j : ℕ) → j < length l → sum l j ≡ 𝟘) → All (λ q. q.1 ≡ 𝟘) l
  vandermonde l d h = vand (length l) l refl d h
