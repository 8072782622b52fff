-- Errors seen through their power sums: what Berlekamp's and Massey's locator has to do with them.
--   tune F f l    each weight of the pairs (node, weight) times f at its node
--   at B σ l      each weight times σ at the inverse of its node: its power sums are the product of σ and the series of power sums of l
use Rattle.std.specs.Prelude.{◌≡◌, refl, Bool, true, false, ◌≢◌, List, [], ◌∷◌, map, ℕ, zero, suc, ◌+◌, ◌-◌, ◌*◌, ◌≤◌, ◌<◌, eqb, leb, length}
use Rattle.std.proofs.Common.{sym, ap, ◌∙◌, zero-le, arith}
use Rattle.std.proofs.Math.Nat as Nat
use Rattle.std.proofs.Math.Decide.{dec_le}
use Rattle.std.proofs.lemmas.List.{length-map}
use Rattle.polynomial.specs.Sums.{All}
use Rattle.field.specs.Field.{Field2, ring, mul-zero, add-zero, mul-eq-zero, pow, pow-add, pow-suc, pow≢zero}
use Rattle.field.specs.Fields.{BinaryField}
use Rattle.field.specs.Roots.{value, value-nil, value-cons}
use Rattle.field.specs.Vandermonde.{Distinct, sum, sum-nil, sum-cons, sum-zero, vandermonde}
use Rattle.field.specs.Inverse.{recip, recip-is}
use Rattle.locator.specs.Kept.{Kept, Says, kept, says-zero}
use Rattle.locator.specs.Massey.{State, turn, massey, massey-zero, massey-suc}
use Rattle.locator.specs.Series.{conv, conv-nil, conv-zero, conv-suc, conv-agree}

module _ (F : Field2) where
  open F use {K, 𝟘, 𝟙, ◌⊕◌, ◌⊗◌}

  infixl 65 ◌⊕◌
  infixl 70 ◌⊗◌
  -- each weight times a value at its node
  abbrev pub tune : (K → K) → List (K × K) → List (K × K)
  tune f l = map (λ (q : K × K). (q.0, q.1 ⊗ f q.0)) l

  pub length-tune : (f : K → K) (l : List (K × K)) → length (tune f l) ≡ length l
  length-tune f l = length-map l (λ (q : K × K). (q.0, q.1 ⊗ f q.0))

  pub all-tune : (f : K → K) (P : K → Type 0) (l : List (K × K)) → All (λ q. P q.0) l → All (λ q. P q.0) (tune f l)
  all-tune f P [] h = tt
  all-tune f P (q ∷ l) h = (h.0, all-tune f P l h.1)

  distinct-tune : (f : K → K) (l : List (K × K)) → Distinct F l → Distinct F (tune f l)
  distinct-tune f [] h = tt
  distinct-tune f (q ∷ l) h = (all-tune f (λ x. x ≢ q.0) l h.0, distinct-tune f l h.1)

  -- ---- power sums from L on
  tune-pow : (L : ℕ) (l : List (K × K)) (s : ℕ) → sum F (tune (λ x. pow F x L) l) s ≡ sum F l (L + s)
  tune-pow L [] s = simp sum-nil
  tune-pow L (q ∷ l) s = simp (sum-cons, tune-pow L l s, pow-add, ring)

  untune-pow : (L : ℕ) (l : List (K × K)) → All (λ q. q.0 ≢ 𝟘) l → All (λ q. q.1 ≡ 𝟘) (tune (λ x. pow F x L) l) → All (λ q. q.1 ≡ 𝟘) l
  untune-pow L [] n h = tt
  untune-pow L (q ∷ l) n h = (mul-eq-zero F q.1 (pow F q.0 L) h.0 (pow≢zero F q.0 n.0 L), untune-pow L l n.1 h.1)

  pub vander-from : (L : ℕ) (l : List (K × K)) → Distinct F l → All (λ q. q.0 ≢ 𝟘) l → ((s : ℕ) → s < length l → sum F l (L + s) ≡ 𝟘) → All (λ q. q.1 ≡ 𝟘) l
  vander-from L l d n h =
      untune-pow L l n (vandermonde F (tune (λ x. pow F x L) l) (distinct-tune (λ x. pow F x L) l d)
      (λ s b. tune-pow L l s ∙ h s (rw (length-tune (λ x. pow F x L) l) at b)))

module _ (B : BinaryField) where
  open B use {num}
  open B.field use {K, 𝟘, 𝟙, ◌⊕◌, ◌⊗◌}

  infixl 65 ◌⊕◌
  infixl 70 ◌⊗◌
  abbrev F : Field2
  F = B.field

  -- ---- a locator times the series of power sums has the power sums of its values at the inverse nodes
  abbrev pub at : List K → List (K × K) → List (K × K)
  at σ l = tune F (λ x. value F σ (recip B x)) l

  none-step : (a p v w : K) → v ≡ 𝟘 → w ≡ 𝟘 → a ⊗ v ⊗ p ⊕ w ≡ 𝟘
  none-step a p v w e f = rw (e, f) (simp ring)

  at-nil : (l : List (K × K)) (k : ℕ) → sum F (at [] l) k ≡ 𝟘
  at-nil [] k = sum-nil F k
  at-nil (q ∷ l) k =
      sum-cons F (q.0, q.1 ⊗ value F [] (recip B q.0)) (at [] l) k
      ∙ none-step q.1 (pow F q.0 k) (value F [] (recip B q.0)) (sum F (at [] l) k) (value-nil F (recip B q.0)) (at-nil l k)

  one-step : (a c p u v : K) → v ≡ c ⊗ u → a ⊗ (c ⊕ 𝟘) ⊗ p ⊕ v ≡ c ⊗ (a ⊗ p ⊕ u)
  one-step a c p u v e = rw e (simp ring)

  at_one : (c : K) (l : List (K × K)) (k : ℕ) → sum F (at (c ∷ []) l) k ≡ c ⊗ sum F l k
  at_one c [] k = simp (sum-nil, ring)
  at_one c (q ∷ l) k =
      sum-cons F (q.0, q.1 ⊗ value F (c ∷ []) (recip B q.0)) (at (c ∷ []) l) k
      ∙ rw (value-cons F c [] (recip B q.0), value-nil F (recip B q.0), mul-zero F (recip B q.0))
      (one-step q.1 c (pow F q.0 k) (sum F l k) (sum F (at (c ∷ []) l) k) (at_one c l k) ∙ ap (λ (y : K). c ⊗ y) (sym (sum-cons F q l k)))

  more-step : (a c x y v p u w z : K) → x ⊗ y ≡ 𝟙 → z ≡ c ⊗ u ⊕ w → a ⊗ (c ⊕ y ⊗ v) ⊗ (x ⊗ p) ⊕ z ≡ c ⊗ (a ⊗ (x ⊗ p) ⊕ u) ⊕ (a ⊗ v ⊗ p ⊕ w)
  more-step a c x y v p u w z e f =
      let g : a ⊗ (c ⊕ y ⊗ v) ⊗ (x ⊗ p) ⊕ z ≡ c ⊗ (a ⊗ (x ⊗ p)) ⊕ x ⊗ y ⊗ (a ⊗ v ⊗ p) ⊕ z = simp ring in
      g ∙ rw (e, f) (simp ring)

  at_more : (c : K) (σ : List K) (l : List (K × K)) → All (λ q. q.0 ≢ 𝟘) l → (k : ℕ) → sum F (at (c ∷ σ) l) (suc k) ≡ c ⊗ sum F l (suc k) ⊕ sum F (at σ l) k
  at_more c σ [] n k = simp (sum-nil, ring)
  at_more c σ (q ∷ l) n k =
      sum-cons F (q.0, q.1 ⊗ value F (c ∷ σ) (recip B q.0)) (at (c ∷ σ) l) (suc k)
      ∙ rw (value-cons F c σ (recip B q.0), pow-suc F q.0 k, sum-cons F q l (suc k), sum-cons F (q.0, q.1 ⊗ value F σ (recip B q.0)) (at σ l) k, pow-suc F q.0 k)
      (more-step q.1 c q.0 (recip B q.0) (value F σ (recip B q.0)) (pow F q.0 k) (sum F l (suc k)) (sum F (at σ l) k) (sum F (at (c ∷ σ) l) (suc k)) (recip-is B q.0 n.0) (at_more c σ l n.1 k))

  moment : (l : List (K × K)) → All (λ q. q.0 ≢ 𝟘) l → (σ : List K) (k : ℕ) → length σ ≤ suc k → conv F (sum F l) σ k ≡ sum F (at σ l) k
  moment l n [] k h = conv-nil F (sum F l) k ∙ sym (at-nil l k)
  moment l n (c ∷ []) zero h = conv-zero F (sum F l) c [] ∙ sym (at_one c l zero)
  moment l n (c ∷ d ∷ σ) zero h = absurd (Nat.not-suc-le-zero (Nat.le_of_suc-le-suc h))
  moment l n (c ∷ []) (suc k) h = conv-suc F (sum F l) c [] k ∙ rw (conv-nil F (sum F l) k) (add-zero F (c ⊗ sum F l (suc k)) ∙ sym (at_one c l (suc k)))
  moment l n (c ∷ d ∷ σ) (suc k) h = conv-suc F (sum F l) c (d ∷ σ) k ∙ ap (λ (y : K). c ⊗ sum F l (suc k) ⊕ y) (moment l n (d ∷ σ) k (Nat.le_of_suc-le-suc h)) ∙ sym (at_more c (d ∷ σ) l n k)

  -- ---- the errors l, seen through the first N power sums
  module _ (l : List (K × K)) (dis : Distinct F l) (non : All (λ q. q.0 ≢ 𝟘) l) (S : ℕ → K) (N : ℕ) (is : (k : ℕ) → k < N → S k ≡ sum F l k) where
    seen : (σ : List K) (k : ℕ) → length σ ≤ suc k → k < N → conv F S σ k ≡ sum F (at σ l) k
    seen σ k h b = conv-agree F S (sum F l) σ k (λ i c. is i (omega arith)) ∙ moment l non σ k h

    -- a locator that is gone long enough vanishes at every error
    vanishes : (σ : List K) (L M : ℕ) → length σ ≤ suc L → ((k : ℕ) → L ≤ k → k < M → conv F S σ k ≡ 𝟘) → M ≤ N → L + length l ≤ M → All (λ q. q.1 ≡ 𝟘) (at σ l)
    vanishes σ L M h g b c =
        vander-from F L (at σ l) (distinct-tune F (λ x. value F σ (recip B x)) l dis) (all-tune F (λ x. value F σ (recip B x)) (λ x. x ≢ 𝟘) l non)
        (λ s i. let j : s < length l = rw (length-tune F (λ x. value F σ (recip B x)) l) at i in sym (seen σ (L + s) (omega arith) (omega arith)) ∙ g (L + s) (omega arith) (omega arith))

    jump : (r : ℕ) (s : State K) → Kept F S r s → r < N → (δ : K) → conv F S s.locator r ≡ δ → s.bound ≤ length l
        → (a b : Bool) → Says a (δ ≡ 𝟘) → (turn B r s δ a b).bound ≤ length l
    jump r s I h δ e c true b z = c
    jump r s I h δ e c false true z = c
    jump r s I h δ e c false false z = or (dec_le (suc r - s.bound) (length l))
      where
        or : Dec (suc r - s.bound ≤ length l) → suc r - s.bound ≤ length l
        or (yes y) = y
        or (no n) =
            absurd (z (sym e ∙ seen s.locator r (omega (arith, I.short, I.reach)) h
            ∙ sum-zero F (at s.locator l) r (vanishes s.locator s.bound r I.short I.gone (omega arith) (omega (arith, I.reach)))))

    -- the bound never passes the number of errors
    pub few : (r : ℕ) → r ≤ N → (massey B S r).bound ≤ length l
    few zero h = rw (massey-zero B S) zero-le
    few (suc r) h = go (few r (Nat.le_of_suc-le h))
      where
        go : (massey B S r).bound ≤ length l → (massey B S (suc r)).bound ≤ length l
        go c =
            rw (massey-suc B S r) (jump r (massey B S r) (kept B S r) h (conv F S (massey B S r).locator r) refl c
            (eqb (num (conv F S (massey B S r).locator r)) 0) (leb (suc r) (2 * (massey B S r).bound)) (says-zero B (conv F S (massey B S r).locator r)))

    -- after two turns for each error the locator vanishes at every error
    pub found : 2 * length l ≤ N → All (λ q. q.1 ≡ 𝟘) (at (massey B S N).locator l)
    found h =
        vanishes (massey B S N).locator (massey B S N).bound N (kept B S N).short (kept B S N).gone (Nat.le_refl N) (omega (arith, few N (Nat.le_refl N)))
