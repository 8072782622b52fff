-- What code over arrays meets: entries of the lists, sums term by term.
--   terms F S a r i    Σ a_h × S_(r - h), h below i
use Rattle.std.specs.Prelude.{◌≡◌, List, [], ◌∷◌, length, get_or, drop}
use Rattle.std.proofs.Math.Path.{refl, ap, ap₂}
use Rattle.std.proofs.Common.{sym, ◌∙◌, arith}
use Prim.Native.Nat.{ℕ, zero, suc, ◌-◌, ◌*◌, ◌^◌, ◌≤◌, ◌<◌, suc-le-suc, zero-le}
use Rattle.std.proofs.Math.Nat as Nat
use Rattle.field.specs.Field.{Field2, ring, add-zero, zero-add, add_assoc, mul-zero}
use Rattle.field.specs.Fields.{BinaryField}
use Rattle.field.specs.Roots.{value, value-nil, value-cons}
use Rattle.locator.specs.Kept.{kept}
use Rattle.locator.specs.Massey.{massey}
use Rattle.locator.specs.Series.{plus, scale, conv, conv-nil, conv-zero, conv-suc}

module _ (F : Field2) where
  open F use {K, 𝟘, 𝟙, ◌⊕◌, ◌⊗◌}

  infixl 65 ◌⊕◌
  infixl 70 ◌⊗◌
  -- ---- an array a follows a list l when a[i] is `get_or l i 𝟘`: the turns entry by entry
  pub entry-plus : (a : K) (l m : List K) (i : ℕ) → get_or (plus F l (scale F a m)) i 𝟘 ≡ get_or l i 𝟘 ⊕ a ⊗ get_or m i 𝟘
  entry-plus a [] [] i = simp ring
  entry-plus a [] (d ∷ m) zero = sym (zero-add F (a ⊗ d))
  entry-plus a [] (d ∷ m) (suc i) = entry-plus a [] m i
  entry-plus a (c ∷ l) [] zero = sym (rw (mul-zero F a) (add-zero F c))
  entry-plus a (c ∷ l) [] (suc i) = sym (rw (mul-zero F a) (add-zero F (get_or l i 𝟘)))
  entry-plus a (c ∷ l) (d ∷ m) zero = refl
  entry-plus a (c ∷ l) (d ∷ m) (suc i) = entry-plus a l m i

  pub entry-scale : (a : K) (l : List K) (i : ℕ) → get_or (scale F a l) i 𝟘 ≡ a ⊗ get_or l i 𝟘
  entry-scale a [] i = sym (mul-zero F a)
  entry-scale a (c ∷ l) zero = refl
  entry-scale a (c ∷ l) (suc i) = entry-scale a l i

  -- ---- the discrepancy term by term: the first i terms
  unfoldable pub terms : (ℕ → K) → (ℕ → K) → ℕ → ℕ → K
  terms S a r zero = 𝟘
  terms S a r (suc i) = terms S a r i ⊕ a i ⊗ S (r - i)

  pub terms-zero : (S a : ℕ → K) (r : ℕ) → terms S a r zero ≡ 𝟘
  unfolding terms
  terms-zero S a r = refl

  pub terms-suc : (S a : ℕ → K) (r i : ℕ) → terms S a r (suc i) ≡ terms S a r i ⊕ a i ⊗ S (r - i)
  unfolding terms
  terms-suc S a r i = refl

  pub terms-agree : (S a b : ℕ → K) (r m : ℕ) → ((i : ℕ) → i < m → a i ≡ b i) → terms S a r m ≡ terms S b r m
  unfolding terms
  terms-agree S a b r zero h = refl
  terms-agree S a b r (suc m) h = ap₂ (λ (u v : K). u ⊕ v ⊗ S (r - m)) (terms-agree S a b r m (λ i l. h i (Nat.le_step l))) (h m (Nat.le_refl (suc m)))

  terms-first : (S a : ℕ → K) (r i : ℕ) → terms S a (suc r) (suc i) ≡ a 0 ⊗ S (suc r) ⊕ terms S (λ h. a (suc h)) r i
  unfolding terms
  terms-first S a r zero = simp (Nat.sub-zero, ring)
  terms-first S a r (suc i) =
      ap (λ (y : K). y ⊕ a (suc i) ⊗ S (suc r - suc i)) (terms-first S a r i)
      ∙ rw (Nat.suc-sub-suc r i) (add_assoc F (a 0 ⊗ S (suc r)) (terms S (λ h. a (suc h)) r i) (a (suc i) ⊗ S (r - i)))

  terms-none : (S : ℕ → K) (r i : ℕ) → terms S (λ h. 𝟘) r i ≡ 𝟘
  unfolding terms
  terms-none S r zero = refl
  terms-none S r (suc i) = ap (λ (y : K). y ⊕ 𝟘 ⊗ S (r - i)) (terms-none S r i) ∙ simp ring

  terms-one : (S a : ℕ → K) (r : ℕ) → terms S a r 1 ≡ a 0 ⊗ S r
  unfolding terms
  terms-one S a r = simp (Nat.sub-zero, ring)

  pub conv-terms : (S : ℕ → K) (l : List K) (r i : ℕ) → length l ≤ i → i ≤ suc r → conv F S l r ≡ terms S (λ h. get_or l h 𝟘) r i
  conv-terms S [] r i h b = conv-nil F S r ∙ sym (terms-none S r i)
  conv-terms S (c ∷ l) r zero h b = absurd (Nat.not-suc-le-zero h)
  conv-terms S (c ∷ l) zero (suc zero) h b = conv-zero F S c l ∙ sym (terms-one S (λ h. get_or (c ∷ l) h 𝟘) zero)
  conv-terms S (c ∷ l) zero (suc (suc i)) h b = absurd (Nat.not-suc-le-zero (Nat.le_of_suc-le-suc b))
  conv-terms S (c ∷ l) (suc r) (suc i) h b =
      conv-suc F S c l r ∙ ap (λ (y : K). c ⊗ S (suc r) ⊕ y) (conv-terms S l r i (Nat.le_of_suc-le-suc h) (Nat.le_of_suc-le-suc b)) ∙ sym (terms-first S (λ h. get_or (c ∷ l) h 𝟘) r i)

  -- ---- the value by Horner, from the entries above i
  pub horner : (l : List K) (y : K) (i : ℕ) → value F (drop i l) y ≡ get_or l i 𝟘 ⊕ y ⊗ value F (drop (suc i) l) y
  horner [] y zero = simp (value-nil, ring)
  horner [] y (suc i) = simp (value-nil, ring)
  horner (c ∷ l) y zero = value-cons F c l y
  horner (c ∷ l) y (suc i) = horner l y i

module _ (B : BinaryField) where
  open B.field use {K, 𝟘}

  abbrev F : Field2
  F = B.field

  -- turn r reads the entries 0 .. bound
  pub discrepancy : (S : ℕ → K) (r : ℕ) → conv F S (massey B S r).locator r ≡ terms F S (λ h. get_or (massey B S r).locator h 𝟘) r (suc (massey B S r).bound)
  discrepancy S r = conv-terms F S (massey B S r).locator r (suc (massey B S r).bound) (kept B S r).short (suc-le-suc (kept B S r).reach)
