-- Polynomials with leading coefficient 1, as the list of the other coefficients, the lowest first.
--   mval F l x        the value at x
--   product F xs      the product of the X + r over the r of xs
--   Bit F c           c is 0 or 1
--   binary F num l    a polynomial whose coefficients are 0 and 1, as a number
use Rattle.std.specs.Prelude.{◌≡◌, ◌≢◌, ◌⊎◌, List, [], ◌∷◌, map, length}
use Rattle.std.proofs.Math.Path.{refl}
use Rattle.std.proofs.Common.{sym, ap, ◌∙◌, inl, inr, le_of_suc-le-suc, le_refl, div-one, le_of_eq, arith}
use Prim.Native.Nat.{ℕ, zero, suc, ◌+◌, ◌*◌, ◌/◌, ◌%◌, ◌^◌, ◌≤◌, ◌<◌, zero-le, suc-le-suc}
use Rattle.std.proofs.Math.Nat as N
use Rattle.std.proofs.Math.Arith.{lt-one}
use Rattle.std.proofs.lemmas.List.{length-map}
use Rattle.polynomial.specs.Bits.{half_lt}
use Rattle.polynomial.specs.Division.{Deg, shr-half}
use Rattle.polynomial.specs.Sums.{All}
use Rattle.polynomial.specs.Xor.{halves}
use Rattle.field.specs.Eval.{eval, eval-eq, eval-zero, bit, bit0, bit1}
use Rattle.field.specs.Field.{Field2, ring, add-eq-zero, mul-eq-zero}
use Rattle.field.specs.Roots.{value, value-nil, value-cons, Zeros, Apart, roots, few-roots}
use Rattle.generator.specs.Distinct.{Mem, all_of, all_map, map-all, map-mem}

module _ (F : Field2) where
  open F use {K, 𝟘, 𝟙, ◌⊕◌, ◌⊗◌, dec_eq, one≢zero}

  infixl 65 ◌⊕◌
  infixl 70 ◌⊗◌
  unfoldable pub mval : List K → K → K
  mval [] x = 𝟙
  mval (c ∷ l) x = c ⊕ x ⊗ mval l x

  pub mval-nil : (x : K) → mval [] x ≡ 𝟙
  unfolding mval
  mval-nil x = refl

  pub mval-cons : (c : K) (l : List K) (x : K) → mval (c ∷ l) x ≡ c ⊕ x ⊗ mval l x
  unfolding mval
  mval-cons c l x = refl

  -- p + (X + r) l
  abbrev pub times : K → K → List K → List K
  times r p [] = (p ⊕ r) ∷ []
  times r p (c ∷ l) = (p ⊕ r ⊗ c) ∷ times r c l

  times-step : (r p c : K) (l : List K) (x : K) → mval (times r c l) x ≡ c ⊕ (x ⊕ r) ⊗ mval l x
      → mval (times r p (c ∷ l)) x ≡ p ⊕ (x ⊕ r) ⊗ mval (c ∷ l) x
  times-step r p c l x ih = mval-cons (p ⊕ r ⊗ c) (times r c l) x ∙ rw ih (simp (mval-cons, ring))

  mval-times : (r p : K) (l : List K) (x : K) → mval (times r p l) x ≡ p ⊕ (x ⊕ r) ⊗ mval l x
  mval-times r p [] x = simp (mval-cons, mval-nil, ring)
  mval-times r p (c ∷ l) x = times-step r p c l x (mval-times r c l x)

  length-times : (r p : K) (l : List K) → length (times r p l) ≡ suc (length l)
  length-times r p [] = refl
  length-times r p (c ∷ l) = ap suc (length-times r c l)

  -- the product of the X + r
  unfoldable pub product : List K → List K
  product [] = []
  product (r ∷ xs) = times r 𝟘 (product xs)

  pub product-nil : product [] ≡ []
  unfolding product
  product-nil = refl

  pub product-cons : (r : K) (xs : List K) → product (r ∷ xs) ≡ times r 𝟘 (product xs)
  unfolding product
  product-cons r xs = refl

  pub length-product : (xs : List K) → length (product xs) ≡ length xs
  length-product [] = ap length product-nil
  length-product (r ∷ xs) = ap length (product-cons r xs) ∙ length-times r 𝟘 (product xs) ∙ ap suc (length-product xs)

  pub mval-product : (r : K) (xs : List K) (x : K) → mval (product (r ∷ xs)) x ≡ (x ⊕ r) ⊗ mval (product xs) x
  mval-product r xs x = rw (product-cons r xs, mval-times r 𝟘 (product xs) x) (simp ring)

  pub product-root : (xs : List K) (x : K) → Mem x xs → mval (product xs) x ≡ 𝟘
  product-root [] x x3 = elim x3 [ ]
  product-root (r ∷ xs) x (inl e) = mval-product r xs x ∙ rw e (simp ring)
  product-root (r ∷ xs) x (inr m) = mval-product r xs x ∙ simp (product-root xs x m, ring)

  -- ---- it has at most as many roots as its degree
  abbrev full : List K → List K
  full [] = 𝟙 ∷ []
  full (c ∷ l) = c ∷ full l

  value-full : (l : List K) (x : K) → value F (full l) x ≡ mval l x
  value-full [] x = simp (value-cons, value-nil, mval-nil, ring)
  value-full (c ∷ l) x = simp (value-cons, mval-cons, value-full l x)

  length-full : (l : List K) → length (full l) ≡ suc (length l)
  length-full [] = refl
  length-full (c ∷ l) = ap suc (length-full l)

  full-not : (l : List K) → ¬ Zeros F (full l)
  full-not [] z = one≢zero z.0
  full-not (c ∷ l) z = full-not l z.1

  pub at_most : (xs l : List K) → Apart F xs → ((x : K) → Mem x xs → mval l x ≡ 𝟘) → length xs ≤ length l
  at_most xs l a h =
      le_of_suc-le-suc (rw (length-full l) at
      (few-roots F xs (full l) a (all_of (λ x. value F (full l) x ≡ 𝟘) xs (λ x m. value-full l x ∙ h x m)) (full-not l)))

  -- ---- the coefficients squared
  abbrev sq : K → K
  sq c = c ⊗ c

  abbrev off : K → K
  off c = c ⊕ c ⊗ c

  mval-sq : (l : List K) (x : K) → mval (map sq l) (x ⊗ x) ≡ mval l x ⊗ mval l x
  mval-sq [] x = simp (mval-nil, ring)
  mval-sq (c ∷ l) x = simp (mval-cons, mval-sq l x, ring)

  mval-off : (l : List K) (x : K) → value F (map off l) x ≡ mval l x ⊕ mval (map sq l) x
  mval-off [] x = simp (value-nil, mval-nil, ring)
  mval-off (c ∷ l) x = simp (value-cons, mval-cons, mval-off l x, ring)

  sq-inj : (a b : K) → a ⊗ a ≡ b ⊗ b → a ≡ b
  sq-inj a b e = go (dec_eq (a ⊕ b) 𝟘)
    where
      go : Dec (a ⊕ b ≡ 𝟘) → a ≡ b
      go (yes z) = add-eq-zero F a b z
      go (no n) = absurd (n (mul-eq-zero F (a ⊕ b) (a ⊕ b) (simp ring (simp ring at (ap (λ (x : K). x ⊕ b ⊗ b) e))) n))

  apart-sq : (xs : List K) → Apart F xs → Apart F (map sq xs)
  apart-sq [] a = tt
  apart-sq (x ∷ xs) a = (all_map (λ y. y ≢ sq x) sq xs (weaken xs a.0), apart-sq xs a.1)
    where
      weaken : (ys : List K) → All (λ y. y ≢ x) ys → All (λ y. sq y ≢ sq x) ys
      weaken [] h = tt
      weaken (y ∷ ys) h = ((λ e. h.0 (sq-inj y x e)), weaken ys h.1)

  -- where the roots are closed under squaring, each coefficient is its own square
  own_square : (xs : List K) → Apart F xs → ((x : K) → Mem x xs → Mem (x ⊗ x) xs) → All (λ c. off c ≡ 𝟘) (product xs)
  own_square xs a h =
      map-all (λ c. c ≡ 𝟘) off (product xs)
      (roots F (map sq xs) (map off (product xs)) (apart-sq xs a)
      (all_of (λ y. value F (map off (product xs)) y ≡ 𝟘) (map sq xs) (map-mem (λ y. value F (map off (product xs)) y ≡ 𝟘) sq xs
      (λ x m. mval-off (product xs) (x ⊗ x)
      ∙ rw (product-root xs (x ⊗ x) (h x m), mval-sq (product xs) x, product-root xs x m) (simp ring))))
      (omega (arith, length-map xs sq, length-map (product xs) off, length-product xs)))

  abbrev pub Bit : K → Type 0
  Bit c = (c ≡ 𝟘) ⊎ (c ≡ 𝟙)

  bit-of-off : (c : K) → off c ≡ 𝟘 → Bit c
  bit-of-off c e = go (dec_eq c 𝟘)
    where
      go : Dec (c ≡ 𝟘) → Bit c
      go (yes z) = inl z
      go (no n) = inr (sym (add-eq-zero F 𝟙 c (mul-eq-zero F (𝟙 ⊕ c) c (simp ring e) n)))

  bits_of : (l : List K) → All (λ c. off c ≡ 𝟘) l → All Bit l
  bits_of [] h = tt
  bits_of (c ∷ l) h = (bit-of-off c h.0, bits_of l h.1)

  pub product-bits : (xs : List K) → Apart F xs → ((x : K) → Mem x xs → Mem (x ⊗ x) xs) → All Bit (product xs)
  product-bits xs a h = bits_of (product xs) (own_square xs a h)

  -- ---- the coefficients of a binary polynomial
  abbrev coeffs : ℕ → ℕ → List K
  coeffs zero f = []
  coeffs (suc m) f = bit F (f % 2) ∷ coeffs m (f / 2)

  length-coeffs : (m f : ℕ) → length (coeffs m f) ≡ m
  length-coeffs zero f = refl
  length-coeffs (suc m) f = ap suc (length-coeffs m (f / 2))

  value-coeffs : (m f : ℕ) (x : K) → f < 2 ^ m → value F (coeffs m f) x ≡ eval F f x
  value-coeffs zero f x h = value-nil F x ∙ sym (rw (lt-one h) (eval-zero F x))
  value-coeffs (suc m) f x h =
      value-cons F (bit F (f % 2)) (coeffs m (f / 2)) x ∙ rw (value-coeffs m (f / 2) x (half_lt f m h)) (sym (eval-eq F f x))

  bit-zero : (b : ℕ) → bit F b ≡ 𝟘 → b ≡ 0
  unfolding bit
  bit-zero zero e = refl
  bit-zero (suc b) e = absurd (one≢zero e)

  coeffs-zero : (m f : ℕ) → f < 2 ^ m → Zeros F (coeffs m f) → f ≡ 0
  coeffs-zero zero f h z = lt-one h
  coeffs-zero (suc m) f h z = halves (coeffs-zero m (f / 2) (half_lt f m h) z.1) (bit-zero (f % 2) z.0)

  pub vanish : (xs : List K) (f : ℕ) → Apart F xs → f < 2 ^ length xs → ((x : K) → Mem x xs → eval F f x ≡ 𝟘) → f ≡ 0
  vanish xs f a l h =
      coeffs-zero (length xs) f l (roots F xs (coeffs (length xs) f) a
      (all_of (λ x. value F (coeffs (length xs) f) x ≡ 𝟘) xs (λ x m. value-coeffs (length xs) f x l ∙ h x m))
      (le_of_eq (length-coeffs (length xs) f)))

  -- ---- coefficients that are all 0 or 1, read as a binary polynomial
  module _ (num : K → ℕ) where
    unfoldable pub binary : List K → ℕ
    binary [] = 1
    binary (c ∷ l) = binary l * 2 + num c

    pub binary-nil : binary [] ≡ 1
    unfolding binary
    binary-nil = refl

    pub binary-cons : (c : K) (l : List K) → binary (c ∷ l) ≡ binary l * 2 + num c
    unfolding binary
    binary-cons c l = refl

    module _ (z : num 𝟘 ≡ 0) (o : num 𝟙 ≡ 1) where
      num-lt : (c : K) → Bit c → num c < 2
      num-lt c (inl e) = rw (e, z) (suc-le-suc zero-le)
      num-lt c (inr e) = rw (e, o) (le_refl 2)

      bit-num : (c : K) → Bit c → bit F (num c) ≡ c
      bit-num c (inl e) = rw (e, z) (bit0 F)
      bit-num c (inr e) = rw (e, o) (bit1 F)

      odd : (b m : ℕ) → b < 2 → (m * 2 + b) % 2 ≡ b
      odd b m h = omega arith

      half : (b m : ℕ) → b < 2 → (m * 2 + b) / 2 ≡ m
      half b m h = omega arith

      pub eval-binary : (l : List K) (x : K) → All Bit l → eval F (binary l) x ≡ mval l x
      eval-binary [] x h = rw (binary-nil) (eval-eq F 1 x ∙ simp (eval-zero, bit1, mval-nil, ring))
      eval-binary (c ∷ l) x h = eval-step c l x h.0 (eval-binary l x h.1)
        where
          eval-step : (c : K) (l : List K) (x : K) → Bit c → eval F (binary l) x ≡ mval l x → eval F (binary (c ∷ l)) x ≡ mval (c ∷ l) x
          eval-step c l x h ih =
              rw (binary-cons c l, mval-cons c l x) (eval-eq F (binary l * 2 + num c) x
              ∙ rw (odd (num c) (binary l) (num-lt c h), half (num c) (binary l) (num-lt c h), bit-num c h, ih) refl)

      pub deg-binary : (l : List K) → All Bit l → Deg (binary l) (length l)
      deg-binary [] h = rw binary-nil (div-one 1)
      deg-binary (c ∷ l) h =
          rw (binary-cons c l)
          (shr-half (binary l * 2 + num c) (length l) ∙ rw (half (num c) (binary l) (num-lt c h.0)) (deg-binary l h.1))
