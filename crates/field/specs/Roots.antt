-- A polynomial with as many distinct roots as coefficients is zero.
--   value F l x       the value at x of the polynomial with the coefficients l, lowest first
--   quotient F r l    the quotient of c ∷ l by X + r, whatever c
--   Zeros F l         every coefficient is 0
--   Apart F xs        no element stands twice
use Rattle.std.specs.Prelude.{◌≡◌, ◌≢◌, List, [], ◌∷◌, suc, ◌≤◌, ◌<◌, length}
use Rattle.std.proofs.Math.Path.{refl}
use Rattle.std.proofs.Common.{sym, ap, ◌∙◌, not-suc-le-zero, lt_of_not-le, arith}
use Rattle.polynomial.specs.Sums.{All}
use Rattle.field.specs.Field.{Field2, ring, add-zero, mul_comm, add-eq-zero, mul-eq-zero}

module _ (F : Field2) where
  open F use {K, 𝟘, 𝟙, ◌⊕◌, ◌⊗◌}

  infixl 65 ◌⊕◌
  infixl 70 ◌⊗◌
  -- coefficients, the lowest first
  unfoldable pub value : List K → K → K
  value [] x = 𝟘
  value (c ∷ l) x = c ⊕ x ⊗ value l x

  pub value-nil : (x : K) → value [] x ≡ 𝟘
  unfolding value
  value-nil x = refl

  pub value-cons : (c : K) (l : List K) (x : K) → value (c ∷ l) x ≡ c ⊕ x ⊗ value l x
  unfolding value
  value-cons c l x = refl

  abbrev pub Zeros : List K → Type 0
  Zeros l = All (λ c. c ≡ 𝟘) l

  -- the quotient of `c ∷ l` by `X + r`
  abbrev pub quotient : K → List K → List K
  quotient r [] = []
  quotient r (d ∷ l) = value (d ∷ l) r ∷ quotient r l

  length-quotient : (r : K) (l : List K) → length (quotient r l) ≡ length l
  length-quotient r [] = refl
  length-quotient r (d ∷ l) = ap suc (length-quotient r l)

  divide-step : (r x c d : K) (l : List K) → value (d ∷ l) x ≡ (x ⊕ r) ⊗ value (quotient r l) x ⊕ value (d ∷ l) r
      → value (c ∷ d ∷ l) x ≡ (x ⊕ r) ⊗ value (quotient r (d ∷ l)) x ⊕ value (c ∷ d ∷ l) r
  divide-step r x c d l ih = value-cons c (d ∷ l) x ∙ rw ih (simp (value-cons, ring))

  pub divide : (r x c : K) (l : List K) → value (c ∷ l) x ≡ (x ⊕ r) ⊗ value (quotient r l) x ⊕ value (c ∷ l) r
  divide r x c [] = simp (value-cons, value-nil, ring)
  divide r x c (d ∷ l) = divide-step r x c d l (divide r x d l)

  pub value-zeros : (l : List K) (x : K) → Zeros l → value l x ≡ 𝟘
  value-zeros [] x z = value-nil x
  value-zeros (c ∷ l) x z = simp (value-cons, z.0, value-zeros l x z.1, ring)

  head-zero : (c : K) (l : List K) (r : K) → value (c ∷ l) r ≡ 𝟘 → Zeros l → Zeros (c ∷ l)
  head-zero c l r e z = (sym (simp (value-cons, value-zeros l r z, ring)) ∙ e, z)

  quotient-zeros : (r : K) (l : List K) → Zeros (quotient r l) → Zeros l
  quotient-zeros r [] z = tt
  quotient-zeros r (d ∷ l) z = head-zero d l r z.0 (quotient-zeros r l z.1)

  abbrev pub Apart : List K → Type 0
  Apart [] = Unit {0}
  Apart (x ∷ xs) = All (λ y. y ≢ x) xs × Apart xs

  others : (r c : K) (l xs : List K) → value (c ∷ l) r ≡ 𝟘 → All (λ y. y ≢ r) xs → All (λ x. value (c ∷ l) x ≡ 𝟘) xs
      → All (λ x. value (quotient r l) x ≡ 𝟘) xs
  others r c l [] e a v = tt
  others r c l (x ∷ xs) e a v = (here, others r c l xs e a.1 v.1)
    where
      here : value (quotient r l) x ≡ 𝟘
      here =
          mul-eq-zero F (value (quotient r l) x) (x ⊕ r)
          (mul_comm F (value (quotient r l) x) (x ⊕ r) ∙ sym (divide r x c l ∙ rw e (add-zero F ((x ⊕ r) ⊗ value (quotient r l) x))) ∙ v.0)
          (λ z. a.0 (add-eq-zero F x r z))

  -- THE THEOREM
  pub roots : (xs l : List K) → Apart xs → All (λ x. value l x ≡ 𝟘) xs → length l ≤ length xs → Zeros l
  roots [] [] a v h = tt
  roots [] (c ∷ l) a v h = absurd (not-suc-le-zero h)
  roots (r ∷ xs) [] a v h = tt
  roots (r ∷ xs) (c ∷ l) a v h =
      head-zero c l r v.0 (quotient-zeros r l
      (roots xs (quotient r l) a.1 (others r c l xs v.0 a.0 v.1) (omega (arith, length-quotient r l))))

  pub few-roots : (xs l : List K) → Apart xs → All (λ x. value l x ≡ 𝟘) xs → ¬ Zeros l → length xs < length l
  few-roots xs l a v n = lt_of_not-le (λ h. n (roots xs l a v h))
