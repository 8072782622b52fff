-- The value of a binary polynomial at an element of a field of characteristic 2.
--   eval F f x    f(x), by Horner's rule
--   bit F b       the coefficient b, 0 or 1, as an element
use Rattle.std.specs.Prelude.{◌≡◌, ℕ, zero, suc, ◌+◌, ◌-◌, ◌*◌, ◌/◌, ◌%◌, ◌^◌, ◌<◌}
use Rattle.std.proofs.Math.Path.{refl}
use Rattle.std.proofs.Common.{sym, ap, ap₂, ◌∙◌, arith, pow_pos}
use Rattle.std.proofs.Math.Nat.{add-mod}
use Rattle.std.proofs.Math.Nat as N
use Rattle.std.proofs.Math.Arith.{bin_ind}
use Rattle.std.specs.Int.Bits as B
use Rattle.std.proofs.lemmas.Nat.{mod-pow-add}
use Rattle.polynomial.specs.Bits.{fold, fold_step, coefficient}
use Rattle.polynomial.specs.Clmul.{clmul, clmul-step, clmul-zero-l, clmul-pow}
use Rattle.polynomial.specs.Division.{Deg, rem, division, unity-xor}
use Rattle.polynomial.specs.Xor.{xor, xor_is, xor_comm, odd-ind, dbl-half, dbl-odd, xor-odd, xor-half, xor_zero_l}
use Rattle.field.specs.Field.{Field2, ring, mul_comm, mul-zero, pow, pow-zero, pow-suc}

module _ (F : Field2) where
  open F use {K, 𝟘, 𝟙, ◌⊕◌, ◌⊗◌}

  infixl 65 ◌⊕◌
  infixl 70 ◌⊗◌
  unfoldable pub bit : ℕ → K
  bit zero = 𝟘
  bit (suc n) = 𝟙

  pub bit0 : bit 0 ≡ 𝟘
  unfolding bit
  bit0 = refl

  pub bit1 : bit 1 ≡ 𝟙
  unfolding bit
  bit1 = refl

  eval-step : K → ℕ → K → K
  eval-step x f r = bit (f % 2) ⊕ x ⊗ r

  unfoldable pub eval : ℕ → K → K
  unfolding fold eval-step bit
  eval f x = fold 𝟘 (eval-step x) f

  pub eval-zero : (x : K) → eval 0 x ≡ 𝟘
  unfolding eval
  eval-zero x = refl

  pub eval-eq : (f : ℕ) (x : K) → eval f x ≡ bit (f % 2) ⊕ x ⊗ eval (f / 2) x
  unfolding eval eval-step
  eval-eq f x = fold_step 𝟘 (eval-step x) (simp (bit0, ring)) f

  bit_xor : (a b : ℕ) → bit (xor a b % 2) ≡ bit (a % 2) ⊕ bit (b % 2)
  bit_xor a b =
      rw (xor-odd a b, add-mod a b 2)
      (odd-ind (λ (x : ℕ). bit ((x + b % 2) % 2) ≡ bit x ⊕ bit (b % 2))
      (odd-ind (λ (y : ℕ). bit ((0 + y) % 2) ≡ bit 0 ⊕ bit y) (simp (bit0, ring)) (simp (bit0, bit1, ring)) b)
      (odd-ind (λ (y : ℕ). bit ((1 + y) % 2) ≡ bit 1 ⊕ bit y) (simp (bit0, bit1, ring)) (simp (bit0, bit1, ring)) b) a)

  pub eval_xor : (a b : ℕ) (x : K) → eval (xor a b) x ≡ eval a x ⊕ eval b x
  eval_xor a b x =
      bin_ind (λ (n : ℕ). (m : ℕ) → eval (xor n m) x ≡ eval n x ⊕ eval m x) (λ m. simp (xor_zero_l, eval-zero, ring))
      (λ n ih m. rw (eval-eq (xor n m) x, eval-eq n x, eval-eq m x, xor-half n m, ih (m / 2)) (simp (bit_xor, ring))) a b

  pub eval-dbl : (a : ℕ) (x : K) → eval (a * 2) x ≡ x ⊗ eval a x
  eval-dbl a x = eval-eq (a * 2) x ∙ simp (dbl-half, dbl-odd, bit0, ring)

  eval-bit : (n b : ℕ) (x : K) → eval (n % 2 * b) x ≡ bit (n % 2) ⊗ eval b x
  eval-bit n b x =
      odd-ind (λ (c : ℕ). eval (c * b) x ≡ bit c ⊗ eval b x) (simp (N.zero-mul, eval-zero, bit0, ring)) (simp (N.one-mul, bit1, ring)) n

  pub eval-clmul : (a b : ℕ) (x : K) → eval (clmul a b) x ≡ eval a x ⊗ eval b x
  eval-clmul a b x =
      bin_ind (λ (n : ℕ). eval (clmul n b) x ≡ eval n x ⊗ eval b x) (simp (clmul-zero-l, eval-zero, ring))
      (λ n ih. rw (clmul-step n b, eval-eq n x) (simp (eval_xor, eval-bit, eval-dbl, ih, ring))) a

  bit-sq : (n : ℕ) → bit (n % 2) ⊗ bit (n % 2) ≡ bit (n % 2)
  bit-sq n = odd-ind (λ (c : ℕ). bit c ⊗ bit c ≡ bit c) (simp (bit0, ring)) (simp (bit1, ring)) n

  -- f (x²) = f(x)²
  pub eval-sq : (f : ℕ) (x : K) → eval f (x ⊗ x) ≡ eval f x ⊗ eval f x
  eval-sq f x =
      bin_ind (λ (n : ℕ). eval n (x ⊗ x) ≡ eval n x ⊗ eval n x) (simp (eval-zero, ring))
      (λ n ih. rw (eval-eq n (x ⊗ x), eval-eq n x, ih) (simp (bit-sq, ring))) f

  -- the root of a factor is a root of the product
  pub eval-root : (q g : ℕ) (x : K) → eval g x ≡ 𝟘 → eval (clmul q g) x ≡ 𝟘
  eval-root q g x e = eval-clmul q g x ∙ rw e (mul-zero F (eval q x))

  -- ---- monomials, shifts, remainders
  pub eval-one : (x : K) → eval 1 x ≡ 𝟙
  eval-one x = eval-eq 1 x ∙ simp (bit1, eval-zero, ring)

  pub eval-monomial : (k : ℕ) (x : K) → eval (2 ^ k) x ≡ pow F x k
  eval-monomial zero x = eval-one x ∙ sym (pow-zero F x)
  eval-monomial (suc k) x = simp (N.pow-suc, eval-dbl, eval-monomial k x, pow-suc)

  pub eval-shift : (a k : ℕ) (x : K) → eval (a * 2 ^ k) x ≡ pow F x k ⊗ eval a x
  eval-shift a k x = simp (← clmul-pow, eval-clmul, eval-monomial)

  -- at a root of the divisor the remainder has the value of the dividend
  pub eval-rem : (g k : ℕ) → Deg g k → (f : ℕ) (x : K) → eval g x ≡ 𝟘 → eval (rem g k f) x ≡ eval f x
  eval-rem g k d f x e = sym (ap (λ (y : ℕ). eval y x) (division g k d f).1 ∙ simp (eval_xor, eval-clmul, e, ring))

  -- x^n + 1 at an n-th root of 1
  pub eval-unity : (n : ℕ) → 0 < n → (x : K) → pow F x n ≡ 𝟙 → eval (2 ^ n + 1) x ≡ 𝟘
  eval-unity n h x e = rw (← unity-xor n h) (simp (eval_xor, eval-monomial, eval-one, e, ring))

  -- the word of k ones: (x + 1) (1 + x + .. + x^(k-1)) = x^k + 1
  pub eval-ones : (k : ℕ) (x : K) → (x ⊕ 𝟙) ⊗ eval (2 ^ k - 1) x ≡ pow F x k ⊕ 𝟙
  eval-ones zero x = simp (eval-zero, pow-zero, ring)
  eval-ones (suc k) x = ones_step k x (eval-ones k x)
    where
      half : (k : ℕ) → (2 ^ suc k - 1) / 2 ≡ 2 ^ k - 1
      half k = omega (arith, pow_pos k)

      odd : (k : ℕ) → (2 ^ suc k - 1) % 2 ≡ 1
      odd k = omega (arith, pow_pos k)

      ones_step : (k : ℕ) (x : K) → (x ⊕ 𝟙) ⊗ eval (2 ^ k - 1) x ≡ pow F x k ⊕ 𝟙 → (x ⊕ 𝟙) ⊗ eval (2 ^ suc k - 1) x ≡ pow F x (suc k) ⊕ 𝟙
      ones_step k x ih =
          let d : (x ⊕ 𝟙) ⊗ (𝟙 ⊕ x ⊗ eval (2 ^ k - 1) x) ≡ x ⊕ 𝟙 ⊕ x ⊗ ((x ⊕ 𝟙) ⊗ eval (2 ^ k - 1) x) = simp ring in
          rw (eval-eq (2 ^ suc k - 1) x, half k, odd k, bit1, pow-suc F x k) (d ∙ rw ih (simp ring))

  -- ---- the value as a sum over the coefficients
  -- f 0 + f 1 + .. + f (n - 1)
  unfoldable pub total : ℕ → (ℕ → K) → K
  total zero f = 𝟘
  total (suc n) f = total n f ⊕ f n

  pub total-zero : (f : ℕ → K) → total 0 f ≡ 𝟘
  unfolding total
  total-zero f = refl

  pub total-suc : (n : ℕ) (f : ℕ → K) → total (suc n) f ≡ total n f ⊕ f n
  unfolding total
  total-suc n f = refl

  -- the coefficients below n: f mod x^n
  low-suc : (c n : ℕ) → c % 2 ^ suc n ≡ xor (c % 2 ^ n) (coefficient c n * 2 ^ n)
  low-suc c n =
      let e : 1 + n ≡ suc n = omega arith in
      rw e at (mod-pow-add c 1 n) ∙ sym (B.xor_shifted (coefficient c n) n (c % 2 ^ n) (N.mod-lt c (pow_pos n)))
      ∙ xor_is (coefficient c n * 2 ^ n) (c % 2 ^ n) ∙ xor_comm (coefficient c n * 2 ^ n) (c % 2 ^ n)

  bit-eval : (n : ℕ) (x : K) → eval (n % 2) x ≡ bit (n % 2)
  bit-eval n x = odd-ind (λ (c : ℕ). eval c x ≡ bit c) (eval-zero x ∙ sym bit0) (eval-one x ∙ sym bit1) n

  eval-low : (c : ℕ) (x : K) (n : ℕ) → eval (c % 2 ^ n) x ≡ total n (λ k. bit (coefficient c k) ⊗ pow F x k)
  eval-low c x zero = ap (λ (y : ℕ). eval y x) (N.mod-one c) ∙ eval-zero x ∙ sym (total-zero (λ k. bit (coefficient c k) ⊗ pow F x k))
  eval-low c x (suc n) =
      ap (λ (y : ℕ). eval y x) (low-suc c n) ∙ eval_xor (c % 2 ^ n) (coefficient c n * 2 ^ n) x
      ∙ ap₂ ◌⊕◌ (eval-low c x n) (eval-shift (coefficient c n) n x ∙ ap (λ (y : K). pow F x n ⊗ y) (bit-eval (c / 2 ^ n) x)
      ∙ mul_comm F (pow F x n) (bit (coefficient c n))) ∙ sym (total-suc n (λ k. bit (coefficient c k) ⊗ pow F x k))

  -- c(x) = Σ c_k x^k, k < n
  pub eval-total : (n c : ℕ) (x : K) → c < 2 ^ n → eval c x ≡ total n (λ k. bit (coefficient c k) ⊗ pow F x k)
  eval-total n c x h = ap (λ (y : ℕ). eval y x) (sym (N.mod-eq_of_lt h)) ∙ eval-low c x n
