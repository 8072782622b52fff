-- The field's elements as numbers below 2^q: bit k is the coefficient of x^k of the class's least representative.
--   times q a b      the product: that of the polynomials, modulo the field polynomial (the sum is xor)
--   power q k        α^k; α is the class of x, the number 2
--   evaluate q c a   the value c(a) of a word c, by Horner's rule
--   syndrome q c j   S_j of a word c: c(α^j)
--   sum_below n f     f 0 + f 1 + .. + f (n - 1) in the field
--   element B x      the element of the number x: the class of the polynomial x, which is its value at α
use Rattle.std.specs.Prelude.{◌≡◌, refl, ◌≢◌, ◌↔◌, ℕ, zero, suc, ◌+◌, ◌-◌, ◌*◌, ◌/◌, ◌%◌, ◌^◌, ◌<◌}
use Rattle.std.proofs.Common.{sym, ap, ap₂, ◌∙◌, arith}
use Rattle.std.proofs.Math.Nat as N
use Rattle.std.proofs.Math.Arith.{bin_ind}
use Rattle.polynomial.specs.Bits.{fold, fold_step, coefficient}
use Rattle.polynomial.specs.Clmul.{clmul, clmul-pow, clmul-zero-r, split-bit}
use Rattle.polynomial.specs.Division.{rem, rem-zero, rem-small, rem-xor, rem-clmul-r}
use Rattle.polynomial.specs.Xor.{xor, odd-ind}
use Rattle.field.specs.Eval.{eval, eval-zero, eval-eq, eval-sq, eval-total, eval_xor, total, total-zero, total-suc, bit, bit0, bit1}
use Rattle.field.specs.Field.{zero-mul, one-mul, pow, pow-zero, pow-suc, pow-add, pow-mul}
use Rattle.field.specs.Fields.{BinaryField, Known, field_of, field_polynomial, field_of-polynomial, field_of-exponent, field_of-length}

unfoldable pub times : ℕ → ℕ → ℕ → ℕ
unfolding rem clmul field_polynomial
times q a b = rem (field_polynomial q) q (clmul a b)

unfoldable pub power : ℕ → ℕ → ℕ
unfolding times
power q zero = 1
power q (suc k) = times q 2 (power q k)

unfoldable pub evaluate : ℕ → ℕ → ℕ → ℕ
unfolding fold xor times
evaluate q c a = fold 0 (λ f r. xor (f % 2) (times q a r)) c

unfoldable pub syndrome : ℕ → ℕ → ℕ → ℕ
unfolding evaluate power
syndrome q c j = evaluate q c (power q j)

unfoldable pub sum_below : ℕ → (ℕ → ℕ) → ℕ
unfolding xor
sum_below zero f = 0
sum_below (suc n) f = xor (sum_below n f) (f n)

unfoldable pub element : (B : BinaryField) → ℕ → B.field.K
unfolding eval
element B x = eval B.field x B.α

-- ---- the defining equations
pub element-eq : (B : BinaryField) (x : ℕ) → element B x ≡ eval B.field x B.α
unfolding element
element-eq B x = refl

pub times-eq : (q a b : ℕ) → times q a b ≡ rem (field_polynomial q) q (clmul a b)
unfolding times
times-eq q a b = refl

pub power_zero : (q : ℕ) → power q 0 ≡ 1
unfolding power
power_zero q = refl

pub power-suc : (q k : ℕ) → power q (suc k) ≡ times q 2 (power q k)
unfolding power
power-suc q k = refl

pub evaluate-zero : (q a : ℕ) → evaluate q 0 a ≡ 0
unfolding evaluate
evaluate-zero q a = refl

pub evaluate-eq : (q f a : ℕ) → evaluate q f a ≡ xor (f % 2) (times q a (evaluate q (f / 2) a))
unfolding evaluate
evaluate-eq q f a = fold_step 0 (λ f r. xor (f % 2) (times q a r)) (simp clmul-zero-r) f

pub syndrome-eq : (q c j : ℕ) → syndrome q c j ≡ evaluate q c (power q j)
unfolding syndrome
syndrome-eq q c j = refl

pub sum_below-zero : (f : ℕ → ℕ) → sum_below 0 f ≡ 0
unfolding sum_below
sum_below-zero f = refl

pub sum_below-suc : (n : ℕ) (f : ℕ → ℕ) → sum_below (suc n) f ≡ xor (sum_below n f) (f n)
unfolding sum_below
sum_below-suc n f = refl

-- ---- they are the field's
module _ (q : ℕ) (known : Known q) where
  open field_of q use {field, num, num-lt, num-inj, num-zero, num-one, num-add, num-mul, α, num-α, whole, order}
  open (field_of q).field use {K, 𝟘, 𝟙, ◌⊕◌, ◌⊗◌}

  infixl 65 ◌⊕◌
  infixl 70 ◌⊗◌
  pub times-num : (a b : K) → num (a ⊗ b) ≡ times q (num a) (num b)
  times-num a b = num-mul a b ∙ rw (field_of-polynomial q, field_of-exponent q known) (sym (times-eq q (num a) (num b)))

  pub power-num : (j : ℕ) → num (pow field α j) ≡ power q j
  power-num zero = ap num (pow-zero field α) ∙ num-one ∙ sym (power_zero q)
  power-num (suc j) = ap num (pow-suc field α j) ∙ times-num α (pow field α j) ∙ ap₂ (times q) num-α (power-num j) ∙ sym (power-suc q j)

  bit-num : (f : ℕ) → num (bit field (f % 2)) ≡ f % 2
  bit-num f = odd-ind (λ (c : ℕ). num (bit field c) ≡ c) (ap num (bit0 field) ∙ num-zero) (ap num (bit1 field) ∙ num-one) f

  pub evaluate-num : (f : ℕ) (x : K) → num (eval field f x) ≡ evaluate q f (num x)
  evaluate-num f x =
      bin_ind (λ (n : ℕ). num (eval field n x) ≡ evaluate q n (num x))
      (ap num (eval-zero field x) ∙ num-zero ∙ sym (evaluate-zero q (num x)))
      (λ n ih. ap num (eval-eq field n x) ∙ num-add (bit field (n % 2)) (x ⊗ eval field (n / 2) x)
      ∙ ap₂ xor (bit-num n) (times-num x (eval field (n / 2) x) ∙ ap (times q (num x)) ih) ∙ sym (evaluate-eq q n (num x))) f

  pub syndrome-num : (f j : ℕ) → num (eval field f (pow field α j)) ≡ syndrome q f j
  syndrome-num f j = evaluate-num f (pow field α j) ∙ ap (evaluate q f) (power-num j) ∙ sym (syndrome-eq q f j)

  pub syndrome-iff : (f j : ℕ) → (syndrome q f j ≡ 0) ↔ (eval field f (pow field α j) ≡ 𝟘)
  syndrome-iff f j = (
    (λ e. num-inj (eval field f (pow field α j)) 𝟘 (syndrome-num f j ∙ e ∙ sym num-zero)),
    (λ e. sym (syndrome-num f j) ∙ ap num e ∙ num-zero),
  )

  pub syndrome-lt : (f j : ℕ) → syndrome q f j < 2 ^ q
  syndrome-lt f j = rw (syndrome-num f j, field_of-exponent q known) at (num-lt (eval field f (pow field α j)))

  power-one : (j : ℕ) → (power q j ≡ 1) ↔ (pow field α j ≡ 𝟙)
  power-one j = (
    (λ e. num-inj (pow field α j) 𝟙 (power-num j ∙ e ∙ sym num-one)),
    (λ e. sym (power-num j) ∙ ap num e ∙ num-one),
  )

  -- α has order n = 2^q - 1
  pub power-full : power q (2 ^ q - 1) ≡ 1
  power-full = (power-one (2 ^ q - 1)).1 (rw (field_of-length q known) at whole)

  pub power-order : (k : ℕ) → 0 < k → k < 2 ^ q - 1 → power q k ≢ 1
  power-order k h l e = order k h (omega (arith, field_of-length q known)) ((power-one k).0 e)

  pub syndrome-xor : (c d j : ℕ) → syndrome q (xor c d) j ≡ xor (syndrome q c j) (syndrome q d j)
  syndrome-xor c d j =
      let x = pow field α j in
      sym (syndrome-num (xor c d) j) ∙ ap num (eval_xor field c d x) ∙ num-add (eval field c x) (eval field d x) ∙ ap₂ xor (syndrome-num c j) (syndrome-num d j)

  -- S_(j + j) is the square of S_j
  pub square : (c j : ℕ) → times q (syndrome q c j) (syndrome q c j) ≡ syndrome q c (j + j)
  square c j =
      let x = pow field α j in
      sym (ap₂ (times q) (syndrome-num c j) (syndrome-num c j)) ∙ sym (times-num (eval field c x) (eval field c x))
      ∙ ap num (sym (eval-sq field c x) ∙ ap (eval field c) (sym (pow-add field α j j))) ∙ syndrome-num c (j + j)

  -- ---- a syndrome is the sum of c_k α^(j k)
  num-total : (n : ℕ) (f : ℕ → K) (g : ℕ → ℕ) → ((k : ℕ) → num (f k) ≡ g k) → num (total field n f) ≡ sum_below n g
  num-total zero f g h = ap num (total-zero field f) ∙ num-zero ∙ sym (sum_below-zero g)
  num-total (suc n) f g h =
      ap num (total-suc field n f) ∙ num-add (total field n f) (f n) ∙ ap₂ xor (num-total n f g h) (h n) ∙ sym (sum_below-suc n g)

  bit-times : (c : ℕ) (y : K) → num (bit field (c % 2) ⊗ y) ≡ c % 2 * num y
  bit-times c y =
      odd-ind (λ (b : ℕ). num (bit field b ⊗ y) ≡ b * num y) (rw (bit0 field, zero-mul field y, num-zero) (sym (N.zero-mul (num y))))
      (rw (bit1 field, one-mul field y) (sym (N.one-mul (num y)))) c

  pub syndrome-sum : (n c j : ℕ) → c < 2 ^ n → syndrome q c j ≡ sum_below n (λ k. coefficient c k * power q (j * k))
  syndrome-sum n c j h =
      sym (syndrome-num c j) ∙ ap num (eval-total field n c (pow field α j) h)
      ∙ num-total n (λ k. bit field (coefficient c k) ⊗ pow field (pow field α j) k) (λ k. coefficient c k * power q (j * k))
      (λ k. bit-times (c / 2 ^ k) (pow field (pow field α j) k)
      ∙ ap (λ (y : ℕ). coefficient c k * y) (ap num (sym (pow-mul field α j k)) ∙ power-num (j * k)))

-- ---- the element of a number: for a number below 2^q the one way back
module _ (B : BinaryField) where
  open B use {field, q, poly, degree, num, num-lt, num-inj, num-zero, num-one, num-add, num-mul, α, num-α}
  open B.field use {K, 𝟘, 𝟙, ◌⊕◌, ◌⊗◌}

  infixl 65 ◌⊕◌
  infixl 70 ◌⊗◌
  small-bit : (n : ℕ) → rem poly q (n % 2) ≡ num (bit field (n % 2))
  small-bit n =
      odd-ind (λ (c : ℕ). rem poly q c ≡ num (bit field c)) (rem-zero poly q ∙ sym (ap num (bit0 field) ∙ num-zero))
      (rem-small poly q degree 1 (rw num-one at (num-lt 𝟙)) ∙ sym (ap num (bit1 field) ∙ num-one)) n

  pub num-element : (x : ℕ) → num (element B x) ≡ rem poly q x
  num-element x =
      ap num (element-eq B x) ∙ bin_ind (λ (n : ℕ). num (eval field n α) ≡ rem poly q n) (ap num (eval-zero field α) ∙ num-zero ∙ sym (rem-zero poly q))
      (λ n ih. ap num (eval-eq field n α) ∙ num-add (bit field (n % 2)) (α ⊗ eval field (n / 2) α)
      ∙ ap₂ xor (sym (small-bit n)) (num-mul α (eval field (n / 2) α) ∙ ap₂ (λ (u v : ℕ). rem poly q (clmul u v)) num-α ih ∙ rem-clmul-r poly q degree 2 (n / 2))
      ∙ sym (rem-xor poly q degree (n % 2) (clmul 2 (n / 2))) ∙ ap (rem poly q) (ap (xor (n % 2)) (clmul-pow 1 (n / 2)) ∙ split-bit n)) x

  pub element-num : (a : K) → element B (num a) ≡ a
  element-num a = num-inj (element B (num a)) a (num-element (num a) ∙ rem-small poly q degree (num a) (num-lt a))

  pub num_of : (x : ℕ) → x < 2 ^ q → num (element B x) ≡ x
  num_of x h = num-element x ∙ rem-small poly q degree x h

  pub element-zero : element B 0 ≡ 𝟘
  element-zero = element-eq B 0 ∙ eval-zero field α

pub element-syndrome : (q : ℕ) → Known q → (c j : ℕ) → element (field_of q) (syndrome q c j) ≡ eval (field_of q).field c (pow (field_of q).field (field_of q).α j)
element-syndrome q h c j =
    ap (element (field_of q)) (sym (syndrome-num q h c j)) ∙ element-num (field_of q) (eval (field_of q).field c (pow (field_of q).field (field_of q).α j))
