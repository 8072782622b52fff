-- Products and powers of elements by their exponents; n = 2^q - 1 is the order of α.
--   raise q a k    a^k: the product of k factors a
use Rattle.std.specs.Prelude.{◌≡◌, refl, ℕ, zero, suc, ◌+◌, ◌-◌, ◌*◌, ◌%◌, ◌^◌, ◌<◌}
use Rattle.std.proofs.Common.{sym, ap, ap₂, ◌∙◌}
use Rattle.std.proofs.Math.Nat as Nat
use Rattle.polynomial.specs.Clmul.{clmul, clmul-zero-l, clmul-zero-r}
use Rattle.polynomial.specs.Division.{rem-zero, rem_lt}
use Rattle.field.specs.Field.{pow, pow-zero, pow-suc, pow-add, pow-mul}
use Rattle.field.specs.Fields.{Known, field_of, field_polynomial, field_of-length, polynomial-degree}
use Rattle.field.specs.Powers.{pow-mod}
use Rattle.field.specs.Elements.{times, times-eq, times-num, power, power-num, power_zero, power-suc}
use Rattle.tables.specs.Powers.{power-lt}

unfoldable pub raise : ℕ → ℕ → ℕ → ℕ
unfolding times
raise q a zero = 1
raise q a (suc k) = times q a (raise q a k)

pub raise_zero : (q a : ℕ) → raise q a 0 ≡ 1
unfolding raise
raise_zero q a = refl

pub raise-suc : (q a k : ℕ) → raise q a (suc k) ≡ times q a (raise q a k)
unfolding raise
raise-suc q a k = refl

-- a power of α is α raised to it
pub power-raise : (q k : ℕ) → power q k ≡ raise q 2 k
power-raise q zero = power_zero q ∙ sym (raise_zero q 2)
power-raise q (suc k) = power-suc q k ∙ ap (times q 2) (power-raise q k) ∙ sym (raise-suc q 2 k)

pub times-zero-l : (q b : ℕ) → times q 0 b ≡ 0
times-zero-l q b = times-eq q 0 b ∙ rw (clmul-zero-l b) (rem-zero (field_polynomial q) q)

pub times-zero-r : (q a : ℕ) → times q a 0 ≡ 0
times-zero-r q a = times-eq q a 0 ∙ rw (clmul-zero-r a) (rem-zero (field_polynomial q) q)

pub raise-none : (q k : ℕ) → 0 < k → raise q 0 k ≡ 0
raise-none q zero h = absurd (Nat.not-suc-le-zero h)
raise-none q (suc k) h = raise-suc q 0 k ∙ times-zero-l q (raise q 0 k)

module _ (q : ℕ) (known : Known q) where
  open field_of q use {field, num, num-one, α}
  open (field_of q).field use {K}

  pub times-lt : (a b : ℕ) → times q a b < 2 ^ q
  times-lt a b = rw (times-eq q a b) (rem_lt (field_polynomial q) q (polynomial-degree q known) (clmul a b))

  pub raise-lt : (a k : ℕ) → raise q a k < 2 ^ q
  raise-lt a zero = rw (raise_zero q a) (rw (power_zero q) at (power-lt q known 0))
  raise-lt a (suc k) = rw (raise-suc q a k) (times-lt a (raise q a k))

  pub raise-num : (x : K) (k : ℕ) → num (pow field x k) ≡ raise q (num x) k
  raise-num x zero = ap num (pow-zero field x) ∙ num-one ∙ sym (raise_zero q (num x))
  raise-num x (suc k) =
      ap num (pow-suc field x k) ∙ times-num q known x (pow field x k) ∙ ap (times q (num x)) (raise-num x k) ∙ sym (raise-suc q (num x) k)

  -- exponents count modulo n
  pub power-mod : (k : ℕ) → power q (k % (2 ^ q - 1)) ≡ power q k
  power-mod k =
      sym (power-num q known (k % (2 ^ q - 1))) ∙ ap (λ (n : ℕ). num (pow field α (k % n))) (sym (field_of-length q known))
      ∙ ap num (pow-mod (field_of q) k) ∙ power-num q known k

  pub times_power : (i j : ℕ) → times q (power q i) (power q j) ≡ power q ((i + j) % (2 ^ q - 1))
  times_power i j =
      sym (ap₂ (times q) (power-num q known i) (power-num q known j)) ∙ sym (times-num q known (pow field α i) (pow field α j))
      ∙ ap num (sym (pow-add field α i j)) ∙ power-num q known (i + j) ∙ sym (power-mod (i + j))

  pub raise-power : (i k : ℕ) → raise q (power q i) k ≡ power q (i * k % (2 ^ q - 1))
  raise-power i k =
      sym (ap (λ (x : ℕ). raise q x k) (power-num q known i)) ∙ sym (raise-num (pow field α i) k)
      ∙ ap num (sym (pow-mul field α i k)) ∙ power-num q known (i * k) ∙ sym (power-mod (i * k))
