-- Coefficients of sums and of parts, and polynomials known by their coefficients.
use Rattle.std.specs.Prelude.{◌≡◌, refl, Bool, true, false, ◌≢◌, ◌⊎◌, ℕ, zero, suc, ◌+◌, ◌-◌, ◌/◌, ◌%◌, ◌^◌, ◌≤◌, ◌<◌, ltb}
use Rattle.std.proofs.Common.{sym, ap, ◌∙◌, inl, inr, zero-le, suc-le-suc, arith, pow-add, pow_mono, pow_pos, shr-shr, ltb-true, ltb-false}
use Rattle.std.proofs.Math.Nat as Nat
use Rattle.std.proofs.Math.Decide.{dec_le}
use Rattle.std.proofs.Math.Arith.{lt-one}
use Rattle.std.proofs.Math.Pow.{pow-lt}
use Rattle.polynomial.specs.Bits.{coefficient, half_lt}
use Rattle.polynomial.specs.Digits.{low-coefficient}
use Rattle.polynomial.specs.Division.{shr-half, xor_shr}
use Rattle.polynomial.specs.Xor.{dbl-odd, xor, xor-odd}

pub coefficient-xor : (c d k : ℕ) → coefficient (xor c d) k ≡ (coefficient c k + coefficient d k) % 2
coefficient-xor c d k = ap (λ (y : ℕ). y % 2) (xor_shr c d k) ∙ xor-odd (c / 2 ^ k) (d / 2 ^ k) ∙ Nat.add-mod (c / 2 ^ k) (d / 2 ^ k) 2

pub high-coefficient : (c w r : ℕ) → coefficient c (w + r) ≡ coefficient (c / 2 ^ w) r
high-coefficient c w r = ap (λ (y : ℕ). y % 2) (sym (shr-shr c w r))

-- a word of z places has no coefficient beyond
pub beyond : (c z k : ℕ) → c < 2 ^ z → z ≤ k → coefficient c k ≡ 0
beyond c z k h l = ap (λ (y : ℕ). y % 2) (Nat.div-eq_of_lt (Nat.lt_of_lt_of_le h (pow_mono l)))

-- x^r has one
pub pow-bit : (r : ℕ) → coefficient (2 ^ r) r ≡ 1
pow-bit r = ap (λ (d : ℕ). d % 2) (Nat.div_self (pow_pos r))

pub pow-bits : (r k : ℕ) → k ≢ r → coefficient (2 ^ r) k ≡ 0
pow-bits r k n = go (dec_le (suc k) r)
  where
    go : Dec (k < r) → coefficient (2 ^ r) k ≡ 0
    go (yes h) =
        let e : r ≡ suc (r - k - 1) + k = omega arith in
        ap (λ (d : ℕ). coefficient (2 ^ d) k) e
        ∙ ap (λ (d : ℕ). d / 2 ^ k % 2) (pow-add 2 (suc (r - k - 1)) k) ∙ ap (λ (d : ℕ). d % 2) (Nat.mul-div_cancel (2 ^ suc (r - k - 1)) (pow_pos k))
        ∙ ap (λ (d : ℕ). d % 2) (Nat.pow-suc 2 (r - k - 1)) ∙ dbl-odd (2 ^ (r - k - 1))
    go (no h) = let u : r ≤ k = omega arith in more (Nat.eq-or-lt_of_le u)
      where
        more : (r ≡ k) ⊎ (r < k) → coefficient (2 ^ r) k ≡ 0
        more (inl e) = absurd (n (sym e))
        more (inr l) = beyond (2 ^ r) k k (pow-lt l) (Nat.le_refl k)

-- words of d places with the same coefficients are the same
pub same_bits : (d a b : ℕ) → a < 2 ^ d → b < 2 ^ d → ((r : ℕ) → r < d → coefficient a r ≡ coefficient b r) → a ≡ b
same_bits zero a b h l f = lt-one h ∙ sym (lt-one l)
same_bits (suc d) a b h l f =
    by-half (same_bits d (a / 2) (b / 2) (half_lt a d h) (half_lt b d l)
    (λ r i. ap (λ (y : ℕ). y % 2) (sym (shr-half a r)) ∙ f (suc r) (suc-le-suc i) ∙ ap (λ (y : ℕ). y % 2) (shr-half b r)))
    (ap (λ (y : ℕ). y % 2) (sym (Nat.div-one a)) ∙ f 0 (suc-le-suc zero-le) ∙ ap (λ (y : ℕ). y % 2) (Nat.div-one b))
  where
    by-half : a / 2 ≡ b / 2 → a % 2 ≡ b % 2 → a ≡ b
    by-half x y = omega arith

-- one whose coefficients from z on are 0 is a word of z places
pub low-only : (z d x : ℕ) → x < 2 ^ d → ((r : ℕ) → z ≤ r → r < d → coefficient x r ≡ 0) → x < 2 ^ z
low-only z d x h f =
    let low : x % 2 ^ z < 2 ^ z = Nat.mod-lt x (pow_pos z) in
    rw (← same_bits d x (x % 2 ^ z) h (Nat.lt_of_le_of_lt (Nat.mod-le x (2 ^ z)) h) (λ r l. go r l low (ltb r z) refl)) at low
  where
    go : (r : ℕ) → r < d → x % 2 ^ z < 2 ^ z → (b : Bool) → ltb r z ≡ b → coefficient x r ≡ coefficient (x % 2 ^ z) r
    go r l m true e = sym (low-coefficient z x r (ltb-true r z e))
    go r l m false e = let k : z ≤ r = ltb-false r z e in f r k l ∙ sym (beyond (x % 2 ^ z) z r m k)
