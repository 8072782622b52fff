-- The sum of polynomials over GF(2).
--   xor a b    the sum; the library's bit_xor, shut: it computes at numerals under `unfolding xor`, elsewhere a proof sees the laws below
--   xors       the laws as a set: `simp xors` brings sums to one form
use Rattle.std.specs.Prelude.{◌≡◌, refl, ℕ, zero, suc, ◌+◌, ◌-◌, ◌*◌, ◌/◌, ◌%◌, ◌<◌}
use Rattle.std.proofs.Common.{sym, ap, ◌∙◌, div-add-mod', not-suc-le-zero, le_of_suc-le-suc, add_assoc, arith}
use Rattle.std.proofs.Math.Nat.{mod-add-mod, add-mod-mod}
use Rattle.std.specs.Int.Bits as B
use Rattle.std.specs.Int.Bits.{bit_xor, xor_add_and}
use Rattle.std.proofs.lemmas.Nat.{xor_shr}
use Rattle.std.proofs.Math.Arith.{bin_ind}

unfoldable pub xor : ℕ → ℕ → ℕ
xor a b = bit_xor a b

pub xor_is : (a b : ℕ) → bit_xor a b ≡ xor a b
unfolding xor
xor_is a b = refl

-- ---- a number by its lowest bit and the rest
pub halves : {a b : ℕ} → a / 2 ≡ b / 2 → a % 2 ≡ b % 2 → a ≡ b
halves {a} {b} p q = omega (arith, div-add-mod' a 2, div-add-mod' b 2)

-- a bit is 0 or 1
pub bit-ind {ℓ} : (P : ℕ → Type ℓ) → P 0 → P 1 → (n : ℕ) → n < 2 → P n
bit-ind P p q zero h = p
bit-ind P p q (suc zero) h = q
bit-ind P p q (suc (suc n)) h = absurd (not-suc-le-zero (le_of_suc-le-suc (le_of_suc-le-suc h)))

pub odd-ind {ℓ} : (P : ℕ → Type ℓ) → P 0 → P 1 → (n : ℕ) → P (n % 2)
odd-ind P p q n = bit-ind P p q (n % 2) (omega arith)

pub dbl-half : (a : ℕ) → a * 2 / 2 ≡ a
dbl-half a = omega arith

pub dbl-odd : (a : ℕ) → a * 2 % 2 ≡ 0
dbl-odd a = omega arith

-- ---- the laws
pub xor-odd : (a b : ℕ) → xor a b % 2 ≡ (a + b) % 2
unfolding xor
xor-odd a b = omega (arith, xor_add_and a b)

pub xor-half : (a b : ℕ) → xor a b / 2 ≡ xor (a / 2) (b / 2)
unfolding xor
xor-half a b = xor_shr a b 1

pub xor_zero_l : (a : ℕ) → xor 0 a ≡ a
unfolding xor
xor_zero_l a = refl

pub xor_zero_r : (a : ℕ) → xor a 0 ≡ a
unfolding xor
xor_zero_r a = B.xor_zero_r a

pub xor_self : (a : ℕ) → xor a a ≡ 0
unfolding xor
xor_self a = B.xor_self a

pub xor_comm : (a b : ℕ) → xor a b ≡ xor b a
unfolding xor
xor_comm a b = B.xor_comm a b

pub xor_assoc : (a b c : ℕ) → xor (xor a b) c ≡ xor a (xor b c)
xor_assoc a =
    bin_ind (λ (n : ℕ). (b c : ℕ) → xor (xor n b) c ≡ xor n (xor b c))
    (λ b c. simp xor_zero_l)
    (λ n ih b c. halves (simp (xor-half, ih)) (odd3 n b c)) a
  where
    odd3 : (n b c : ℕ) → xor (xor n b) c % 2 ≡ xor n (xor b c) % 2
    odd3 n b c =
        xor-odd (xor n b) c ∙ sym (mod-add-mod (xor n b) 2 c) ∙ rw (xor-odd n b) (mod-add-mod (n + b) 2 c)
        ∙ ap (λ (x : ℕ). x % 2) (add_assoc n b c)
        ∙ sym (xor-odd n (xor b c) ∙ sym (add-mod-mod n (xor b c) 2) ∙ rw (xor-odd b c) (add-mod-mod n (b + c) 2))

pub xor-left-comm : (a b c : ℕ) → xor a (xor b c) ≡ xor b (xor a c)
xor-left-comm a b c = sym (xor_assoc a b c) ∙ rw (xor_comm a b) (xor_assoc b a c)

-- cancellation
pub xor-cancel : (a b : ℕ) → xor a (xor a b) ≡ b
xor-cancel a b = sym (xor_assoc a a b) ∙ simp (xor_self, xor_zero_l)

-- sums of polynomials, brought to one form: list `xors` to `simp`
pub ruleset xors = (xor_assoc, xor_comm, xor-left-comm, xor-cancel, xor_self, xor_zero_l, xor_zero_r)

pub xor-eq-zero : (a b : ℕ) → xor a b ≡ 0 → a ≡ b
xor-eq-zero a b e = sym (xor_zero_r a) ∙ rw (← e) (xor-cancel a b)

pub xor-dbl : (a b : ℕ) → xor (a * 2) (b * 2) ≡ xor a b * 2
xor-dbl a b = halves (simp (xor-half, dbl-half)) (omega (arith, xor-odd (a * 2) (b * 2)))
