-- The product of polynomials over GF(2): the carry-less product of numbers.
--   clmul a b    the product, by the bits of a
--   polys        the laws of the ring as a set: `simp polys` decides its equations
use Rattle.std.specs.Prelude.{◌≡◌, refl, ℕ, zero, suc, ◌+◌, ◌-◌, ◌*◌, ◌/◌, ◌%◌, ◌^◌}
use Rattle.std.proofs.Common.{sym, ap, ◌∙◌, zero-mul, one-mul, mul-zero, mul-one, mul_assoc, pow-suc, add_comm, div-add-mod', arith}
use Rattle.std.proofs.Math.Nat.{add-mod}
use Rattle.std.proofs.Math.Arith.{bin_ind}
use Rattle.polynomial.specs.Bits.{fold, fold_step}
use Rattle.polynomial.specs.Xor.{xor, xors, halves, odd-ind, dbl-half, dbl-odd, xor-odd, xor-half, xor-dbl}

-- one bit of the first factor, `a`'s lowest, over the product `r` with the others
mul-step : ℕ → ℕ → ℕ → ℕ
mul-step b a r = xor (a % 2 * b) (r * 2)

unfoldable pub clmul : ℕ → ℕ → ℕ
unfolding fold mul-step xor
clmul a b = fold 0 (mul-step b) a

pub clmul-zero-l : (b : ℕ) → clmul 0 b ≡ 0
unfolding clmul
clmul-zero-l b = refl

-- THE equation: every law below rests on it
pub clmul-step : (a b : ℕ) → clmul a b ≡ xor (a % 2 * b) (clmul (a / 2) b * 2)
unfolding clmul mul-step
clmul-step a b = fold_step 0 (mul-step b) (simp (zero-mul, xors)) a

-- ---- a bit times a polynomial
bit_xor : (n b c : ℕ) → n % 2 * xor b c ≡ xor (n % 2 * b) (n % 2 * c)
bit_xor n b c = odd-ind (λ (x : ℕ). x * xor b c ≡ xor (x * b) (x * c)) (simp (zero-mul, xors)) (simp one-mul) n

xor-bit : (m n c : ℕ) → xor m n % 2 * c ≡ xor (m % 2 * c) (n % 2 * c)
xor-bit m n c =
    rw (xor-odd m n, add-mod m n 2)
    (odd-ind (λ (x : ℕ). (x + n % 2) % 2 * c ≡ xor (x * c) (n % 2 * c))
    (odd-ind (λ (y : ℕ). (0 + y) % 2 * c ≡ xor (0 * c) (y * c)) (simp (zero-mul, xors)) (simp (zero-mul, xors)) n)
    (odd-ind (λ (y : ℕ). (1 + y) % 2 * c ≡ xor (1 * c) (y * c)) (simp (zero-mul, xors)) (simp (zero-mul, xors)) n) m)

-- ---- distributivity
pub clmul-xor-r : (a b c : ℕ) → clmul a (xor b c) ≡ xor (clmul a b) (clmul a c)
clmul-xor-r a b c =
    bin_ind (λ (n : ℕ). clmul n (xor b c) ≡ xor (clmul n b) (clmul n c)) (simp (clmul-zero-l, xors))
    (λ n ih. rw (clmul-step n (xor b c), clmul-step n b, clmul-step n c) (rw ih (simp (bit_xor, ← xor-dbl, xors)))) a

pub clmul-xor-l : (a b c : ℕ) → clmul (xor a b) c ≡ xor (clmul a c) (clmul b c)
clmul-xor-l a b c =
    bin_ind (λ (n : ℕ). (m : ℕ) → clmul (xor n m) c ≡ xor (clmul n c) (clmul m c)) (λ m. simp (clmul-zero-l, xors))
    (λ n ih m. rw (clmul-step (xor n m) c, clmul-step n c, clmul-step m c, xor-half n m, ih (m / 2)) (simp (xor-bit, ← xor-dbl, xors))) a b

-- ---- a shift
pub clmul-dbl-l : (a b : ℕ) → clmul (a * 2) b ≡ clmul a b * 2
clmul-dbl-l a b = clmul-step (a * 2) b ∙ simp (dbl-half, dbl-odd, zero-mul, xors)

bit-dbl : (x b : ℕ) → x * (b * 2) ≡ x * b * 2
bit-dbl x b = sym (mul_assoc x b 2)

pub clmul-dbl-r : (a b : ℕ) → clmul a (b * 2) ≡ clmul a b * 2
clmul-dbl-r a b =
    bin_ind (λ (n : ℕ). clmul n (b * 2) ≡ clmul n b * 2) (simp (clmul-zero-l))
    (λ n ih. rw (clmul-step n (b * 2), clmul-step n b, ih) (simp (bit-dbl, ← xor-dbl))) a

-- ---- units and zeros
pub clmul-zero-r : (a : ℕ) → clmul a 0 ≡ 0
clmul-zero-r = bin_ind (λ (n : ℕ). clmul n 0 ≡ 0) (clmul-zero-l 0) (λ n ih. clmul-step n 0 ∙ simp (ih, mul-zero, xors))

pub clmul-one-l : (a : ℕ) → clmul 1 a ≡ a
clmul-one-l a = clmul-step 1 a ∙ simp (clmul-zero-l, one-mul, xors)

-- a number is its low bit and the rest
pub bit-join : (c m : ℕ) → m * 2 + c % 2 ≡ xor (c % 2) (m * 2)
bit-join c m =
    let e : c % 2 / 2 ≡ 0 = omega arith in
    let f : (m * 2 + c % 2) / 2 ≡ m = omega arith in
    halves (simp (xor-half, dbl-half, e, f, xors)) (sym (xor-odd (c % 2) (m * 2) ∙ ap (λ (x : ℕ). x % 2) (add_comm (c % 2) (m * 2))))

pub split-bit : (a : ℕ) → xor (a % 2) (a / 2 * 2) ≡ a
split-bit a = sym (bit-join a (a / 2)) ∙ div-add-mod' a 2

pub clmul-one-r : (a : ℕ) → clmul a 1 ≡ a
clmul-one-r = bin_ind (λ (n : ℕ). clmul n 1 ≡ n) (clmul-zero-l 1) (λ n ih. clmul-step n 1 ∙ rw (ih, mul-one) (split-bit n))

clmul-bit-r : (n b : ℕ) → clmul b (n % 2) ≡ n % 2 * b
clmul-bit-r n b = odd-ind (λ (x : ℕ). clmul b x ≡ x * b) (simp (clmul-zero-r, zero-mul)) (simp (clmul-one-r, one-mul)) n

pub clmul-comm : (a b : ℕ) → clmul a b ≡ clmul b a
clmul-comm a b =
    bin_ind (λ (n : ℕ). clmul n b ≡ clmul b n) (simp (clmul-zero-l, clmul-zero-r))
    (λ n ih. clmul-step n b ∙ sym (ap (clmul b) (sym (split-bit n)) ∙ simp (clmul-xor-r, clmul-bit-r, clmul-dbl-r, ← ih))) a

clmul-bit-mul : (n b c : ℕ) → clmul (n % 2 * b) c ≡ n % 2 * clmul b c
clmul-bit-mul n b c = odd-ind (λ (x : ℕ). clmul (x * b) c ≡ x * clmul b c) (simp (clmul-zero-l, zero-mul)) (simp one-mul) n

pub clmul-assoc : (a b c : ℕ) → clmul (clmul a b) c ≡ clmul a (clmul b c)
clmul-assoc a b c =
    bin_ind (λ (n : ℕ). clmul (clmul n b) c ≡ clmul n (clmul b c)) (simp (clmul-zero-l))
    (λ n ih. rw (clmul-step n b, clmul-step n (clmul b c)) (simp (clmul-xor-l, clmul-bit-mul, clmul-dbl-l, ih))) a

pub clmul-left-comm : (a b c : ℕ) → clmul a (clmul b c) ≡ clmul b (clmul a c)
clmul-left-comm a b c = sym (clmul-assoc a b c) ∙ rw (clmul-comm a b) (clmul-assoc b a c)

-- the monomials are the powers of two, and times one is a shift
pub clmul-pow : (k a : ℕ) → clmul (2 ^ k) a ≡ a * 2 ^ k
clmul-pow zero a = clmul-one-l a ∙ sym (mul-one a)
clmul-pow (suc k) a = rw (pow-suc 2 k) (clmul-dbl-l (2 ^ k) a ∙ rw (clmul-pow k a) (mul_assoc a (2 ^ k) 2))

-- polynomials, brought to one form: the decision procedure of this ring
pub ruleset polys =
    (clmul-assoc, clmul-comm, clmul-left-comm, clmul-xor-l, clmul-xor-r, clmul-zero-l, clmul-zero-r, clmul-one-l, clmul-one-r, xors)
