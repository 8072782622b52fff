-- The degree of a row, from its highest word that is not 0.
use Rattle.std.specs.Prelude.{◌≡◌, List, ℕ, zero, suc, ◌+◌, ◌-◌, ◌*◌, ◌/◌, ◌^◌, ◌<◌, length, get_or, take}
use Rattle.std.proofs.Common.{sym, ap, ◌∙◌, zero-add, zero-mul, one-mul, lt_irrefl, pos_of_ne-zero, arith, shr-shr}
use Rattle.std.proofs.Math.Nat.{pow-succ', div-eq_of_lt-le}
use Rattle.std.specs.Int.Count.{count_leading_zeros}
use Rattle.std.proofs.lemmas.Nat.{leading_top}
use Rattle.std.proofs.Math.Pow.{high}
use Rattle.polynomial.specs.Digits.{value}
use Rattle.polynomial.specs.Division.{Deg, deg-is, deg-unique, deg}
use Rattle.kernels.specs.Value.{Bounded, value-nil, take_more, take-lt}

-- the words above i are 0, and so is word i
pub degree-next : (r : List ℕ) (i : ℕ) → i < length r → get_or r i 0 ≡ 0 → value 64 r ≡ value 64 (take (i + 1) r)
    → value 64 r ≡ value 64 (take i r)
degree-next r i h z e = e ∙ take_more 64 r i h ∙ rw (z, zero-mul) (zero-add (value 64 (take i r)))

-- there is one below
pub degree-more : (r : List ℕ) (i : ℕ) → 0 < value 64 r → value 64 r ≡ value 64 (take i r) → 0 < i
degree-more r zero p e = absurd (lt_irrefl 0 (rw (e ∙ value-nil 64) at p))
degree-more r (suc i) p e = omega arith

pub degree-again : (r : List ℕ) (i : ℕ) → 0 < i → value 64 r ≡ value 64 (take i r) → value 64 r ≡ value 64 (take (i - 1 + 1) r)
degree-again r i p e =
    let k : i - 1 + 1 ≡ i = omega arith in
    rw k e

-- the highest bit of a word
word-degree : (x : ℕ) → (x ≡ 0 → ⊥) → x < 2 ^ 64 → (j : ℕ) × (count_leading_zeros 64 x + suc j ≡ 64) × Deg x j
word-degree x z h =
    let t = leading_top 64 x (pos_of_ne-zero z) h in
    (t.0, t.1, div-eq_of_lt-le (2 ^ t.0) (rw (one-mul (2 ^ t.0)) t.2) (rw (pow-succ' 2 t.0) at t.3))

pub zeros-lt : (x : ℕ) → (x ≡ 0 → ⊥) → x < 2 ^ 64 → count_leading_zeros 64 x < 64
zeros-lt x z h =
    let t = word-degree x z h in
    omega (arith, t.1)

pub degree-law : (r : List ℕ) (i : ℕ) → Bounded 64 r → i < length r → (get_or r i 0 ≡ 0 → ⊥) → 0 < value 64 r
    → value 64 r ≡ value 64 (take (i + 1) r) → 64 * i + (63 - count_leading_zeros 64 (get_or r i 0)) ≡ deg (value 64 r)
degree-law r i b h z p e =
    let t = word-degree (get_or r i 0) z (b i) in
    let k : 63 - count_leading_zeros 64 (get_or r i 0) ≡ t.0 = omega (arith, t.1) in
    ap (λ (n : ℕ). 64 * i + n) k
    ∙ deg-unique (value 64 r) (64 * i + t.0) (deg (value 64 r))
    (sym (shr-shr (value 64 r) (64 * i) t.0) ∙ ap (λ (x : ℕ). x / 2 ^ t.0)
    (ap (λ (x : ℕ). x / 2 ^ (64 * i)) (e ∙ take_more 64 r i h) ∙ high (get_or r i 0) (64 * i) (take-lt 64 r b i (omega arith))) ∙ t.2)
    (deg-is (value 64 r) p)
