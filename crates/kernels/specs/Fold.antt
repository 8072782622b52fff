-- Remainders by x^n + 1: what stands from x^n on is cleared and added below.
use Rattle.std.specs.Prelude.{◌≡◌, List, ℕ, ◌+◌, ◌*◌, ◌/◌, ◌%◌, ◌^◌, ◌≤◌, ◌<◌, length, get_or, take, set}
use Rattle.std.proofs.Common.{sym, ap, ap₂, ◌∙◌, mod-lt, mul-one, lt_of_lt_of_le, lt_of_le_of_lt, arith, pow_pos, shr_lt, pow_mono}
use Rattle.std.proofs.Math.Nat.{mod-le}
use Rattle.std.proofs.Math.Pow.{split, mod-mod-pow, shr_mod}
use Rattle.std.proofs.lemmas.Nat.{mod-pow-add}
use Rattle.polynomial.specs.Clmul.{clmul, clmul-xor-r, clmul-one-r, clmul-comm, clmul-pow}
use Rattle.polynomial.specs.Digits.{value, value-at}
use Rattle.polynomial.specs.Division.{xor_lt, unity-xor, unity-deg, rem, rem_of}
use Rattle.polynomial.specs.Xor.{xor, xors}
use Rattle.kernels.specs.Shift.{join}
use Rattle.kernels.specs.Value.{Bounded, bounded-all, take-mod, take_more_set}

pub unity-fold : (n f : ℕ) → 0 < n → f < 2 ^ (n + n) → rem (2 ^ n + 1) n f ≡ xor (f % 2 ^ n) (f / 2 ^ n)
unity-fold n f p h =
    rem_of (2 ^ n + 1) n (unity-deg n p) f q (xor r q)
    (sym (ap (λ (x : ℕ). xor (clmul q x) (xor r q)) (sym (unity-xor n p)) ∙ product ∙ sym (join q n r (mod-lt f (pow_pos n))) ∙ split f n))
    (xor_lt n r q (mod-lt f (pow_pos n)) (shr_lt n n h))
  where
    q : ℕ
    q = f / 2 ^ n

    r : ℕ
    r = f % 2 ^ n

    product : xor (clmul q (xor (2 ^ n) 1)) (xor r q) ≡ xor (q * 2 ^ n) r
    product = simp (clmul-xor-r, clmul-comm q (2 ^ n), clmul-pow, clmul-one-r, xors)

-- what is left below x^n, and what is added to it
pub fold_law : (n f lo top x : ℕ) → 0 < n → f < 2 ^ (64 + n) → f < 2 ^ (n + n) → lo ≡ f % 2 ^ n → top ≡ f / 2 ^ n % 2 ^ 64
    → x ≡ xor lo (top * 1) → x ≡ rem (2 ^ n + 1) n f
fold_law n f lo top x p h k e g o = o ∙ ap₂ xor e (mul-one top ∙ g ∙ shr_mod 64 n h) ∙ sym (unity-fold n f p k)

pub top_lt : (n f top m : ℕ) → f < 2 ^ (n + n) → n ≤ m → top ≡ f / 2 ^ n % 2 ^ 64 → top < 2 ^ m
top_lt n f top m h k e = rw e (lt_of_le_of_lt (mod-le (f / 2 ^ n) (2 ^ 64)) (lt_of_lt_of_le (shr_lt n n h) (pow_mono {i = n} {j = m} k)))

-- ---- cleared from x^n on, the highest coefficient of byte k
pub clear-law : (l : List ℕ) (n k : ℕ) → Bounded 8 l → k < length l → 7 + 8 * k ≡ n
    → value 8 (take (k + 1) (set l k (get_or l k 0 % 128))) ≡ value 8 l % 2 ^ n
clear-law l n k b h e =
    take_more_set 8 l k (get_or l k 0 % 128) h
    ∙ ap₂ (λ (x y : ℕ). x * 2 ^ (8 * k) + y)
    (ap (λ (x : ℕ). x % 128) (sym (value-at 8 l (bounded-all 8 l b) k)) ∙ mod-mod-pow (value 8 l / 2 ^ (8 * k)) 1 7)
    (take-mod 8 l b k (omega arith))
    ∙ sym (mod-pow-add (value 8 l) 7 (8 * k)) ∙ ap (λ (m : ℕ). value 8 l % 2 ^ m) e
