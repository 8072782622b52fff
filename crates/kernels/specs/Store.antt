-- A row's words stored among bytes.
use Rattle.std.specs.Prelude.{◌≡◌, List, ℕ, ◌+◌, ◌-◌, ◌*◌, ◌/◌, ◌%◌, ◌^◌, ◌≤◌, ◌<◌, length, get_or}
use Rattle.std.proofs.Common.{sym, ap, ap₂, ◌∙◌, add-zero, mul-one, lt_of_lt_of_le, lt_of_le_of_lt, mod-eq_of_lt, arith, pow_mono, shr_lt}
use Rattle.std.proofs.Math.Nat.{mod-le}
use Rattle.std.proofs.Math.Pow.{split}
use Rattle.polynomial.specs.Digits.{value, digits_value, value-at, digits}
use Rattle.polynomial.specs.Xor.{xor}
use Rattle.kernels.specs.Row.{D, pow-D}
use Rattle.kernels.specs.Shift.{join}
use Rattle.kernels.specs.Value.{Bounded, bounded-all}

-- word k stands at byte 8 k
pub word-digit : (r : List ℕ) → Bounded 64 r → (k : ℕ) → get_or r k 0 ≡ value 64 r / 2 ^ (8 * (8 * k)) % 2 ^ 64
word-digit r b k =
    let e : 64 * k ≡ 8 * (8 * k) = omega arith in
    sym (value-at 64 r (bounded-all 64 r b) k) ∙ ap (λ (n : ℕ). value 64 r / 2 ^ n % 2 ^ 64) e

-- the last word, of which w - 64 n bits are there
pub last-lt : (r : List ℕ) → Bounded 64 r → (w n m : ℕ) → value 64 r < 2 ^ w → n ≡ w / 64 → w ≤ 8 * m → get_or r n 0 < 2 ^ (8 * (m - 8 * n))
last-lt r b w n m h e k =
    rw (sym (value-at 64 r (bounded-all 64 r b) n))
    (lt_of_le_of_lt (mod-le (value 64 r / 2 ^ (64 * n)) (2 ^ 64))
    (lt_of_lt_of_le (shr_lt (w - 64 * n) (64 * n) (rw o h)) (pow_mono {i = w - 64 * n} {j = 8 * (m - 8 * n)} (omega arith))))
  where
    o : (w - 64 * n) + 64 * n ≡ w
    o = omega arith

-- the check bits are added below the data, where nothing stands
pub under : (d v w m x : ℕ) → d % 2 ^ w ≡ 0 → v < 2 ^ w → w ≤ m → x ≡ xor d (v % 2 ^ m * 1) → x ≡ d + v
under d v w m x z h k e =
    e ∙ ap₂ xor whole (mul-one (v % 2 ^ m) ∙ mod-eq_of_lt (lt_of_lt_of_le h (pow_mono {i = w} {j = m} k))) ∙ sym (join (d / 2 ^ w) w v h)
    ∙ ap (λ (n : ℕ). n + v) (sym whole)
  where
    whole : d ≡ d / 2 ^ w * 2 ^ w
    whole = sym (split d w) ∙ rw z (add-zero (d / 2 ^ w * 2 ^ w))

-- 96 bytes
pub store-list : (l : List ℕ) (x : ℕ) → Bounded 8 l → length l ≡ 96 → x < 2 ^ D → value 8 l ≡ x % 2 ^ (8 * 96) → l ≡ digits 8 96 x
store-list l x b h k e =
    sym (digits_value 8 l (bounded-all 8 l b)) ∙ ap₂ (digits 8) h (e ∙ mod-eq_of_lt (rw pow-D at k))
