-- Remainders by steps at x^768, D = 768: what stands from x^w on is fed, and what stands below is its own remainder.
use Rattle.std.specs.Prelude.{◌≡◌, List, ℕ, ◌+◌, ◌-◌, ◌*◌, ◌/◌, ◌%◌, ◌^◌, ◌≤◌, ◌<◌, length, get_or, take, set, replicate}
use Rattle.std.proofs.Common.{sym, ap, ap₂, ◌∙◌, arith, pow-add, pow_mono, pow_pos, shl_lt, length-take-le, take_all, take-take}
use Rattle.std.proofs.Math.Nat as Nat
use Rattle.std.specs.Int.Bits.{bit_xor}
use Rattle.std.proofs.Math.Pow.{high, low, mod-mod-pow, split}
use Rattle.polynomial.specs.Digits.{value}
use Rattle.polynomial.specs.Division.{rem, rem-small, rem-xor, xor_lt}
use Rattle.polynomial.specs.Xor.{xor, xor_assoc, xor_comm, xor_is, xor_zero_l, xor_zero_r}
use Rattle.kernels.specs.Move.{moved-top}
use Rattle.kernels.specs.Remainder.{rem-top}
use Rattle.kernels.specs.Row.{D, D-is, by-top, low-lt, pow-D, top-zero}
use Rattle.kernels.specs.Shift.{join, part, xor_block}
use Rattle.kernels.specs.Value.{Bounded, same_at, set-xor, take-lt, take-mod, take_more, take_more_set}
use Rattle.reduction.specs.Reduce.{TopAdded, zeros, zeros-clear}
use Rattle.reduction.specs.Sum.{Copied}
use Rattle.reduction.specs.Table.{Reduced, RemainderBy, lowered}

-- ---- words copied one place higher
pub next-turn : (src dst : List ℕ) (i : ℕ) → i < length src → i + 1 < length dst
    → value 64 (take (i + 1) dst) ≡ value 64 (take i src) * 2 ^ 64
    → value 64 (take (i + 1 + 1) (set dst (i + 1) (get_or src i 0))) ≡ value 64 (take (i + 1) src) * 2 ^ 64
next-turn src dst i h l e =
    take_more_set 64 dst (i + 1) (get_or src i 0) l ∙ ap₂ ◌+◌ up e
    ∙ sym (ap (λ (x : ℕ). x * 2 ^ 64) (take_more 64 src i h) ∙ Nat.add-mul (get_or src i 0 * 2 ^ (64 * i)) (value 64 (take i src)) (2 ^ 64))
  where
    j : 64 * (i + 1) ≡ 64 * i + 64
    j = omega arith

    up : get_or src i 0 * 2 ^ (64 * (i + 1)) ≡ get_or src i 0 * 2 ^ (64 * i) * 2 ^ 64
    up =
        ap (λ (n : ℕ). get_or src i 0 * 2 ^ n) j ∙ ap (λ (n : ℕ). get_or src i 0 * n) (pow-add 2 (64 * i) 64)
        ∙ sym (Nat.mul_assoc (get_or src i 0) (2 ^ (64 * i)) (2 ^ 64))

-- the words that are 0 need no copy
pub next_start : (r : List ℕ) (f : ℕ) → Bounded 64 r → length r ≡ 13 → f ≤ 11 → value 64 r % 2 ^ (64 * f) ≡ 0
    → value 64 (take (f + 1) (replicate 12 0)) ≡ value 64 (take f r) * 2 ^ 64
next_start r f b h l z = zeros-clear 12 (f + 1) ∙ sym (rw (take-mod 64 r b f (omega arith), z) (Nat.zero-mul (2 ^ 64)))

pub kept-clear : (r v m : List ℕ) (f : ℕ) → Bounded 64 r → length r ≡ 13 → f ≤ 11 → value 64 r % 2 ^ (64 * f) ≡ 0
    → take f v ≡ take f (replicate 12 0) → take f m ≡ take f v → take f r ≡ take f m
kept-clear r v m f b h l z e g =
    same (take f r) (take-mod 64 r b f (omega arith) ∙ z) (length-take-le f r (omega arith))
    ∙ sym (g ∙ e ∙ same (take f (replicate 12 0)) (zeros-clear 12 f) (length-take-le f (replicate 12 0) (omega arith)))
  where
    same : (x : List ℕ) → value 64 x ≡ 0 → length x ≡ f → x ≡ replicate f 0
    same x y k = zeros x y ∙ ap (λ (n : ℕ). replicate n 0) k

pub one_less : (v w : List ℕ) (f : ℕ) → take (f + 1) v ≡ take (f + 1) w → take f v ≡ take f w
one_less v w f e = sym (take-take f (f + 1) v (omega arith)) ∙ ap (take f) e ∙ take-take f (f + 1) w (omega arith)

-- ---- a step by l places: r moved up is h from x^768 on and v below;
-- with the remainder of h and u added v is m, which is copied back
pub step-law : (t r v m r' : List ℕ) (h u l : ℕ) → length r ≡ 13 → value 64 r < 2 ^ D → Bounded 64 r' → length r' ≡ 13 → length m ≡ 12
    → value 64 v ≡ value 64 r * 2 ^ l % 2 ^ D → h ≡ value 64 r * 2 ^ l / 2 ^ D → TopAdded t (value 64 v) (bit_xor h u) (value 64 m)
    → Copied r r' m 12 → Reduced t (xor (value 64 r * 2 ^ l) (u * 2 ^ D)) (value 64 r')
step-law t r v m r' h u l n s b' n' k e f q p = record {
  small = rw back (low-lt r' b' n');
  rest = λ G T.
      back ∙ ap (value 64) (p.done ∙ take_all 12 m (omega arith)) ∙ q G T
      ∙ ap (λ (x : ℕ). xor (value 64 v) (rem G D (x * 2 ^ D))) (xor_is h u)
      ∙ rem-top G D T.deg (xor h u) (value 64 v) small ∙ ap (rem G D) sum;
}
  where
    back : value 64 r' ≡ value 64 (take 12 r')
    back =
        by-top r' n' ∙ ap (λ (x : ℕ). x * 2 ^ D + value 64 (take 12 r')) (same_at r' r 12 p.left ∙ top-zero r n s)
        ∙ rw (Nat.zero-mul (2 ^ D)) (Nat.zero-add (value 64 (take 12 r')))

    small : value 64 v < 2 ^ D
    small = rw e (Nat.mod-lt (value 64 r * 2 ^ l) (pow_pos D))

    up : value 64 r * 2 ^ l ≡ h * 2 ^ D + value 64 v
    up = rw (e, f) (sym (split (value 64 r * 2 ^ l) D))

    sum : xor h u * 2 ^ D + value 64 v ≡ xor (value 64 r * 2 ^ l) (u * 2 ^ D)
    sum =
        sym (ap₂ xor up (sym (Nat.add-zero (u * 2 ^ D))) ∙ xor_block D h u (value 64 v) 0 small (pow_pos D)
        ∙ ap (λ (x : ℕ). xor h u * 2 ^ D + x) (xor_zero_r (value 64 v)))

-- the lower 12 words are all
lower : (r : List ℕ) → length r ≡ 13 → value 64 r < 2 ^ D → value 64 r ≡ value 64 (take 12 r)
lower r h s =
    by-top r h ∙ ap (λ (x : ℕ). x * 2 ^ D + value 64 (take 12 r)) (top-zero r h s)
    ∙ rw (Nat.zero-mul (2 ^ D)) (Nat.zero-add (value 64 (take 12 r)))

-- by a whole word v is the lower 11 words one place higher, and h the 12th
pub word-parts : (r v : List ℕ) → Bounded 64 r → length r ≡ 13 → value 64 r < 2 ^ D → value 64 v ≡ value 64 (take 11 r) * 2 ^ 64
    → (value 64 v ≡ value 64 r * 2 ^ 64 % 2 ^ D) × (get_or r 11 0 ≡ value 64 r * 2 ^ 64 / 2 ^ D)
word-parts r v b h s e = rw up (sym (low (get_or r 11 0) D small), sym (high (get_or r 11 0) D small))
  where
    small : value 64 v < 2 ^ D
    small = rw (e, pow-D) (shl_lt (64 * 11) 64 (take-lt 64 r b 11 (omega arith)))

    up : value 64 r * 2 ^ 64 ≡ get_or r 11 0 * 2 ^ D + value 64 v
    up =
        ap (λ (x : ℕ). x * 2 ^ 64) (lower r h s ∙ take_more 64 r 11 (omega arith))
        ∙ Nat.add-mul (get_or r 11 0 * 2 ^ (64 * 11)) (value 64 (take 11 r)) (2 ^ 64)
        ∙ ap₂ ◌+◌ (Nat.mul_assoc (get_or r 11 0) (2 ^ (64 * 11)) (2 ^ 64)
        ∙ ap (λ (x : ℕ). get_or r 11 0 * x) (sym (pow-add 2 (64 * 11) 64) ∙ sym pow-D)) (sym e)

-- by fewer, v is all lower words moved, added to 0
pub part-parts : (r v : List ℕ) (l : ℕ) → Bounded 64 r → length r ≡ 13 → value 64 r < 2 ^ D → l < 64
    → value 64 v ≡ xor (value 64 (replicate 12 0)) (value 64 (take 12 r) * 2 ^ l % 2 ^ D)
    → (value 64 v ≡ value 64 r * 2 ^ l % 2 ^ D) × (get_or r 11 0 / 2 ^ (64 - l) ≡ value 64 r * 2 ^ l / 2 ^ D)
unfolding value
part-parts r v l b h s k e =
    rw (lower r h s) (e ∙ xor_zero_l (value 64 (take 12 r) * 2 ^ l % 2 ^ D), moved-top r l b (omega arith) (omega arith))

-- ---- words added from the lowest on
pub low_turn : (r : List ℕ) (n x j i k v : ℕ) → Bounded 64 r → j < length r → i ≤ 64 → i + 64 * j ≡ k → v ≡ x / 2 ^ (64 * j) % 2 ^ i
    → value 64 r ≡ xor n (x % 2 ^ (64 * j)) → value 64 (set r j (bit_xor (get_or r j 0) v)) ≡ xor n (x % 2 ^ k)
low_turn r n x j i k v b h l g e f =
    ap (λ (y : ℕ). value 64 (set r j y)) (xor_is (get_or r j 0) v)
    ∙ set-xor 64 r b j v h (Nat.lt_of_lt_of_le (rw e (Nat.mod-lt (x / 2 ^ (64 * j)) (pow_pos i))) (pow_mono {j = 64} l))
    ∙ ap₂ (λ (y z : ℕ). xor y (z * 2 ^ (64 * j))) f e ∙ xor_assoc n (x % 2 ^ (64 * j)) (x / 2 ^ (64 * j) % 2 ^ i * 2 ^ (64 * j))
    ∙ ap (xor n)
    (xor_comm (x % 2 ^ (64 * j)) (x / 2 ^ (64 * j) % 2 ^ i * 2 ^ (64 * j)) ∙ sym (part x i (64 * j)) ∙ ap (λ (m : ℕ). x % 2 ^ m) g)

-- ---- the whole remainder
pub short-rest : (t : List ℕ) (p n f z r : ℕ) → p < 768 → n ≤ 768 - p → z ≡ 0 → r ≡ xor z (f % 2 ^ n) → RemainderBy t p (f % 2 ^ n) r
short-rest t p n f z r h l e g =
    let s : r ≡ f % 2 ^ n = g ∙ ap (λ (x : ℕ). xor x (f % 2 ^ n)) e ∙ xor_zero_l (f % 2 ^ n) in
    let o : D - p ≡ 768 - p = omega (arith, D-is) in
    record {
      small = rw (s, o) (Nat.lt_of_lt_of_le (Nat.mod-lt f (pow_pos n)) (pow_mono {i = n} {j = 768 - p} l));
      rest = λ v w d k T. s ∙ sym
          (rem-small v w d (f % 2 ^ n) (Nat.lt_of_lt_of_le (Nat.mod-lt f (pow_pos n)) (pow_mono {i = n} {j = w} (omega (arith, D-is)))));
    }

pub whole-rest : (t : List ℕ) (p n w f r q x : ℕ) → p < 768 → w ≡ 768 - p → w ≤ n → Reduced t (f % 2 ^ n / 2 ^ w * 2 ^ D) r → q ≡ r / 2 ^ p
    → x ≡ xor q (f % 2 ^ w) → RemainderBy t p (f % 2 ^ n) x
whole-rest t p n w f r q x h e l a b c =
    record {
      small = rw (c, o) (xor_lt w q (f % 2 ^ w) (rw (b, ← o) R.small) (Nat.mod-lt f (pow_pos w)));
      rest = λ g v d k T.
          let i : v ≡ w = omega (arith, D-is) in
          c ∙ ap₂ xor (b ∙ R.rest g v d k T) (sym (rem-small g v d (f % 2 ^ w) (rw i (Nat.mod-lt f (pow_pos w)))))
          ∙ sym (rem-xor g v d (f % 2 ^ n / 2 ^ w * 2 ^ w) (f % 2 ^ w)) ∙ ap (rem g v) sum;
    }
  where
    o : D - p ≡ w
    o = omega (arith, D-is)

    j : w + p ≡ D
    j = omega (arith, D-is)

    m : (n - w) + w ≡ n
    m = omega arith

    R : RemainderBy t p (f % 2 ^ n / 2 ^ w * 2 ^ w) (r / 2 ^ p)
    R =
        lowered t p (f % 2 ^ n / 2 ^ w * 2 ^ w) r (omega arith)
        (rw (Nat.mul_assoc (f % 2 ^ n / 2 ^ w) (2 ^ w) (2 ^ p), ← pow-add 2 w p, j) a)

    below : f % 2 ^ n % 2 ^ w ≡ f % 2 ^ w
    below = ap (λ (y : ℕ). f % 2 ^ y % 2 ^ w) (sym m) ∙ mod-mod-pow f (n - w) w

    sum : xor (f % 2 ^ n / 2 ^ w * 2 ^ w) (f % 2 ^ w) ≡ f % 2 ^ n
    sum =
        sym (join (f % 2 ^ n / 2 ^ w) w (f % 2 ^ w) (Nat.mod-lt f (pow_pos w))) ∙ ap (λ (y : ℕ). f % 2 ^ n / 2 ^ w * 2 ^ w + y) (sym below)
        ∙ split (f % 2 ^ n) w
