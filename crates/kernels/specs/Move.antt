-- Rows moved up and down, word by word.
--   Shifted r₀ r l c i    i words of r₀ are moved up by l, which makes r, and c is carried on
--   Moving r s n c v j    v is n with the first j words of r, moved up by s, added up to word j, and c is carried on
use Rattle.std.specs.Prelude.{◌≡◌, refl, List, ℕ, ◌+◌, ◌-◌, ◌*◌, ◌/◌, ◌%◌, ◌^◌, ◌≤◌, ◌<◌, length, get_or, take, drop, set}
use Rattle.std.proofs.Common.{sym, ap, ap₂, ◌∙◌, mul_assoc, mul_comm, add-mul, add_comm, lt_of_lt_of_le, lt_of_le_of_lt, mod-eq_of_lt, div-one, arith, pow_pos, pow-add, pow_mono, shl_lt, shr_lt, shr-shr}
use Rattle.std.proofs.Math.Nat as Nat
use Rattle.std.proofs.Math.Arith.{digits_lt}
use Rattle.std.specs.Int.Bits.{bit_xor}
use Rattle.std.proofs.lemmas.Nat.{shr_le}
use Rattle.std.proofs.Math.Pow.{high, low, split}
use Rattle.polynomial.specs.Digits.{value, value-at}
use Rattle.polynomial.specs.Division.{Deg}
use Rattle.polynomial.specs.Xor.{xor, xor_is, xor_assoc, xor_comm, xor_zero_r}
use Rattle.kernels.specs.Remainder.{deg-up}
use Rattle.kernels.specs.Row.{D, pow-D, set-top, by-top, D-is}
use Rattle.kernels.specs.Shift.{join, up-down, up_up}
use Rattle.kernels.specs.Value.{Bounded, bounded-all, drop-next, drop-shr, same_at, set-xor}
use Rattle.kernels.specs.Value.{take-lt, take_more, take_more_set, value-lt, value-nil}
use Rattle.kernels.specs.Word.{moved, word-up, word-up-lt, word_sum, carry-lt, mod-mul-mod, window}

-- ---- up by 1 to 64 places, in place
alg : (lo c c' P B T w Q n : ℕ) → T + c * P ≡ n * Q → lo + c' * B ≡ w * Q → (lo + c) * P + T + c' * (P * B) ≡ (w * P + n) * Q
alg lo c c' P B T w Q n h₁ h₂ =
    let e = simp (add-mul, Nat.mul-add, mul_assoc, mul_comm, Nat.mul_left_comm) at (ap (λ (x : ℕ). x * P) h₂) in
    let f = simp (mul_comm) at h₁ in
    simp (add-mul, mul_assoc, mul_comm) (omega (arith, e, f))

pub record Shifted (r₀ r : List ℕ) (l c i : ℕ) : Type 0 where
  pub fits : c < 2 ^ l
  pub left : drop i r ≡ drop i r₀
  pub done : value 64 (take i r) + c * 2 ^ (64 * i) ≡ value 64 (take i r₀) * 2 ^ l

pub shift-turn : (r₀ r : List ℕ) (l c i : ℕ) → Bounded 64 r → l ≤ 64 → i < length r → length r ≡ length r₀ → Shifted r₀ r l c i
    → Shifted r₀ (set r i (get_or r i 0 * 2 ^ l % 2 ^ 64 + c)) l (get_or r i 0 / 2 ^ (64 - l)) (i + 1)
shift-turn r₀ r l c i hr h li e s = record {
  fits = carry-lt l (64 - l) (omega arith) (hr i);
  left = drop-next r r₀ i (get_or r i 0 * 2 ^ l % 2 ^ 64 + c) s.left;
  done =
      rw (
        take_more_set 64 r i (get_or r i 0 * 2 ^ l % 2 ^ 64 + c) li,
        take_more 64 r₀ i (omega arith),
        pow-next i,
        word-up (get_or r i 0) l h,
        ← same_at r r₀ i s.left,
      )
      (alg (get_or r i 0 % 2 ^ (64 - l) * 2 ^ l) c (get_or r i 0 / 2 ^ (64 - l)) (2 ^ (64 * i)) (2 ^ 64) (value 64 (take i r)) (get_or r i 0)
      (2 ^ l) (value 64 (take i r₀))
      s.done (word_sum (get_or r i 0) l (64 - l) (omega arith)));
}
  where
    pow-next : (i : ℕ) → 2 ^ (64 * (i + 1)) ≡ 2 ^ (64 * i) * 2 ^ 64
    pow-next i =
        let f : 64 * (i + 1) ≡ 64 * i + 64 = omega arith in
        ap (λ (n : ℕ). 2 ^ n) f ∙ pow-add 2 (64 * i) 64

-- by a whole word: what is carried is written as it is
pub shift-word-turn : (r₀ r : List ℕ) (c i : ℕ) → Bounded 64 r → i < length r → length r ≡ length r₀ → Shifted r₀ r 64 c i
    → Shifted r₀ (set r i c) 64 (get_or r i 0) (i + 1)
shift-word-turn r₀ r c i hr li e s =
    let a : get_or r i 0 * 2 ^ 64 % 2 ^ 64 + c ≡ c = ap (λ (x : ℕ). x + c) (Nat.mul-mod_left (get_or r i 0) (2 ^ 64)) ∙ Nat.zero-add c in
    rw (a, div-one (get_or r i 0)) at (shift-turn r₀ r 64 c i hr (omega arith) li e s)

pub shift-start : (r : List ℕ) (l : ℕ) → Shifted r r l 0 0
shift-start r l = record { fits = pow_pos l; left = refl; done = simp (value-nil 64, Nat.zero-mul) }

pub shift-done : (r₀ r : List ℕ) (l c i : ℕ) → length r₀ ≡ 13 → length r ≡ 13 → get_or r₀ 12 0 ≡ 0 → i ≡ 12 → Shifted r₀ r l c i
    → value 64 (set r 12 c) ≡ value 64 r₀ * 2 ^ l
shift-done r₀ r l c i h₀ h z e s =
    let f : value 64 (take 12 r) + c * 2 ^ (64 * 12) ≡ value 64 (take 12 r₀) * 2 ^ l = rw e at s.done in
    set-top r c h ∙ Nat.add_comm (c * 2 ^ D) (value 64 (take 12 r)) ∙ ap (λ (x : ℕ). value 64 (take 12 r) + c * x) pow-D ∙ f
    ∙ rw (by-top r₀ h₀, z, Nat.zero-mul, Nat.zero-add) refl

-- ---- up by s places, added into another row: after j words of r the j lowest of what is moved are added, and the rest is carried on
abbrev up : List ℕ → ℕ → ℕ → ℕ
up r s j = value 64 (take j r) * 2 ^ s

pub record Moving (r : List ℕ) (s n c : ℕ) (v : List ℕ) (j : ℕ) : Type 0 where
  pub carry : c ≡ up r s j / 2 ^ (64 * j)
  pub sum : value 64 v ≡ xor n (up r s j % 2 ^ (64 * j))

module _ (r : List ℕ) (s n c : ℕ) (v : List ℕ) (j : ℕ) (br : Bounded 64 r) (bv : Bounded 64 v) (h : s < 64) (lr : j < length r)
    (lv : j < length v) (M : Moving r s n c v j) where
  abbrev w : ℕ
  w = get_or r j 0

  abbrev lo : ℕ
  lo = w * 2 ^ s % 2 ^ 64

  c_lt : c < 2 ^ s
  c_lt = rw M.carry (shr_lt s (64 * j) (rw (add_comm s (64 * j)) (shl_lt (64 * j) s (take-lt 64 r br j (Nat.le_of_lt lr)))))

  lo-lt : lo + c < 2 ^ 64
  lo-lt = word-up-lt w s c (Nat.le_of_lt h) c_lt

  -- what is added at word j, and below
  abbrev part : ℕ
  part = (lo + c) * 2 ^ (64 * j) + up r s j % 2 ^ (64 * j)

  pow_more : 2 ^ (64 * (j + 1)) ≡ 2 ^ (64 * j) * 2 ^ 64
  pow_more =
      let f : 64 * (j + 1) ≡ 64 * j + 64 = omega arith in
      ap (λ (k : ℕ). 2 ^ k) f ∙ pow-add 2 (64 * j) 64

  part-lt : part < 2 ^ (64 * (j + 1))
  part-lt = rw (pow_more, mul_comm (2 ^ (64 * j)) (2 ^ 64)) (digits_lt lo-lt (Nat.mod-lt (up r s j) (pow_pos (64 * j))))

  whole : w / 2 ^ (64 - s) * 2 ^ (64 * (j + 1)) + part ≡ up r s (j + 1)
  whole =
      rw (pow_more, take_more 64 r j lr) (add_comm (w / 2 ^ (64 - s) * (2 ^ (64 * j) * 2 ^ 64)) part
      ∙ rw (word-up w s (Nat.le_of_lt h)) (alg (w % 2 ^ (64 - s) * 2 ^ s) c (w / 2 ^ (64 - s)) (2 ^ (64 * j)) (2 ^ 64)
      (up r s j % 2 ^ (64 * j)) w (2 ^ s) (value 64 (take j r))
      (rw M.carry (add_comm (up r s j % 2 ^ (64 * j)) (up r s j / 2 ^ (64 * j) * 2 ^ (64 * j)) ∙ split (up r s j) (64 * j)))
      (word_sum w s (64 - s) (omega arith))))

  pub moving-turn : Moving r s n (w / 2 ^ (64 - s)) (set v j (bit_xor (bit_xor (get_or v j 0) lo) c)) (j + 1)
  moving-turn = record {
    carry = sym (ap (λ (x : ℕ). x / 2 ^ (64 * (j + 1))) (sym whole) ∙ high (w / 2 ^ (64 - s)) (64 * (j + 1)) part-lt);
    sum =
        ap (λ (x : ℕ). value 64 (set v j x)) (xor_is _ c ∙ ap (λ (x : ℕ). xor x c) (xor_is (get_or v j 0) lo) ∙ xor_assoc (get_or v j 0) lo c
        ∙ ap (xor (get_or v j 0)) (sym both))
        ∙ set-xor 64 v bv j (lo + c) lv lo-lt
        ∙ ap (λ (x : ℕ). xor x ((lo + c) * 2 ^ (64 * j))) M.sum ∙ xor_assoc n _ _
        ∙ ap (xor n) (xor_comm _ _ ∙ sym (join (lo + c) (64 * j) (up r s j % 2 ^ (64 * j)) (Nat.mod-lt (up r s j) (pow_pos (64 * j))))
        ∙ sym (ap (λ (x : ℕ). x % 2 ^ (64 * (j + 1))) (sym whole) ∙ low (w / 2 ^ (64 - s)) (64 * (j + 1)) part-lt));
  }
    where
      both : lo + c ≡ xor lo c
      both = rw (word-up w s (Nat.le_of_lt h)) (join (w % 2 ^ (64 - s)) s c c_lt)

pub moving-start : (r v : List ℕ) (s : ℕ) → Moving r s (value 64 v) 0 v 0
moving-start r v s =
    let y : up r s 0 ≡ 0 = rw (value-nil 64) (Nat.zero-mul (2 ^ s)) in
    record { carry = sym (rw y (Nat.zero-div (2 ^ (64 * 0)))); sum = sym (rw (y, Nat.zero-mod) (xor_zero_r (value 64 v))) }

pub moving-done : (r : List ℕ) (s n c : ℕ) (v : List ℕ) (j : ℕ) → j ≡ 12 → Moving r s n c v j
    → value 64 v ≡ xor n (value 64 (take 12 r) * 2 ^ s % 2 ^ D)
moving-done r s n c v j e M = rw pow-D (rw e at M.sum)

-- what passes the 12th word
pub moved-top : (r : List ℕ) (s : ℕ) → Bounded 64 r → 12 ≤ length r → s ≤ 64
    → get_or r 11 0 / 2 ^ (64 - s) ≡ value 64 (take 12 r) * 2 ^ s / 2 ^ D
moved-top r s b l h =
    let e : 64 * 11 + (64 - s) ≡ 64 * 12 - s = omega arith in
    sym (rw pow-D (up-down (value 64 (take 12 r)) s (64 * 12) (omega arith)) ∙ ap (λ (k : ℕ). value 64 (take 12 r) / 2 ^ k) (sym e)
    ∙ sym (shr-shr (value 64 (take 12 r)) (64 * 11) (64 - s))
    ∙ ap (λ (x : ℕ). x / 2 ^ (64 - s)) (ap (λ (x : ℕ). x / 2 ^ (64 * 11)) (take_more 64 r 11 (omega arith))
    ∙ high (get_or r 11 0) (64 * 11) (take-lt 64 r b 11 (omega arith))))

-- ---- by any number of places
-- the 64 coefficients from x^pos on lie in two words
pub row-window : (r : List ℕ) → Bounded 64 r → (pos : ℕ)
    → get_or r (pos / 64) 0 / 2 ^ (pos % 64) + moved (get_or r (pos / 64 + 1) 0) (63 - pos % 64) ≡ value 64 r / 2 ^ pos % 2 ^ 64
row-window r b pos =
    ap₂ (λ (x y : ℕ). x / 2 ^ (pos % 64) + moved y (63 - pos % 64)) (sym (value-at 64 r (bounded-all 64 r b) (pos / 64)))
    (sym (value-at 64 r (bounded-all 64 r b) (pos / 64 + 1)) ∙ ap (λ (x : ℕ). x % 2 ^ 64) above)
    ∙ window (pos % 64) (omega arith) y 64 (omega arith)
    ∙ ap (λ (x : ℕ). x % 2 ^ 64) (shr-shr (value 64 r) (64 * (pos / 64)) (pos % 64) ∙ ap (λ (n : ℕ). value 64 r / 2 ^ n) e)
  where
    y : ℕ
    y = value 64 r / 2 ^ (64 * (pos / 64))

    e : 64 * (pos / 64) + pos % 64 ≡ pos
    e = omega arith

    g : 64 * (pos / 64 + 1) ≡ 64 * (pos / 64) + 64
    g = omega arith

    above : value 64 r / 2 ^ (64 * (pos / 64 + 1)) ≡ y / 2 ^ 64
    above = ap (λ (n : ℕ). value 64 r / 2 ^ n) g ∙ sym (shr-shr (value 64 r) (64 * (pos / 64)) 64)

-- the lowest word moved up
pub first-up : (r : List ℕ) → Bounded 64 r → (s p : ℕ) → p ≤ s → get_or r 0 0 * 2 ^ (s - p) % 2 ^ 64 ≡ value 64 r * 2 ^ s / 2 ^ p % 2 ^ 64
first-up r b s p h =
    ap (λ (x : ℕ). x * 2 ^ (s - p) % 2 ^ 64)
    (sym (value-at 64 r (bounded-all 64 r b) 0) ∙ ap (λ (x : ℕ). x % 2 ^ 64) (div-one (value 64 r)))
    ∙ mod-mul-mod (value 64 r) (2 ^ (s - p)) (2 ^ 64) ∙ ap (λ (x : ℕ). x % 2 ^ 64) (sym (up_up (value 64 r) s p h))

-- moved up to degree 768
pub align-deg : (x w : ℕ) → Deg x w → w ≤ 768 → Deg (x * 2 ^ (768 - w)) D
align-deg x w d h =
    let e : w + (768 - w) ≡ D = omega (arith, D-is) in
    rw (← e) (deg-up x w (768 - w) d)

pub align-lt : (x w : ℕ) → x < 2 ^ (w + 1) → w ≤ 768 → x * 2 ^ (768 - w) < 2 ^ (64 * 13)
align-lt x w h l = Nat.lt_of_lt_of_le (shl_lt (w + 1) (768 - w) h) (pow_mono {j = 64 * 13} (omega arith))

-- what is moved down in place: the words from i on are still those of r₀
pub lower_word : (r₀ r : List ℕ) (s i : ℕ) → Bounded 64 r₀ → Bounded 64 r → drop i r ≡ drop i r₀
    → value 64 r / 2 ^ (s + 64 * i) ≡ value 64 r₀ / 2 ^ s / 2 ^ (64 * i)
lower_word r₀ r s i b₀ b e =
    ap (λ (n : ℕ). value 64 r / 2 ^ n) (add_comm s (64 * i)) ∙ sym (shr-shr (value 64 r) (64 * i) s)
    ∙ ap (λ (x : ℕ). x / 2 ^ s) (drop-shr 64 i r b ∙ ap (value 64) e ∙ sym (drop-shr 64 i r₀ b₀))
    ∙ shr-shr (value 64 r₀) (64 * i) s ∙ ap (λ (n : ℕ). value 64 r₀ / 2 ^ n) (add_comm (64 * i) s) ∙ sym (shr-shr (value 64 r₀) s (64 * i))

pub lower-done : (r : List ℕ) (s x : ℕ) → Bounded 64 r → length r ≡ 13 → x ≡ value 64 r / 2 ^ s % 2 ^ (64 * 13) → x ≡ value 64 r / 2 ^ s
lower-done r s x b h e = e ∙ mod-eq_of_lt (lt_of_le_of_lt (shr_le (value 64 r) s) (rw h at (value-lt 64 r b)))
