-- The word above x^768 reduced by the rows that its hex digits choose, four at a time.
--   TopAdded t n v m      m is n with the remainder of v · x^768 added, by whichever G has t as its table
--   TopLeft t n v m u k   that is so once the remainder of u · x^(768 + 16 k) is added to m too
use Rattle.std.specs.Prelude.{◌≡◌, refl, List, [], ◌∷◌, ◌⊎◌, ℕ, zero, suc, ◌+◌, ◌-◌, ◌*◌, ◌/◌, ◌%◌, ◌^◌, ◌≤◌, ◌<◌, length, get_or, take, set, replicate}
use Rattle.std.proofs.Common.{sym, ap, ap₂, ◌∙◌, inl, inr, arith, pow-add, shr_lt, take_all, take-take, length-take-le, get_or-set_same}
use Rattle.std.proofs.Math.Nat as Nat
use Rattle.std.proofs.Math.Pow.{split}
use Rattle.std.proofs.lemmas.List.{take-set-le}
use Rattle.polynomial.specs.Digits.{value}
use Rattle.polynomial.specs.Division.{rem, rem-zero}
use Rattle.polynomial.specs.Xor.{xor, xor_assoc, xor_comm, xor_zero_r}
use Rattle.kernels.specs.Remainder.{rem-top, rem-add2}
use Rattle.kernels.specs.Row.{D, by-top, low-lt}
use Rattle.kernels.specs.Shift.{join}
use Rattle.kernels.specs.Value.{Bounded, value-nil, value-cons, take-mod, same_at}
use Rattle.reduction.specs.Sum.{Copied}
use Rattle.reduction.specs.Table.{Table, four, quarter, Reduced}

abbrev pub TopAdded : List ℕ → ℕ → ℕ → ℕ → Type 0
TopAdded t n v m = (G : ℕ) → Table G t → m ≡ xor n (rem G D (v * 2 ^ D))

pub record TopLeft (t : List ℕ) (n v m u k : ℕ) : Type 0 where
  pub four : k ≤ 4
  pub small : u < 2 ^ (64 - 16 * k)
  pub sum : (G : ℕ) → Table G t → xor m (rem G D (u * 2 ^ (16 * k) * 2 ^ D)) ≡ xor n (rem G D (v * 2 ^ D))

pub top_start : (t : List ℕ) (n v : ℕ) → v < 2 ^ 64 → TopLeft t n v n v 0
top_start t n v h = record { four = omega arith; small = h; sum = λ G T. rw (Nat.mul-one v) refl }

-- a digit is left
pub top-more : (t : List ℕ) (n v m u k : ℕ) → (u ≡ 0 → ⊥) → TopLeft t n v m u k → k < 4
top-more t n v m u k h s = go (Nat.eq-or-lt_of_le s.four)
  where
    go : (k ≡ 4) ⊎ (k < 4) → k < 4
    go (inl e) =
        let o : u < 1 = rw e at s.small in
        absurd (h (omega arith))
    go (inr l) = l

pub top-turn : (t : List ℕ) (n v m m' u k : ℕ) → k < 4 → m' ≡ xor m (four t (64 * k) u) → TopLeft t n v m u k
    → TopLeft t n v m' (u / 65536) (k + 1)
top-turn t n v m m' u k h e s = record {
  four = omega arith;
  small = shr_lt (64 - 16 * (k + 1)) 16 (rw w s.small);
  sum = λ G T.
      rw (e, quarter G t T k u h, x) (xor_assoc m _ _ ∙ ap (xor m) (rem-add2 G D T.deg (16 * k) D (u % 65536) (u / 65536 * 2 ^ 16))
      ∙ ap (λ (y : ℕ). xor m (rem G D (y * 2 ^ (16 * k) * 2 ^ D)))
      (xor_comm _ _ ∙ sym (join (u / 65536) 16 (u % 65536) (Nat.mod-lt u (omega arith))) ∙ split u 16)
      ∙ s.sum G T);
}
  where
    w : 64 - 16 * (k + 1) + 16 ≡ 64 - 16 * k
    w = omega arith

    x : u / 65536 * 2 ^ (16 * (k + 1)) ≡ u / 65536 * 2 ^ 16 * 2 ^ (16 * k)
    x =
        let f : 16 * (k + 1) ≡ 16 + 16 * k = omega arith in
        ap (λ (i : ℕ). u / 65536 * 2 ^ i) f ∙ ap (λ (y : ℕ). u / 65536 * y) (pow-add 2 16 (16 * k))
        ∙ sym (Nat.mul_assoc (u / 65536) (2 ^ 16) (2 ^ (16 * k)))

pub top-done : (t : List ℕ) (n v m u k : ℕ) → u ≡ 0 → TopLeft t n v m u k → TopAdded t n v m
top-done t n v m u k z s G T =
    sym (xor_zero_r m) ∙ ap (xor m) (sym (rem-zero G D)) ∙ rw (z, Nat.zero-mul (2 ^ (16 * k)), Nat.zero-mul (2 ^ D)) at (s.sum G T)

-- ---- the words that are 0 need no copy
pub zeros : (l : List ℕ) → value 64 l ≡ 0 → l ≡ replicate (length l) 0
zeros [] z = refl
zeros (x ∷ l) z =
    let e : value 64 l * 2 ^ 64 + x ≡ 0 = sym (value-cons 64 x l) ∙ z in
    let a : x ≡ 0 = omega arith in
    let b : value 64 l ≡ 0 = omega arith in
    ap₂ ◌∷◌ a (zeros l b)

pub zeros-clear : (n f : ℕ) → value 64 (take f (replicate n 0)) ≡ 0
zeros-clear zero zero = value-nil 64
zeros-clear zero (suc f) = value-nil 64
zeros-clear (suc n) zero = value-nil 64
zeros-clear (suc n) (suc f) = value-cons 64 0 (take f (replicate n 0)) ∙ rw (zeros-clear n f) refl

pub clear_in : (r : List ℕ) (f : ℕ) → Bounded 64 r → length r ≡ 13 → f ≤ 12 → value 64 r % 2 ^ (64 * f) ≡ 0
    → take f (replicate 12 0) ≡ take f (set r 12 0)
clear_in r f d l h z =
    zeros (take f (replicate 12 0)) (zeros-clear 12 f)
    ∙ ap (λ (n : ℕ). replicate n 0) (length-take-le f (replicate 12 0) h ∙ sym (length-take-le f r (omega arith)))
    ∙ sym (zeros (take f r) (take-mod 64 r d f (omega arith) ∙ z)) ∙ sym (take-set-le f r 12 0 h)

pub clear-out : (r v₀ v m : List ℕ) (f : ℕ) → f ≤ 12 → Copied v₀ v (set r 12 0) 12 → take f m ≡ take f v → take f (set r 12 0) ≡ take f m
clear-out r v₀ v m f h p e = sym (e ∙ sym (take-take f 12 v h) ∙ ap (take f) p.done ∙ take-take f 12 (set r 12 0) h)

-- r's lower 12 words are copied to v; with the word above added v is m, which is copied back
pub reduce-law : (t r v₀ v m r' : List ℕ) → Bounded 64 r → length r ≡ 13 → Bounded 64 r' → length r' ≡ 13 → length v ≡ 12 → length m ≡ 12
    → Copied v₀ v (set r 12 0) 12 → TopAdded t (value 64 v) (get_or r 12 0) (value 64 m) → Copied (set r 12 0) r' m 12
    → Reduced t (value 64 r) (value 64 r')
reduce-law t r v₀ v m r' dr hr dr' hr' hv hm p q p' =
    rw (by-top r hr) (record {
      small = rw back (low-lt r' dr' hr');
      rest = λ G T. back ∙ out ∙ q G T ∙ ap (λ (x : ℕ). xor x (rem G D (get_or r 12 0 * 2 ^ D))) in-v
          ∙ rem-top G D T.deg (get_or r 12 0) (value 64 (take 12 r)) (low-lt r dr hr);
    })
  where
    in-v : value 64 v ≡ value 64 (take 12 r)
    in-v = ap (value 64) (sym (take_all 12 v (omega arith)) ∙ p.done ∙ take-set-le 12 r 12 0 (omega arith))

    out : value 64 (take 12 r') ≡ value 64 m
    out = ap (value 64) (p'.done ∙ take_all 12 m (omega arith))

    back : value 64 r' ≡ value 64 (take 12 r')
    back =
        by-top r' hr'
        ∙ ap (λ (x : ℕ). x * 2 ^ D + value 64 (take 12 r')) (same_at r' (set r 12 0) 12 p'.left ∙ get_or-set_same r 12 0 0 (omega arith))
        ∙ rw (Nat.zero-mul (2 ^ D)) (Nat.zero-add (value 64 (take 12 r')))
