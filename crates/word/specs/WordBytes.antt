-- A word in bytes.
--   WordIs p c s    the bytes s are the polynomial c, which is below x^n
use Rattle.std.specs.Prelude.{◌≡◌, refl, Bool, true, false, List, ◌++◌, ℕ, zero, suc, ◌+◌, ◌-◌, ◌*◌, ◌/◌, ◌%◌, ◌^◌, ◌≤◌, ◌<◌, min, leb, length, take, drop, replicate}
use Rattle.std.proofs.Math.Path.{sym, ap, ap₂}
use Rattle.std.proofs.Common.{◌∙◌, arith, pow_mono, length-take-le, leb-true, leb-false}
use Rattle.std.proofs.Math.Nat as Nat
use Rattle.std.proofs.lemmas.List.{length-replicate}
use Rattle.polynomial.specs.Digits.{digits, digits_value, value}
use Rattle.polynomial.specs.Division.{deg, rem}
use Rattle.polynomial.specs.Sums.{all-at}
use Rattle.kernels.specs.Value.{Bounded, bounded-all, value-append, value-cons, value-lt, value-nil}
use Rattle.code.specs.declared.Parameters.{Parameters}
use Rattle.code.proofs.Accepted.{accepted, stored-le}
use Rattle.code.proofs.Buffers.{nested-lt}
use Rattle.code.specs.Calls.{nested_of, nested_syndrome_list, nested_word_bytes, remainder_bytes, short_bytes, sub_word_of, syndrome_list}
use Rattle.code.specs.Code.{divisor, odd_syndromes, remainder, short_remainder}
use Rattle.code.specs.Layout.{IsPage, words_of}
use Rattle.code.proofs.Pages.{page-words}
use Rattle.code.specs.Parameters.{Accepted, len, nested_bytes, stored, strength, sub_word_bytes}
use Rattle.code.proofs.Placement.{word_at}
use Rattle.layout.specs.Sizes.{bits-all}

pub record WordIs (p : Parameters) (c : ℕ) (s : List ℕ) : Type 0 where
  pub is : value 8 s ≡ c
  pub below : c < 2 ^ len p

-- ---- places: below x^n, and within its bytes
below-min : (c a b : ℕ) → c < 2 ^ a → c < 2 ^ b → c < 2 ^ min a b
below-min c a b h l = go (leb a b) refl
  where
    go : (t : Bool) → leb a b ≡ t → c < 2 ^ min a b
    go true e = rw (Nat.min-eq_left (leb-true a b e)) h
    go false e = rw (Nat.min-eq_right (Nat.le_of_suc-le (leb-false a b e))) l

pub in-places : (s : List ℕ) (k n : ℕ) → Bounded 8 s → k ≡ min n (8 * length s) → value 8 s < 2 ^ n → value 8 s < 2 ^ k
in-places s k n b e h = rw e (below-min (value 8 s) n (8 * length s) h (value-lt 8 s b))

-- ---- sub-word i of a page
pub sub-word-is : (p : Parameters) → Accepted p → (x : List ℕ) → IsPage p x → (i : ℕ) → i < p.m → (s : List ℕ)
    → s ≡ take (sub_word_bytes p) (drop (i * sub_word_bytes p) x) → WordIs p (sub_word_of p x i) s
sub-word-is p A x h i l s e =
    let w = page-words p (accepted p A) x h in
    record {
      is = ap (value 8) e ∙ sym (word_at p x i l);
      below = Nat.lt_of_lt_of_le (all-at (λ c. c < 2 ^ stored p) (words_of p x) w.below i (rw w.many l))
          (pow_mono (stored-le p (accepted p A)));
    }

-- ---- nested word l, in b + 8 bytes of 520, the others 0
module _ (b : ℕ) (h : b ≤ 512) where
  pub part_length : length (take {A = ℕ} (b + 8) (replicate 520 0)) ≡ b + 8
  part_length = length-take-le (b + 8) (replicate 520 0) (rw (length-replicate {A = ℕ} 520 0) (omega arith))

zeros : (k n : ℕ) → value 8 (drop k (replicate n 0)) ≡ 0
zeros zero zero = value-nil 8
zeros zero (suc n) = value-cons 8 0 (replicate n 0) ∙ ap (λ (x : ℕ). x * 2 ^ 8 + 0) (zeros zero n)
zeros (suc k) zero = value-nil 8
zeros (suc k) (suc n) = zeros k n

pub nested_is : (p : Parameters) → Accepted p → (x : List ℕ) (l k : ℕ) (s : List ℕ) → value 8 s ≡ nested_of p x l
    → WordIs p (nested_of p x l) (s ++ drop k (replicate 520 0))
nested_is p A x l k s e = record {
  is = value-append 8 s (drop k (replicate 520 0)) ∙ ap (λ (y : ℕ). y * 2 ^ (8 * length s) + value 8 s) (zeros k 520)
      ∙ ap (λ (y : ℕ). y + value 8 s) (Nat.zero-mul (2 ^ (8 * length s))) ∙ Nat.zero-add (value 8 s) ∙ e;
  below = nested-lt p (accepted p A) l (words_of p x);
}

-- ---- what the calls leave
module _ (p : Parameters) (x : List ℕ) (i : ℕ) (s : List ℕ) (W : WordIs p (sub_word_of p x i) s) where
  pub remainder-made : (y : List ℕ) → y ≡ digits 8 96 (remainder p 0 (value 8 s)) → y ≡ remainder_bytes p x i
  unfolding remainder_bytes
  remainder-made y e = e ∙ ap (λ (c : ℕ). digits 8 96 (remainder p 0 c)) W.is

  pub syndromes-made : (y : List ℕ) → y ≡ odd_syndromes p (strength p 0) (value 8 s) → y ≡ syndrome_list p x i
  unfolding syndrome_list
  syndromes-made y e = e ∙ ap (odd_syndromes p (strength p 0)) W.is

module _ (p : Parameters) (x : List ℕ) (l : ℕ) (s : List ℕ) (W : WordIs p (nested_of p x l) s) where
  pub short-made : (y : List ℕ) → y ≡ digits 8 96 (rem (divisor p l) (deg (divisor p l)) (value 8 s)) → y ≡ short_bytes p x l
  unfolding short_bytes short_remainder
  short-made y e = e ∙ ap (λ (c : ℕ). digits 8 96 (rem (divisor p l) (deg (divisor p l)) c)) W.is

  pub nested-syndromes-made : (a : ℕ) (y : List ℕ) → a ≡ p.v - l → y ≡ odd_syndromes p (strength p a) (value 8 s)
      → y ≡ nested_syndrome_list p x l
  unfolding nested_syndrome_list
  nested-syndromes-made a y k e = e ∙ ap₂ (λ (b c : ℕ). odd_syndromes p (strength p b) c) k W.is

  -- copied to the bytes of a nested word
  pub nested-made : Accepted p → (y : List ℕ) (k : ℕ) → Bounded 8 y → length y ≡ k → k ≡ nested_bytes p
      → value 8 y ≡ value 8 s / 2 ^ 0 % 2 ^ (8 * k) → y ≡ nested_word_bytes p x l
  unfolding nested_word_bytes
  nested-made A y k b n m e =
      let c : value 8 s < 2 ^ (8 * k) = rw (W.is, m) (Nat.lt_of_lt_of_le W.below (pow_mono (omega (arith, bits-all p A)))) in
      sym (digits_value 8 y (bounded-all 8 y b))
      ∙ ap₂ (digits 8) (n ∙ m) (e ∙ ap (λ (z : ℕ). z % 2 ^ (8 * k)) (Nat.div-one (value 8 s)) ∙ Nat.mod-eq_of_lt c ∙ W.is)
