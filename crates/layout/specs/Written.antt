-- A page with one sub-word changed, and a sub-word with one coefficient changed.
--   written p x i c    the page x with c as sub-word i
use Rattle.std.specs.Prelude.{◌≡◌, ◌≢◌, ◌⊎◌, List, ℕ, suc, ◌+◌, ◌-◌, ◌*◌, ◌/◌, ◌%◌, ◌^◌, ◌≤◌, ◌<◌, length, get_or, take, drop}
use Rattle.std.proofs.Common.{sym, ap, ap₂, ◌∙◌, inl, inr, zero-le, suc-le-suc, arith, pow-add}
use Rattle.std.proofs.Math.Nat as Nat
use Rattle.std.proofs.Math.Decide.{dec_le}
use Rattle.std.proofs.Math.Pow.{pow-lt}
use Rattle.polynomial.specs.Digits.{digits, digits_value, length_digits, value}
use Rattle.polynomial.specs.Sums.{at_all}
use Rattle.polynomial.specs.Xor.{xor}
use Rattle.code.specs.declared.Parameters.{Parameters}
use Rattle.code.specs.Layout.{page_bytes, words_of}
use Rattle.code.specs.Lists.{part}
use Rattle.code.specs.Parameters.{Accepted, sub_word_bytes}
use Rattle.code.proofs.Placement.{word_at}
use Rattle.layout.specs.Parts.{word_room}
use Rattle.layout.specs.Replaced.{replaced, replaced-after, replaced-before, replaced-length, replaced-part}
use Rattle.layout.specs.Sizes.{shifted}
use Rattle.layout.specs.SubWords.{part_same}

abbrev pub written : Parameters → List ℕ → ℕ → ℕ → List ℕ
written p page i c = replaced page (i * sub_word_bytes p) (digits 8 (sub_word_bytes p) c)

-- ---- a page with another word in the place of word k
module _ (p : Parameters) (x : List ℕ) (k c : ℕ) (e : length x ≡ page_bytes p) (h : k < p.m) where
  room : k * sub_word_bytes p + length (digits 8 (sub_word_bytes p) c) ≤ length x
  room = rw (length_digits 8 (sub_word_bytes p) c, e) (word_room p k h)

  pub written-length : length (written p x k c) ≡ page_bytes p
  written-length = replaced-length x (k * sub_word_bytes p) (digits 8 (sub_word_bytes p) c) room ∙ e

  pub written-here : part (sub_word_bytes p) k (written p x k c) ≡ digits 8 (sub_word_bytes p) c
  written-here =
      ap (λ (n : ℕ). take n (drop (k * sub_word_bytes p) (written p x k c))) (sym (length_digits 8 (sub_word_bytes p) c))
      ∙ replaced-part x (k * sub_word_bytes p) (digits 8 (sub_word_bytes p) c) room

  pub written-there : (j : ℕ) → j ≢ k → part (sub_word_bytes p) j (written p x k c) ≡ part (sub_word_bytes p) j x
  written-there j n = go (dec_le (suc j) k)
    where
      go : Dec (j < k) → part (sub_word_bytes p) j (written p x k c) ≡ part (sub_word_bytes p) j x
      go (yes u) =
          replaced-before x (k * sub_word_bytes p) (digits 8 (sub_word_bytes p) c) room (j * sub_word_bytes p) (sub_word_bytes p)
          (rw (← Nat.suc-mul j (sub_word_bytes p)) (Nat.mul-le-mul_right (sub_word_bytes p) u))
      go (no u) = more (Nat.eq-or-lt_of_le (let z : k ≤ j = omega arith in z))
        where
          more : (k ≡ j) ⊎ (k < j) → part (sub_word_bytes p) j (written p x k c) ≡ part (sub_word_bytes p) j x
          more (inl d) = absurd (n (sym d))
          more (inr l) =
              ap (take (sub_word_bytes p)) (replaced-after x (k * sub_word_bytes p) (digits 8 (sub_word_bytes p) c) room (j * sub_word_bytes p)
              (rw (length_digits 8 (sub_word_bytes p) c, ← Nat.suc-mul k (sub_word_bytes p)) (Nat.mul-le-mul_right (sub_word_bytes p) l)))

-- the part that the program takes, and the one that comes back
pub part-word : (p : Parameters) → Accepted p → (x : List ℕ) (i k : ℕ) → k ≡ sub_word_bytes p → i < p.m
    → value 8 (take (i * k + k - i * k) (drop (i * k) x)) ≡ get_or (words_of p x) i 0
part-word p A x i k e h = ap (value 8) (part_same p A x i k e) ∙ sym (word_at p x i h)

pub part-made : (p : Parameters) (y : List ℕ) (n k : ℕ) → ((j : ℕ) → get_or y j 0 < 2 ^ 8) → length y ≡ k → k ≡ sub_word_bytes p → value 8 y ≡ n
    → y ≡ digits 8 (sub_word_bytes p) n
part-made p y n k b l e v = sym (digits_value 8 y (at_all (λ d. d < 2 ^ 8) y (λ j h. b j))) ∙ ap₂ (digits 8) (l ∙ e) v

-- ---- a bit added
pub bit-room : (r n v : ℕ) → r < 8 * n → v ≡ 1 * 2 ^ (r % 8) % 2 ^ 64 → (r / 8 ≤ n) × (v < 2 ^ (8 * (n - r / 8)))
bit-room r n v h e =
    let b : r % 8 < 8 = Nat.mod-lt r (suc-le-suc zero-le) in
    (omega arith, rw (e ∙ shifted (r % 8) (omega arith)) (pow-lt (omega (arith, b))))

pub bit-set : (r v x y : ℕ) → v ≡ 1 * 2 ^ (r % 8) % 2 ^ 64 → y ≡ xor x (v * 2 ^ (8 * (r / 8))) → y ≡ xor x (2 ^ r)
bit-set r v x y e f =
    let b : r % 8 < 8 = Nat.mod-lt r (suc-le-suc zero-le) in
    let s : r % 8 + 8 * (r / 8) ≡ r = omega arith in
    f ∙ ap (xor x) (ap (λ (c : ℕ). c * 2 ^ (8 * (r / 8))) (e ∙ shifted (r % 8) (omega arith))
    ∙ sym (pow-add 2 (r % 8) (8 * (r / 8))) ∙ ap (λ (k : ℕ). 2 ^ k) s)
