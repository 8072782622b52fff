-- The blocks of a page, taken one by one.
--   Taking p w x b    accepted parameters, the degrees of their generators, a page of their length, room for its blocks
--   Taken p x i b     the first i blocks of b are those of the page x
use Rattle.std.specs.Prelude.{◌≡◌, ◌⊎◌, List, ℕ, zero, suc, ◌+◌, ◌-◌, ◌*◌, ◌/◌, ◌%◌, ◌^◌, ◌≤◌, ◌<◌, length, take, drop}
use Rattle.std.proofs.Math.Path.{sym, ap}
use Rattle.std.proofs.Common.{ap₂, ◌∙◌, inl, inr, zero-le, arith}
use Rattle.std.proofs.Math.Nat as Nat
use Rattle.std.proofs.Math.ListN.{get_or}
use Rattle.std.proofs.Math.Pow.{field, mod-mod-pow}
use Rattle.polynomial.specs.Digits.{value, digits, digits_value, length_digits}
use Rattle.polynomial.specs.Sums.{at_all}
use Rattle.code.specs.declared.Parameters.{Parameters}
use Rattle.code.specs.Code.{check_bits, data_words}
use Rattle.code.specs.Layout.{data_bits, data_bytes, data_of, block_offset, page_bytes, stored_of, words_of}
use Rattle.code.proofs.Pages.{data_of-eq, length-data, stored-words}
use Rattle.code.specs.Parameters.{Accepted, stored}
use Rattle.code.proofs.Placement.{data-at, stored_at}
use Rattle.layout.specs.Parts.{offset-next, block_room, blocks-parts}
use Rattle.layout.specs.Sizes.{Degrees, check-below}
use Rattle.layout.specs.Replaced.{replaced, replaced-length, replaced-part, replaced-before}

pub record Taking (p : Parameters) (w x b : List ℕ) : Type 0 where
  pub accepts : Accepted p
  pub degrees : Degrees p w
  pub exact : length x ≡ page_bytes p
  pub room : length b ≡ data_bytes p

-- the bytes of block i
abbrev pub size_of : Parameters → ℕ → ℕ
size_of p i = (data_bits p i + 7) / 8

abbrev pub block_at : Parameters → ℕ → List ℕ → List ℕ
block_at p i b = take (size_of p i) (drop (block_offset p i) b)

pub record Taken (p : Parameters) (x : List ℕ) (i : ℕ) (b : List ℕ) : Type 0 where
  pub exact : length b ≡ data_bytes p
  pub high : i ≤ p.m
  pub each : (j : ℕ) → j < i → block_at p j b ≡ digits 8 (size_of p j) (get_or (stored_of p x) j 0 / 2 ^ check_bits p j)

module _ (p : Parameters) where
  pub taken_start : (x b : List ℕ) → length b ≡ data_bytes p → Taken p x 0 b
  taken_start x b e = record { exact = e; high = zero-le; each = λ j h. absurd (Nat.not-suc-le-zero h) }

  -- blocks before i end where block i begins, or earlier
  offset-before : (j i : ℕ) → j < i → i ≤ p.m → block_offset p j + size_of p j ≤ block_offset p i
  offset-before j zero h l = absurd (Nat.not-suc-le-zero h)
  offset-before j (suc i) h l = go (λ k. offset-before j i k (Nat.le_of_suc-le l)) (Nat.eq-or-lt_of_le (Nat.le_of_suc-le-suc h))
    where
      next : block_offset p (suc i) ≡ block_offset p i + size_of p i
      next = let e : suc i ≡ i + 1 = omega arith in ap (block_offset p) e ∙ offset-next p i l

      go : (j < i → block_offset p j + size_of p j ≤ block_offset p i) → (j ≡ i) ⊎ (j < i)
          → block_offset p j + size_of p j ≤ block_offset p (suc i)
      go ih (inl e) = rw (e, next) (Nat.le_refl (block_offset p i + size_of p i))
      go ih (inr k) = rw next (Nat.le_trans (ih k) (omega arith))

  pub taken_next : (x b y : List ℕ) (i : ℕ) → Taken p x i b → i < p.m
      → y ≡ digits 8 (size_of p i) (get_or (stored_of p x) i 0 / 2 ^ check_bits p i) → Taken p x (i + 1) (replaced b (block_offset p i) y)
  taken_next x b y i t h e =
      let l : length y ≡ size_of p i = ap length e ∙ length_digits 8 (size_of p i) (get_or (stored_of p x) i 0 / 2 ^ check_bits p i) in
      let r : block_offset p i + length y ≤ length b = rw (l, t.exact) (block_room p i h) in
      record {
        exact = replaced-length b (block_offset p i) y r ∙ t.exact;
        high = omega arith;
        each = λ j k. each l r j (Nat.eq-or-lt_of_le (Nat.le_of_suc-le-suc (omega arith)));
      }
    where
      each : length y ≡ size_of p i → block_offset p i + length y ≤ length b → (j : ℕ) → (j ≡ i) ⊎ (j < i)
          → block_at p j (replaced b (block_offset p i) y) ≡ digits 8 (size_of p j) (get_or (stored_of p x) j 0 / 2 ^ check_bits p j)
      each l r j (inl f) =
          rw (f, ← l) (replaced-part b (block_offset p i) y r ∙ e
          ∙ ap (λ (k : ℕ). digits 8 k (get_or (stored_of p x) i 0 / 2 ^ check_bits p i)) (sym l))
      each l r j (inr f) =
          replaced-before b (block_offset p i) y r (block_offset p j) (size_of p j) (offset-before j i f (Nat.le_of_suc-le h)) ∙ t.each j f

  pub taken-all : (x b : List ℕ) (i : ℕ) → Taken p x i b → p.m ≤ i → b ≡ data_of p x
  unfolding data_words
  taken-all x b i t l =
      blocks-parts p b (data_words p (stored_of p x)) t.exact (length-data p (stored_of p x) ∙ (stored-words p x).many)
      (λ j k. t.each j (omega arith)
      ∙ ap (digits 8 (size_of p j)) (ap (λ (c : ℕ). get_or (stored_of p x) j 0 / 2 ^ check_bits p c) (sym (Nat.zero-add j))
      ∙ sym (data-at p 0 j (stored_of p x))))
      ∙ sym (data_of-eq p x)

-- ---- one block: a sub-word's stored coefficients, moved down over its check bits
-- b bits, cut out of as many bytes as they take
pub cut_twice : (c b k : ℕ) → k ≡ (b + 7) / 8 → c % 2 ^ (8 * k) % 2 ^ b ≡ c % 2 ^ b
cut_twice c b k h = let e : 8 * k - b + b ≡ 8 * k = omega arith in rw e at (mod-mod-pow c (8 * k - b) b)

module _ (p : Parameters) (A : Accepted p) where
  pub moved_down : (y x : List ℕ) (w i k b : ℕ) → ((j : ℕ) → get_or y j 0 < 2 ^ 8) → i < p.m → w ≡ check_bits p i → b ≡ data_bits p i → k ≡ size_of p i
      → length y ≡ k → value 8 y ≡ get_or (words_of p x) i 0 / 2 ^ w % 2 ^ b → y ≡ digits 8 (size_of p i) (get_or (stored_of p x) i 0 / 2 ^ check_bits p i)
  moved_down y x w i k b l h e d f n v =
      let s : data_bits p i + check_bits p i ≡ stored p = omega (arith, check-below p A i) in
      sym (digits_value 8 y (at_all (λ d. d < 2 ^ 8) y (λ j u. l j))) ∙ ap₂ (digits 8) (n ∙ f)
      (v ∙ ap₂ (λ (s t : ℕ). get_or (words_of p x) i 0 / 2 ^ s % 2 ^ t) e d
      ∙ sym (ap (λ (c : ℕ). c / 2 ^ check_bits p i) (stored_at p x i h)
      ∙ ap (λ (n : ℕ). get_or (words_of p x) i 0 % 2 ^ n / 2 ^ check_bits p i) (sym s) ∙ field (get_or (words_of p x) i 0) (data_bits p i) (check_bits p i)))
