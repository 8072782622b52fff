-- Sub-words as parts of a page, and the numbers they are.
use Rattle.std.specs.Prelude.{◌≡◌, List, ℕ, ◌+◌, ◌-◌, ◌*◌, ◌^◌, ◌≤◌, ◌<◌, T, length, get_or, take, drop}
use Rattle.std.proofs.Common.{ap, ◌∙◌, arith, length-drop}
use Rattle.std.proofs.Math.Nat as Nat
use Rattle.polynomial.specs.Digits.{value}
use Rattle.polynomial.specs.Sums.{all-at, at_all}
use Rattle.code.specs.declared.Parameters.{Parameters}
use Rattle.code.proofs.Accepted.{accepted}
use Rattle.code.specs.Layout.{IsPage, page_bytes, page_clear, words_of}
use Rattle.code.proofs.Pages.{page-words}
use Rattle.code.specs.Parameters.{Accepted, stored, sub_word_bytes}
use Rattle.kernels.specs.Value.{bounded-drop, take-lt}
use Rattle.code.proofs.Placement.{word_at}
use Rattle.layout.specs.Parts.{word_room}
use Rattle.layout.specs.Sizes.{page-high}

-- a page's bytes
pub is-page : (p : Parameters) (x : List ℕ) → ((i : ℕ) → get_or x i 0 < 2 ^ 8) → length x ≡ page_bytes p → T (page_clear p x) → IsPage p x
is-page p x b e c = record { bytes = at_all (λ d. d < 256) x (λ i h. b i); exact = e; clear = c }

module _ (p : Parameters) (A : Accepted p) where
  -- sub-word i, as a part of the page
  pub part-is : (x : List ℕ) → IsPage p x → (i : ℕ) → i < p.m
      → value 8 (take (sub_word_bytes p) (drop (i * sub_word_bytes p) x)) < 2 ^ stored p
  part-is x h i l =
      let w = page-words p (accepted p A) x h in
      rw (word_at p x i l) at (all-at (λ c. c < 2 ^ stored p) (words_of p x) w.below i (omega (arith, w.many)))

  -- sub-word i of any bytes, as a number
  pub word_lt : (x : List ℕ) → ((i : ℕ) → get_or x i 0 < 2 ^ 8) → length x ≡ page_bytes p → (i : ℕ) → i < p.m
      → get_or (words_of p x) i 0 < 2 ^ (8 * sub_word_bytes p)
  word_lt x b e i h =
      let k = sub_word_bytes p in
      rw (word_at p x i h)
      (take-lt 8 (drop (i * k) x) (bounded-drop 8 x b (i * k)) k (rw (length-drop (i * k) x, e) (omega (arith, word_room p i h))))

  -- sub-word i of k bytes lies within the page, which is small
  pub part_room : (i k : ℕ) → k ≡ sub_word_bytes p → i < p.m → i * k + k ≤ page_bytes p
  part_room i k e h = rw e (word_room p i h)

  pub part_small : (i k : ℕ) → k ≡ sub_word_bytes p → i < p.m → i * k + k ≤ 4096
  part_small i k e h = Nat.le_trans (part_room i k e h) (page-high p A)

  -- the part of the page that the program takes
  pub part_same : (x : List ℕ) (i k : ℕ) → k ≡ sub_word_bytes p
      → take (i * k + k - i * k) (drop (i * k) x) ≡ take (sub_word_bytes p) (drop (i * sub_word_bytes p) x)
  part_same x i k e =
      let a : i * k + k - i * k ≡ k = omega arith in
      ap (λ (j : ℕ). take j (drop (i * k) x)) a ∙ ap (λ (j : ℕ). take j (drop (i * j) x)) e
