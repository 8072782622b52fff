-- Pages and blocks by their parts: sub-word i stands from byte i × ((n - s + 7) / 8) on, block i from byte block_offset p i on.
--   Summed p i at j    the sizes of the first j blocks of i make at
use Rattle.std.specs.Prelude.{◌≡◌, List, ℕ, zero, suc, ◌+◌, ◌*◌, ◌/◌, ◌≤◌, ◌<◌, length, get_or, take, drop}
use Rattle.std.proofs.Math.Path.{refl}
use Rattle.std.proofs.Common.{sym, ap, ap₂, ◌∙◌, zero-le, add-one, arith}
use Rattle.std.proofs.Math.Nat as Nat
use Rattle.polynomial.specs.Digits.{digits, value}
use Rattle.code.specs.declared.Parameters.{Parameters}
use Rattle.code.proofs.Accepted.{accepted}
use Rattle.code.specs.Layout.{block_offset, block_sizes, blocks_of, data_bits, data_bytes, page_bytes, word_sizes}
use Rattle.code.proofs.Bytes.{split_at}
use Rattle.code.specs.Lists.{join, sum}
use Rattle.code.proofs.Pages.{blocks_of-eq, length-blocks, length-sizes}
use Rattle.code.specs.Parameters.{Accepted, sub_word_bytes}
use Rattle.code.proofs.Placement.{block_size, offset-eq, offset-replicate, page-size}
use Rattle.layout.specs.Runs.{join-parts, sum-all, sum-le, sum-next, sum-none}
use Rattle.layout.specs.Sizes.{data-high}

pub record Summed (p : Parameters) (i at j : ℕ) : Type 0 where
  pub high : j ≤ i
  pub begins : at ≡ block_offset p j

module _ (p : Parameters) where
  -- ---- sub-words
  word-begin : (i : ℕ) → i ≤ p.m → sum (take i (word_sizes p)) ≡ i * sub_word_bytes p
  word-begin i h = offset-replicate p.m (sub_word_bytes p) i h

  -- sub-word i ends before the page does
  pub word_room : (i : ℕ) → i < p.m → i * sub_word_bytes p + sub_word_bytes p ≤ page_bytes p
  word_room i h = rw (← Nat.suc-mul i (sub_word_bytes p)) (Nat.mul-le-mul_right (sub_word_bytes p) h)

  -- a page whose sub-words are the bytes of cs
  pub page-parts : (x cs : List ℕ) → length x ≡ page_bytes p → length cs ≡ p.m
      → ((i : ℕ) → i < p.m → take (sub_word_bytes p) (drop (i * sub_word_bytes p) x) ≡ digits 8 (sub_word_bytes p) (get_or cs i 0))
      → x ≡ join (word_sizes p) cs
  page-parts x cs e l h =
      join-parts (word_sizes p) cs x (l ∙ sym (length-sizes p))
      (e ∙ sym (word-begin p.m (Nat.le_refl p.m)) ∙ sum-all (word_sizes p) p.m (length-sizes p))
      (λ i b. let k : i < p.m = rw (length-sizes p) at b in
      rw (page-size p i k, word-begin i (Nat.le_of_suc-le k)) (h i k))

  -- ---- blocks
  bytes_eq : data_bytes p ≡ sum (block_sizes p)
  unfolding data_bytes
  bytes_eq = refl

  -- where block i begins
  pub offset-zero : block_offset p 0 ≡ 0
  offset-zero = offset-eq p 0 ∙ sum-none (block_sizes p)

  pub offset-next : (i : ℕ) → i < p.m → block_offset p (i + 1) ≡ block_offset p i + (data_bits p i + 7) / 8
  offset-next i h =
      rw (add-one i)
      (offset-eq p (suc i) ∙ sum-next (block_sizes p) i (rw (length-blocks p) h) ∙ ap₂ ◌+◌ (sym (offset-eq p i)) (block_size p i h))

  -- the same by a loop over the blocks before it
  pub summed-start : (i : ℕ) → Summed p i 0 0
  summed-start i = record { high = zero-le; begins = sym offset-zero }

  pub summed_turn : (i at j k : ℕ) → Summed p i at j → j < i → i ≤ p.m → k ≡ (data_bits p j + 7) / 8 → Summed p i (at + k) (j + 1)
  summed_turn i at j k s h l e = record { high = omega arith; begins = ap₂ ◌+◌ s.begins e ∙ sym (offset-next j (omega arith)) }

  pub summed-done : (i at j : ℕ) → Summed p i at j → i ≤ j → at ≡ block_offset p i
  summed-done i at j s h = s.begins ∙ ap (block_offset p) (Nat.le_antisymm s.high h)

  pub offset-all : block_offset p p.m ≡ data_bytes p
  offset-all = offset-eq p p.m ∙ sum-all (block_sizes p) p.m (length-blocks p) ∙ sym bytes_eq

  offset-le : (i : ℕ) → block_offset p i ≤ data_bytes p
  offset-le i = rw (offset-eq p i, bytes_eq) (sum-le (block_sizes p) i)

  -- block i ends before the blocks do
  pub block_room : (i : ℕ) → i < p.m → block_offset p i + (data_bits p i + 7) / 8 ≤ data_bytes p
  block_room i h = rw (← offset-next i h) (offset-le (i + 1))

  -- the number of block i
  pub block_at : (x : List ℕ) (i : ℕ) → i < p.m
      → get_or (blocks_of p x) i 0 ≡ value 8 (take ((data_bits p i + 7) / 8) (drop (block_offset p i) x))
  block_at x i h =
      rw (blocks_of-eq p x) (split_at (block_sizes p) x i (rw (length-blocks p) h)
      ∙ ap₂ (λ (k o : ℕ). value 8 (take k (drop o x))) (block_size p i h) (sym (offset-eq p i)))

  -- blocks that are the bytes of ds
  pub blocks-parts : (x ds : List ℕ) → length x ≡ data_bytes p → length ds ≡ p.m
      → ((i : ℕ) → i < p.m → take ((data_bits p i + 7) / 8) (drop (block_offset p i) x) ≡ digits 8 ((data_bits p i + 7) / 8) (get_or ds i 0))
      → x ≡ join (block_sizes p) ds
  blocks-parts x ds e l h =
      join-parts (block_sizes p) ds x (l ∙ sym (length-blocks p)) (e ∙ bytes_eq)
      (λ i b. let k : i < p.m = rw (length-blocks p) at b in
      rw (block_size p i k, ← offset-eq p i) (h i k))

  -- ---- at most 4,096 bytes
  module _ (A : Accepted p) where
    more : (i : ℕ) → i < p.m → block_offset p i ≤ i * 512 → block_offset p (suc i) ≤ suc i * 512
    more i h l = rw (← add-one i, offset-next i h) (omega (arith, data-high p A i))

    offset-high : (i : ℕ) → i ≤ p.m → block_offset p i ≤ i * 512
    offset-high zero h = Nat.le_of_eq offset-zero
    offset-high (suc i) h = more i h (offset-high i (Nat.le_of_suc-le h))

    pub bytes_high : data_bytes p ≤ 4096
    bytes_high = omega (arith, offset-all, offset-high p.m (Nat.le_refl p.m), (accepted p A).m-high)
