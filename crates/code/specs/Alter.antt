-- One bit of a page altered.
--   altered_blocks p a i r b   the blocks a, bit r of block i being b
--   alone p i d, units p i r   the words of the page of block i alone, d; of its bit r
--   Alterable p x i r b        what is lent and named can be altered
use Rattle.std.specs.Prelude.{◌≡◌, cond, List, ℕ, ◌^◌, ◌≤◌, ◌<◌, T, eqb, length}
use Rattle.polynomial.specs.Sums.{add}
use Rattle.code.specs.declared.Parameters.{Parameters}
use Rattle.code.specs.Code.{encode}
use Rattle.code.specs.Layout.{block_bit}
use Rattle.code.specs.Layout.{data_bits, one_bit, one_block, page_bytes, page_clear, single}

-- the blocks with that bit altered
unfoldable pub altered_blocks : Parameters → List ℕ → ℕ → ℕ → ℕ → List ℕ
unfolding one_block
altered_blocks p a i r b = cond (eqb (block_bit p a i r) b) a (add a (one_bit p i r))

-- the words of that page
abbrev pub alone : Parameters → ℕ → ℕ → List ℕ
alone p i d = encode p (single p i d)

abbrev pub units : Parameters → ℕ → ℕ → List ℕ
units p i r = alone p i (2 ^ r)

-- ---- the refusal
pub record Alterable (p : Parameters) (x : List ℕ) (i r b : ℕ) : Type 0 where
  pub exact : length x ≡ page_bytes p
  pub clear : T (page_clear p x)
  pub block : i < p.m
  pub bit : r < data_bits p i
  pub value : b ≤ 1
