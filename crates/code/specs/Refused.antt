-- What a call of write is lent: a width, and buffers of exact length.
--   Width L              L is 1 to 64
--   PageBuffer p old     as long as a page; BlocksBuffer p old: as long as the blocks
use Rattle.std.specs.Prelude.{◌≡◌, List, ℕ, ◌≤◌, length}
use Rattle.code.specs.declared.Parameters.{Parameters}
use Rattle.code.specs.Layout.{data_bytes, page_bytes}

pub record Width (L : ℕ) : Type 0 where
  pub low : 1 ≤ L
  pub high : L ≤ 64

abbrev pub PageBuffer : Parameters → List ℕ → Type 0
PageBuffer p old = length old ≡ page_bytes p

abbrev pub BlocksBuffer : Parameters → List ℕ → Type 0
BlocksBuffer p old = length old ≡ data_bytes p
