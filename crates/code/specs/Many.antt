-- What a call that writes many pages is lent.
--   Lent p L n b s l     a width, 1 to 16 pages, and buffers of exact length
use Rattle.std.specs.Prelude.{◌≡◌, ℕ, ◌*◌, ◌≤◌}
use Rattle.code.specs.declared.Parameters.{Parameters}
use Rattle.code.specs.Layout.{data_bytes, page_bytes}
use Rattle.code.specs.Refused.{Width}

-- ---- the refusal of the whole call
pub record Lent (p : Parameters) (L count blocks pages list : ℕ) : Type 0 where
  pub width : Width L
  pub low : 1 ≤ count
  pub high : count ≤ 16
  pub blocks-exact : blocks ≡ count * data_bytes p
  pub pages-exact : pages ≡ count * page_bytes p
  pub list-exact : list ≡ count
