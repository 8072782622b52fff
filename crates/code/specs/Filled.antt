-- A list filled from its front.
--   Filled f k l    the first k entries of l are f 0, f 1, ..
use Rattle.std.specs.Prelude.{◌≡◌, List, ℕ, ◌<◌, get_or}

pub record Filled (f : ℕ → ℕ) (k : ℕ) (l : List ℕ) : Type 0 where
  pub is : (i : ℕ) → i < k → get_or l i 0 ≡ f i
