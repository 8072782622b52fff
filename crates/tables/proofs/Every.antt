-- A test at each place of a list.
--   every f i l    f passes at each place and entry of l, the places counted from i
use mathlib.Core.Bool.{Bool, true, ◌&&◌}
use mathlib.Core.List.{List, [], ◌∷◌}
use Prim.Native.Nat.{ℕ, zero, suc, ◌+◌, ◌<◌}
use native.Mathlib.Nat.{add-zero, zero-add, add-suc, suc-add, le_of_suc-le-suc, not-suc-le-zero}
use lib.Dec.{T}
use lib.ListN.{length, get_or}
use Rattle.field.specs.Irreducible.{both}

abbrev pub every : (ℕ → ℕ → Bool) → ℕ → List ℕ → Bool
every f i [] = true
every f i (x ∷ l) = f i x && every f (suc i) l

module _ (f : ℕ → ℕ → Bool) where
  later : (i k x : ℕ) → T (f (k + suc i) x) → T (f (suc k + i) x)
  later i k x h = rw (suc-add k i, ← add-suc k i) h

  from : (l : List ℕ) (i : ℕ) → T (every f i l) → (k : ℕ) → k < length l → T (f (k + i) (get_or l k 0))
  from [] i h k b = absurd (not-suc-le-zero b)
  from (x ∷ l) i h zero b = rw (zero-add i) (both (f i x) (every f (suc i) l) h).0
  from (x ∷ l) i h (suc k) b = later i k (get_or l k 0) (from l (suc i) (both (f i x) (every f (suc i) l) h).1 k (le_of_suc-le-suc b))

  pub at : (l : List ℕ) → T (every f 0 l) → (k : ℕ) → k < length l → T (f k (get_or l k 0))
  at l h k b = rw add-zero at (from l 0 h k b)
