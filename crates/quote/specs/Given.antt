-- The input's nine bytes: q, m, v, and where v is 1 to 3 t_0 to t_v and s, which takes two, low byte first. A missing byte is 0.
--   strength_read input a    t_a, 0 where there is none
--   shortening_read input    s, 0 where there is none
--   sheet_read input         the parameters
use Rattle.std.specs.Prelude.{◌≡◌, refl, ◌&&◌, cond, List, ℕ, ◌+◌, ◌*◌, ◌≤◌, ◌<◌, leb, get_or}
use Rattle.std.proofs.Common.{le-leb}
use Rattle.std.proofs.lemmas.Bool.{lt-leb}
use Rattle.code.specs.declared.Parameters.{Parameters}
use Rattle.code.specs.Parameters.{sheet}

abbrev pub strength_read : List ℕ → ℕ → ℕ
strength_read input a = let v = get_or input 2 0 in cond (leb 1 v && leb v 3 && leb a v) (get_or input (3 + a) 0) 0

abbrev pub shortening_read : List ℕ → ℕ
shortening_read input =
    let v = get_or input 2 0 in cond (leb 1 v && leb v 3) (get_or input (4 + v) 0 + 256 * get_or input (5 + v) 0) 0

abbrev pub sheet_read : List ℕ → Parameters
sheet_read input =
    sheet (get_or input 0 0) (get_or input 1 0) (get_or input 2 0) (strength_read input 0) (strength_read input 1) (strength_read input 2)
    (strength_read input 3) (shortening_read input)

-- ---- test by test
module _ (input : List ℕ) where
  abbrev v : ℕ
  v = get_or input 2 0

  -- s
  pub short-low : v < 1 → 0 ≡ shortening_read input
  short-low h = rw (lt-leb 1 v h) refl

  module _ (low : 1 ≤ v) where
    pub short-high : 3 < v → 0 ≡ shortening_read input
    short-high h = rw (le-leb 1 v low, lt-leb v 3 h) refl

    pub short-there : v ≤ 3 → get_or input (4 + v) 0 + 256 * get_or input (5 + v) 0 ≡ shortening_read input
    short-there h = rw (le-leb 1 v low, le-leb v 3 h) refl

  -- t_a
  module _ (a : ℕ) where
    pub read_low : v < 1 → 0 ≡ strength_read input a
    read_low h = rw (lt-leb 1 v h) refl

    module _ (low : 1 ≤ v) where
      pub read-high : 3 < v → 0 ≡ strength_read input a
      read-high h = rw (le-leb 1 v low, lt-leb v 3 h) refl

      module _ (high : v ≤ 3) where
        pub read_past : v < a → 0 ≡ strength_read input a
        read_past h = rw (le-leb 1 v low, le-leb v 3 high, lt-leb a v h) refl

        pub read-there : a ≤ v → get_or input (3 + a) 0 ≡ strength_read input a
        read-there h = rw (le-leb 1 v low, le-leb v 3 high, le-leb a v h) refl

pub sheet-read : (input : List ℕ) (t0 t1 t2 t3 s : ℕ) → t0 ≡ strength_read input 0 → t1 ≡ strength_read input 1 → t2 ≡ strength_read input 2
    → t3 ≡ strength_read input 3 → s ≡ shortening_read input
    → sheet (get_or input 0 0) (get_or input 1 0) (get_or input 2 0) t0 t1 t2 t3 s ≡ sheet_read input
sheet-read input t0 t1 t2 t3 s e0 e1 e2 e3 e4 = rw (e0, e1, e2, e3, e4) refl
