-- A level made ready: its generator's row, its degree, and the table of the generator moved up to degree 768.
--   RowOf p a g         the row g is level a's generator
--   Prepared p a t      t is the table of level a's generator
--   Counted p k w       the first k places of w hold the degrees of levels 0 to k - 1, and the rest 0
use Rattle.std.specs.Prelude.{◌≡◌, List, [], ℕ, ◌+◌, ◌-◌, ◌*◌, ◌^◌, ◌≤◌, ◌<◌, length, get_or, set, replicate}
use Rattle.std.proofs.Common.{ap, ◌∙◌, add-one, arith}
use Rattle.polynomial.specs.Digits.{value}
use Rattle.polynomial.specs.Division.{Deg, deg, deg-is, deg-unique, lt-of-deg}
use Rattle.polynomial.specs.Multiple.{deg-pos}
use Rattle.kernels.specs.Move.{align-deg}
use Rattle.kernels.specs.Row.{D, D-is}
use Rattle.reduction.specs.Table.{Table, MovedUp, moved_up, RemainderBy}
use Rattle.code.specs.declared.Parameters.{Parameters}
use Rattle.code.specs.Accepted.{Rules}
use Rattle.code.proofs.Accepted.{accepted, degree-high, degree-of}
use Rattle.code.proofs.Buffers.{row_back, row-length}
use Rattle.code.specs.Calls.{generators}
use Rattle.code.specs.Code.{gen, degree, remainder}
use Rattle.code.specs.Parameters.{Accepted}
use Rattle.layout.specs.Sizes.{Degrees, check-low}
use Rattle.generator_rows.specs.Rows.{Filled, filled-start, filled_next}

pub record RowOf (p : Parameters) (a : ℕ) (g : List ℕ) : Type 0 where
  pub words : length g ≡ 13
  pub is : value 64 g ≡ gen p a

pub record Prepared (p : Parameters) (a : ℕ) (t : List ℕ) : Type 0 where
  pub words : length t ≡ 3072
  pub table : Table (gen p a * 2 ^ (768 - degree p a)) t

-- the generator is moved up
pub prepared-up : (p : Parameters) (a w : ℕ) (t : List ℕ) → w ≡ degree p a → Prepared p a t → MovedUp t (768 - w)
prepared-up p a w t e P = rw e (moved_up (gen p a) (768 - degree p a) t P.table)

module _ (p : Parameters) (A : Accepted p) where
  R : Rules p
  R = accepted p A

  pub row_of : (a : ℕ) → a ≤ p.v → RowOf p a (get_or (generators p) a [])
  row_of a h = record { words = row-length p R A a h; is = row_back p R A a h }

  pub row-at : (rows : List (List ℕ)) (a : ℕ) → rows ≡ generators p → a ≤ p.v → RowOf p a (get_or rows a [])
  row-at rows a e h = rw e (row_of a h)

  pub level-lt : (a : ℕ) → a ≤ p.v → a < 4
  level-lt a h = omega (arith, R.v_high)

  -- every level has a root
  pub degree-low : (a : ℕ) → a ≤ p.v → 1 ≤ degree p a
  degree-low a h = let e : p.v - (p.v - a) ≡ a = omega arith in rw e at (check-low p A (p.v - a))

  pub gen-pos : (a : ℕ) → a ≤ p.v → 0 < gen p a
  gen-pos a h = deg-pos (gen p a) (degree p a) (degree-of p R a h)

  pub deg-gen : (a : ℕ) → a ≤ p.v → deg (gen p a) ≡ degree p a
  deg-gen a h = deg-unique (gen p a) (deg (gen p a)) (degree p a) (deg-is (gen p a) (gen-pos a h)) (degree-of p R a h)

  pub row-deg : (g : List ℕ) (a : ℕ) → a ≤ p.v → RowOf p a g → deg (value 64 g) ≡ degree p a
  row-deg g a h r = ap deg r.is ∙ deg-gen a h

  -- a row's bound, for moving it up
  pub row_lt : (a : ℕ) → a ≤ p.v → gen p a < 2 ^ (degree p a + 1)
  row_lt a h = rw add-one (lt-of-deg (degree p a) (degree-of p R a h))

  pub prepared : (g r t : List ℕ) (a w : ℕ) → a ≤ p.v → w ≡ degree p a → RowOf p a g → value 64 r ≡ value 64 g * 2 ^ (768 - w)
      → length t ≡ 3072 → Table (value 64 r) t → Prepared p a t
  prepared g r t a w h e G f l T =
      record { words = l; table = rw (f ∙ ap (λ (y : ℕ). y * 2 ^ (768 - w)) G.is ∙ ap (λ (k : ℕ). gen p a * 2 ^ (768 - k)) e) at T }

  pub aligned-deg : (g r : List ℕ) (a w : ℕ) → a ≤ p.v → w ≡ degree p a → RowOf p a g → value 64 r ≡ value 64 g * 2 ^ (768 - w)
      → Deg (value 64 r) D
  aligned-deg g r a w h e G f =
      rw (f ∙ ap (λ (y : ℕ). y * 2 ^ (768 - w)) G.is ∙ ap (λ (k : ℕ). gen p a * 2 ^ (768 - k)) e)
      (align-deg (gen p a) (degree p a) (degree-of p R a h) (degree-high p R a h))

  -- remainders by the table
  pub table-remainder : (a w f r : ℕ) (t : List ℕ) → a ≤ p.v → w ≡ degree p a → Prepared p a t → RemainderBy t (768 - w) f r
      → r ≡ remainder p a f
  table-remainder a w f r t h e P Q =
      let k : degree p a + (768 - w) ≡ D = omega (arith, degree-high p R a h, D-is) in
      Q.rest (gen p a) (degree p a) (degree-of p R a h) k (rw e P.table)

-- ---- the degrees, one by one
abbrev pub Counted : Parameters → ℕ → List ℕ → Type 0
Counted p k w = Filled (degree p) k w

pub counted_start : (p : Parameters) → Counted p 0 (replicate 4 0)
counted_start p = filled-start (degree p) 4

pub counted_next : (p : Parameters) (k d : ℕ) (w : List ℕ) → k < length w → Counted p k w → d ≡ degree p k → Counted p (k + 1) (set w k d)
counted_next p = filled_next (degree p)

pub counted-all : (p : Parameters) (k : ℕ) (w : List ℕ) → length w ≡ 4 → k ≡ p.v + 1 → Counted p k w → Degrees p w
counted-all p k w e h c = record { four = e; at = λ a l. c.first a (omega arith); past = λ a l. c.rest a (omega arith) }
