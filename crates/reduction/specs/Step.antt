-- What a step of a register r by a table t takes. All is a multiple of x^p: r, and the generator whose table t is.
--   Reducing r t p    r has 13 words and t has 3072, and p is at most 768
--   Stepping r t p    the same with p below 768, and r below x^768
--   Adding v t f      v has 12 words and t has 3072; rows are added from word f on, f at most 12
--   RowFrom t at f    a row of t stands at `at`, and its f lowest words are 0
use Rattle.std.specs.Prelude.{◌≡◌, List, ℕ, ◌+◌, ◌%◌, ◌^◌, ◌≤◌, ◌<◌, length}
use Rattle.std.proofs.Common.{arith}
use Rattle.polynomial.specs.Digits.{value}
use Rattle.kernels.specs.Row.{D}
use Rattle.kernels.specs.Shift.{low-less}
use Rattle.reduction.specs.Table.{Clear, MovedUp, moved-less}

pub record Reducing (r t : List ℕ) (p : ℕ) : Type 0 where
  pub words : length r ≡ 13
  pub table : length t ≡ 3072
  pub place : p ≤ 768
  pub moved : MovedUp t p
  pub low : value 64 r % 2 ^ p ≡ 0

pub record Stepping (r t : List ℕ) (p : ℕ) : Type 0 where
  pub words : length r ≡ 13
  pub table : length t ≡ 3072
  pub place : p < 768
  pub small : value 64 r < 2 ^ D
  pub moved : MovedUp t p
  pub low : value 64 r % 2 ^ p ≡ 0

pub record Adding (v t : List ℕ) (f : ℕ) : Type 0 where
  pub words : length v ≡ 12
  pub table : length t ≡ 3072
  pub from : f ≤ 12

pub record RowFrom (t : List ℕ) (at f : ℕ) : Type 0 where
  pub inside : at + 12 ≤ 3072
  pub clear : Clear t at f

-- a multiple of x^p is one of each lower power
pub reducing-less : (r t : List ℕ) (p k : ℕ) → k ≤ p → Reducing r t p → Reducing r t k
reducing-less r t p k h s = record {
  words = s.words;
  table = s.table;
  place = omega (arith, s.place);
  moved = moved-less t p k h s.moved;
  low = low-less (value 64 r) p k h s.low;
}

pub stepping-less : (r t : List ℕ) (p k : ℕ) → k ≤ p → Stepping r t p → Stepping r t k
stepping-less r t p k h s = record {
  words = s.words;
  table = s.table;
  place = omega (arith, s.place);
  small = s.small;
  moved = moved-less t p k h s.moved;
  low = low-less (value 64 r) p k h s.low;
}
