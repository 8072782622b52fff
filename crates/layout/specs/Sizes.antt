-- The numbers of accepted parameters: degrees, check and data bits, and their bounds.
--   nested_places p the places of a nested word that can be other than 0, all others being so
--   Degrees p w    w holds the degrees w_0 to w_v of the generators, in four places; those past v are 0
use Rattle.std.specs.Prelude.{◌≡◌, refl, List, [], ◌∷◌, ℕ, ◌+◌, ◌-◌, ◌*◌, ◌/◌, ◌%◌, ◌^◌, ◌≤◌, ◌<◌, min, length, get_or}
use Rattle.std.proofs.Common.{◌∙◌, zero-le, suc-le-suc, arith, lit≤, lit<, shl_exact}
use Rattle.std.proofs.Math.Nat as Nat
use Rattle.field.specs.Fields.{BinaryField, field_of, field_of-exponent, by-known}
use Rattle.generator.specs.Exponents.{exponents}
use Rattle.generator.specs.Exponents.{exponents-mem}
use Rattle.generator.specs.Generator.{width, width-eq}
use Rattle.generator.specs.Distinct.{Mem}
use Rattle.code.specs.declared.Parameters.{Parameters}
use Rattle.code.specs.Accepted.{Rules}
use Rattle.code.proofs.Accepted.{accepted, rising, stored-le, stored-room}
use Rattle.code.specs.Code.{check_bits, degree, level}
use Rattle.code.specs.Layout.{data_bits, page_bytes}
use Rattle.code.specs.Parameters.{Accepted, len, nested_bytes, stored, strength, sub_word_bytes}
use Rattle.code.proofs.Steps.{degree-eq}

pub record Degrees (p : Parameters) (w : List ℕ) : Type 0 where
  pub four : length w ≡ 4
  pub at : (a : ℕ) → a ≤ p.v → get_or w a 0 ≡ degree p a
  pub past : (a : ℕ) → p.v < a → get_or w a 0 ≡ 0

abbrev pub nested_places : Parameters → ℕ
nested_places p = min (len p) (8 * sub_word_bytes p + 14)

pub level-low : (p : Parameters) (i : ℕ) → level p i ≤ p.v
level-low p i = Nat.sub-le p.v i

-- 2^k as a shift of 1
pub shifted : (k : ℕ) → k < 64 → 1 * 2 ^ k % 2 ^ 64 ≡ 2 ^ k
shifted k h = shl_exact 1 k 64 (lit< tt) (omega arith) ∙ Nat.one-mul (2 ^ k)

-- ---- a generator of positive strength has a positive degree
mem-pos : (a : ℕ) (l : List ℕ) → Mem a l → 1 ≤ length l
mem-pos a [] m = absurd m
mem-pos a (x ∷ l) m = suc-le-suc zero-le

width-pos : (B : BinaryField) (t : ℕ) → 0 < B.q → 1 ≤ t → 1 ≤ width B t
width-pos B t h l =
    rw (width-eq B t) (mem-pos (1 * 2 ^ 0 % B.n) (exponents B.n B.q t) (exponents-mem B.n B.q t 1 0 (lit< tt) (omega arith) h))

module _ (p : Parameters) (A : Accepted p) where
  R : Rules p
  R = accepted p A

  pub stored_low : 1 ≤ stored p
  stored_low = omega (arith, stored-room p R 0 zero-le)

  -- s is below n
  pub short-below : p.s < len p
  short-below = omega (arith, stored_low)

  pub length_high : len p < 4096
  length_high = by-known (λ q. 2 ^ q - 1 < 4096) (lit< tt) (lit< tt) (lit< tt) p.q R.known

  pub length-low : 15 ≤ len p
  length-low = by-known (λ q. 15 ≤ 2 ^ q - 1) (lit≤ tt) (lit≤ tt) (lit≤ tt) p.q R.known

  pub stored-high : stored p < 4096
  stored-high = Nat.lt_of_le_of_lt (stored-le p R) length_high

  -- a nested word's bytes have one bit more than the cyclic length, and a sub-word has no more bytes
  pub bits-all : 8 * nested_bytes p ≡ len p + 1
  bits-all = by-known (λ q. 8 * (2 ^ q / 8) ≡ 2 ^ q - 1 + 1) refl refl refl p.q R.known

  pub word-nested : sub_word_bytes p ≤ nested_bytes p
  word-nested = omega (arith, bits-all)

  pub nested-high : nested_bytes p ≤ 512
  nested-high = by-known (λ q. 2 ^ q / 8 ≤ 512) (lit≤ tt) (lit≤ tt) (lit≤ tt) p.q R.known

  pub word-high : sub_word_bytes p ≤ 512
  word-high = Nat.le_trans word-nested nested-high

  pub page-high : page_bytes p ≤ 4096
  page-high = Nat.mul-le-mul {n₂ = 8} {m₂ = 512} R.m-high word-high

  pub places-high : nested_places p < 4096
  places-high = omega (arith, length_high)

  -- ---- check and data bits of sub-word i
  strength-low : (a : ℕ) → a ≤ p.v → 1 ≤ strength p a
  strength-low a h = Nat.le_trans R.t-low (rising p R 0 a zero-le h)

  pub check-low : (i : ℕ) → 1 ≤ check_bits p i
  check-low i =
      rw (degree-eq p (level p i)) (width-pos (field_of p.q) (strength p (level p i))
      (rw (field_of-exponent p.q R.known) (by-known (λ q. 0 < q) (lit< tt) (lit< tt) (lit< tt) p.q R.known))
      (strength-low (level p i) (level-low p i)))

  -- no block is empty
  pub check-below : (i : ℕ) → check_bits p i < stored p
  check-below i = stored-room p R (level p i) (level-low p i)

  pub data-low : (i : ℕ) → 1 ≤ data_bits p i
  data-low i = omega (arith, check-below i)

  pub data-high : (i : ℕ) → data_bits p i < 4096
  data-high i = omega (arith, stored-high)

  -- the check bits' number among the degrees
  pub check-at : (w : List ℕ) → Degrees p w → (i : ℕ) → get_or w (level p i) 0 ≡ check_bits p i
  check-at w D i = D.at (level p i) (level-low p i)

  pub check-place : (w : List ℕ) → Degrees p w → (i : ℕ) → level p i < length w
  check-place w D i = omega (arith, D.four, level-low p i, R.v_high)
