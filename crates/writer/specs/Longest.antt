-- The longest accepted input has 4,092 bytes: 4, the v + 1 strengths and the blocks.
--   largest    the sheet whose input has as many
use Rattle.std.specs.Prelude.{◌≡◌, refl, [], ◌∷◌, map, ℕ, zero, suc, ◌+◌, ◌-◌, ◌*◌, ◌/◌, ◌^◌, ◌≤◌, ◌<◌, length}
use Rattle.std.proofs.Common.{sym, ap, ◌∙◌, inr, zero-le, add-one, arith, lit≤}
use Rattle.std.proofs.Math.Nat as Nat
use Rattle.std.proofs.Math.Decide.{dec_lt}
use Rattle.field.specs.Fields.{Known, field_of, field_of-exponent, field_of-length, by-known}
use Rattle.generator.specs.Exponents.{exponents, row, values}
use Rattle.generator.specs.Generator.{width, width-eq}
use Rattle.generator.proofs.Generator.{width-mono}
use Rattle.generator.specs.Distinct.{distinct}
use Rattle.code.specs.declared.Parameters.{Parameters}
use Rattle.code.specs.Accepted.{Rules}
use Rattle.code.proofs.Accepted.{accepted, rising}
use Rattle.code.specs.Code.{check_bits, degree, level}
use Rattle.code.specs.Layout.{block_offset, block_sizes, data_bits, data_bytes}
use Rattle.code.specs.Lists.{range, sum}
use Rattle.code.proofs.Pages.{block_bits-eq, block_sizes-eq}
use Rattle.code.specs.Parameters.{Accepted, len, sheet_refusal, strength}
use Rattle.code.proofs.Steps.{degree-eq}
use Rattle.layout.specs.Parts.{offset-all, offset-next, offset-zero}

-- ---- the degrees of strengths 1 and 2 at q = 12 are 12 and 24
many-one : length (exponents 4095 12 1) ≡ 12
unfolding exponents distinct values row
many-one = refl

many-two : length (exponents 4095 12 2) ≡ 24
unfolding exponents distinct values row
many-two = refl

width-twelve : (t : ℕ) → width (field_of 12) t ≡ length (exponents 4095 12 t)
width-twelve t = width-eq (field_of 12) t ∙ rw (field_of-exponent 12 (inr (inr refl)), field_of-length 12 (inr (inr refl))) refl

-- ---- data bits: at most 4,095 less c, if there are c check bits at q = 12
data-most : (q w c : ℕ) → Known q → c ≤ 24 → (q ≡ 12 → c ≤ w) → 2 ^ q - 1 - w ≤ 4095 - c
data-most q w c known l =
    by-known (λ q. (q ≡ 12 → c ≤ w) → 2 ^ q - 1 - w ≤ 4095 - c) (λ h. omega arith) (λ h. omega arith)
    (λ h. let k : c ≤ w = h refl in omega arith)
    q known

-- ---- one block more of k bytes, after o of them
one-first : (o k i v : ℕ) → o + 2 * (i - (i - v)) ≤ i * 511 → k ≤ 509 → i < v → o + k + 2 * (i + 1 - (i + 1 - v)) ≤ (i + 1) * 511
one-first o k i v l h b = omega arith

one_more : (o k i v : ℕ) → o + 2 * (i - (i - v)) ≤ i * 511 → k ≤ 511 → v ≤ i → o + k + 2 * (i + 1 - (i + 1 - v)) ≤ (i + 1) * 511
one_more o k i v l h b = omega arith

module _ (p : Parameters) (A : Accepted p) where
  R : Rules p
  R = accepted p A

  level-low : (i : ℕ) → level p i ≤ p.v
  level-low i = Nat.sub-le p.v i

  -- check bits at q = 12, where the level's strength is at least t
  check-least : (t c i : ℕ) → length (exponents 4095 12 t) ≡ c → t ≤ strength p (level p i) → p.q ≡ 12 → c ≤ check_bits p i
  check-least t c i e h f =
      rw (degree-eq p (level p i), f)
      (Nat.le_trans (Nat.le_of_eq (sym (width-twelve t ∙ e))) (width-mono (field_of 12) t (strength p (level p i)) h))

  block-all : (i : ℕ) → (data_bits p i + 7) / 8 ≤ 511
  block-all i =
      let b : len p - check_bits p i ≤ 4095 - 12 = data-most p.q (check_bits p i) 12 R.known (lit≤ tt)
      (check-least 1 12 i many-one (Nat.le_trans R.t-low (rising p R 0 (level p i) zero-le (level-low i)))) in
      omega arith

  block-first : (i : ℕ) → i < p.v → (data_bits p i + 7) / 8 ≤ 509
  block-first i h =
      let l : 1 ≤ level p i = omega arith in
      let s : 2 ≤ strength p 1 = omega (arith, R.t-apart, R.t-low) in
      let b : len p - check_bits p i ≤ 4095 - 24 = data-most p.q (check_bits p i) 24 R.known (lit≤ tt)
      (check-least 2 24 i many-two (Nat.le_trans s (rising p R 1 (level p i) l (level-low i)))) in
      omega arith

  -- ---- the blocks before block i: two bytes less for each of the first v
  more : (i : ℕ) → i < p.m → block_offset p i + 2 * (i - (i - p.v)) ≤ i * 511
      → block_offset p (suc i) + 2 * (suc i - (suc i - p.v)) ≤ suc i * 511
  more i h l = rw (← add-one i, offset-next p i h) (go (dec_lt i p.v))
    where
      go : Dec (i < p.v) → block_offset p i + (data_bits p i + 7) / 8 + 2 * (i + 1 - (i + 1 - p.v)) ≤ (i + 1) * 511
      go (yes b) = one-first (block_offset p i) ((data_bits p i + 7) / 8) i p.v l (block-first i b) b
      go (no n) =
          let b : p.v ≤ i = Nat.le_of_suc-le-suc (Nat.lt_of_not-le (λ k. n k)) in one_more (block_offset p i) ((data_bits p i + 7) / 8) i p.v l (block-all i) b

  offset-most : (i : ℕ) → i ≤ p.m → block_offset p i + 2 * (i - (i - p.v)) ≤ i * 511
  offset-most zero h = omega (arith, offset-zero p)
  offset-most (suc i) h = more i h (offset-most i (Nat.le_of_suc-le h))

  pub longest : 4 + (p.v + 1) + data_bytes p ≤ 4092
  longest = omega (arith, offset-all p, offset-most p.m (Nat.le_refl p.m), R.m-high, R.m-low, R.v_low)

-- ---- and such an input there is
abbrev pub largest : Parameters
largest = record { q = 12; m = 8; v = 1; t0 = 1; t1 = 2; t2 = 0; t3 = 0; s = 0 }

pub largest-accepted : Accepted largest
unfolding sheet_refusal
largest-accepted = refl

degree-zero : degree largest 0 ≡ 12
degree-zero = degree-eq largest 0 ∙ width-twelve 1 ∙ many-one

degree-one : degree largest 1 ≡ 24
degree-one = degree-eq largest 1 ∙ width-twelve 2 ∙ many-two

sizes : block_sizes largest ≡ 509 ∷ 511 ∷ 511 ∷ 511 ∷ 511 ∷ 511 ∷ 511 ∷ 511 ∷ []
unfolding range
sizes = block_sizes-eq largest ∙ ap (map (λ b. (b + 7) / 8)) (block_bits-eq largest) ∙ rw (degree-zero, degree-one) refl

bytes_eq : data_bytes largest ≡ sum (block_sizes largest)
unfolding data_bytes
bytes_eq = refl

pub longest-reached : 4 + (largest.v + 1) + data_bytes largest ≡ 4092
unfolding sum
longest-reached = rw (bytes_eq, sizes) refl
