-- Powers of α as numbers, in the field of a known q; n = 2^q - 1 is the order of α.
--   double q x    α times x, by a shift and at most one sum
use Rattle.std.specs.Prelude.{◌≡◌, Bool, true, false, ℕ, ◌-◌, ◌*◌, ◌/◌, ◌^◌, ◌≤◌, ◌<◌, ltb}
use Rattle.std.proofs.Math.Path.{refl, sym, ap}
use Rattle.std.proofs.Common.{◌∙◌, arith, pow_pos, ltb-true, ltb-false}
use Rattle.std.proofs.Math.Nat as Nat
use Rattle.polynomial.specs.Clmul.{clmul-pow, clmul-one-l}
use Rattle.polynomial.specs.Division.{Deg, rem, rem-small, rem_of, lt-of-shr, xor_shr}
use Rattle.polynomial.specs.Xor.{xor, xor_self, xor-cancel}
use Rattle.field.specs.Field.{pow}
use Rattle.field.specs.Fields.{Known, field_of, field_polynomial, field_of-exponent, field_of-length, polynomial-degree}
use Rattle.field.specs.Powers.{pow-inj}
use Rattle.field.specs.Elements.{times, times-eq, power, power-num}

abbrev pub double_by : Bool → ℕ → ℕ → ℕ
double_by true y g = y
double_by false y g = xor g y

unfoldable pub double : ℕ → ℕ → ℕ
unfolding field_polynomial xor
double q x = let y = x * 2 in double_by (ltb y (2 ^ q)) y (field_polynomial q)

-- ---- the reduction of y = 2 x by g of degree q
module _ (g q : ℕ) (d : Deg g q) where
  lone : (y : ℕ) → 2 ^ q ≤ y → y < 2 * 2 ^ q → Deg y q
  lone y h l =
      let a : 1 ≤ y / 2 ^ q = (Nat.le-div_iff_mul-le {x = 1} {y = y} (pow_pos q)).1 (rw (Nat.one-mul (2 ^ q)) h) in
      let b : y / 2 ^ q < 2 = (Nat.div-lt_iff_lt-mul {x = y} {y = 2} (pow_pos q)).1 l in
      omega arith

  reduce : (y : ℕ) (b : Bool) → ltb y (2 ^ q) ≡ b → y < 2 * 2 ^ q → double_by b y g ≡ rem g q y
  reduce y true e l = sym (rem-small g q d y (ltb-true y (2 ^ q) e))
  reduce y false e l =
      sym (rem_of g q d y 1 (xor g y) (sym (rw (clmul-one-l g) (xor-cancel g y)))
      (lt-of-shr q (xor_shr g y q ∙ rw (d, lone y (ltb-false y (2 ^ q) e) l) (xor_self 1))))

module _ (q : ℕ) (known : Known q) where
  open field_of q use {field, num, num-lt, num-inj, α}

  pub double-is : (x : ℕ) → x < 2 ^ q → double q x ≡ times q 2 x
  unfolding double
  double-is x h =
      reduce (field_polynomial q) q (polynomial-degree q known) (x * 2) (ltb (x * 2) (2 ^ q)) refl (omega arith)
      ∙ ap (rem (field_polynomial q) q) (sym (clmul-pow 1 x)) ∙ sym (times-eq q 2 x)

  pub power-lt : (k : ℕ) → power q k < 2 ^ q
  power-lt k = rw (power-num q known k, field_of-exponent q known) at (num-lt (pow field α k))

  -- no power repeats
  pub power-inj : (j k : ℕ) → j < 2 ^ q - 1 → k < 2 ^ q - 1 → power q j ≡ power q k → j ≡ k
  power-inj j k hj hk e =
      pow-inj (field_of q) j k (rw (field_of-length q known) hj) (rw (field_of-length q known) hk)
      (num-inj (pow field α j) (pow field α k) (power-num q known j ∙ e ∙ sym (power-num q known k)))
