-- The divisor of short remainders, g_(v-l) / g_0, as a row.
use Rattle.std.specs.Prelude.{◌≡◌, refl, List, ℕ, ◌-◌, ◌^◌, ◌≤◌, ◌<◌}
use Rattle.std.proofs.Common.{sym, ◌∙◌, zero-le, arith}
use Rattle.std.proofs.Math.Path.{ap, ap₂}
use Rattle.std.proofs.Math.Nat as Nat
use Rattle.polynomial.specs.Digits.{value}
use Rattle.polynomial.specs.Division.{Deg, deg, quot, rem}
use Rattle.polynomial.specs.Multiple.{multiple-deg}
use Rattle.kernels.specs.Row.{D}
use Rattle.code.specs.declared.Parameters.{Parameters}
use Rattle.code.specs.Accepted.{Rules}
use Rattle.code.proofs.Accepted.{accepted, degree-of, degree-high}
use Rattle.code.proofs.Buffers.{divides-up, divisor-deg, divisor-degree}
use Rattle.code.specs.Code.{gen, degree, divisor}
use Rattle.code.specs.Parameters.{Accepted}
use Rattle.levels.specs.Ready.{RowOf}
use Rattle.word.specs.Row.{remainder-room}

module _ (p : Parameters) (A : Accepted p) (l : ℕ) where
  R : Rules p
  R = accepted p A

  top-low : p.v - l ≤ p.v
  top-low = Nat.sub-le p.v l

  -- ---- the quotient of the rows of levels a = v - l and 0, of degrees u and w
  module _ (a u w : ℕ) (k : a ≡ p.v - l) (eu : u ≡ degree p a) (ew : w ≡ degree p 0) where
    low : a ≤ p.v
    low = rw k top-low

    -- g_0 has no higher degree
    pub degree-rises : w ≤ u
    degree-rises =
        rw (eu, ew) (multiple-deg (gen p 0) (degree p 0) (gen p a) (degree-of p R 0 zero-le) (divides-up p R 0 a zero-le low) (degree p a)
        (degree-of p R a low))

    pub divisor-width : u - w ≡ deg (divisor p l)
    divisor-width = ap₂ ◌-◌ (eu ∙ ap (degree p) k) ew ∙ sym (divisor-degree p R l)

    pub divisor-is : (f g : List ℕ) (q : ℕ) → RowOf p a f → RowOf p 0 g → q ≡ quot (value 64 g) w (value 64 f) → q ≡ divisor p l
    unfolding divisor
    divisor-is f g q F G h =
        h ∙ ap₂ (λ (x d : ℕ). quot x d (value 64 f)) G.is ew ∙ ap (quot (gen p 0) (degree p 0)) (F.is ∙ ap (gen p) k)

  -- ---- by its row
  module _ (d w : ℕ) (e : d ≡ divisor p l) (k : w ≡ deg (divisor p l)) where
    pub short-deg : Deg d w
    short-deg = rw (e, k) (divisor-deg p R l)

    pub short-most : w ≤ 768
    short-most = omega (arith, k, divisor-degree p R l, degree-high p R (p.v - l) top-low)

  pub short-room : (c r : ℕ) → r ≡ rem (divisor p l) (deg (divisor p l)) c → r < 2 ^ D
  short-room c r =
      remainder-room (divisor p l) (deg (divisor p l)) (divisor-deg p R l) c r (short-most (divisor p l) (deg (divisor p l)) refl refl)
