-- The distance, formula by formula.
--   Lowest p b d    d is the least of (v + 1)(2 t_0 + 1) and the formulas of 1 to b - 1
use Rattle.std.specs.Prelude.{◌≡◌, ℕ, zero, suc, ◌+◌, ◌-◌, ◌*◌, ◌≤◌, ◌<◌, min}
use Rattle.std.proofs.Math.Path.{ap}
use Rattle.std.proofs.Common.{ap₂, ◌∙◌}
use Rattle.std.proofs.Math.Nat as Nat
use native.Mathlib.Omega.{arith}
use Rattle.code.specs.declared.Parameters.{Parameters}
use Rattle.code.specs.Code.{distance, least}
use Rattle.code.specs.Parameters.{strength}

pub record Lowest (p : Parameters) (b d : ℕ) : Type 0 where
  pub low : 1 ≤ b
  pub high : b ≤ p.v + 1
  pub is : d ≡ least p (b - 1)

module _ (p : Parameters) where
  pub lowest_start : (t d : ℕ) → t ≡ strength p 0 → d ≡ (p.v + 1) * (2 * t + 1) → Lowest p 1 d
  lowest_start t d e f = record { low = omega arith; high = omega arith; is = f ∙ ap (λ (s : ℕ). (p.v + 1) * (2 * s + 1)) e }

  next : (k d t : ℕ) → d ≡ least p k → t ≡ strength p (p.v - k) → min (suc k * (2 * t + 1)) d ≡ least p (suc k)
  next k d t e f = ap₂ (λ (s y : ℕ). min (suc k * (2 * s + 1)) y) f e

  pub lowest-turn : (b d t w r : ℕ) → Lowest p b d → b ≤ p.v → t ≡ strength p (p.v - b + 1) → w ≡ b * (2 * t + 1) → r ≡ min w d
      → Lowest p (b + 1) r
  lowest-turn zero d t w r L h e f g = absurd (Nat.not-suc-le-zero {n = 0} L.low)
  lowest-turn (suc k) d t w r L h e f g =
      let s : p.v - suc k + 1 ≡ p.v - k = omega arith in
      let x : suc k - 1 ≡ k = omega arith in
      let y : suc k ≡ suc k + 1 - 1 = omega arith in
      record {
        low = omega arith;
        high = omega arith;
        is = g ∙ ap (λ (z : ℕ). min z d) f ∙ next k d t (L.is ∙ ap (least p) x) (e ∙ ap (strength p) s) ∙ ap (least p) y;
      }

  pub lowest-done : (b d : ℕ) → Lowest p b d → p.v < b → d ≡ distance p
  unfolding distance
  lowest-done b d L h = let s : b - 1 ≡ p.v = omega arith in L.is ∙ ap (least p) s
