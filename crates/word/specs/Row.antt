-- Division by a row of any degree w up to 768: it is moved up to degree 768, as the generators are.
use Rattle.std.specs.Prelude.{◌≡◌, List, ℕ, ◌+◌, ◌-◌, ◌*◌, ◌%◌, ◌^◌, ◌≤◌, ◌<◌}
use Rattle.std.proofs.Common.{sym, ap, ap₂, ◌∙◌, add-one, arith, pow_mono}
use Rattle.std.proofs.Math.Nat as Nat
use Rattle.std.proofs.Math.Arith.{lt-one}
use Rattle.polynomial.specs.Division.{Deg, rem, rem_lt, lt-of-deg}
use Rattle.kernels.specs.Move.{align-deg}
use Rattle.kernels.specs.Row.{D, D-is}
use Rattle.reduction.specs.Table.{Table, MovedUp, moved_up, RemainderBy}

-- the row and its degree as they are defined, of a polynomial below x^n
pub row_as : (g w x k c n r : ℕ) → g ≡ x → w ≡ k → c < 2 ^ n → r ≡ rem g w (c % 2 ^ n) → r ≡ rem x k c
row_as g w x k c n r eg ew l f = f ∙ ap₂ (λ (y d : ℕ). rem y d (c % 2 ^ n)) eg ew ∙ ap (rem x k) (Nat.mod-eq_of_lt l)

module _ (g w : ℕ) (d : Deg g w) where
  pub row_lt : g < 2 ^ (w + 1)
  row_lt = rw add-one (lt-of-deg w d)

  -- a remainder fits 768 coefficients
  pub remainder-room : (f r : ℕ) → w ≤ 768 → r ≡ rem g w f → r < 2 ^ D
  remainder-room f r h e = rw e (Nat.lt_of_lt_of_le (rem_lt g w d f) (pow_mono (rw D-is h)))

  -- by a polynomial of degree 0, which is 1
  pub unit-remainder : (f r : ℕ) → w ≡ 0 → r ≡ 0 → r ≡ rem g w f
  unit-remainder f r e z = z ∙ sym (lt-one (rw (ap (λ (k : ℕ). 2 ^ k) e) at (rem_lt g w d f)))

  module _ (x : ℕ) (h : w ≤ 768) (e : x ≡ g * 2 ^ (768 - w)) where
    pub aligned-deg : Deg x D
    aligned-deg = rw e (align-deg g w d h)

    pub row_up : (t : List ℕ) → Table x t → MovedUp t (768 - w)
    row_up t T = moved_up g (768 - w) t (rw e at T)

    pub row-remainder : (f r : ℕ) (t : List ℕ) → Table x t → RemainderBy t (768 - w) f r → r ≡ rem g w f
    row-remainder f r t T Q =
        let k : w + (768 - w) ≡ D = omega (arith, D-is) in
        Q.rest g w d k (rw e at T)
