-- Multiples of a polynomial, and their degrees.
--   Multiple g f    f is a multiple of g
use Rattle.std.specs.Prelude.{◌≡◌, ℕ, ◌≤◌, ◌<◌}
use Rattle.std.proofs.Common.{sym, ap, ◌∙◌, lt_of_lt_of_le, le_of_suc-le-suc, lt_of_not-le, pow_pos, pow_mono}
use Rattle.polynomial.specs.Clmul.{clmul, clmul-one-l, clmul-zero-r}
use Rattle.polynomial.specs.Division.{Deg, deg-lt, lt-of-deg, lt-of-shr, xor_shr, rem}
use Rattle.polynomial.specs.Division.{rem-small, rem-xor, rem-multiple, rem-clmul-r, rem-zero, division, le-of-deg}
use Rattle.polynomial.specs.Xor.{xor, xors, xor_self, xor-eq-zero}

abbrev pub Multiple : ℕ → ℕ → Type 0
Multiple g f = (h : ℕ) × (f ≡ clmul h g)

pub deg-pos : (g k : ℕ) → Deg g k → 0 < g
deg-pos g k d = lt_of_lt_of_le (pow_pos k) (le-of-deg k d)

module _ (g k f : ℕ) (d : Deg g k) (z : rem g k f ≡ 0) where
  -- a multiple has no lower degree
  pub multiple-deg : (m : ℕ) → Deg f m → k ≤ m
  multiple-deg m e =
      le_of_suc-le-suc (lt_of_not-le (λ h. clash (sym (rem-small g k d f (lt_of_lt_of_le (lt-of-deg m e) (pow_mono h))) ∙ z)))
    where
      clash : f ≡ 0 → ⊥
      clash w = deg-lt m e (rw w (pow_pos m))

  -- and of the same degree there is one only
  pub multiple-same : Deg f k → f ≡ g
  multiple-same e =
      xor-eq-zero f g (sym (rem-small g k d (xor f g) (lt-of-shr k (xor_shr f g k ∙ rw (e, d) (xor_self 1)))) ∙ rem-xor g k d f g
      ∙ rw (z, own) (xor_self 0))
    where
      own : rem g k g ≡ 0
      own = sym (ap (rem g k) (clmul-one-l g)) ∙ rem-multiple g k d 1

-- a polynomial differs from its remainder by a multiple
pub rem-differ : (g k : ℕ) → Deg g k → (f : ℕ) → Multiple g (xor f (rem g k f))
rem-differ g k d f = ((division g k d f).0, move f (clmul (division g k d f).0 g) (rem g k f) (division g k d f).1)
  where
    move : (f h r : ℕ) → f ≡ xor h r → xor f r ≡ h
    move f h r e = rw e (simp xors)

-- a divisor of h leaves of f what it leaves of f reduced by h
pub rem-reduced : (g k h m : ℕ) → Deg g k → Deg h m → rem g k h ≡ 0 → (f : ℕ) → rem g k (rem h m f) ≡ rem g k f
rem-reduced g k h m d e z f =
    let M : Multiple h (xor f (rem h m f)) = rem-differ h m e f in
    sym (xor-eq-zero (rem g k f) (rem g k (rem h m f))
    (sym (rem-xor g k d f (rem h m f)) ∙ ap (rem g k) M.1 ∙ sym (rem-clmul-r g k d M.0 h) ∙ rw (z, clmul-zero-r M.0) (rem-zero g k)))
