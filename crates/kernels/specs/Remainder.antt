-- Remainders of polynomials that are moved up and added.
use Rattle.std.specs.Prelude.{◌≡◌, ℕ, ◌+◌, ◌-◌, ◌*◌, ◌/◌, ◌%◌, ◌^◌, ◌≤◌, ◌<◌}
use Rattle.std.proofs.Common.{sym, ap, ◌∙◌, arith, pow_pos, pow-add, shr-shr}
use Rattle.std.proofs.Math.Nat as Nat
use Rattle.std.proofs.lemmas.Nat.{shl-shr}
use Rattle.polynomial.specs.Clmul.{clmul, clmul-pow, clmul-left-comm}
use Rattle.polynomial.specs.Division.{Deg, rem, rem_lt, rem_of, rem-small, rem-xor, rem-clmul-r, division}
use Rattle.polynomial.specs.Xor.{xor, xor_comm}
use Rattle.kernels.specs.Shift.{join, whole, xor-shl}

module _ (g k : ℕ) (d : Deg g k) where
  -- what stands from x^k up is reduced by itself
  pub rem-top : (top low : ℕ) → low < 2 ^ k → xor low (rem g k (top * 2 ^ k)) ≡ rem g k (top * 2 ^ k + low)
  rem-top top low h =
      sym (ap (rem g k) (join top k low h) ∙ rem-xor g k d (top * 2 ^ k) low
      ∙ rw (rem-small g k d low h) (xor_comm (rem g k (top * 2 ^ k)) low))

  -- a remainder moved up
  pub rem-shift : (l f : ℕ) → rem g k (rem g k f * 2 ^ l) ≡ rem g k (f * 2 ^ l)
  rem-shift l f = ap (rem g k) (sym (clmul-pow l (rem g k f))) ∙ rem-clmul-r g k d (2 ^ l) f ∙ ap (rem g k) (clmul-pow l f)

  -- and more added below
  pub rem-shift-add : (l f b : ℕ) → rem g k (xor (rem g k f * 2 ^ l) b) ≡ rem g k (xor (f * 2 ^ l) b)
  rem-shift-add l f b =
      rem-xor g k d (rem g k f * 2 ^ l) b ∙ ap (λ (x : ℕ). xor x (rem g k b)) (rem-shift l f) ∙ sym (rem-xor g k d (f * 2 ^ l) b)

  -- sums
  pub rem-add : (l a b : ℕ) → xor (rem g k (a * 2 ^ l)) (rem g k (b * 2 ^ l)) ≡ rem g k (xor a b * 2 ^ l)
  rem-add l a b = sym (rw (xor-shl l a b) (rem-xor g k d (a * 2 ^ l) (b * 2 ^ l)))

  pub rem-four : (l a b c e : ℕ)
      → xor (rem g k (a * 2 ^ l)) (xor (rem g k (b * 2 ^ l)) (xor (rem g k (c * 2 ^ l)) (rem g k (e * 2 ^ l))))
      ≡ rem g k (xor a (xor b (xor c e)) * 2 ^ l)
  rem-four l a b c e = rw (rem-add l c e, rem-add l b (xor c e)) (rem-add l a (xor b (xor c e)))

  pub rem-add2 : (j l a b : ℕ) → xor (rem g k (a * 2 ^ j * 2 ^ l)) (rem g k (b * 2 ^ j * 2 ^ l)) ≡ rem g k (xor a b * 2 ^ j * 2 ^ l)
  rem-add2 j l a b = rem-add l (a * 2 ^ j) (b * 2 ^ j) ∙ ap (λ (x : ℕ). rem g k (x * 2 ^ l)) (sym (xor-shl j a b))

-- ---- g, and all else with it, moved up by s
module _ (g w s : ℕ) (d : Deg g w) where
  pub deg-up : Deg (g * 2 ^ s) (w + s)
  deg-up = ap (λ (x : ℕ). g * 2 ^ s / x) (pow-add 2 w s) ∙ Nat.mul-div-mul_right g (2 ^ w) (pow_pos s) ∙ d

  pub rem-up : (f : ℕ) → rem (g * 2 ^ s) (w + s) (f * 2 ^ s) ≡ rem g w f * 2 ^ s
  rem-up f =
      rem_of (g * 2 ^ s) (w + s) deg-up (f * 2 ^ s) (division g w d f).0 (rem g w f * 2 ^ s)
      (ap (λ (x : ℕ). x * 2 ^ s) (division g w d f).1 ∙ xor-shl s (clmul (division g w d f).0 g) (rem g w f)
      ∙ ap (λ (x : ℕ). xor x (rem g w f * 2 ^ s)) (times (division g w d f).0))
      (rw (pow-add 2 w s) (Nat.mul-lt-mul_of_pos_right (rem_lt g w d f) (pow_pos s)))
    where
      times : (q : ℕ) → clmul q g * 2 ^ s ≡ clmul q (g * 2 ^ s)
      times q = sym (clmul-pow s (clmul q g)) ∙ clmul-left-comm (2 ^ s) q g ∙ ap (clmul q) (clmul-pow s g)

  -- and the remainder moved down again
  pub rem-down : (f : ℕ) → rem (g * 2 ^ s) (w + s) (f * 2 ^ s) / 2 ^ s ≡ rem g w f
  rem-down f = ap (λ (x : ℕ). x / 2 ^ s) (rem-up f) ∙ shl-shr (rem g w f) s

-- G and f multiples of x^s
pub rem-low : (G k s f : ℕ) → Deg G k → s ≤ k → G % 2 ^ s ≡ 0 → f % 2 ^ s ≡ 0 → rem G k f % 2 ^ s ≡ 0
rem-low G k s f d h g e =
    let i : s + (k - s) ≡ k = omega arith in
    let j : (k - s) + s ≡ k = omega arith in
    let q : Deg (G / 2 ^ s) (k - s) = shr-shr G s (k - s) ∙ rw i d in
    let a : rem (G / 2 ^ s * 2 ^ s) ((k - s) + s) (f / 2 ^ s * 2 ^ s) % 2 ^ s ≡ 0 =
    ap (λ (x : ℕ). x % 2 ^ s) (rem-up (G / 2 ^ s) (k - s) s q (f / 2 ^ s))
    ∙ Nat.mul-mod_left (rem (G / 2 ^ s) (k - s) (f / 2 ^ s)) (2 ^ s) in
    rw (whole G s g, whole f s e, j) at a
