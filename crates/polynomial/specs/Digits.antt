-- Numbers written in digits of w bits: of a polynomial these are its bytes (w = 8) or its words (w = 64), lowest first.
--   value w l       the number whose digits are l
--   digits w k x    the k lowest digits of x
use Rattle.std.specs.Prelude.{◌≡◌, length, get_or}
use Rattle.std.proofs.Math.Path.{refl, sym, ap, ap₂}
use Rattle.std.proofs.Common.{◌∙◌, arith, pow_pos, shr_lt, shr-shr}
use mathlib.Core.List.{List, [], ◌∷◌}
use Prim.Native.Nat.{ℕ, zero, suc, ◌+◌, ◌*◌, ◌/◌, ◌-◌, ◌%◌, ◌^◌, ◌<◌}
use Rattle.std.proofs.Math.Nat as Nat
use Rattle.std.proofs.Math.Arith.{lt-one}
use Rattle.std.specs.Int.Bits as Bits
use Rattle.std.proofs.Math.Pow.{high, low, split, field, mod-mod-pow}
use Rattle.polynomial.specs.Bits.{coefficient}
use Rattle.polynomial.specs.Division.{xor_shr}
use Rattle.polynomial.specs.Sums.{All, add}
use Rattle.polynomial.specs.Xor.{xor}

-- Σ d_k 2^(w k)
unfoldable pub value : ℕ → List ℕ → ℕ
value w [] = 0
value w (d ∷ ds) = value w ds * 2 ^ w + d

unfoldable pub digits : ℕ → ℕ → ℕ → List ℕ
digits w zero x = []
digits w (suc k) x = x % 2 ^ w ∷ digits w k (x / 2 ^ w)

module _ (w : ℕ) where
  pub length_digits : (k x : ℕ) → length (digits w k x) ≡ k
  unfolding digits
  length_digits zero x = refl
  length_digits (suc k) x = ap suc (length_digits k (x / 2 ^ w))

  pub digits_lt : (k x : ℕ) → All (λ d. d < 2 ^ w) (digits w k x)
  unfolding digits
  digits_lt zero x = tt
  digits_lt (suc k) x = (Nat.mod-lt x (pow_pos w), digits_lt k (x / 2 ^ w))

  again : (x y : ℕ) → y ≡ x / 2 ^ w → y * 2 ^ w + x % 2 ^ w ≡ x
  again x y e = rw e (split x w)

  pub value-digits : (k x : ℕ) → x < 2 ^ (w * k) → value w (digits w k x) ≡ x
  unfolding digits value
  value-digits zero x h = sym (lt-one (rw Nat.mul-zero at h))
  value-digits (suc k) x h =
      again x (value w (digits w k (x / 2 ^ w))) (value-digits k (x / 2 ^ w) (shr_lt (w * k) w (rw Nat.mul-suc at h)))

  pub digits_value : (l : List ℕ) → All (λ d. d < 2 ^ w) l → digits w (length l) (value w l) ≡ l
  unfolding digits value
  digits_value [] h = refl
  digits_value (d ∷ l) h = ap₂ ◌∷◌ (low (value w l) w h.0) (ap (digits w (length l)) (high (value w l) w h.0) ∙ digits_value l h.1)

  xor_mod : (x y : ℕ) → xor x y % 2 ^ w ≡ xor (x % 2 ^ w) (y % 2 ^ w)
  unfolding xor
  xor_mod x y = Bits.xor_mod x y w

  pub digits-xor : (k x y : ℕ) → digits w k (xor x y) ≡ add (digits w k x) (digits w k y)
  unfolding digits
  digits-xor zero x y = refl
  digits-xor (suc k) x y = ap₂ ◌∷◌ (xor_mod x y) (ap (digits w k) (xor_shr x y w) ∙ digits-xor k (x / 2 ^ w) (y / 2 ^ w))

  -- ---- a digit by its place
  value-next : (d v j : ℕ) → d < 2 ^ w → (v * 2 ^ w + d) / 2 ^ (w * suc j) ≡ v / 2 ^ (w * j)
  value-next d v j h =
      ap (λ (y : ℕ). (v * 2 ^ w + d) / 2 ^ y) (Nat.mul-suc w j ∙ Nat.add_comm (w * j) w)
      ∙ sym (shr-shr (v * 2 ^ w + d) w (w * j)) ∙ ap (λ (y : ℕ). y / 2 ^ (w * j)) (high v w h)

  pub value-at : (l : List ℕ) → All (λ d. d < 2 ^ w) l → (j : ℕ) → value w l / 2 ^ (w * j) % 2 ^ w ≡ get_or l j 0
  unfolding value
  value-at [] h j = rw (Nat.zero-div (2 ^ (w * j))) (Nat.zero-mod (2 ^ w))
  value-at (d ∷ l) h zero = rw (Nat.mul-zero w, Nat.div-one (value w l * 2 ^ w + d)) (low (value w l) w h.0)
  value-at (d ∷ l) h (suc j) = ap (λ (y : ℕ). y % 2 ^ w) (value-next d (value w l) j h.0) ∙ value-at l h.1 j

  pub digits-at : (k x j : ℕ) → j < k → get_or (digits w k x) j 0 ≡ x / 2 ^ (w * j) % 2 ^ w
  unfolding digits
  digits-at zero x j h = absurd (Nat.not-suc-le-zero h)
  digits-at (suc k) x zero h = rw (Nat.mul-zero w, Nat.div-one x) refl
  digits-at (suc k) x (suc j) h =
      digits-at k (x / 2 ^ w) j (Nat.le_of_suc-le-suc h)
      ∙ ap (λ (y : ℕ). y % 2 ^ w) (shr-shr x w (w * j) ∙ ap (λ (y : ℕ). x / 2 ^ y) (Nat.add_comm w (w * j) ∙ sym (Nat.mul-suc w j)))

  -- a coefficient by its digit: x^k stands at bit k % w of digit k / w
  pub low-coefficient : (y r : ℕ) → r < w → coefficient (y % 2 ^ w) r ≡ coefficient y r
  low-coefficient y r h =
      let e : suc (w - 1 - r) + r ≡ w = omega arith in
      let o : w - 1 - r + 1 ≡ suc (w - 1 - r) = omega arith in
      rw (← e) (ap (λ (z : ℕ). z % 2) (field y (suc (w - 1 - r)) r) ∙ rw o at (mod-mod-pow (y / 2 ^ r) (w - 1 - r) 1))

  part-coefficient : (x j r : ℕ) → r < w → coefficient (x / 2 ^ (w * j) % 2 ^ w) r ≡ coefficient x (w * j + r)
  part-coefficient x j r h = low-coefficient (x / 2 ^ (w * j)) r h ∙ ap (λ (y : ℕ). y % 2) (shr-shr x (w * j) r)

  module _ (pos : 0 < w) where
    place : (k : ℕ) → w * (k / w) + k % w ≡ k
    place k = rw (Nat.mul_comm w (k / w)) (Nat.div-add-mod' k w)

    pub value-coefficient : (l : List ℕ) → All (λ d. d < 2 ^ w) l → (k : ℕ)
        → coefficient (value w l) k ≡ coefficient (get_or l (k / w) 0) (k % w)
    value-coefficient l h k =
        sym (ap (λ (y : ℕ). coefficient y (k % w)) (sym (value-at l h (k / w)))
        ∙ part-coefficient (value w l) (k / w) (k % w) (Nat.mod-lt k pos)
        ∙ ap (coefficient (value w l)) (place k))

    pub digits-coefficient : (m x k : ℕ) → k < w * m → coefficient (get_or (digits w m x) (k / w) 0) (k % w) ≡ coefficient x k
    digits-coefficient m x k h =
        ap (λ (y : ℕ). coefficient y (k % w)) (digits-at m x (k / w) ((Nat.div-lt_iff_lt-mul pos).1 (rw (Nat.mul_comm m w) h)))
        ∙ part-coefficient x (k / w) (k % w) (Nat.mod-lt k pos) ∙ ap (coefficient x) (place k)
