-- The quotient of two rows, a coefficient a step. f is divided by g, of degree w; A and G are f and g moved up to degree 768, D.
--   Stepped G q r q' r'     one step takes the quotient q and the rest r to q' and r': r' is the rest of r · x
--   Dividing G A j q r      after j steps q and r are quotient and rest of A · x^j
use Rattle.std.specs.Prelude.{◌≡◌, ◌⊎◌, List, ℕ, ◌+◌, ◌-◌, ◌*◌, ◌/◌, ◌^◌, ◌≤◌, ◌<◌, length, get_or}
use Rattle.std.proofs.Common.{sym, ap, ◌∙◌, inl, inr, arith, pow-add, pow_mono, pow_pos}
use Rattle.std.proofs.Math.Nat as Nat
use Rattle.std.proofs.Math.Pow.{high}
use Rattle.polynomial.specs.Clmul.{clmul, clmul-dbl-l, clmul-one-l, clmul-pow, clmul-left-comm, clmul-xor-l}
use Rattle.polynomial.specs.Digits.{value}
use Rattle.polynomial.specs.Division.{Deg, deg, deg-is, deg-mul, lt-of-shr, quot, quot_is, rem, rem_lt, unique, xor_shr}
use Rattle.polynomial.specs.Multiple.{deg-pos}
use Rattle.polynomial.specs.Xor.{xor, xors, xor-dbl, xor-eq-zero, xor-half, xor_self, xor_zero_r, dbl-half}
use Rattle.kernels.specs.Remainder.{deg-up}
use Rattle.kernels.specs.Row.{D, D-is, by-top, low-lt}
use Rattle.kernels.specs.Shift.{xor-shl}
use Rattle.kernels.specs.Value.{Bounded}

-- ---- the quotient is the only one
module _ (g k : ℕ) (d : Deg g k) where
  clmul-cancel : (q q' : ℕ) → clmul q g ≡ clmul q' g → q ≡ q'
  clmul-cancel q q' e = xor-eq-zero q q' (go (Nat.eq-zero-or-pos (xor q q')))
    where
      none : clmul (xor q q') g ≡ 0
      none = clmul-xor-l q q' g ∙ ap (λ (x : ℕ). xor x (clmul q' g)) e ∙ xor_self (clmul q' g)

      go : (xor q q' ≡ 0) ⊎ (0 < xor q q') → xor q q' ≡ 0
      go (inl z) = z
      go (inr l) =
          let z = deg (xor q q') in
          absurd (Nat.not-suc-le-zero {n = 0}
          (rw none at (deg-pos (clmul (xor q q') g) (z + k) (deg-mul z k (xor q q') g (deg-is (xor q q') l) d))))

  quotient-unique : (q q' r r' : ℕ) → r < 2 ^ k → r' < 2 ^ k → xor (clmul q g) r ≡ xor (clmul q' g) r' → q ≡ q'
  quotient-unique q q' r r' h h' e =
      let f : xor (clmul q g) r ≡ xor (clmul q' g) r = e ∙ ap (xor (clmul q' g)) (sym (unique g k d q q' r r' h h' e)) in
      clmul-cancel q q' (undo (clmul q g) (clmul q' g) r f)
    where
      undo : (a b c : ℕ) → xor a c ≡ xor b c → a ≡ b
      undo a b c e =
          let u : a ≡ xor (xor a c) c = sym (simp xors) in
          u ∙ rw e (simp xors)

-- ---- one step
pub record Stepped (G q r q' r' : ℕ) : Type 0 where
  pub low : r' < 2 ^ D
  pub half : q' / 2 ≡ q
  pub same : xor (clmul q' G) r' ≡ xor (clmul q G) r * 2

module _ (G : ℕ) (d : Deg G D) (e : List ℕ) (r : ℕ) (b : Bounded 64 e) (l : length e ≡ 13) (h : value 64 e ≡ r * 2 ^ 1) where
  -- the 13th word is what stands from x^768 on
  top : value 64 e / 2 ^ D ≡ get_or e 12 0
  top = ap (λ (x : ℕ). x / 2 ^ D) (by-top e l) ∙ high (get_or e 12 0) D (low-lt e b l)

  one : r < 2 ^ D → (get_or e 12 0 ≡ 0 → ⊥) → value 64 e / 2 ^ D ≡ 1
  one s z =
      let small : r * 2 / 2 ^ D < 2 = (Nat.div-lt_iff_lt-mul (pow_pos D)).1 (omega arith) in
      let w : get_or e 12 0 ≡ 0 → ⊥ = z in
      omega (arith, top, rw (← h) at small)

  pub step-low : (q q' : ℕ) → q' ≡ q * 2 ^ 1 → get_or e 12 0 ≡ 0 → Stepped G q r q' (value 64 e)
  step-low q q' f z = record {
    low = lt-of-shr D (top ∙ z);
    half = ap (λ (x : ℕ). x / 2) f ∙ dbl-half q;
    same = rw (f, h) (simp (clmul-dbl-l, xor-dbl));
  }

  pub step-high : (q q₁ q' r' : ℕ) → q₁ ≡ q * 2 ^ 1 → q' ≡ xor q₁ (1 * 2 ^ 0) → r' ≡ xor (value 64 e) G → r < 2 ^ D → (get_or e 12 0 ≡ 0 → ⊥)
      → Stepped G q r q' r'
  step-high q q₁ q' r' f f' g s z = record {
    low = rw g (lt-of-shr D (xor_shr (value 64 e) G D ∙ rw (one s z, d) (xor_self 1)));
    half = ap (λ (x : ℕ). x / 2) f' ∙ xor-half q₁ 1 ∙ rw f (rw (dbl-half q) (xor_zero_r q));
    same = rw (f', f, g, h) (simp (clmul-xor-l, clmul-one-l, clmul-dbl-l, ← xor-dbl, xors));
  }

-- ---- all steps
pub record Dividing (G A j q r : ℕ) : Type 0 where
  pub low : r < 2 ^ D
  pub few : q < 2 ^ (j + 1)
  pub sum : A * 2 ^ j ≡ xor (clmul q G) r

module _ (G A : ℕ) where
  -- the first coefficient is 1, since A and G are of one degree
  pub divide-start : (q r : ℕ) → Deg G D → Deg A D → q ≡ 1 → r ≡ xor A G → Dividing G A 0 q r
  divide-start q r dg da e f = record {
    low = rw f (lt-of-shr D (xor_shr A G D ∙ rw (da, dg) (xor_self 1)));
    few = rw e (omega arith);
    sum = rw (e, f) (sym (simp (Nat.mul-one, clmul-one-l, xors)));
  }

  pub divide-next : (j q r q' r' : ℕ) → Dividing G A j q r → Stepped G q r q' r' → Dividing G A (j + 1) q' r'
  divide-next j q r q' r' s t = record {
    low = t.low;
    few = rw (pow-add 2 (j + 1) 1) (omega (arith, t.half, s.few));
    sum = rw (pow-add 2 j 1) (sym (Nat.mul_assoc A (2 ^ j) (2 ^ 1)) ∙ ap (λ (x : ℕ). x * 2) s.sum ∙ sym t.same);
  }

-- a quotient of at most D coefficients
pub divide-room : (G A j q r : ℕ) → Dividing G A j q r → j < 768 → q < 2 ^ D
divide-room G A j q r s h = Nat.lt_of_lt_of_le s.few (pow_mono (rw D-is (omega arith)))

module _ (f u g w : ℕ) (d : Deg g w) (h : w ≤ u) (k : u ≤ 768) where
  -- g moved up by s
  up : (s x : ℕ) → clmul x g * 2 ^ s ≡ clmul x (g * 2 ^ s)
  up s x = sym (clmul-pow s (clmul x g)) ∙ clmul-left-comm (2 ^ s) x g ∙ ap (clmul x) (clmul-pow s g)

  pub divide-done : (G A j q r : ℕ) → G ≡ g * 2 ^ (768 - w) → A ≡ f * 2 ^ (768 - u) → j ≡ u - w → Dividing G A j q r → q ≡ quot g w f
  divide-done G A j q r eg ea ej t =
      let s : ℕ = 768 - w in
      let e : w + s ≡ D = omega (arith, D-is) in
      let m : 768 - u + (u - w) ≡ s = omega arith in
      let dg : Deg (g * 2 ^ s) D = rw (← e) (deg-up g w s d) in
      let b : rem g w f * 2 ^ s < 2 ^ D = rw (← e, pow-add 2 w s) (Nat.mul-lt-mul_of_pos_right (rem_lt g w d f) (pow_pos s)) in
      let x : A * 2 ^ j ≡ f * 2 ^ s = rw (ea, ej) (Nat.mul_assoc f (2 ^ (768 - u)) (2 ^ (u - w))
      ∙ ap (λ (n : ℕ). f * n) (sym (pow-add 2 (768 - u) (u - w)) ∙ ap (λ (n : ℕ). 2 ^ n) m)) in
      let y : f * 2 ^ s ≡ xor (clmul (quot g w f) (g * 2 ^ s)) (rem g w f * 2 ^ s) =
      ap (λ (n : ℕ). n * 2 ^ s) (quot_is g w d f) ∙ xor-shl s (clmul (quot g w f) g) (rem g w f)
      ∙ ap (λ (n : ℕ). xor n (rem g w f * 2 ^ s)) (up s (quot g w f)) in
      quotient-unique (g * 2 ^ s) D dg q (quot g w f) r (rem g w f * 2 ^ s) t.low b
      (ap (λ (n : ℕ). xor (clmul q n) r) (sym eg) ∙ sym t.sum ∙ x ∙ y)
