-- Irreducible polynomials: modulo one, each smaller polynomial but 0 has an inverse; the test for factors computes.
--   NoFactor g n    no polynomial a with 1 < a < n divides g (as numbers; n = 2^k: none of degree below k)
--   test g n        the same as a computed test
use Rattle.std.specs.Prelude.{◌≡◌, ◌≢◌, ◌⊎◌, Bool, true, false, not, ◌&&◌, ◌||◌, ℕ, zero, suc, ◌+◌, ◌-◌, ◌^◌, ◌<◌, T, leb, eqb}
use Rattle.std.proofs.Common.{sym, ap, ◌∙◌, inl, inr, le_refl, lt_of_lt_of_le, not-suc-le-zero, eq-zero-or-pos, lt_of_not-le, not-le_of_lt, le_of_suc-le-suc, eq-or-lt_of_le, arith, pow_pos, pow_mono, leb→le, T_not}
use Rattle.std.proofs.Math.Decide.{dec_lt}
use Rattle.std.proofs.Math.Dec.{eqb_refl}
use Rattle.polynomial.specs.Clmul.{clmul, clmul-xor-l, clmul-zero-l, clmul-one-l, clmul-one-r, clmul-comm, clmul-assoc, clmul-left-comm}
use Rattle.polynomial.specs.Division.{Deg, deg, deg-is, deg-mul, lt-of-deg, rem, division, rem_lt}
use Rattle.polynomial.specs.Division.{rem-small, rem-xor, rem-multiple, rem-zero-iff, le-of-deg, deg-unique}
use Rattle.polynomial.specs.Xor.{xor, xors, xor_zero_l}

abbrev pub NoFactor : ℕ → ℕ → Type 0
NoFactor g n = (a : ℕ) → 1 < a → a < n → rem a (deg a) g ≢ 0

module _ (g k : ℕ) (d : Deg g k) (nf : NoFactor g (2 ^ k)) where
  turn : (a q r v : ℕ) → g ≡ xor (clmul q a) r → rem g k (clmul r v) ≡ 1 → rem g k (clmul a (clmul q v)) ≡ 1
  turn a q r v e h =
      let p : clmul a (clmul q v) ≡ xor (clmul v g) (clmul r v) =
      sym (ap (λ (x : ℕ). xor (clmul v x) (clmul r v)) e
      ∙ rw (clmul-comm v (xor (clmul q a) r)) (simp (clmul-xor-l, clmul-assoc, xors) (clmul-left-comm q a v))) in
      ap (rem g k) p ∙ rem-xor g k d (clmul v g) (clmul r v) ∙ rw (rem-multiple g k d v, h) (xor_zero_l 1)

  abbrev Inv : ℕ → Type 0
  Inv a = (u : ℕ) × (rem g k (clmul a u) ≡ 1)

  inv-go : (n a : ℕ) → a < n → 0 < a → a < 2 ^ k → Inv a
  inv-go zero a b p l = absurd (not-suc-le-zero b)
  inv-go (suc n) a b p l = go (λ r. inv-go n r) (eq-or-lt_of_le p)
    where
      r : ℕ
      r = rem a (deg a) g

      rpos : 1 < a → (r ≡ 0) ⊎ (0 < r) → 0 < r
      rpos h (inl e) = absurd (nf a h l e)
      rpos h (inr z) = z

      rlt : r < a
      rlt = lt_of_lt_of_le (rem_lt a (deg a) (deg-is a p) g) (le-of-deg (deg a) (deg-is a p))

      step : Inv r → Inv a
      step v = (
        clmul (division a (deg a) (deg-is a p) g).0 v.0,
        turn a (division a (deg a) (deg-is a p) g).0 r v.0 (division a (deg a) (deg-is a p) g).1 v.1,
      )

      go : ((r : ℕ) → r < n → 0 < r → r < 2 ^ k → Inv r) → (1 ≡ a) ⊎ (1 < a) → Inv a
      go ih (inl e) = (1, rw (clmul-one-r a, ← e) (rem-small g k d 1 (omega arith)))
      go ih (inr h) = step (ih r (omega (arith, rlt)) (rpos h (eq-zero-or-pos r)) (omega (arith, rlt)))

  pub inverse : (a : ℕ) → 0 < a → a < 2 ^ k → Inv a
  inverse a p l = inv-go (suc a) a (le_refl (suc a)) p l

-- ---- the test: no factor of up to half the degree is none at all

-- of two factors one is small, and both are proper where one is
module _ (g k h a q : ℕ) (d : Deg g k) (hk : k < h + h) (a1 : 1 < a) (ak : a < 2 ^ k) (w : g ≡ clmul q a) where
  gpos : 0 < clmul q a
  gpos = rw w at (lt_of_lt_of_le (pow_pos k) (le-of-deg k d))

  qpos : 0 < q
  qpos = go (eq-zero-or-pos q)
    where
      go : (q ≡ 0) ⊎ (0 < q) → 0 < q
      go (inl z) = absurd (not-suc-le-zero (rw (z, clmul-zero-l a) at gpos))
      go (inr p) = p

  sum : deg q + deg a ≡ k
  sum = deg-unique (clmul q a) (deg q + deg a) k (deg-mul (deg q) (deg a) q a (deg-is q qpos) (deg-is a (omega arith))) (rw w at d)

  q1 : 1 < q
  q1 = go (eq-or-lt_of_le qpos)
    where
      go : (1 ≡ q) ⊎ (1 < q) → 1 < q
      go (inl z) = absurd (not-le_of_lt ak (rw (w, ← z, clmul-one-l a) at (le-of-deg k d)))
      go (inr p) = p

  qh : ¬ (a < 2 ^ h) → q < 2 ^ h
  qh n =
      let l : h < suc (deg a) = lt_of_not-le (λ m. n (lt_of_lt_of_le (lt-of-deg (deg a) (deg-is a (omega arith))) (pow_mono m))) in
      lt_of_lt_of_le (lt-of-deg (deg q) (deg-is q qpos)) (pow_mono (omega (arith, sum)))

  qz : rem q (deg q) g ≡ 0
  qz = (rem-zero-iff q (deg q) (deg-is q qpos) g).1 (a, w ∙ clmul-comm q a)

  clash : NoFactor g (2 ^ h) → rem a (deg a) g ≡ 0 → ⊥
  clash nf e = go (dec_lt a (2 ^ h))
    where
      go : Dec (a < 2 ^ h) → ⊥
      go (yes l) = nf a a1 l e
      go (no n) = nf q q1 (qh n) qz

pub no-half : (g k h : ℕ) → Deg g k → k < h + h → NoFactor g (2 ^ h) → NoFactor g (2 ^ k)
no-half g k h d hk nf a a1 ak e =
    let w : (q : ℕ) × (g ≡ clmul q a) = (rem-zero-iff a (deg a) (deg-is a (omega arith)) g).0 (e) in
    clash g k h a w.0 d hk a1 ak w.1 nf e

unfoldable pub test : ℕ → ℕ → Bool
unfolding rem deg
test g zero = true
test g (suc n) = (leb n 1 || not (eqb (rem n (deg n) g) 0)) && test g n

pub both : (a b : Bool) → T (a && b) → T a × T b
both true b t = (tt, t)
both false b t = absurd t

or_cases : (a b : Bool) → T (a || b) → T a ⊎ T b
or_cases true b t = inl tt
or_cases false b t = inr t

test-cons : (g n : ℕ) → T (test g (suc n)) → T ((leb n 1 || not (eqb (rem n (deg n) g) 0)) && test g n)
unfolding test
test-cons g n t = t

pub test-is : (g n : ℕ) → T (test g n) → NoFactor g n
test-is g zero t a h l e = not-suc-le-zero l
test-is g (suc n) t a h l e = go (λ t m. test-is g n t a h m e) (eq-or-lt_of_le (le_of_suc-le-suc l))
  where
    c : T ((leb n 1 || not (eqb (rem n (deg n) g) 0)) && test g n)
    c = test-cons g n t

    here : T (leb n 1) ⊎ T (not (eqb (rem n (deg n) g) 0)) → a ≡ n → ⊥
    here (inl s) p = omega (arith, leb→le n 1 s)
    here (inr s) p = T_not (eqb (rem n (deg n) g) 0) s (rw (sym (ap (λ (x : ℕ). rem x (deg x) g) p) ∙ e) (eqb_refl 0))

    go : (T (test g n) → a < n → ⊥) → (a ≡ n) ⊎ (a < n) → ⊥
    go ih (inl p) =
        here (or_cases (leb n 1) (not (eqb (rem n (deg n) g) 0)) (both (leb n 1 || not (eqb (rem n (deg n) g) 0)) (test g n) c).0) p
    go ih (inr m) = ih (both (leb n 1 || not (eqb (rem n (deg n) g) 0)) (test g n) c).1 m
