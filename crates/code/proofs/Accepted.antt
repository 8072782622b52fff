-- What accepted parameters obey, and from it the hypotheses of the theorems on pages.
--   Rules p    the rules on the numbers as facts
use Rattle.std.specs.Prelude.{◌≡◌, ◌⊎◌, Bool, true, false, ◌&&◌, ◌||◌, cond, leb, ltb}
use Rattle.std.proofs.Common.{ap, ◌∙◌, inl, inr, arith, eqb→eq, le→leb, lit≤}
use Rattle.std.proofs.Math.Bool.{not}
use Prim.Native.Nat.{ℕ, zero, suc, ◌+◌, ◌-◌, ◌*◌, ◌%◌, ◌≤◌, ◌<◌, zero-le}
use Rattle.std.proofs.Math.Nat as Nat
use Rattle.std.proofs.Math.Decide.{le_ind}
use Rattle.std.proofs.Math.Dec.{T, eqb, leb→le, ltb→lt}
use Rattle.polynomial.specs.Division.{Deg}
use Rattle.field.specs.Fields.{BinaryField, Known, field_of, field_of-exponent, field_of-length, by-known}
use Rattle.field.specs.Irreducible.{both}
use Rattle.field.specs.Powers.{n_pos, pow-mod, α≢0}
use Rattle.generator.proofs.Next.{width-le}
use Rattle.code.specs.declared.Parameters.{Parameters}
use Rattle.generator.proofs.Generator as G
use Rattle.generator.specs.Generator as Gen
use Rattle.code.proofs.Chains.{either, last, neither, none, nonzero, or-none, unless}
use Rattle.code.specs.Code.{degree, gen}
use Rattle.code.specs.Lists.{◌or_else◌, ◌when◌, any, range}
use Rattle.code.specs.Parameters.{Accepted, clashes, field_known, len, place_fits, shape_fits, sheet_refusal}
use Rattle.code.specs.Parameters.{short_fits, stored, strength, strengths_fit}
use Rattle.code.proofs.Steps.{degree-eq, gen-eq}
use Rattle.code.proofs.Values.{Lawful}
use Rattle.code.specs.Accepted.{Rules}

-- ---- tests
chosen : (b c d : Bool) → T b → T (cond b c d) → T c
chosen true c d h t = t
chosen false c d h t = absurd h

pub any_none : (P : ℕ → Bool) (i k : ℕ) → T (not (any P (range i k))) → (x : ℕ) → i ≤ x → x < i + k → T (not (P x))
unfolding any range
any_none P i zero t x h l = absurd (Nat.not-suc-le-zero {n = 0} (omega arith))
any_none P i (suc k) t x h l =
    go (λ h. any_none P (suc i) k (neither (P i) (any P (range (suc i) k)) t).1 x h (omega arith)) (Nat.eq-or-lt_of_le h)
  where
    go : (i < x → T (not (P x))) → (i ≡ x) ⊎ (i < x) → T (not (P x))
    go ih (inl e) = rw (← e) (neither (P i) (any P (range (suc i) k)) t).0
    go ih (inr l) = ih l

known : (p : Parameters) → T (field_known p) → Known p.q
unfolding field_known
known p t = go (either (eqb p.q 4 || eqb p.q 8) (eqb p.q 12) t)
  where
    two : T (eqb p.q 4) ⊎ T (eqb p.q 8) → Known p.q
    two (inl t) = inl (eqb→eq p.q 4 t)
    two (inr t) = inr (inl (eqb→eq p.q 8 t))

    go : T (eqb p.q 4 || eqb p.q 8) ⊎ T (eqb p.q 12) → Known p.q
    go (inl t) = two (either (eqb p.q 4) (eqb p.q 8) t)
    go (inr t) = inr (inr (eqb→eq p.q 12 t))

rise : (p : Parameters) → p.v ≤ 3 → p.t0 < p.t1 → T (place_fits p 2) → T (place_fits p 3) → (a : ℕ) → a < p.v
    → strength p a ≤ strength p (suc a)
unfolding place_fits
rise p h l x y zero b = omega arith
rise p h l x y (suc zero) b = leb→le p.t1 p.t2 (chosen (leb 2 p.v) (leb p.t1 p.t2) (eqb p.t2 0) (le→leb 2 p.v b) x)
rise p h l x y (suc (suc zero)) b =
    leb→le p.t2 p.t3 (chosen (leb 3 p.v) (leb p.t2 p.t3) (eqb p.t3 0) (le→leb 3 p.v b) y)
rise p h l x y (suc (suc (suc a))) b = absurd (Nat.not-suc-le-zero {n = 0} (omega arith))

module _ (p : Parameters) where
  abbrev v-1 : Bool
  v-1 = leb 1 p.v

  abbrev v-3 : Bool
  v-3 = leb p.v 3

  abbrev v-m : Bool
  v-m = ltb p.v p.m

  abbrev t-0 : Bool
  t-0 = leb 1 p.t0

  abbrev t-1 : Bool
  t-1 = ltb p.t0 p.t1

  abbrev t-v : Bool
  t-v = leb (strength p p.v) 64

  pub s-fits : T (short_fits p) → p.s ≤ len p - degree p p.v - 1
  unfolding short_fits
  s-fits t = go (either (eqb p.s 0) (leb p.s (len p - degree p p.v - 1)) t)
    where
      go : T (eqb p.s 0) ⊎ T (leb p.s (len p - degree p p.v - 1)) → p.s ≤ len p - degree p p.v - 1
      go (inl h) = rw (eqb→eq p.s 0 h) zero-le
      go (inr h) = leb→le p.s (len p - degree p p.v - 1) h

  rules : T (field_known p) → T (shape_fits p) → T (strengths_fit p) → T (not (clashes p)) → T (short_fits p) → Rules p
  unfolding shape_fits strengths_fit clashes
  rules f s t c e =
      let s3 = both (v-1 && v-3 && v-m) (leb p.m 8) s in
      let s2 = both (v-1 && v-3) v-m s3.0 in
      let s1 = both v-1 v-3 s2.0 in
      let t5 = both (t-0 && t-1 && place_fits p 2 && place_fits p 3 && t-v) (leb (2 * strength p p.v) (len p - 1)) t in
      let t4 = both (t-0 && t-1 && place_fits p 2 && place_fits p 3) t-v t5.0 in
      let t3 = both (t-0 && t-1 && place_fits p 2) (place_fits p 3) t4.0 in
      let t2 = both (t-0 && t-1) (place_fits p 2) t3.0 in
      let t1 = both t-0 t-1 t2.0 in
      record {
        known = known p f;
        v_low = leb→le 1 p.v s1.0;
        v_high = leb→le p.v 3 s1.1;
        m-low = ltb→lt p.v p.m s2.1;
        m-high = leb→le p.m 8 s3.1;
        t-low = leb→le 1 p.t0 t1.0;
        t-apart = ltb→lt p.t0 p.t1 t1.1;
        rises = rise p (leb→le p.v 3 s1.1) (ltb→lt p.t0 p.t1 t1.1) t2.1 t3.1;
        high = leb→le (strength p p.v) 64 t4.1;
        short = leb→le (2 * strength p p.v) (len p - 1) t5.1;
        s-high = s-fits e;
        clash = λ d j a b e h. nonzero (d * j % len p) (any_none (λ j. eqb (d * j % len p) 0) 1 (2 * strength p p.v)
            (any_none (λ d. any (λ j. eqb (d * j % len p) 0) (range 1 (2 * strength p p.v))) 1 (p.m - 1) c d a (omega arith)) j e
            (omega arith));
      }

  abbrev pub from-4 : ℕ
  from-4 = 4 when clashes p or_else 14 when not (short_fits p)

  pub accepted : Accepted p → Rules p
  unfolding sheet_refusal
  accepted e =
      let a = none 0 (field_known p) (2 when not (shape_fits p) or_else 3 when not (strengths_fit p) or_else from-4) e in
      let b = none 1 (shape_fits p) (3 when not (strengths_fit p) or_else from-4) a.1 in
      let c = none 2 (strengths_fit p) from-4 b.1 in
      let d = or-none (4 when clashes p) (14 when not (short_fits p)) c.1 in
      rules a.0 b.0 c.0 (last 3 (clashes p) d.0) (unless 13 (short_fits p) d.1)

-- at s = 0 all coefficients are stored
pub stored-whole : (p : Parameters) → p.s ≡ 0 → stored p ≡ len p
stored-whole p e = ap (λ (s : ℕ). len p - s) e ∙ Nat.sub-zero (len p)

pub q-high : (q : ℕ) → Known q → q ≤ 12
q-high = by-known (λ q. q ≤ 12) (lit≤ tt) (lit≤ tt) (lit≤ tt)

width_two : (q : ℕ) → Known q → 8 ≤ Gen.width (field_of q) 2
unfolding Gen.width field_of
width_two = by-known (λ q. 8 ≤ Gen.width (field_of q) 2) (lit≤ tt) (lit≤ tt) (lit≤ tt)

module _ (p : Parameters) (R : Rules p) where
  abbrev pub B : BinaryField
  B = field_of p.q

  pub rising : (a b : ℕ) → a ≤ b → b ≤ p.v → strength p a ≤ strength p b
  rising a b h l =
      le_ind (λ (x : ℕ). x ≤ p.v → strength p a ≤ strength p x) (λ _. Nat.le_refl (strength p a))
      (λ x k ih l. Nat.le_trans (ih (omega arith)) (R.rises x l)) b h l

  pub n-is : B.n ≡ len p
  n-is = field_of-length p.q R.known

  pub width-below : (a : ℕ) → a ≤ p.v → degree p a ≤ len p - 1
  width-below a h =
      rw (degree-eq p a, ← n-is) (G.width-lt B (strength p a) (rw n-is (omega (arith, R.short, rising a p.v h (Nat.le_refl p.v)))))

  pub degree-rising : (a b : ℕ) → a ≤ b → b ≤ p.v → degree p a ≤ degree p b
  degree-rising a b h l = rw (degree-eq p a, degree-eq p b) (G.width-mono B (strength p a) (strength p b) (rising a b h l))

  -- level v has at least as many check bits as a byte: its strength is at least 2
  pub degree-low : 8 ≤ degree p p.v
  degree-low =
      rw (degree-eq p p.v) (Nat.le_trans (width_two p.q R.known) (G.width-mono B 2 (strength p p.v)
      (omega (arith, R.t-low, R.t-apart, rising 1 p.v R.v_low (Nat.le_refl p.v)))))

  -- every sub-word has room for its check bits and a data bit
  pub stored-room : (a : ℕ) → a ≤ p.v → degree p a < stored p
  stored-room a h =
      let v-v : p.v ≤ p.v = Nat.le_refl p.v in
      omega (arith, R.s-high, width-below p.v v-v, degree-rising a p.v h v-v, n-is, n_pos B)

  pub stored-le : stored p ≤ len p
  stored-le = Nat.sub-le (len p) p.s

  -- a generator has degree at most q t_a, so at most 768: 13 words of 64 bits hold it, and 12 a remainder
  pub degree-le : (a : ℕ) → degree p a ≤ p.q * strength p a
  degree-le a =
      rw (degree-eq p a)
      (Nat.le_trans (width-le B (strength p a)) (Nat.le_of_eq (ap (λ (k : ℕ). k * strength p a) (field_of-exponent p.q R.known))))

  pub degree-high : (a : ℕ) → a ≤ p.v → degree p a ≤ 768
  degree-high a h =
      Nat.le_trans (degree-le a)
      (Nat.mul-le-mul {n₂ = 12} {m₂ = 64} (q-high p.q R.known) (Nat.le_trans (rising a p.v h (Nat.le_refl p.v)) R.high))

  pub lawful : Lawful B.field B.α p
  lawful = record {
    pos = omega (arith, n-is, n_pos B);
    unity = rw n-is at B.whole;
    α≢zero = α≢0 B;
    order = λ i h l. B.order i h (omega (arith, n-is));
    shape = (R.v_low, R.m-low);
    rising = rising;
    degrees = λ a h. rw (gen-eq p a, degree-eq p a) (G.generator-deg B (strength p a));
    roots = λ a h f. rw (gen-eq p a, degree-eq p a) (G.generator-iff B (strength p a) f);
    no-clash = λ d j a b e h u.
        B.order (d * j % B.n) (rw n-is (R.clash d j a b e h)) (Nat.mod-lt (d * j) (n_pos B)) (pow-mod B (d * j) ∙ u);
  }

  pub degree-of : (a : ℕ) → a ≤ p.v → Deg (gen p a) (degree p a)
  degree-of = lawful.degrees

pub strength-high : (p : Parameters) → Accepted p → (a : ℕ) → a ≤ p.v → strength p a ≤ 64
strength-high p A a h = let R = accepted p A in Nat.le_trans (rising p R a p.v h (Nat.le_refl p.v)) R.high
