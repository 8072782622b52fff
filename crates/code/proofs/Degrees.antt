-- The degree of a generator, exactly: how many different values j × 2^r modulo n there are, j from 1 to 2t, r from 0 to q - 1.
--   is_value n q t e    e is one of them
--   select n P         the numbers below n that pass the test P
use Rattle.std.specs.Prelude.{◌≡◌, refl, ◌⊎◌, Bool, true, false, not, cond, List, [], ◌∷◌, ℕ, zero, suc, ◌+◌, ◌*◌, ◌%◌, ◌^◌, ◌≤◌, ◌<◌, T, eqb, length}
use Rattle.std.proofs.Common.{sym, ap, ap₂, ◌∙◌, inl, inr, zero-le, arith, eqb→eq}
use Rattle.std.proofs.Math.Nat as Nat
use Rattle.std.proofs.Math.Dec.{eqb_refl}
use Rattle.field.specs.Fields.{BinaryField, field_of, field_of-exponent}
use Rattle.field.specs.Powers.{n_pos}
use Rattle.generator.specs.Exponents.{Orbit, exponents}
use Rattle.generator.specs.Exponents.{exponents-ind, exponents-mem}
use Rattle.generator.proofs.Exponents.{orbit-exponents}
use Rattle.generator.specs.Generator.{width, width-eq}
use Rattle.generator.proofs.Generator.{length-le}
use Rattle.generator.specs.Distinct.{Mem, Once}
use Rattle.code.specs.declared.Parameters.{Parameters}
use Rattle.code.specs.Accepted.{Rules}
use Rattle.code.proofs.Accepted.{any_none, n-is}
use Rattle.code.proofs.Chains.{either}
use Rattle.code.specs.Code.{degree}
use Rattle.code.specs.Lists.{any, count_below, range}
use Rattle.code.specs.Parameters.{len, strength}
use Rattle.code.proofs.Places.{add_below-suc, add_below-zero, count_below-eq}
use Rattle.code.proofs.Steps.{degree-eq}

abbrev pub is_value : ℕ → ℕ → ℕ → ℕ → Bool
is_value n q t e = any (λ j. any (λ r. eqb (j * 2 ^ r % n) e) (range 0 q)) (range 1 (2 * t))

-- ---- tests on ranges
some_of : (P : ℕ → Bool) (i k x : ℕ) → i ≤ x → x < i + k → T (P x) → T (any P (range i k))
some_of P i k x h l t = go (any P (range i k)) refl
  where
    against : (b : Bool) → T b → T (not b) → ⊥
    against true t u = u
    against false t u = t

    go : (b : Bool) → any P (range i k) ≡ b → T b
    go true e = tt
    go false e = absurd (against (P x) t (any_none P i k (rw e tt) x h l))

pub of_some : (P : ℕ → Bool) (i k : ℕ) → T (any P (range i k)) → (x : ℕ) × (i ≤ x) × (x < i + k) × T (P x)
unfolding any range
of_some P i zero t = absurd t
of_some P i (suc k) t = go (either (P i) (any P (range (suc i) k)) t) (λ u. of_some P (suc i) k u)
  where
    go : T (P i) ⊎ T (any P (range (suc i) k)) → (T (any P (range (suc i) k)) → (x : ℕ) × (suc i ≤ x) × (x < suc i + k) × T (P x)) → (x : ℕ) × (i ≤ x) × (x < i + suc k) × T (P x)
    go (inl u) ih = (i, Nat.le_refl i, omega arith, u)
    go (inr u) ih = let r = ih u in (r.0, omega (arith, r.1), omega (arith, r.2), r.3)

-- ---- the numbers below n that pass
abbrev pick : Bool → ℕ → List ℕ → List ℕ
pick true n l = n ∷ l
pick false n l = l

abbrev select : ℕ → (ℕ → Bool) → List ℕ
select zero P = []
select (suc n) P = pick (P n) n (select n P)

select-length : (n : ℕ) (P : ℕ → Bool) → length (select n P) ≡ count_below n P
select-length zero P = sym (count_below-eq 0 P ∙ add_below-zero (λ k. cond (P k) 1 0))
select-length (suc n) P = go (P n) (select-length n P) ∙ sym (count_below-eq (suc n) P ∙ add_below-suc n (λ k. cond (P k) 1 0) ∙ ap (λ (y : ℕ). y + cond (P n) 1 0) (sym (count_below-eq n P)))
  where
    go : (b : Bool) → length (select n P) ≡ count_below n P → length (pick b n (select n P)) ≡ count_below n P + cond b 1 0
    go true e = ap suc e ∙ omega arith
    go false e = e ∙ omega arith

select-mem : (n : ℕ) (P : ℕ → Bool) (e : ℕ) → e < n → T (P e) → Mem e (select n P)
select-mem zero P e l t = absurd (Nat.not-suc-le-zero l)
select-mem (suc n) P e l t = go (P n) refl (Nat.eq-or-lt_of_le (Nat.le_of_suc-le-suc l)) (λ m. select-mem n P e m t)
  where
    go : (b : Bool) → P n ≡ b → (e ≡ n) ⊎ (e < n) → (e < n → Mem e (select n P)) → Mem e (pick b n (select n P))
    go true s (inl m) ih = inl m
    go true s (inr m) ih = inr (ih m)
    go false s (inl m) ih = absurd (rw (m, s) at t)
    go false s (inr m) ih = ih m

mem-select : (n : ℕ) (P : ℕ → Bool) (e : ℕ) → Mem e (select n P) → (e < n) × T (P e)
mem-select zero P e m = absurd m
mem-select (suc n) P e m = go (P n) refl m (mem-select n P e)
  where
    go : (b : Bool) → P n ≡ b → Mem e (pick b n (select n P)) → (Mem e (select n P) → (e < n) × T (P e)) → (e < suc n) × T (P e)
    go true s (inl k) ih = (Nat.le_of_eq (ap suc k), rw (k, s) tt)
    go true s (inr k) ih = (Nat.le_step (ih k).0, (ih k).1)
    go false s k ih = (Nat.le_step (ih k).0, (ih k).1)

select-once : (n : ℕ) (P : ℕ → Bool) → Once (select n P)
select-once zero P = tt
select-once (suc n) P = go (P n) (select-once n P)
  where
    go : (b : Bool) → Once (select n P) → Once (pick b n (select n P))
    go true o = ((λ m. Nat.lt_irrefl n (mem-select n P n m).0), o)
    go false o = o

module _ (B : BinaryField) (t : ℕ) where
  abbrev P : ℕ → Bool
  P = is_value B.n B.q t

  value-to : (e : ℕ) → Mem e (exponents B.n B.q t) → T (P e)
  value-to = exponents-ind (λ e. T (P e)) B.n B.q t (λ j s p h l.
      some_of (λ i. any (λ r. eqb (i * 2 ^ r % B.n) (j * 2 ^ s % B.n)) (range 0 B.q)) 1 (2 * t) j p (omega arith)
      (some_of (λ r. eqb (j * 2 ^ r % B.n) (j * 2 ^ s % B.n)) 0 B.q s zero-le (omega arith) (eqb_refl (j * 2 ^ s % B.n))))

  to-value : (e : ℕ) → T (P e) → Mem e (exponents B.n B.q t)
  to-value e u =
      let j = of_some (λ i. any (λ r. eqb (i * 2 ^ r % B.n) e) (range 0 B.q)) 1 (2 * t) u in
      let s = of_some (λ r. eqb (j.0 * 2 ^ r % B.n) e) 0 B.q j.3 in
      rw (eqb→eq (j.0 * 2 ^ s.0 % B.n) e s.3) at (exponents-mem B.n B.q t j.0 s.0 j.1 (omega (arith, j.2)) (omega (arith, s.2)))

  abbrev E : List ℕ
  E = exponents B.n B.q t

  abbrev D : List ℕ
  D = select B.n P

  o : Orbit B.n E
  o = orbit-exponents B.n B.q B.size (n_pos B) t

  there : (e : ℕ) → Mem e E → Mem e D
  there e m = select-mem B.n P e (o.below e m) (value-to e m)

  back : (e : ℕ) → Mem e D → Mem e E
  back e m = to-value e (mem-select B.n P e m).1

  d : Orbit B.n D
  d = record { once = select-once B.n P; below = λ e m. (mem-select B.n P e m).0; twice = λ e m. there (e * 2 % B.n) (o.twice e (back e m)) }

  pub width-exact : width B t ≡ count_below B.n (is_value B.n B.q t)
  width-exact = width-eq B t ∙ Nat.le_antisymm (length-le B E o D there) (length-le B D d E back) ∙ select-length B.n P

-- the degree w_a
pub degree-exact : (p : Parameters) → Rules p → (a : ℕ) → degree p a ≡ count_below (len p) (is_value (len p) p.q (strength p a))
degree-exact p R a =
    degree-eq p a ∙ width-exact (field_of p.q) (strength p a)
    ∙ ap₂ (λ (n q : ℕ). count_below n (is_value n q (strength p a))) (n-is p R) (field_of-exponent p.q R.known)
