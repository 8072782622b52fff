-- The exponents of a generator's roots: the values of j × 2^s modulo n = 2^q - 1.
--   last_root t         2t: the roots asked for are α^1 to α^(last_root t)
--   row n j q          j × 2^s mod n for s from q - 1 down to 0
--   coset n q j        the same values, each once: the cyclotomic coset of j
--   exponents n q t    those of all j from 1 to last_root t, each once
--   Orbit n E          E has each value once, below n, and with e also 2e mod n
use Rattle.std.specs.Prelude.{◌≡◌, refl, ◌⊎◌, List, ℕ, zero, suc, ◌+◌, ◌-◌, ◌*◌, ◌%◌, ◌^◌, ◌≤◌, ◌<◌}
use Rattle.std.proofs.Common.{sym, ap, ◌∙◌, inl, inr, zero-le, suc-le-suc, not-suc-le-zero, eq-or-lt_of_le, mod-lt, mod-eq_of_lt, mul_assoc, mul-one, pow-suc, zero-mul, arith, pow-add}
use Rattle.std.proofs.Math.Nat.{pow-zero, add-mul-mod_self_right, mod-mod, zero-mod}
use Rattle.generator.specs.Distinct.{Mem, Once, distinct}
use Rattle.generator.specs.Distinct.{distinct-once, mem-distinct, distinct-mem}
use Rattle.generator.specs.Exponents.{Orbit, coset, exponents, last_root, mod-mul-l, row, row-ind, row-mem, values, values-ind, values-mem, coset-mem, coset-ind, exponents-mem, exponents-ind}

coset-once : (n q j : ℕ) → Once (coset n q j)
unfolding coset
coset-once n q j = distinct-once (row n j q)

exponents-once : (n q t : ℕ) → Once (exponents n q t)
unfolding exponents
exponents-once n q t = distinct-once (values n q (last_root t))

pub exponents-mono : (n q t t' : ℕ) → t ≤ t' → (a : ℕ) → Mem a (exponents n q t) → Mem a (exponents n q t')
exponents-mono n q t t' h = exponents-ind (λ a. Mem a (exponents n q t')) n q t (λ j s p k l. exponents-mem n q t' j s p (omega arith) l)

module _ (n q : ℕ) (size : 2 ^ q ≡ suc n) (pos : 0 < n) where
  pub q-pos : 0 < q
  q-pos = go q size
    where
      go : (k : ℕ) → 2 ^ k ≡ suc n → 0 < k
      go zero e = absurd (not-suc-le-zero {n = 0} (omega (arith, rw (pow-zero 2) at e)))
      go (suc k) e = suc-le-suc zero-le

  pub double : (j s : ℕ) → j * 2 ^ s % n * 2 % n ≡ j * 2 ^ suc s % n
  double j s = mod-mul-l (j * 2 ^ s) 2 n ∙ ap (λ (x : ℕ). x % n) (mul_assoc j (2 ^ s) 2 ∙ ap (λ (x : ℕ). j * x) (sym (pow-suc 2 s)))

  -- 2^q is 1 modulo n
  pub around : (j : ℕ) → j * 2 ^ q % n ≡ j * 2 ^ 0 % n
  around j = rw (size, pow-zero 2, mul-one j) (ap (λ (x : ℕ). x % n) e ∙ add-mul-mod_self_right j j n)
    where
      e : j * suc n ≡ j + j * n
      e = omega arith

  -- a property of j * 2^s mod n that doubling hands on
  row-twice : (E : List ℕ) (j : ℕ) → ((s : ℕ) → s < q → Mem (j * 2 ^ s % n) E) → (s : ℕ) → s < q → Mem (j * 2 ^ s % n * 2 % n) E
  row-twice E j f s l = rw (double j s) (go (eq-or-lt_of_le l))
    where
      go : (suc s ≡ q) ⊎ (suc s < q) → Mem (j * 2 ^ suc s % n) E
      go (inl e) = rw (e, around j) (f 0 q-pos)
      go (inr k) = f (suc s) k

  pub orbit-coset : (j : ℕ) → Orbit n (coset n q j)
  orbit-coset j = record {
    once = coset-once n q j;
    below = coset-ind (λ a. a < n) n q j (λ s l. mod-lt (j * 2 ^ s) pos);
    twice = coset-ind (λ a. Mem (a * 2 % n) (coset n q j)) n q j (row-twice (coset n q j) j (coset-mem n q j));
  }

  pub orbit-exponents : (t : ℕ) → Orbit n (exponents n q t)
  orbit-exponents t = record {
    once = exponents-once n q t;
    below = exponents-ind (λ a. a < n) n q t (λ j s p h l. mod-lt (j * 2 ^ s) pos);
    twice = exponents-ind (λ a. Mem (a * 2 % n) (exponents n q t)) n q t
        (λ j s p h l. row-twice (exponents n q t) j (λ r k. exponents-mem n q t j r p h k) s l);
  }

  -- j itself
  pub self : (j : ℕ) → j < n → j * 2 ^ 0 % n ≡ j
  self j h = rw (pow-zero 2, mul-one j) (mod-eq_of_lt h)

  -- any number of doublings
  pub again : (E : List ℕ) → Orbit n E → (a s : ℕ) → Mem (a % n) E → Mem (a * 2 ^ s % n) E
  again E o a zero m = rw (pow-zero 2, mul-one a) m
  again E o a (suc s) m = rw (← double a s) (o.twice (a * 2 ^ s % n) (again E o a s m))

  -- and back
  back : (j s : ℕ) → s < q → j < n → (j * 2 ^ s % n) * 2 ^ (q - s) % n ≡ j
  back j s l h =
      mod-mul-l (j * 2 ^ s) (2 ^ (q - s)) n ∙ ap (λ (x : ℕ). x % n)
      (mul_assoc j (2 ^ s) (2 ^ (q - s)) ∙ ap (λ (x : ℕ). j * x) (sym (pow-add 2 s (q - s)) ∙ ap (λ (x : ℕ). 2 ^ x) e))
      ∙ around j ∙ self j h
    where
      e : s + (q - s) ≡ q
      e = omega arith

  pub back-mem : (E : List ℕ) → Orbit n E → (j s : ℕ) → s < q → j < n → Mem (j * 2 ^ s % n) E → Mem j E
  back-mem E o j s l h m = rw (back j s l h) at (again E o (j * 2 ^ s % n) (q - s) (rw (mod-mod (j * 2 ^ s) n) m))

  pub nonzero : (j s : ℕ) → s < q → 0 < j → j < n → 0 < j * 2 ^ s % n
  nonzero j s l p h = go (j * 2 ^ s % n) refl
    where
      go : (x : ℕ) → j * 2 ^ s % n ≡ x → 0 < x
      go zero e =
          let z : 0 ≡ j = sym (rw (zero-mul (2 ^ (q - s))) (zero-mod n)) ∙ rw e at (back j s l h) in
          absurd (not-suc-le-zero {n = 0} (omega arith))
      go (suc x) e = suc-le-suc zero-le

  pub exponents-pos : (t : ℕ) → last_root t < n → (a : ℕ) → Mem a (exponents n q t) → 0 < a
  exponents-pos t h = exponents-ind (λ a. 0 < a) n q t (λ j s p k l. nonzero j s l p (omega arith))

  pub exponents-self : (t j : ℕ) → 0 < j → j ≤ last_root t → Mem (j % n) (exponents n q t)
  exponents-self t j p h = rw (pow-zero 2, mul-one j) at (exponents-mem n q t j 0 p h q-pos)

  pub coset-self : (j : ℕ) → Mem (j % n) (coset n q j)
  coset-self j = rw (pow-zero 2, mul-one j) at (coset-mem n q j 0 q-pos)
