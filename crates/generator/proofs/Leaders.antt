-- Coset leaders: from t to t + 1 the exponents gain the coset of 2t + 1, and that coset is new exactly when 2t + 1 leads it.
--   leader n q j    no value of the coset of j is smaller than j
use Rattle.std.specs.Prelude.{◌≡◌, refl, ◌⊎◌, ℕ, zero, suc, ◌*◌, ◌%◌, ◌^◌, ◌≤◌, ◌<◌}
use Rattle.std.proofs.Common.{sym, ap, ◌∙◌, inl, inr, zero-le, suc-le-suc, le_of_suc-le-suc, eq-or-lt_of_le, mod-eq_of_lt, mul_assoc, mul_comm, arith}
use Rattle.std.proofs.Math.Nat.{mod-mod}
use Rattle.generator.specs.Distinct.{Mem}
use Rattle.generator.specs.Exponents.{mod-mul-l, coset, exponents}
use Rattle.generator.specs.Exponents.{coset-mem, coset-ind, exponents-mem, exponents-ind}
use Rattle.generator.proofs.Exponents.{exponents-self, orbit-coset, orbit-exponents, again, back-mem, nonzero}
use Rattle.generator.specs.Leaders.{leader}

module _ (n q : ℕ) (size : 2 ^ q ≡ suc n) (pos : 0 < n) where
  pub next-ind : (P : ℕ → Type 0) (t : ℕ) → ((a : ℕ) → Mem a (exponents n q t) → P a) → ((a : ℕ) → Mem a (coset n q (suc (2 * t))) → P a)
      → (a : ℕ) → Mem a (exponents n q (suc t)) → P a
  next-ind P t f g = exponents-ind P n q (suc t) (λ j s p h l. go j s p l (eq-or-lt_of_le h))
    where
      i : ℕ
      i = suc (2 * t)

      -- 2t + 2 is twice t + 1, which is at most 2t or 1
      top : (k : ℕ) → k ≡ t → (s : ℕ) → s < q → P (suc k * 2 ^ s % n * 2 % n)
      top zero e s l = g (suc zero * 2 ^ s % n * 2 % n) (rw (← e) ((orbit-coset n q size pos 1).twice (1 * 2 ^ s % n) (coset-mem n q 1 s l)))
      top (suc k) e s l =
          f (suc (suc k) * 2 ^ s % n * 2 % n) ((orbit-exponents n q size pos t).twice (suc (suc k) * 2 ^ s % n)
          (exponents-mem n q t (suc (suc k)) s (suc-le-suc zero-le) (omega arith) l))

      even : (j s : ℕ) → j ≡ suc t * 2 → suc t * 2 ^ s % n * 2 % n ≡ j * 2 ^ s % n
      even j s e =
          mod-mul-l (suc t * 2 ^ s) 2 n ∙ ap (λ (x : ℕ). x % n)
          (sym (rw e (mul_assoc (suc t) 2 (2 ^ s) ∙ sym (mul_assoc (suc t) (2 ^ s) 2 ∙ ap (λ (x : ℕ). suc t * x) (mul_comm (2 ^ s) 2)))))

      go : (j s : ℕ) → 0 < j → s < q → (j ≡ 2 * suc t) ⊎ (j < 2 * suc t) → P (j * 2 ^ s % n)
      go j s p l (inl e) = rw (even j s (omega arith)) at (top t refl s l)
      go j s p l (inr h) = go2 (eq-or-lt_of_le h)
        where
          go2 : (suc j ≡ 2 * suc t) ⊎ (suc j < 2 * suc t) → P (j * 2 ^ s % n)
          go2 (inl e) =
              let w : i ≡ j = omega arith in
              g (j * 2 ^ s % n) (rw w (coset-mem n q j s l))
          go2 (inr k) = f (j * 2 ^ s % n) (exponents-mem n q t j s p (omega arith) l)

  -- a leader's coset is new
  pub leader-new : (t : ℕ) → suc (2 * t) < n → ((s : ℕ) → s < q → suc (2 * t) ≤ suc (2 * t) * 2 ^ s % n) → (a : ℕ) → Mem a (exponents n q t)
      → Mem a (coset n q (suc (2 * t))) → ⊥
  leader-new t h lead =
      exponents-ind (λ a. Mem a (coset n q (suc (2 * t))) → ⊥) n q t
      (λ j s p k l m. clash j p k (coset-ind (λ a. suc (2 * t) ≤ a) n q (suc (2 * t)) lead j
      (back-mem n q size pos (coset n q (suc (2 * t))) (orbit-coset n q size pos (suc (2 * t))) j s l (omega arith) m)))
    where
      clash : (j : ℕ) → 0 < j → j ≤ 2 * t → suc (2 * t) ≤ j → ⊥
      clash j p k m = omega arith

  -- the coset of any other is there already
  pub other-old : (t s : ℕ) → suc (2 * t) < n → s < q → suc (2 * t) * 2 ^ s % n < suc (2 * t) → (a : ℕ) → Mem a (coset n q (suc (2 * t)))
      → Mem a (exponents n q t)
  other-old t s h l b =
      coset-ind (λ a. Mem a (exponents n q t)) n q (suc (2 * t))
      (λ r k. again n q size pos (exponents n q t) (orbit-exponents n q size pos t) (suc (2 * t)) r (rw (mod-eq_of_lt h) here))
    where
      low : Mem (suc (2 * t) * 2 ^ s % n % n) (exponents n q t)
      low =
          exponents-self n q size pos t (suc (2 * t) * 2 ^ s % n) (nonzero n q size pos (suc (2 * t)) s l (suc-le-suc zero-le) h)
          (le_of_suc-le-suc b)

      here : Mem (suc (2 * t)) (exponents n q t)
      here =
          back-mem n q size pos (exponents n q t) (orbit-exponents n q size pos t) (suc (2 * t)) s l h
          (rw (mod-mod (suc (2 * t) * 2 ^ s) n) at low)
