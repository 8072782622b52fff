-- The search for the first word that fails.
--   first_from P i k o     the first of i, i + 1, .., k of them, that passes the test P, or o
--   Seeking P o i         a search of 0 to o - 1 has come to i
use Rattle.std.specs.Prelude.{◌≡◌, refl, Bool, true, false, ℕ, zero, suc, ◌+◌, ◌-◌, ◌≤◌, ◌<◌}
use Rattle.std.proofs.Common.{sym, ap, ◌∙◌, arith}
use Rattle.std.proofs.Math.Nat as Nat
use Rattle.code.specs.Lists.{range, first}

unfoldable pub first_from : (ℕ → Bool) → ℕ → ℕ → ℕ → ℕ
unfolding first range
first_from P i k o = first P (range i k) o

first-none : (P : ℕ → Bool) (i o : ℕ) → first_from P i 0 o ≡ o
unfolding first_from
first-none P i o = refl

first-here : (P : ℕ → Bool) (i k o : ℕ) → 0 < k → P i ≡ true → first_from P i k o ≡ i
unfolding first_from first range
first-here P i zero o h e = absurd (Nat.not-suc-le-zero h)
first-here P i (suc k) o h e = rw e refl

first-later : (P : ℕ → Bool) (i k o : ℕ) → 0 < k → P i ≡ false → first_from P i k o ≡ first_from P (i + 1) (k - 1) o
unfolding first_from first range
first-later P i zero o h e = absurd (Nat.not-suc-le-zero h)
first-later P i (suc k) o h e =
    let a : suc i ≡ i + 1 = omega arith in
    let b : k ≡ suc k - 1 = omega arith in
    rw e (ap (λ (j : ℕ). first P (range j k) o) a ∙ ap (λ (j : ℕ). first P (range (i + 1) j) o) b)

pub record Seeking (P : ℕ → Bool) (o i : ℕ) : Type 0 where
  pub high : i ≤ o
  pub same : first_from P 0 o o ≡ first_from P i (o - i) o

pub seek-start : (P : ℕ → Bool) (o : ℕ) → Seeking P o 0
seek-start P o = let e : o ≡ o - 0 = omega arith in record { high = omega arith; same = ap (λ (k : ℕ). first_from P 0 k o) e }

pub seek_found : (P : ℕ → Bool) (o i : ℕ) → Seeking P o i → i < o → P i ≡ true → i ≡ first_from P 0 o o
seek_found P o i s h e = sym (s.same ∙ first-here P i (o - i) o (omega arith) e)

pub seek-next : (P : ℕ → Bool) (o i : ℕ) → Seeking P o i → i < o → P i ≡ false → Seeking P o (i + 1)
seek-next P o i s h e =
    let a : o - i - 1 ≡ o - (i + 1) = omega arith in
    record { high = omega arith; same = s.same ∙ first-later P i (o - i) o (omega arith) e ∙ ap (λ (k : ℕ). first_from P (i + 1) k o) a }

pub seek-done : (P : ℕ → Bool) (o i : ℕ) → Seeking P o i → o ≤ i → o ≡ first_from P 0 o o
seek-done P o i s h =
    let a : o - i ≡ 0 = omega arith in
    sym (s.same ∙ ap (λ (k : ℕ). first_from P i k o) a ∙ first-none P i o)
