-- Coset leaders: from t to t + 1 the exponents gain the coset of 2t + 1, and that coset is new exactly when 2t + 1 leads it.
use Rattle.std.specs.Prelude.{◌≡◌, ◌⊎◌, Bool, true, false, not, ◌&&◌, ℕ, zero, suc, ◌*◌, ◌%◌, ◌^◌, ◌≤◌, ◌<◌, T, leb}
use Rattle.std.proofs.Common.{inl, inr, le_refl, not-suc-le-zero, le_of_suc-le-suc, eq-or-lt_of_le, arith, leb→le}
use Rattle.std.proofs.Math.Dec.{nleb→lt}

leads_to : ℕ → ℕ → ℕ → Bool
leads_to n j zero = true
leads_to n j (suc s) = leb j (j * 2 ^ s % n) && leads_to n j s

unfoldable pub leader : ℕ → ℕ → ℕ → Bool
unfolding leads_to
leader n q j = leads_to n j q

leads-cases : (n j q : ℕ) (P : Bool → Type 0) → (((s : ℕ) → s < q → j ≤ j * 2 ^ s % n) → P true)
    → ((s : ℕ) → s < q → j * 2 ^ s % n < j → P false) → P (leads_to n j q)
unfolding leads_to
leads-cases n j zero P y f = y (λ s l. absurd (not-suc-le-zero l))
leads-cases n j (suc q) P y f =
    go (leb j (j * 2 ^ q % n)) (leb→le j (j * 2 ^ q % n)) (nleb→lt j (j * 2 ^ q % n))
    (leads-cases n j q (λ b. T (leb j (j * 2 ^ q % n)) → P b)
    (λ h t. y (λ s l. pick h (leb→le j (j * 2 ^ q % n) t) s (eq-or-lt_of_le (le_of_suc-le-suc l)))) (λ s l h t. f s (omega arith) h))
  where
    pick : ((s : ℕ) → s < q → j ≤ j * 2 ^ s % n) → j ≤ j * 2 ^ q % n → (s : ℕ) → (s ≡ q) ⊎ (s < q) → j ≤ j * 2 ^ s % n
    pick h t s (inl e) = rw e t
    pick h t s (inr l) = h s l

    go : (b : Bool) → (T b → j ≤ j * 2 ^ q % n) → (T (not b) → j * 2 ^ q % n < j) → (T b → P (leads_to n j q)) → P (b && leads_to n j q)
    go true u v r = r tt
    go false u v r = f q (le_refl (suc q)) (v tt)

pub leader-cases : (n q j : ℕ) (P : Bool → Type 0) → (((s : ℕ) → s < q → j ≤ j * 2 ^ s % n) → P true)
    → ((s : ℕ) → s < q → j * 2 ^ s % n < j → P false) → P (leader n q j)
unfolding leader
leader-cases n q j P y f = leads-cases n j q P y f
