-- All syndromes from those of odd number: S_(2j) is the square of S_j.
--   from_odd q O j    S_j, where O i is S_(2i + 1)
use Rattle.std.specs.Prelude.{◌≡◌, refl, ℕ, zero, suc, ◌+◌, ◌*◌, ◌/◌, ◌%◌, ◌≤◌, ◌<◌}
use Rattle.std.proofs.Common.{ap, ap₂, ◌∙◌, arith}
use Rattle.std.proofs.Math.Nat as Nat
use Rattle.std.proofs.Math.Arith.{bin_ind}
use Rattle.polynomial.specs.Bits.{fold, fold_step}
use Rattle.polynomial.specs.Clmul.{clmul-zero-l}
use Rattle.polynomial.specs.Division.{rem-zero}
use Rattle.field.specs.Elements.{square, syndrome, times, times-eq}
use Rattle.field.specs.Fields.{Known, field_polynomial}

abbrev choice : ℕ → ℕ → ℕ → ℕ
choice zero o r = r
choice (suc b) o r = o

-- one bit of j, the lowest, over the syndrome r of the others
odd_step : ℕ → (ℕ → ℕ) → ℕ → ℕ → ℕ
odd_step q O j r = choice (j % 2) (O (j / 2)) (times q r r)

unfoldable pub from_odd : ℕ → (ℕ → ℕ) → ℕ → ℕ
unfolding fold odd_step times
from_odd q O j = fold 0 (odd_step q O) j

from_odd-eq : (q : ℕ) (O : ℕ → ℕ) (j : ℕ) → from_odd q O j ≡ choice (j % 2) (O (j / 2)) (times q (from_odd q O (j / 2)) (from_odd q O (j / 2)))
unfolding from_odd odd_step
from_odd-eq q O j = fold_step 0 (odd_step q O) (times-eq q 0 0 ∙ rw (clmul-zero-l 0) (rem-zero (field_polynomial q) q)) j

pub from_odd-odd : (q : ℕ) (O : ℕ → ℕ) (j : ℕ) → j % 2 ≡ 1 → from_odd q O j ≡ O (j / 2)
from_odd-odd q O j e = from_odd-eq q O j ∙ rw e refl

pub from_odd-even : (q : ℕ) (O : ℕ → ℕ) (j : ℕ) → j % 2 ≡ 0 → from_odd q O j ≡ times q (from_odd q O (j / 2)) (from_odd q O (j / 2))
from_odd-even q O j e = from_odd-eq q O j ∙ rw e refl

-- T are syndromes of which each even one is a square: they come back from the odd ones
pub from_odd-is : (q t : ℕ) (T O : ℕ → ℕ) → ((j : ℕ) → 0 < j → j ≤ t → times q (T j) (T j) ≡ T (j + j)) → ((i : ℕ) → i < t → O i ≡ T (2 * i + 1))
    → (j : ℕ) → 0 < j → j ≤ 2 * t → from_odd q O j ≡ T j
from_odd-is q t T O s h j =
    bin_ind (λ (j : ℕ). 0 < j → j ≤ 2 * t → from_odd q O j ≡ T j) (λ p. absurd (Nat.not-suc-le-zero p)) (λ n ih p b. from_odd-eq q O n ∙ go n (n % 2) refl ih p b) j
  where
    go : (n b : ℕ) → n % 2 ≡ b → (0 < n / 2 → n / 2 ≤ 2 * t → from_odd q O (n / 2) ≡ T (n / 2)) → 0 < n → n ≤ 2 * t
        → choice b (O (n / 2)) (times q (from_odd q O (n / 2)) (from_odd q O (n / 2))) ≡ T n
    go n zero e ih p b =
        ap₂ (times q) (ih (omega arith) (omega arith)) (ih (omega arith) (omega arith)) ∙ s (n / 2) (omega arith) (omega arith) ∙ ap T (omega arith)
    go n (suc d) e ih p b = h (n / 2) (omega arith) ∙ ap T (omega arith)

-- those of a word are such
pub word-odd : (q : ℕ) → Known q → (c t : ℕ) (O : ℕ → ℕ) → ((i : ℕ) → i < t → O i ≡ syndrome q c (2 * i + 1)) → (j : ℕ) → 0 < j → j ≤ 2 * t → from_odd q O j ≡ syndrome q c j
word-odd q known c t O h = from_odd-is q t (syndrome q c) O (λ j p b. square q known c j) h
