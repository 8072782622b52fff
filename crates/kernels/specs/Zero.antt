-- Digits set to 0, and the test whether all are: from the lowest on.
use Rattle.std.specs.Prelude.{◌≡◌, refl, List, true, false, ℕ, ◌+◌, ◌*◌, ◌/◌, ◌%◌, ◌^◌, ◌≤◌, ◌<◌, eqb, length, get_or, take, set}
use Rattle.std.proofs.Common.{sym, ap, ◌∙◌, zero-add, zero-mul, take_all, eq-eqb, ne_eqb}
use Rattle.std.proofs.Math.Nat.{zero-mod, zero-div}
use Rattle.polynomial.specs.Digits.{value}
use Rattle.kernels.specs.Value.{take_more, take_more_set}

module _ (w : ℕ) (l : List ℕ) (i : ℕ) where
  -- a 0 is written
  pub zero-set : (x : ℕ) → i < length l → value w (take i l) ≡ x → value w (take (i + 1) (set l i 0)) ≡ x
  zero-set x h e = take_more_set w l i 0 h ∙ rw (zero-mul (2 ^ (w * i))) (zero-add (value w (take i l))) ∙ e

  -- a 0 is read
  pub zero-digit : i < length l → get_or l i 0 ≡ 0 → value w (take i l) ≡ 0 → value w (take (i + 1) l) ≡ 0
  zero-digit h z e = take_more w l i h ∙ rw (z, e, zero-mul) refl

  pub zero-yes : length l ≤ i → value w (take i l) ≡ 0 → eqb (value w l) 0 ≡ true
  zero-yes h e = eq-eqb (value w l) 0 (ap (value w) (sym (take_all i l h)) ∙ e)

-- something is found at x^p
pub zero-no : (x c p v : ℕ) → v ≡ x / 2 ^ p % 2 ^ c → (v ≡ 0 → ⊥) → eqb x 0 ≡ false
zero-no x c p v e h = ne_eqb x 0 (λ z. h (e ∙ rw (z, zero-div (2 ^ p)) (zero-mod (2 ^ c))))
