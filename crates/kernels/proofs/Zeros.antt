-- Digits that are 0.
use Rattle.std.proofs.Common.{◌≡◌, ◌∙◌, ℕ, zero, suc, ◌<◌, ◌++◌, ◌+◌, ◌≤◌, List, [], ◌∷◌, length, get_or, arith, add-zero, suc-le-suc, zero-le, zero-mul, zero-add, take, drop, get_or-drop, length-drop}
use Rattle.std.proofs.Math.ListN.{replicate}
use Rattle.polynomial.specs.Digits.{value}
use Rattle.kernels.specs.Value.{value-nil, value-cons, value-append, value-split}

module _ (w : ℕ) where
  pub zeros-value : (l : List ℕ) → ((k : ℕ) → k < length l → get_or l k 0 ≡ 0) → value w l ≡ 0
  zeros-value [] h = value-nil w
  zeros-value (x ∷ l) h =
      rw (value-cons w x l, zeros-value l (λ k i. h (suc k) (suc-le-suc i)), zero-mul, zero-add) (h 0 (suc-le-suc zero-le))

  replicate-value : (n : ℕ) → value w (replicate n 0) ≡ 0
  replicate-value zero = value-nil w
  replicate-value (suc n) = rw (value-cons w 0 (replicate n 0), replicate-value n, zero-mul) (add-zero 0)

  -- zeros above l
  pub zeros-above : (l : List ℕ) (n : ℕ) → value w (l ++ replicate n 0) ≡ value w l
  zeros-above l n = rw (value-append w l (replicate n 0), replicate-value n, zero-mul) (zero-add (value w l))

  -- no digit but 0 from i on
  pub zeros-from : (l : List ℕ) (i : ℕ) → i ≤ length l → ((k : ℕ) → i ≤ k → k < length l → get_or l k 0 ≡ 0) → value w l ≡ value w (take i l)
  zeros-from l i h z =
      value-split w i l h
      ∙ rw (zeros-value (drop i l) (λ k lt. get_or-drop i l k 0 ∙ z (i + k) (omega arith) (omega (arith, length-drop i l))), zero-mul)
      (zero-add (value w (take i l)))
