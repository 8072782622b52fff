-- Σ f(k) × c_k, word by word.
--   Combined f from cs x₀ x k    f(from) × c_from to f(k - 1) × c_(k - 1) are added to x₀, which makes x
use Rattle.std.specs.Prelude.{◌≡◌, List, [], ◌∷◌, ℕ, zero, suc, ◌+◌, ◌-◌, ◌≤◌, length, get_or, take, drop}
use Rattle.std.proofs.Common.{sym, ap, ap₂, ◌∙◌, arith, length-drop, take_all, get_or-drop}
use Rattle.std.proofs.Math.Nat as Nat
use Rattle.polynomial.specs.Clmul.{clmul, clmul-zero-r}
use Rattle.polynomial.specs.Xor.{xor, xors, xor_assoc, xor_zero_r}
use Rattle.code.specs.Code.{combine}
use Rattle.code.proofs.Steps.{combine-nil, combine-cons}

-- one word more at the end
pub combine-snoc : (f : ℕ → ℕ) (i k : ℕ) (cs : List ℕ)
    → combine f i (take (suc k) cs) ≡ xor (combine f i (take k cs)) (clmul (f (i + k)) (get_or cs k 0))
combine-snoc f i zero [] = simp (combine-nil, clmul-zero-r, xors)
combine-snoc f i zero (c ∷ cs) = simp (combine-nil, combine-cons, Nat.add-zero, xors)
combine-snoc f i (suc k) [] = simp (combine-nil, clmul-zero-r, xors)
combine-snoc f i (suc k) (c ∷ cs) =
    let e : suc i + k ≡ i + suc k = omega arith in
    rw (combine-cons f i c (take (suc k) cs), combine-cons f i c (take k cs)) (ap (xor (clmul (f i) c)) (combine-snoc f (suc i) k cs)
    ∙ sym (xor_assoc (clmul (f i) c) (combine f (suc i) (take k cs)) (clmul (f (suc i + k)) (get_or cs k 0)))
    ∙ ap (λ (n : ℕ). xor (xor (clmul (f i) c) (combine f (suc i) (take k cs))) (clmul (f n) (get_or cs k 0))) e)

pub record Combined (f : ℕ → ℕ) (from : ℕ) (cs : List ℕ) (x₀ x k : ℕ) : Type 0 where
  pub reached : from ≤ k
  pub sum : x ≡ xor x₀ (combine f from (take (k - from) (drop from cs)))

module _ (f : ℕ → ℕ) (from : ℕ) (cs : List ℕ) (x₀ : ℕ) where
  pub combined-start : Combined f from cs x₀ x₀ from
  combined-start = record {
    reached = Nat.le_refl from;
    sum =
        let z : from - from ≡ 0 = omega arith in
        sym (ap (λ (n : ℕ). xor x₀ (combine f from (take n (drop from cs)))) z ∙ simp (combine-nil, xor_zero_r));
  }

  pub combined-turn : (x x' k : ℕ) → Combined f from cs x₀ x k → x' ≡ xor x (clmul (f k) (get_or cs k 0)) → Combined f from cs x₀ x' (k + 1)
  combined-turn x x' k s e = record {
    reached = omega (arith, s.reached);
    sum =
        let a : k + 1 - from ≡ suc (k - from) = omega (arith, s.reached) in
        let b : from + (k - from) ≡ k = omega (arith, s.reached) in
        e ∙ ap₂ xor s.sum (sym (ap₂ (λ (n c : ℕ). clmul (f n) c) b (get_or-drop from cs (k - from) 0 ∙ ap (λ (n : ℕ). get_or cs n 0) b)))
        ∙ xor_assoc x₀ (combine f from (take (k - from) (drop from cs))) (clmul (f (from + (k - from))) (get_or (drop from cs) (k - from) 0))
        ∙ ap (xor x₀) (sym (ap (λ (n : ℕ). combine f from (take n (drop from cs))) a ∙ combine-snoc f from (k - from) (drop from cs)));
  }

  pub combined-done : (x k : ℕ) → Combined f from cs x₀ x k → length cs ≤ k → x ≡ xor x₀ (combine f from (drop from cs))
  combined-done x k s h =
      s.sum ∙ ap (λ (l : List ℕ). xor x₀ (combine f from l))
      (take_all (k - from) (drop from cs) (rw (length-drop from cs) (omega (arith, s.reached))))
