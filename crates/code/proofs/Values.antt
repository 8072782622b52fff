-- The values of nested words at powers of α, and what the theorems on pages rest on.
--   weigh F x f i cs    Σ f(k) × c_k(x), the list's first word being c_i
--   Lawful F α C        α has order n in F, the generators are known by their roots, and there is no clash
use Rattle.std.specs.Prelude.{◌≡◌, ◌≢◌, ◌↔◌, List, [], ◌∷◌, ℕ, suc, ◌+◌, ◌*◌, ◌^◌, ◌≤◌, ◌<◌}
use Rattle.std.proofs.Math.Path.{refl}
use Rattle.std.proofs.Common.{◌∙◌}
use Rattle.polynomial.specs.Division.{Deg, unity-deg}
use Rattle.field.specs.Eval.{eval, eval-clmul, eval-monomial, eval-rem, eval-unity, eval_xor, eval-zero}
use Rattle.field.specs.Field.{Field2, pow}
use Rattle.code.specs.declared.Parameters.{Parameters}
use Rattle.code.specs.Code.{combine, degree, gen, nested}
use Rattle.code.specs.Parameters.{len, strength}
use Rattle.code.specs.Steps.{Divides}
use Rattle.code.proofs.Steps.{combine-cons, combine-nil, nested-eq}

module _ (F : Field2) where
  open F use {K, 𝟘, 𝟙, ◌⊕◌, ◌⊗◌}

  infixl 65 ◌⊕◌
  infixl 70 ◌⊗◌
  -- ---- the sum of f(i) × c_i(x), the first word having number i
  unfoldable pub weigh : K → (ℕ → K) → ℕ → List ℕ → K
  weigh x f i [] = 𝟘
  weigh x f i (c ∷ cs) = f i ⊗ eval F c x ⊕ weigh x f (suc i) cs

  pub weigh-nil : (x : K) (f : ℕ → K) (i : ℕ) → weigh x f i [] ≡ 𝟘
  unfolding weigh
  weigh-nil x f i = refl

  pub weigh-cons : (x : K) (f : ℕ → K) (i c : ℕ) (cs : List ℕ) → weigh x f i (c ∷ cs) ≡ f i ⊗ eval F c x ⊕ weigh x f (suc i) cs
  unfolding weigh
  weigh-cons x f i c cs = refl

  pub eval-combine : (x : K) (f : ℕ → ℕ) (i : ℕ) (cs : List ℕ) → eval F (combine f i cs) x ≡ weigh x (λ k. eval F (f k) x) i cs
  eval-combine x f i [] = simp (combine-nil, weigh-nil, eval-zero)
  eval-combine x f i (c ∷ cs) = simp (combine-cons, weigh-cons, eval_xor, eval-clmul, eval-combine x f (suc i) cs)

  -- nested word l at an n-th root of 1 is the sum of x^(l i) × c_i(x)
  pub eval-nested : (C : Parameters) → 0 < len C → (x : K) → pow F x (len C) ≡ 𝟙 → (l : ℕ) (cs : List ℕ)
      → eval F (nested C l cs) x ≡ weigh x (λ i. pow F x (l * i)) 0 cs
  eval-nested C h x e l cs =
      rw (nested-eq C l cs)
      (eval-rem F (2 ^ len C + 1) (len C) (unity-deg (len C) h) (combine (λ i. 2 ^ (l * i)) 0 cs) x (eval-unity F (len C) h x e)
      ∙ eval-combine x (λ i. 2 ^ (l * i)) 0 cs ∙ simp eval-monomial)

-- ---- the hypotheses: generators by their roots, no clash
pub record Lawful (F : Field2) (α : F.K) (C : Parameters) : Type 0 where
  pub pos : 0 < len C
  pub unity : pow F α (len C) ≡ F.𝟙
  pub α≢zero : α ≢ F.𝟘
  pub order : (i : ℕ) → 0 < i → i < len C → pow F α i ≢ F.𝟙
  pub shape : (1 ≤ C.v) × (C.v < C.m)
  pub rising : (a b : ℕ) → a ≤ b → b ≤ C.v → strength C a ≤ strength C b
  pub degrees : (a : ℕ) → a ≤ C.v → Deg (gen C a) (degree C a)
  pub roots : (a : ℕ) → a ≤ C.v → (f : ℕ) → Divides C a f ↔ ((j : ℕ) → 0 < j → j ≤ 2 * strength C a → eval F f (pow F α j) ≡ F.𝟘)
  pub no-clash : (d j : ℕ) → 0 < d → d < C.m → 0 < j → j ≤ 2 * strength C C.v → pow F α (d * j) ≢ F.𝟙
