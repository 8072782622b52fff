-- The numbers but for one, kept one by one.
--   Kept i ks k c l    the first c entries of l are the first k of ks but for i
use Rattle.std.specs.Prelude.{◌≡◌, refl, Bool, true, false, cond, ◌≢◌, List, [], ◌∷◌, ◌++◌, ℕ, suc, ◌+◌, ◌≤◌, ◌<◌, eqb, length, get_or, set, take}
use Rattle.std.proofs.Common.{sym, ap, ap₂, ◌∙◌, append-nil, zero-le, add-one, arith, length-set, get_or-set_same, take_all, take-suc}
use Rattle.std.proofs.Math.Nat as Nat
use Rattle.std.proofs.lemmas.List.{take-set-le}
use Rattle.code.proofs.Alter.{by_eqb, by-neqb}
use Rattle.code.specs.Nest.{others, others-cons, others-nil}

-- ---- the others of lists one behind another
cond-append : (b : Bool) (k : ℕ) (l m : List ℕ) → cond b (l ++ m) (k ∷ (l ++ m)) ≡ cond b l (k ∷ l) ++ m
cond-append true k l m = refl
cond-append false k l m = refl

pub others-append : (i : ℕ) (js ks : List ℕ) → others i (js ++ ks) ≡ others i js ++ others i ks
others-append i [] ks = sym (ap (λ (l : List ℕ). l ++ others i ks) (others-nil i))
others-append i (k ∷ js) ks =
    others-cons i k (js ++ ks) ∙ ap (λ (l : List ℕ). cond (eqb k i) l (k ∷ l)) (others-append i js ks) ∙ cond-append (eqb k i) k (others i js) (others i ks)
    ∙ sym (ap (λ (l : List ℕ). l ++ others i ks) (others-cons i k js))

one_same : (i k : ℕ) → k ≡ i → others i (k ∷ []) ≡ []
one_same i k e = others-cons i k [] ∙ by_eqb k i (others i []) (k ∷ others i []) e ∙ others-nil i

one-else : (i k : ℕ) → k ≢ i → others i (k ∷ []) ≡ k ∷ []
one-else i k n = others-cons i k [] ∙ by-neqb k i (others i []) (k ∷ others i []) n ∙ ap (λ (l : List ℕ). k ∷ l) (others-nil i)

-- ---- one number more
pub record Kept (i : ℕ) (ks : List ℕ) (k c : ℕ) (l : List ℕ) : Type 0 where
  pub few : c ≤ k
  pub are : take c l ≡ others i (take k ks)

pub kept-first : (i : ℕ) (ks l : List ℕ) → Kept i ks 0 0 l
kept-first i ks l = record { few = zero-le; are = sym (others-nil i) }

module _ {i : ℕ} {ks : List ℕ} {k c : ℕ} {l : List ℕ} (K : Kept i ks k c l) (h : k < length ks) where
  one_more : others i (take (suc k) ks) ≡ others i (take k ks) ++ others i (get_or ks k 0 ∷ [])
  one_more = ap (others i) (take-suc ks k 0 h) ∙ others-append i (take k ks) (get_or ks k 0 ∷ [])

  pub kept_same : get_or ks k 0 ≡ i → Kept i ks (k + 1) c l
  kept_same e = record {
    few = omega (arith, K.few);
    are = rw (add-one k) (K.are ∙ sym (one_more ∙ ap (λ (m : List ℕ). others i (take k ks) ++ m) (one_same i (get_or ks k 0) e) ∙ append-nil (others i (take k ks))));
  }

  pub kept-else : c < length l → get_or ks k 0 ≢ i → Kept i ks (k + 1) (c + 1) (set l c (get_or ks k 0))
  kept-else b n = record {
    few = omega (arith, K.few);
    are = rw (add-one k, add-one c) (
        take-suc (set l c (get_or ks k 0)) c 0 (rw (length-set l c (get_or ks k 0)) b)
        ∙ ap₂ (λ (m : List ℕ) (x : ℕ). m ++ (x ∷ [])) (take-set-le c l c (get_or ks k 0) (Nat.le_refl c) ∙ K.are) (get_or-set_same l c (get_or ks k 0) 0 b)
        ∙ sym (one_more ∙ ap (λ (m : List ℕ). others i (take k ks) ++ m) (one-else i (get_or ks k 0) n)));
  }

pub kept-last : {i : ℕ} {ks : List ℕ} {k c : ℕ} {l : List ℕ} → Kept i ks k c l → k ≤ length ks → length ks ≤ k
    → (c ≤ length ks) × (take c l ≡ others i ks)
kept-last {i} {ks} {k} K h b = (Nat.le_trans K.few h, K.are ∙ ap (others i) (take_all k ks b))
