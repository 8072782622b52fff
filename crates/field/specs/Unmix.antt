-- One weight out of power sums: Vandermonde's equations solved for one unknown.
--   unmix B x ys N    the weight at node x, by the power sums N 0, N 1, .. of weights at x and at the nodes ys
--   firsts l          the nodes of pairs (node, weight)
--   squares ys        the squares of nodes
use Rattle.std.specs.Prelude.{◌≡◌, ◌≢◌, ℕ, zero, suc, ◌≤◌, length}
use Rattle.std.proofs.Math.Path.{refl}
use Rattle.std.proofs.Common.{sym, ap, ap₂, ◌∙◌, zero-le, suc-le-suc}
use mathlib.Core.List.{List, [], ◌∷◌, map}
use Rattle.std.proofs.Math.Nat as Nat
use Rattle.std.proofs.lemmas.List.{length-map}
use Rattle.polynomial.specs.Sums.{All}
use Rattle.field.specs.Field.{Field2, ring, add-eq-zero, mul_assoc, mul-eq-zero, mul-one, pow, pow-suc, pow-zero}
use Rattle.field.specs.Fields.{BinaryField}
use Rattle.field.specs.Inverse.{recip, recip-is, recip-unique}
use Rattle.field.specs.Vandermonde.{all-less, less, sum, sum-cons, sum_less, sum-nil}

module _ (B : BinaryField) where
  open B.field use {K, 𝟘, 𝟙, ◌⊕◌, ◌⊗◌}

  infixl 65 ◌⊕◌
  infixl 70 ◌⊗◌
  -- the node y taken out of the sums, by which the weight at x is multiplied by x + y
  unfoldable pub unmix : K → List K → (ℕ → K) → K
  unfolding recip
  unmix x [] N = N 0
  unmix x (y ∷ ys) N = unmix x ys (λ l. N (suc l) ⊕ y ⊗ N l) ⊗ recip B (x ⊕ y)

  pub unmix-nil : (x : K) (N : ℕ → K) → unmix x [] N ≡ N 0
  unfolding unmix
  unmix-nil x N = refl

  pub unmix-cons : (x y : K) (ys : List K) (N : ℕ → K) → unmix x (y ∷ ys) N ≡ unmix x ys (λ l. N (suc l) ⊕ y ⊗ N l) ⊗ recip B (x ⊕ y)
  unfolding unmix
  unmix-cons x y ys N = refl

  -- as many sums are asked for as there are nodes
  pub unmix-agree : (x : K) (ys : List K) (N M : ℕ → K) → ((l : ℕ) → l ≤ length ys → N l ≡ M l) → unmix x ys N ≡ unmix x ys M
  unmix-agree x [] N M h = unmix-nil x N ∙ h 0 zero-le ∙ sym (unmix-nil x M)
  unmix-agree x (y ∷ ys) N M h =
      unmix-cons x y ys N
      ∙ ap (λ (u : K). u ⊗ recip B (x ⊕ y)) (unmix-agree x ys (λ l. N (suc l) ⊕ y ⊗ N l) (λ l. M (suc l) ⊕ y ⊗ M l)
      (λ l b. ap₂ (λ (u v : K). u ⊕ y ⊗ v) (h (suc l) (suc-le-suc b)) (h l (Nat.le_step b))))
      ∙ sym (unmix-cons x y ys M)

  abbrev F : Field2
  F = B.field

  abbrev pub firsts : List (K × K) → List K
  firsts l = map (λ (q : K × K). q.0) l

  firsts-less : (y : K) (l : List (K × K)) → firsts (map (less F y) l) ≡ firsts l
  firsts-less y [] = refl
  firsts-less y (q ∷ l) = ap (λ (m : List K). q.0 ∷ m) (firsts-less y l)

  drops : (E x p : K) (q : K × K) (l : List (K × K)) (j : ℕ)
      → E ⊗ (x ⊗ p) ⊕ sum F (q ∷ l) (suc j) ⊕ q.0 ⊗ (E ⊗ p ⊕ sum F (q ∷ l) j) ≡ E ⊗ (x ⊕ q.0) ⊗ p ⊕ (sum F l (suc j) ⊕ q.0 ⊗ sum F l j)
  drops E x p q l j = simp (sum-cons, pow-suc, ring)

  step : (x E : K) (q : K × K) (l : List (K × K)) (u v : K) (j : ℕ) → u ≡ E ⊗ pow F x (suc j) ⊕ sum F (q ∷ l) (suc j)
      → v ≡ E ⊗ pow F x j ⊕ sum F (q ∷ l) j → u ⊕ q.0 ⊗ v ≡ E ⊗ (x ⊕ q.0) ⊗ pow F x j ⊕ sum F (map (less F q.0) l) j
  step x E q l u v j p r = rw (p, r, pow-suc F x j, sum_less F q.0 l j) (drops E x (pow F x j) q l j)

  unmix-go : (n : ℕ) (x E : K) (l : List (K × K)) (N : ℕ → K) → length l ≡ n → All (λ q. q.0 ≢ x) l
      → ((j : ℕ) → j ≤ n → N j ≡ E ⊗ pow F x j ⊕ sum F l j) → unmix x (firsts l) N ≡ E
  unmix-go zero x E [] N e a h = unmix-nil x N ∙ h 0 zero-le ∙ simp (pow-zero, sum-nil, ring)
  unmix-go zero x E (q ∷ l) N e a h = absurd (Nat.suc-ne-zero (length l) e)
  unmix-go (suc n) x E [] N e a h = absurd (Nat.suc-ne-zero n (sym e))
  unmix-go (suc n) x E (q ∷ l) N e a h =
      unmix-cons x q.0 (firsts l) N
      ∙ ap (λ (y : K). y ⊗ recip B (x ⊕ q.0)) (ap (λ (ys : List K). unmix x ys (λ j. N (suc j) ⊕ q.0 ⊗ N j)) (sym (firsts-less q.0 l))
      ∙ unmix-go n x (E ⊗ (x ⊕ q.0)) (map (less F q.0) l) (λ j. N (suc j) ⊕ q.0 ⊗ N j)
      (length-map l (less F q.0) ∙ Nat.suc_inj e) (all-less F q.0 (λ y. y ≢ x) l a.1)
      (λ j b. step x E q l (N (suc j)) (N j) j (h (suc j) (suc-le-suc b)) (h j (Nat.le_step b))))
      ∙ mul_assoc F E (x ⊕ q.0) (recip B (x ⊕ q.0))
      ∙ ap (λ (y : K). E ⊗ y) (recip-is B (x ⊕ q.0) (λ z. a.0 (sym (add-eq-zero F x q.0 z)))) ∙ mul-one F E

  -- the weight E at x, by the power sums of E at x and of l
  pub unmix-is : (x E : K) (l : List (K × K)) (N : ℕ → K) → All (λ q. q.0 ≢ x) l
      → ((j : ℕ) → j ≤ length l → N j ≡ E ⊗ pow F x j ⊕ sum F l j) → unmix x (firsts l) N ≡ E
  unmix-is x E l N a h = unmix-go (length l) x E l N refl a h

  -- ---- squares: from the squares of sums at the squares of nodes comes the square, whatever the sums are
  recip-sq : (a : K) → a ≢ 𝟘 → recip B (a ⊗ a) ≡ recip B a ⊗ recip B a
  recip-sq a h =
      let g : a ⊗ a ⊗ (recip B a ⊗ recip B a) ≡ a ⊗ recip B a ⊗ (a ⊗ recip B a) = simp ring in
      sym (recip-unique B (a ⊗ a) (recip B a ⊗ recip B a) (g ∙ rw (recip-is B a h) (mul-one F 𝟙)) (λ e. h (mul-eq-zero F a a e h)))

  abbrev pub squares : List K → List K
  squares ys = map (λ (y : K). y ⊗ y) ys

  sum-sq : (u v y : K) → u ⊗ u ⊕ y ⊗ y ⊗ (v ⊗ v) ≡ (u ⊕ y ⊗ v) ⊗ (u ⊕ y ⊗ v)
  sum-sq u v y = simp ring

  node-sq : (x y : K) → x ⊗ x ⊕ y ⊗ y ≡ (x ⊕ y) ⊗ (x ⊕ y)
  node-sq x y = simp ring

  both-sq : (u v : K) → u ⊗ u ⊗ (v ⊗ v) ≡ u ⊗ v ⊗ (u ⊗ v)
  both-sq u v = simp ring

  pub unmix-sq : (x : K) (ys : List K) → All (λ y. y ≢ x) ys → (N M : ℕ → K) → ((l : ℕ) → M l ≡ N l ⊗ N l)
      → unmix (x ⊗ x) (squares ys) M ≡ unmix x ys N ⊗ unmix x ys N
  unmix-sq x [] a N M h = unmix-nil (x ⊗ x) M ∙ h 0 ∙ sym (ap₂ ◌⊗◌ (unmix-nil x N) (unmix-nil x N))
  unmix-sq x (y ∷ ys) a N M h =
      unmix-cons (x ⊗ x) (y ⊗ y) (squares ys) M
      ∙ ap₂ ◌⊗◌ (unmix-sq x ys a.1 (λ l. N (suc l) ⊕ y ⊗ N l) (λ l. M (suc l) ⊕ y ⊗ y ⊗ M l)
      (λ l. ap₂ (λ (u v : K). u ⊕ y ⊗ y ⊗ v) (h (suc l)) (h l) ∙ sum-sq (N (suc l)) (N l) y))
      (ap (recip B) (node-sq x y) ∙ recip-sq (x ⊕ y) (λ e. a.0 (sym (add-eq-zero F x y e))))
      ∙ both-sq (unmix x ys (λ l. N (suc l) ⊕ y ⊗ N l)) (recip B (x ⊕ y))
      ∙ sym (ap₂ ◌⊗◌ (unmix-cons x y ys N) (unmix-cons x y ys N))
