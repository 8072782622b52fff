-- Vandermonde's equations solved: the weights that one node after another has by unmix are those of the sums.
--   weight_by B nd N ks k    the weight at the node nd k, by the sums N and the nodes of the others of ks
--   pairs B nd w ks         the pairs of nodes and weights w
--   Apart B nd ks           no node stands twice
use Rattle.std.specs.Prelude.{◌≡◌, refl, ◌≢◌, List, [], ◌∷◌, map, ℕ, zero, suc, ◌≤◌, ◌<◌, length}
use Rattle.std.proofs.Common.{sym, ap, ap₂, ◌∙◌, inl, inr}
use Rattle.std.proofs.Math.Nat as Nat
use Rattle.std.proofs.lemmas.List.{length-map}
use Rattle.polynomial.specs.Sums.{All}
use Rattle.field.specs.Field.{Field2, add-eq-zero, mul-one, pow, pow-suc, pow-zero, ring}
use Rattle.field.specs.Fields.{BinaryField}
use Rattle.field.specs.Flips.{Rising}
use Rattle.field.specs.Inverse.{recip, recip-is}
use Rattle.field.specs.Unmix.{firsts, unmix, unmix-cons, unmix-is}
use Rattle.field.specs.Vandermonde.{less, sum, sum-cons, sum_less}
use Rattle.code.specs.Nest.{Mem, others}
use Rattle.code.proofs.Rounds.{above, others-else, others-none, others_same}

module _ (B : BinaryField) (nd : ℕ → B.field.K) where
  open B.field use {K, 𝟘, 𝟙, ◌⊕◌, ◌⊗◌}

  infixl 65 ◌⊕◌
  infixl 70 ◌⊗◌
  abbrev F : Field2
  F = B.field

  -- the weight at the node of k
  abbrev pub weight_by : (ℕ → K) → List ℕ → ℕ → K
  weight_by N ks k = unmix B (nd k) (map nd (others k ks)) N

  abbrev pub pairs : (ℕ → K) → List ℕ → List (K × K)
  pairs w ks = map (λ (k : ℕ). (nd k, w k)) ks

  -- no node stands twice
  abbrev pub Apart : List ℕ → Type 0
  Apart ks = (i k : ℕ) → Mem i ks → Mem k ks → i ≢ k → nd i ≢ nd k

  nodes : (w : ℕ → K) (ks : List ℕ) → firsts B (pairs w ks) ≡ map nd ks
  nodes w [] = refl
  nodes w (k ∷ ks) = ap (λ (l : List K). nd k ∷ l) (nodes w ks)

  pairs-agree : (u w : ℕ → K) (ks : List ℕ) → ((k : ℕ) → Mem k ks → u k ≡ w k) → pairs u ks ≡ pairs w ks
  pairs-agree u w [] h = refl
  pairs-agree u w (k ∷ ks) h = ap₂ (λ (x : K) (l : List (K × K)). (nd k, x) ∷ l) (h k (inl refl)) (pairs-agree u w ks (λ i m. h i (inr m)))

  pairs-less : (y : K) (w : ℕ → K) (ks : List ℕ) → map (less F y) (pairs w ks) ≡ pairs (λ k. w k ⊗ (nd k ⊕ y)) ks
  pairs-less y w [] = refl
  pairs-less y w (k ∷ ks) = ap (λ (l : List (K × K)). (nd k, w k ⊗ (nd k ⊕ y)) ∷ l) (pairs-less y w ks)

  pairs-apart : (x : K) (w : ℕ → K) (ks : List ℕ) → ((k : ℕ) → Mem k ks → nd k ≢ x) → All (λ q. q.0 ≢ x) (pairs w ks)
  pairs-apart x w [] h = tt
  pairs-apart x w (k ∷ ks) h = (h k (inl refl), pairs-apart x w ks (λ i m. h i (inr m)))

  -- a sequence each of whose first n entries is y times the one before
  steady : (y : K) (D : ℕ → K) (n : ℕ) → ((l : ℕ) → l < n → D (suc l) ≡ y ⊗ D l) → (l : ℕ) → l ≤ n → D l ≡ D 0 ⊗ pow F y l
  steady y D n h zero b = sym (ap (λ (x : K). D 0 ⊗ x) (pow-zero F y) ∙ mul-one F (D 0))
  steady y D n h (suc l) b = h l b ∙ ap (λ (x : K). y ⊗ x) (steady y D n h l (Nat.le_of_suc-le b)) ∙ rw (pow-suc F y l) (simp ring)

  moves : (y a b c d : K) → a ⊕ y ⊗ b ≡ c ⊕ y ⊗ d → a ⊕ c ≡ y ⊗ (b ⊕ d)
  moves y a b c d e =
      let s : a ⊕ c ≡ a ⊕ y ⊗ b ⊕ (c ⊕ y ⊗ b) = simp ring in
      s ∙ rw e (simp ring)

  parts : (n m d : K) → n ⊕ m ≡ d → n ≡ d ⊕ m
  parts n m d e = rw (← e) (simp ring)

  -- the sums of all nodes by those of the nodes but for the first
  module _ (n k : ℕ) (ks : List ℕ) (N : ℕ → K) (r : Rising (suc k) n ks) (a : Apart (k ∷ ks)) where
    abbrev y : K
    y = nd k

    abbrev w : ℕ → K
    w = weight_by N (k ∷ ks)

    abbrev pub next : ℕ → K
    next j = N (suc j) ⊕ nd k ⊗ N j

    abbrev M : ℕ → K
    M j = sum F (pairs w ks) j

    abbrev D : ℕ → K
    D j = N j ⊕ M j

    later : (i : ℕ) → Mem i ks → k ≢ i
    later i m e = above (suc k) n ks i r (Nat.le_of_eq (ap suc (sym e))) m

    far : (i : ℕ) → Mem i ks → nd i ≢ y
    far i m = a i k (inr m) (inl refl) (λ e. later i m (sym e))

    undo : (u d : K) → d ≢ 𝟘 → u ⊗ recip B d ⊗ d ≡ u
    undo u d z =
        let s : u ⊗ recip B d ⊗ d ≡ u ⊗ (d ⊗ recip B d) = simp ring in
        s ∙ ap (λ (x : K). u ⊗ x) (recip-is B d z) ∙ mul-one F u

    taken : (i : ℕ) → Mem i ks → w i ⊗ (nd i ⊕ y) ≡ weight_by next ks i
    taken i m =
        ap (λ (ys : List K). unmix B (nd i) ys N ⊗ (nd i ⊕ y)) (ap (map nd) (others-else i k ks (later i m)))
        ∙ ap (λ (x : K). x ⊗ (nd i ⊕ y)) (unmix-cons B (nd i) y (map nd (others i ks)) N)
        ∙ undo (weight_by next ks i) (nd i ⊕ y) (λ z. far i m (add-eq-zero F (nd i) y z))

    module _ (ih : (j : ℕ) → j < length ks → next j ≡ sum F (pairs (weight_by next ks) ks) j) where
      lower : (j : ℕ) → j < length ks → next j ≡ M (suc j) ⊕ y ⊗ M j
      lower j b =
          ih j b
          ∙ ap (λ (l : List (K × K)). sum F l j) (sym (pairs-less y w ks ∙ pairs-agree (λ i. w i ⊗ (nd i ⊕ y)) (weight_by next ks) ks taken))
          ∙ sum_less F y (pairs w ks) j

      all : (j : ℕ) → j ≤ length ks → D j ≡ D 0 ⊗ pow F y j
      all = steady y D (length ks) (λ j b. moves y (N (suc j)) (N j) (M (suc j)) (M j) (lower j b))

      head : w k ≡ D 0
      head =
          ap (λ (ys : List K). unmix B y ys N)
          (ap (map nd) (others_same k k ks refl ∙ others-none k ks (λ m. later k m refl)) ∙ sym (nodes w ks))
          ∙ unmix-is B y (D 0) (pairs w ks) N (pairs-apart y w ks far)
          (λ j b. parts (N j) (M j) (D 0 ⊗ pow F y j) (all j (rw (length-map {B = K × K} ks (λ (i : ℕ). (nd i, w i))) at b)))

      solves-cons : (l : ℕ) → l ≤ length ks → N l ≡ sum F (pairs w (k ∷ ks)) l
      solves-cons l b =
          parts (N l) (M l) (D 0 ⊗ pow F y l) (all l b) ∙ ap (λ (x : K). x ⊗ pow F y l ⊕ M l) (sym head)
          ∙ sym (sum-cons F (y, w k) (pairs w ks) l)

  -- THE SUMS ARE THOSE OF THE WEIGHTS
  pub solves : (c n : ℕ) (ks : List ℕ) (N : ℕ → K) → Rising c n ks → Apart ks → (l : ℕ) → l < length ks
      → N l ≡ sum F (pairs (weight_by N ks) ks) l
  solves c n [] N r a l h = absurd (Nat.not-suc-le-zero h)
  solves c n (k ∷ ks) N r a l h =
      solves-cons n k ks N r.2 a
      (λ j b. solves (suc k) n ks (next n k ks N r.2 a) r.2 (λ i q x z. a i q (inr x) (inr z)) j b) l (Nat.le_of_suc-le-suc h)
