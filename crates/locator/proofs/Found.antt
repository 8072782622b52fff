-- What `locate` finds: exactly the places with the given syndromes, at most t of them.
--   nodes B R    the places R as Vandermonde's pairs: node and weight are α^k
use Rattle.std.specs.Prelude.{◌≡◌, refl, ◌≢◌, ◌↔◌, ◌⊎◌, Bool, true, false, ◌&&◌, List, [], ◌∷◌, map, ℕ, zero, suc, ◌-◌, ◌*◌, ◌^◌, ◌≤◌, ◌<◌, T, eqb, leb, length}
use Rattle.std.proofs.Common.{sym, ap, ap₂, ◌∙◌, inl, inr, zero-le, suc-le-suc, arith, eqb→eq, leb→le, le→leb}
use Rattle.std.proofs.Math.Option.{Option, none, some}
use Rattle.std.proofs.Math.Nat as Nat
use Rattle.std.proofs.Math.Dec.{eqb_refl}
use Rattle.std.proofs.lemmas.List.{length-map}
use Rattle.polynomial.specs.Sums.{All}
use Rattle.field.specs.Elements.{element, element-syndrome, syndrome}
use Rattle.field.specs.Eval.{eval, eval-monomial, eval_xor, eval-zero}
use Rattle.field.specs.Field.{mul_comm, mul-eq-zero, pow, pow-suc, pow-swap, pow≢zero}
use Rattle.field.specs.Fields.{BinaryField, Known, field_of, field_of-length}
use Rattle.field.specs.Irreducible.{both}
use Rattle.field.specs.Powers.{pow-inj, α≢0}
use Rattle.field.specs.Roots.{Apart, few-roots, value, value-zeros}
use Rattle.field.specs.Vandermonde.{Distinct, sum, sum-cons, sum-nil}
use Rattle.field.specs.Inverse.{recip, recip-inj}
use Rattle.locator.specs.Kept.{kept}
use Rattle.locator.specs.Locate as L
use Rattle.locator.specs.Locate.{Located, agree, agree-suc, agree-zero, candidate, candidate-eq, is_root, locate, locate-eq, locator_of, locator_of-eq, root_places, root_places-eq}
use Rattle.locator.specs.Massey.{massey}
use Rattle.locator.specs.Moments as M
use Rattle.field.specs.Flips.{Rising, covers, flips, flips-cons, flips-nil, passing, passing-all, passing-rising}

-- ---- a place's node
module _ (B : BinaryField) where
  open B use {field, n, num, num-inj, num-zero, α}
  open B.field use {K, 𝟘, 𝟙, ◌⊕◌, ◌⊗◌, one≢zero}

  infixl 65 ◌⊕◌
  infixl 70 ◌⊗◌
  node≢zero : (k : ℕ) → pow field α k ≢ 𝟘
  node≢zero = pow≢zero field α (α≢0 B)

  abbrev nodes : List ℕ → List (K × K)
  nodes R = map (λ (k : ℕ). (pow field α k, pow field α k)) R

  sum-nodes : (R : List ℕ) (j : ℕ) → sum field (nodes R) j ≡ eval field (flips R) (pow field α (suc j))
  sum-nodes [] j = sum-nil field j ∙ sym (ap (λ (f : ℕ). eval field f (pow field α (suc j))) flips-nil ∙ eval-zero field (pow field α (suc j)))
  sum-nodes (k ∷ R) j =
      sum-cons field (pow field α k, pow field α k) (nodes R) j
      ∙ ap₂ ◌⊕◌ (sym (pow-suc field (pow field α k) j) ∙ pow-swap field α k (suc j) ∙ sym (eval-monomial field k (pow field α (suc j)))) (sum-nodes R j)
      ∙ sym (ap (λ (f : ℕ). eval field f (pow field α (suc j))) (flips-cons k R) ∙ eval_xor field (2 ^ k) (flips R) (pow field α (suc j)))

  all-nodes : (P : K → Type 0) → ((k : ℕ) → P (pow field α k)) → (R : List ℕ) → All (λ q. P q.0) (nodes R)
  all-nodes P h [] = tt
  all-nodes P h (k ∷ R) = (h k, all-nodes P h R)

  -- the inverse nodes
  abbrev inverses : List ℕ → List K
  inverses R = map (λ (k : ℕ). recip B (pow field α k)) R

  module _ (z : ℕ) (zn : z ≤ n) where
    -- places that rise are apart
    apart : (i k : ℕ) → i < k → k < z → pow field α k ≢ pow field α i
    apart i k h b e = Nat.lt_irrefl i (omega (arith, pow-inj B k i (omega arith) (omega arith) e))

    above : (i k : ℕ) (R : List ℕ) → i < k → Rising k z R → All (λ q. q.0 ≢ pow field α i) (nodes R)
    above i k [] h r = tt
    above i k (j ∷ R) h r = (apart i j (omega arith) r.1, above i (suc j) R (omega arith) r.2)

    distinct : (k : ℕ) (R : List ℕ) → Rising k z R → Distinct field (nodes R)
    distinct k [] r = tt
    distinct k (j ∷ R) r = (above j (suc j) R (Nat.le_refl (suc j)) r.2, distinct (suc j) R r.2)

    above' : (i k : ℕ) (R : List ℕ) → i < k → Rising k z R → All (λ y. y ≢ recip B (pow field α i)) (inverses R)
    above' i k [] h r = tt
    above' i k (j ∷ R) h r =
        ((λ e. apart i j (omega arith) r.1 (recip-inj B (pow field α j) (pow field α i) (node≢zero j) (node≢zero i) e)), above' i (suc j) R (omega arith) r.2)

    distinct' : (k : ℕ) (R : List ℕ) → Rising k z R → Apart field (inverses R)
    distinct' k [] r = tt
    distinct' k (j ∷ R) r = (above' j (suc j) R (Nat.le_refl (suc j)) r.2, distinct' (suc j) R r.2)

    -- ---- a locator with constant 1 has fewer roots than coefficients
    root_is : (σ : List K) (k : ℕ) → T (is_root B σ k) → value field σ (recip B (pow field α k)) ≡ 𝟘
    root_is σ k t = num-inj (value field σ (recip B (pow field α k))) 𝟘 (eqb→eq (num (value field σ (recip B (pow field α k)))) 0 t ∙ sym num-zero)

    roots-all : (σ : List K) (R : List ℕ) → All (λ k. T (is_root B σ k)) R → All (λ y. value field σ y ≡ 𝟘) (inverses R)
    roots-all σ [] a = tt
    roots-all σ (k ∷ R) a = (root_is σ k a.0, roots-all σ R a.1)

    pub few-roots-found : (σ : List K) → value field σ 𝟘 ≡ 𝟙 → length (root_places B σ z) < length σ
    few-roots-found σ u =
        rw (root_places-eq B σ z, ← length-map (passing (is_root B σ) 0 z) (λ (k : ℕ). recip B (pow field α k)))
        (few-roots field (inverses (passing (is_root B σ) 0 z)) σ
        (distinct' 0 (passing (is_root B σ) 0 z) (passing-rising (is_root B σ) 0 z z (Nat.zero-add z)))
        (roots-all σ (passing (is_root B σ) 0 z) (passing-all (is_root B σ) 0 z))
        (λ h. one≢zero (sym u ∙ value-zeros field σ 𝟘 h)))

    -- ---- places R seen through their power sums
    module _ (R : List ℕ) (rising : Rising 0 z R) (S : ℕ → K) (t : ℕ) (few : length R ≤ t)
        (is : (j : ℕ) → j < 2 * t → S j ≡ eval field (flips R) (pow field α (suc j))) where
      sums : (j : ℕ) → j < 2 * t → S j ≡ sum field (nodes R) j
      sums j h = is j h ∙ sym (sum-nodes R j)

      size : length (nodes R) ≡ length R
      size = length-map R (λ (k : ℕ). (pow field α k, pow field α k))

      -- the bound of the locator's degree never passes their number
      pub bounded : (r : ℕ) → r ≤ 2 * t → (massey B S r).bound ≤ length R
      bounded r h = rw size at (M.few B (nodes R) (distinct 0 R rising) (all-nodes (λ x. x ≢ 𝟘) node≢zero R) S (2 * t) sums r h)

      tested : (R : List ℕ) → All (λ q. q.1 ≡ 𝟘) (M.at B (massey B S (2 * t)).locator (nodes R)) → All (λ k. T (is_root B (massey B S (2 * t)).locator k)) R
      tested [] a = tt
      tested (k ∷ R) a = (rw zero tt, tested R a.1)
        where
          zero : num (value field (massey B S (2 * t)).locator (recip B (pow field α k))) ≡ 0
          zero =
              ap num (mul-eq-zero field (value field (massey B S (2 * t)).locator (recip B (pow field α k))) (pow field α k)
              (mul_comm field (value field (massey B S (2 * t)).locator (recip B (pow field α k))) (pow field α k) ∙ a.0) (node≢zero k)) ∙ num-zero

      -- after 2 t turns the locator's roots are these places and no others
      pub marked : root_places B (massey B S (2 * t)).locator z ≡ R
      marked =
          let c = covers (is_root B (massey B S (2 * t)).locator) 0 z z R (Nat.zero-add z) rising
          (tested R (M.found B (nodes R) (distinct 0 R rising) (all-nodes (λ x. x ≢ 𝟘) node≢zero R) S (2 * t) sums (omega (arith, size)))) in
          root_places-eq B (massey B S (2 * t)).locator z ∙ c.1 (omega (arith, rw (root_places-eq B (massey B S (2 * t)).locator z) at (few-roots-found (massey B S (2 * t)).locator (kept B S (2 * t)).unit), (kept B S (2 * t)).short, bounded (2 * t) (Nat.le_refl (2 * t))))

-- ---- the last look
module _ (q : ℕ) (S : ℕ → ℕ) (R : List ℕ) where
  agree-is : (k : ℕ) → T (agree q S R k) → (j : ℕ) → 0 < j → j ≤ k → syndrome q (flips R) j ≡ S j
  agree-is zero t j p h = absurd (Nat.not-suc-le-zero (Nat.le_trans p h))
  agree-is (suc k) t j p h = go (both (eqb (syndrome q (flips R) (suc k)) (S (suc k))) (agree q S R k) (rw (agree-suc q S R k) at t)) (λ t l. agree-is k t j p l) (Nat.eq-or-lt_of_le h)
    where
      go : T (eqb (syndrome q (flips R) (suc k)) (S (suc k))) × T (agree q S R k) → (T (agree q S R k) → j ≤ k → syndrome q (flips R) j ≡ S j)
          → (j ≡ suc k) ⊎ (j < suc k) → syndrome q (flips R) j ≡ S j
      go a ih (inl e) = rw e (eqb→eq (syndrome q (flips R) (suc k)) (S (suc k)) a.0)
      go a ih (inr l) = ih a.1 (Nat.le_of_suc-le-suc l)

  and : (a b : Bool) → T a → T b → T (a && b)
  and true true s t = tt
  and true false s t = t
  and false b s t = absurd s

  pub is_agree : (k : ℕ) → ((j : ℕ) → 0 < j → j ≤ k → syndrome q (flips R) j ≡ S j) → T (agree q S R k)
  is_agree zero h = rw (agree-zero q S R) tt
  is_agree (suc k) h =
      rw (agree-suc q S R k) (and (eqb (syndrome q (flips R) (suc k)) (S (suc k))) (agree q S R k)
      (rw (h (suc k) (suc-le-suc zero-le) (Nat.le_refl (suc k))) (eqb_refl (S (suc k)))) (is_agree k (λ j p l. h j p (Nat.le_step l))))

kept-is : (b : Bool) (Q R : List ℕ) → L.kept b Q ≡ some R → T b × (Q ≡ R)
kept-is true Q R e = (tt, (cc))
kept-is false Q R e = let z : ◌≡◌ {A = ℕ} 0 1 = cc in absurd (Nat.suc-ne-zero 0 (sym z))

is-kept : (b : Bool) (Q : List ℕ) → T b → L.kept b Q ≡ some Q
is-kept true Q t = refl
is-kept false Q t = absurd t

-- ---- THE THEOREM: `locate` gives the places exactly when there are such
module _ (q : ℕ) (known : Known q) (S : ℕ → ℕ) (t z : ℕ) where
  abbrev B : BinaryField
  B = field_of q

  pub sound : (R : List ℕ) → locate q S t z ≡ some R → Located q S t z R
  sound R h =
      let k = kept-is (L.accepts q S t (candidate q S t z)) (candidate q S t z) R (sym (locate-eq q S t z) ∙ h) in
      let b = both (leb (length (candidate q S t z)) t) (agree q S (candidate q S t z) (2 * t)) k.0 in
      let r : Located q S t z (candidate q S t z) = record {
        rising = rw (candidate-eq q S t z, root_places-eq B (locator_of B S t) z) (passing-rising (is_root B (locator_of B S t)) 0 z z (Nat.zero-add z));
        few = leb→le (length (candidate q S t z)) t b.0;
        sums = agree-is q S (candidate q S t z) (2 * t) b.1;
      } in
      rw k.1 at r

  module _ (zn : z ≤ 2 ^ q - 1) where
    pub complete : (R : List ℕ) → Located q S t z R → locate q S t z ≡ some R
    complete R E =
        let c : candidate q S t z ≡ R =
        candidate-eq q S t z ∙ rw (locator_of-eq B S t) (marked B z (rw (field_of-length q known) zn) R E.rising (λ j. element B (S (suc j))) t E.few
        (λ j h. ap (element B) (sym (E.sums (suc j) (suc-le-suc zero-le) h)) ∙ element-syndrome q known (flips R) (suc j))) in
        locate-eq q S t z ∙ rw c (is-kept (L.accepts q S t R) R (and q S R (leb (length R) t) (agree q S R (2 * t)) (le→leb (length R) t E.few) (is_agree q S R (2 * t) E.sums)))

    pub located-iff : (R : List ℕ) → (locate q S t z ≡ some R) ↔ Located q S t z R
    located-iff R = (sound R, complete R)

    pub none-iff : (locate q S t z ≡ none) ↔ ((R : List ℕ) → ¬ Located q S t z R)
    none-iff = (to, back (locate q S t z) refl)
      where
        to : locate q S t z ≡ none → (R : List ℕ) → ¬ Located q S t z R
        to h R E = let e : some R ≡ none = sym (complete R E) ∙ h in let p : ◌≡◌ {A = ℕ} 0 1 = cc in omega arith

        back : (o : Option (List ℕ)) → locate q S t z ≡ o → ((R : List ℕ) → ¬ Located q S t z R) → locate q S t z ≡ none
        back none p h = p
        back (some R) p h = absurd (h R (sound R p))

-- only S_1 to S_(2t) are read
pub locate-agree : (q : ℕ) → Known q → (S U : ℕ → ℕ) (t z : ℕ) → z ≤ 2 ^ q - 1 → ((j : ℕ) → 0 < j → j ≤ 2 * t → S j ≡ U j) → locate q S t z ≡ locate q U t z
locate-agree q known S U t z zn h = go (locate q S t z) refl
  where
    over : (S U : ℕ → ℕ) → ((j : ℕ) → 0 < j → j ≤ 2 * t → S j ≡ U j) → (R : List ℕ) → Located q S t z R → Located q U t z R
    over S U h R L = record { rising = L.rising; few = L.few; sums = λ j i b. L.sums j i b ∙ h j i b }

    go : (o : Option (List ℕ)) → locate q S t z ≡ o → locate q S t z ≡ locate q U t z
    go (some R) e = e ∙ sym (complete q known U t z zn R (over S U h R (sound q known S t z R e)))
    go none e = e ∙ sym ((none-iff q known U t z zn).1 (λ R L. (none-iff q known S t z zn).0 e R (over U S (λ j i b. sym (h j i b)) R L)))
