-- Mending through the nested words: what passes and rounds do to a page's words.
--   errors F x g ks    the errors g k of the words ks as Vandermonde's pairs at x: node x^k, weight (g k)(x)
--   Sound p W cs       every word that is not broken is that of cs
use Rattle.std.specs.Prelude.{◌≡◌, refl, Bool, true, false, not, ◌≢◌, ◌↔◌, ◌⊎◌, List, [], ◌∷◌, ◌++◌, map, ℕ, zero, suc, ◌+◌, ◌-◌, ◌*◌, ◌^◌, ◌≤◌, ◌<◌, T, eqb, length, get_or, set}
use Rattle.std.proofs.Common.{sym, ap, ap₂, ◌∙◌, inl, inr, zero-le, suc-le-suc, arith, T_not, eqb→eq, length-set, pow_pos, get_or-set_other, get_or-set_same}
use Rattle.std.proofs.Math.Option.{Option, none, some}
use Rattle.std.proofs.Math.Nat as Nat
use Rattle.std.proofs.Math.Decide.{dec_le, ℕ_discrete}
use Rattle.std.proofs.Math.Dec.{eqb_refl, not_T}
use Rattle.std.proofs.lemmas.List.{length-map}
use Rattle.std.proofs.Math.ListN.{get_or-eq_default}
use Rattle.polynomial.specs.Division.{xor_lt}
use Rattle.polynomial.specs.Multiple.{Multiple}
use Rattle.polynomial.specs.Sums.{All, add, add_at, all-at, at_all, length-add}
use Rattle.polynomial.specs.Xor.{xor, xor_self, xor_zero_l}
use Rattle.field.specs.Bch.{weight}
use Rattle.field.specs.Elements.{element, element-syndrome, syndrome, syndrome-iff, syndrome-num, syndrome-xor, times, times-num}
use Rattle.field.specs.Eval.{eval, eval-sq, eval_xor, eval-zero}
use Rattle.field.specs.Field.{Field2, add_left_comm, add-zero, mul-pow, pow, pow-add, pow-mul, pow-swap, ring}
use Rattle.field.specs.Fields.{BinaryField, field_of}
use Rattle.field.specs.Flips.{Rising, flips, flips-lt, flips-ones, length-ones, ones, ones-rising}
use Rattle.field.specs.Odd.{from_odd, from_odd-is}
use Rattle.field.specs.Unmix.{firsts, squares, unmix, unmix-is, unmix-sq}
use Rattle.field.specs.Vandermonde.{sum, sum-cons, sum-nil}
use Rattle.code.specs.declared.Parameters.{Parameters}
use Rattle.code.specs.Accepted.{Rules}
use Rattle.code.proofs.Accepted.{accepted, any_none, lawful}
use Rattle.code.proofs.Alter.{by_eqb, by-neqb}
use Rattle.code.specs.Code.{gen, nested}
use Rattle.code.proofs.Degrees.{of_some}
use Rattle.code.proofs.Distance.{Passing, eval-nested-root, nested-add}
use Rattle.code.proofs.Judge.{multiple-iff}
use Rattle.code.specs.Lists.{any, range}
use Rattle.code.proofs.Nodes as Nodes
use Rattle.code.proofs.Mend.{flips-once, nearest-sound, same-option, tried-none, tried-sound}
use Rattle.code.specs.Nest.{ErrorBy, Mem, Work, agrees, agrees-eq, alone, error_of, error_of-eq, error_syndrome, error_syndrome-eq, found, found-eq}
use Rattle.code.specs.Nest.{kept_by, mend_all, mend_all-cons, mend_all-nil, mend_by, node, others, others-cons, others-nil, round, round-broken, round-words}
use Rattle.code.specs.Nest.{round_level, start, start-broken, start-words, unfound, unfound-cons, unfound-nil}
use Rattle.code.specs.Pages.{IsWords}
use Rattle.code.specs.Parameters.{Accepted, stored, strength}
use Rattle.code.proofs.Values.{Lawful, weigh, weigh-cons, weigh-nil}
use Rattle.code.specs.Rounds.{IsWork}

-- ---- rising lists of numbers
pub rising-from : (j k n : ℕ) (l : List ℕ) → j ≤ k → Rising k n l → Rising j n l
rising-from j k n [] h r = tt
rising-from j k n (i ∷ l) h r = (Nat.le_trans h r.0, r.1, r.2)

pub mem-from : (k n : ℕ) (l : List ℕ) (i : ℕ) → Rising k n l → Mem i l → (k ≤ i) × (i < n)
mem-from k n [] i r m = absurd m
mem-from k n (j ∷ l) i r (inl e) = (rw e at r.0, rw e at r.1)
mem-from k n (j ∷ l) i r (inr m) = let s = mem-from (suc j) n l i r.2 m in (omega (arith, r.0, s.0), s.1)

pub mem-some : (i : ℕ) (l : List ℕ) → Mem i l → 1 ≤ length l
mem-some i [] m = absurd m
mem-some i (j ∷ l) m = suc-le-suc zero-le

pub above : (k n : ℕ) (l : List ℕ) (i : ℕ) → Rising k n l → i < k → ¬ Mem i l
above k n l i r h m = Nat.not-le_of_lt h (mem-from k n l i r m).0

pub range-rising : (k z n : ℕ) → k + z ≡ n → Rising k n (range k z)
unfolding range
range-rising k zero n e = tt
range-rising k (suc z) n e = (Nat.le_refl k, omega arith, range-rising (suc k) z n (omega arith))

pub range-mem : (k z i : ℕ) → k ≤ i → i < k + z → Mem i (range k z)
unfolding range
range-mem k zero i h l = absurd (Nat.lt_irrefl i (omega arith))
range-mem k (suc z) i h l = go (Nat.eq-or-lt_of_le h) (range-mem (suc k) z i)
  where
    go : (k ≡ i) ⊎ (k < i) → (suc k ≤ i → i < suc k + z → Mem i (range (suc k) z)) → (k ≡ i) ⊎ Mem i (range (suc k) z)
    go (inl e) f = inl e
    go (inr b) f = inr (f b (omega arith))

pub range_last : (k z : ℕ) → range k (suc z) ≡ range k z ++ (k + z) ∷ []
unfolding range
range_last k zero = ap (λ (i : ℕ). i ∷ []) (sym (Nat.add-zero k))
range_last k (suc z) = ap (λ (l : List ℕ). k ∷ l) (range_last (suc k) z ∙ ap (λ (i : ℕ). range (suc k) z ++ i ∷ []) (omega arith))

pub dec_mem : (i : ℕ) (ks : List ℕ) → Dec (Mem i ks)
dec_mem i [] = no (λ m. m)
dec_mem i (k ∷ ks) = go (ℕ_discrete k i) (dec_mem i ks)
  where
    go : Dec (k ≡ i) → Dec (Mem i ks) → Dec ((k ≡ i) ⊎ Mem i ks)
    go (yes e) d = yes (inl e)
    go (no n) (yes m) = yes (inr m)
    go (no n) (no m) = no (λ s. case-of s)
      where
        case-of : (k ≡ i) ⊎ Mem i ks → ⊥
        case-of (inl e) = n e
        case-of (inr x) = m x

-- ---- the others
pub others_same : (i k : ℕ) (ks : List ℕ) → k ≡ i → others i (k ∷ ks) ≡ others i ks
others_same i k ks e = others-cons i k ks ∙ by_eqb k i (others i ks) (k ∷ others i ks) e

pub others-else : (i k : ℕ) (ks : List ℕ) → k ≢ i → others i (k ∷ ks) ≡ k ∷ others i ks
others-else i k ks n = others-cons i k ks ∙ by-neqb k i (others i ks) (k ∷ others i ks) n

pub others-none : (i : ℕ) (ks : List ℕ) → ¬ Mem i ks → others i ks ≡ ks
others-none i [] n = others-nil i
others-none i (k ∷ ks) n = others-else i k ks (λ e. n (inl e)) ∙ ap (λ (l : List ℕ). k ∷ l) (others-none i ks (λ m. n (inr m)))

pub others_apart : (i k n : ℕ) (ks : List ℕ) → Rising k n ks → All (λ j. (j ≢ i) × (j < n)) (others i ks)
others_apart i k n [] r = rw (others-nil i) tt
others_apart i k n (j ∷ ks) r = go (ℕ_discrete j i) (others_apart i (suc j) n ks r.2)
  where
    go : Dec (j ≡ i) → All (λ j. (j ≢ i) × (j < n)) (others i ks) → All (λ j. (j ≢ i) × (j < n)) (others i (j ∷ ks))
    go (yes e) a = rw (others_same i j ks e) a
    go (no d) a = rw (others-else i j ks d) ((d, r.1), a)

pub others-fewer : (i k n : ℕ) (ks : List ℕ) → Rising k n ks → Mem i ks → suc (length (others i ks)) ≡ length ks
others-fewer i k n [] r m = absurd m
others-fewer i k n (j ∷ ks) r (inl e) =
    ap (λ (l : List ℕ). suc (length l)) (others_same i j ks e ∙ others-none i ks (above (suc j) n ks i r.2 (Nat.le_of_eq (ap suc (sym e)))))
others-fewer i k n (j ∷ ks) r (inr m) =
    let s = mem-from (suc j) n ks i r.2 m in
    ap (λ (l : List ℕ). suc (length l)) (others-else i j ks (λ e. Nat.lt_irrefl i (rw e at s.0))) ∙ ap suc (others-fewer i (suc j) n ks r.2 m)

-- ---- what is not found, and what is done with what is
module _ (f : ℕ → Option (List ℕ)) where
  kept_append : (o : Option (List ℕ)) (i : ℕ) (l m : List ℕ) → kept_by o i (l ++ m) ≡ kept_by o i l ++ m
  kept_append none i l m = refl
  kept_append (some R) i l m = refl

  pub unfound-append : (js ks : List ℕ) → unfound f (js ++ ks) ≡ unfound f js ++ unfound f ks
  unfound-append [] ks = sym (ap (λ (l : List ℕ). l ++ unfound f ks) (unfound-nil f))
  unfound-append (i ∷ js) ks =
      unfound-cons f i (js ++ ks) ∙ ap (kept_by (f i) i) (unfound-append js ks) ∙ kept_append (f i) i (unfound f js) (unfound f ks)
      ∙ sym (ap (λ (l : List ℕ). l ++ unfound f ks) (unfound-cons f i js))

  pub unfound-one : (i : ℕ) → unfound f (i ∷ []) ≡ kept_by (f i) i []
  unfound-one i = unfound-cons f i [] ∙ ap (kept_by (f i) i) (unfound-nil f)

  kept-le : (o : Option (List ℕ)) (i : ℕ) (l : List ℕ) → length (kept_by o i l) ≤ suc (length l)
  kept-le none i l = Nat.le_refl (suc (length l))
  kept-le (some R) i l = Nat.le_step (Nat.le_refl (length l))

  pub unfound-le : (js : List ℕ) → length (unfound f js) ≤ length js
  unfound-le [] = rw (unfound-nil f) zero-le
  unfound-le (i ∷ js) = rw (unfound-cons f i js) (Nat.le_trans (kept-le (f i) i (unfound f js)) (suc-le-suc (unfound-le js)))

  -- something found leaves fewer
  pub unfound-fewer : (js : List ℕ) (i : ℕ) (R : List ℕ) → Mem i js → f i ≡ some R → length (unfound f js) < length js
  unfound-fewer [] i R m e = absurd m
  unfound-fewer (j ∷ js) i R (inl w) e =
      rw (unfound-cons f j js, ap f w ∙ e) (suc-le-suc (unfound-le js))
  unfound-fewer (j ∷ js) i R (inr m) e =
      rw (unfound-cons f j js) (Nat.le_trans (suc-le-suc (kept-le (f j) j (unfound f js))) (suc-le-suc (unfound-fewer js i R m e)))

  pub unfound-mem : (js : List ℕ) (i : ℕ) → Mem i (unfound f js) → Mem i js × (f i ≡ none)
  unfound-mem [] i m = absurd (rw (unfound-nil f) at m)
  unfound-mem (j ∷ js) i m = go (f j) refl (rw (unfound-cons f j js) at m) (unfound-mem js i)
    where
      go : (o : Option (List ℕ)) → f j ≡ o → Mem i (kept_by o j (unfound f js)) → (Mem i (unfound f js) → Mem i js × (f i ≡ none))
          → ((j ≡ i) ⊎ Mem i js) × (f i ≡ none)
      go none e (inl w) h = (inl w, ap f (sym w) ∙ e)
      go none e (inr x) h = (inr (h x).0, (h x).1)
      go (some R) e x h = (inr (h x).0, (h x).1)

  pub mem-unfound : (js : List ℕ) (i : ℕ) → Mem i js → f i ≡ none → Mem i (unfound f js)
  mem-unfound [] i m e = absurd m
  mem-unfound (j ∷ js) i (inl w) e = rw (unfound-cons f j js, ap f w ∙ e) (inl w)
  mem-unfound (j ∷ js) i (inr m) e = rw (unfound-cons f j js) (go (f j) (mem-unfound js i m e))
    where
      go : (o : Option (List ℕ)) → Mem i (unfound f js) → Mem i (kept_by o j (unfound f js))
      go none x = inr x
      go (some R) x = x

  pub unfound-rising : (k n : ℕ) (js : List ℕ) → Rising k n js → Rising k n (unfound f js)
  unfound-rising k n [] r = rw (unfound-nil f) tt
  unfound-rising k n (j ∷ js) r = rw (unfound-cons f j js) (go (f j) (unfound-rising (suc j) n js r.2))
    where
      go : (o : Option (List ℕ)) → Rising (suc j) n (unfound f js) → Rising k n (kept_by o j (unfound f js))
      go none s = (r.0, r.1, s)
      go (some R) s = rising-from k (suc j) n (unfound f js) (Nat.le_step r.0) s

  pub mend_all-append : (js ks ws : List ℕ) → mend_all f (js ++ ks) ws ≡ mend_all f ks (mend_all f js ws)
  mend_all-append [] ks ws = ap (mend_all f ks) (sym (mend_all-nil f ws))
  mend_all-append (i ∷ js) ks ws =
      mend_all-cons f i (js ++ ks) ws ∙ mend_all-append js ks (set ws i (mend_by (get_or ws i 0) (f i))) ∙ ap (mend_all f ks) (sym (mend_all-cons f i js ws))

  pub mend_all-one : (i : ℕ) (ws : List ℕ) → mend_all f (i ∷ []) ws ≡ set ws i (mend_by (get_or ws i 0) (f i))
  mend_all-one i ws = mend_all-cons f i [] ws ∙ mend_all-nil f (set ws i (mend_by (get_or ws i 0) (f i)))

  pub mend_all-many : (js ws : List ℕ) → length (mend_all f js ws) ≡ length ws
  mend_all-many [] ws = ap length (mend_all-nil f ws)
  mend_all-many (i ∷ js) ws =
      ap length (mend_all-cons f i js ws) ∙ mend_all-many js (set ws i (mend_by (get_or ws i 0) (f i))) ∙ length-set ws i (mend_by (get_or ws i 0) (f i))

  pub mend_all-else : (js ws : List ℕ) (i : ℕ) → ¬ Mem i js → get_or (mend_all f js ws) i 0 ≡ get_or ws i 0
  mend_all-else [] ws i n = ap (λ (l : List ℕ). get_or l i 0) (mend_all-nil f ws)
  mend_all-else (j ∷ js) ws i n =
      ap (λ (l : List ℕ). get_or l i 0) (mend_all-cons f j js ws) ∙ mend_all-else js (set ws j (mend_by (get_or ws j 0) (f j))) i (λ m. n (inr m))
      ∙ get_or-set_other ws j i (mend_by (get_or ws j 0) (f j)) 0 (λ e. n (inl (sym e)))

  pub mend_all-at : (k n : ℕ) (js ws : List ℕ) (i : ℕ) → Rising k n js → Mem i js → i < length ws
      → get_or (mend_all f js ws) i 0 ≡ mend_by (get_or ws i 0) (f i)
  mend_all-at k n [] ws i r m h = absurd m
  mend_all-at k n (j ∷ js) ws i r (inl e) h =
      ap (λ (l : List ℕ). get_or l i 0) (mend_all-cons f j js ws)
      ∙ mend_all-else js (set ws j (mend_by (get_or ws j 0) (f j))) i (above (suc j) n js i r.2 (Nat.le_of_eq (ap suc (sym e))))
      ∙ rw e (get_or-set_same ws i (mend_by (get_or ws i 0) (f i)) 0 h)
  mend_all-at k n (j ∷ js) ws i r (inr m) h =
      let x = mend_by (get_or ws j 0) (f j) in
      let s = mem-from (suc j) n js i r.2 m in
      ap (λ (l : List ℕ). get_or l i 0) (mend_all-cons f j js ws)
      ∙ mend_all-at (suc j) n js (set ws j x) i r.2 m (rw (length-set ws j x) h)
      ∙ ap (λ (w : ℕ). mend_by w (f i)) (get_or-set_other ws j i x 0 (λ e. Nat.lt_irrefl i (rw (← e) at s.0)))

  -- words stay below 2^z where what is found stands below z
  pub mend_by-lt : (z w : ℕ) (o : Option (List ℕ)) → ((R : List ℕ) → o ≡ some R → Rising 0 z R) → w < 2 ^ z → mend_by w o < 2 ^ z
  mend_by-lt z w none r h = h
  mend_by-lt z w (some R) r h = xor_lt z w (flips R) h (flips-lt 0 z R (r R refl))

  pub mend_all-lt : (z : ℕ) → ((i : ℕ) (R : List ℕ) → f i ≡ some R → Rising 0 z R) → (js ws : List ℕ) → ((i : ℕ) → get_or ws i 0 < 2 ^ z)
      → (i : ℕ) → get_or (mend_all f js ws) i 0 < 2 ^ z
  mend_all-lt z r [] ws h i = rw (mend_all-nil f ws) (h i)
  mend_all-lt z r (j ∷ js) ws h i =
      rw (mend_all-cons f j js ws) (mend_all-lt z r js (set ws j (mend_by (get_or ws j 0) (f j))) (λ k. go k (ℕ_discrete k j) (dec_le (suc j) (length ws))) i)
    where
      x : ℕ
      x = mend_by (get_or ws j 0) (f j)

      go : (k : ℕ) → Dec (k ≡ j) → Dec (suc j ≤ length ws) → get_or (set ws j x) k 0 < 2 ^ z
      go k (no d) l = rw (get_or-set_other ws j k x 0 d) (h k)
      go k (yes e) (yes l) = rw (e, get_or-set_same ws j x 0 l) (mend_by-lt z (get_or ws j 0) (f j) (r j) (h j))
      go k (yes e) (no l) = rw (get_or-eq_default (set ws j x) 0 {n = k} (omega (arith, length-set ws j x))) (pow_pos z)

-- what is found alike is done alike
pub unfound-agree : (f g : ℕ → Option (List ℕ)) (js : List ℕ) → ((i : ℕ) → Mem i js → f i ≡ g i) → unfound f js ≡ unfound g js
unfound-agree f g [] h = unfound-nil f ∙ sym (unfound-nil g)
unfound-agree f g (i ∷ js) h =
    unfound-cons f i js ∙ ap₂ (λ (o : Option (List ℕ)) (l : List ℕ). kept_by o i l) (h i (inl refl)) (unfound-agree f g js (λ k m. h k (inr m))) ∙ sym (unfound-cons g i js)

pub mend_all-agree : (f g : ℕ → Option (List ℕ)) (js ws : List ℕ) → ((i : ℕ) → Mem i js → f i ≡ g i) → mend_all f js ws ≡ mend_all g js ws
mend_all-agree f g [] ws h = mend_all-nil f ws ∙ sym (mend_all-nil g ws)
mend_all-agree f g (i ∷ js) ws h =
    mend_all-cons f i js ws ∙ ap (λ (o : Option (List ℕ)). mend_all f js (set ws i (mend_by (get_or ws i 0) o))) (h i (inl refl))
    ∙ mend_all-agree f g js (set ws i (mend_by (get_or ws i 0) (g i))) (λ k m. h k (inr m)) ∙ sym (mend_all-cons g i js ws)

pub words-low : (p : Parameters) (ws : List ℕ) → IsWords p ws → (i : ℕ) → get_or ws i 0 < 2 ^ stored p
words-low p ws w i = go (dec_le (suc i) (length ws))
  where
    go : Dec (suc i ≤ length ws) → get_or ws i 0 < 2 ^ stored p
    go (yes l) = all-at (λ c. c < 2 ^ stored p) ws w.below i l
    go (no l) = rw (get_or-eq_default ws 0 {n = i} (omega arith)) (pow_pos (stored p))

pub xor_low : (p : Parameters) (ys cs : List ℕ) → IsWords p ys → IsWords p cs → (i : ℕ) → xor (get_or ys i 0) (get_or cs i 0) < 2 ^ stored p
xor_low p ys cs w C i = xor_lt (stored p) (get_or ys i 0) (get_or cs i 0) (words-low p ys w i) (words-low p cs C i)

pub mend_all-words : (p : Parameters) (f : ℕ → Option (List ℕ)) → ((i : ℕ) (R : List ℕ) → f i ≡ some R → Rising 0 (stored p) R)
    → (js ws : List ℕ) → IsWords p ws → IsWords p (mend_all f js ws)
mend_all-words p f r js ws w = record {
  many = mend_all-many f js ws ∙ w.many;
  below = at_all (λ c. c < 2 ^ stored p) (mend_all f js ws) (λ i l. mend_all-lt f (stored p) r js ws (words-low p ws w) i);
}

-- ---- an error by its syndromes
module _ (p : Parameters) (R : Rules p) where
  module _ (a : ℕ) (av : a ≤ p.v) where
    -- multiples of g_a are the words whose syndromes S_1 to S_(2 t_a) are 0
    pub multiple-syndromes : (c : ℕ) → Multiple (gen p a) c ↔ ((j : ℕ) → 0 < j → j ≤ 2 * strength p a → syndrome p.q c j ≡ 0)
    multiple-syndromes c =
        let r = (lawful p R).roots a av c in
        let m = multiple-iff p R a av c in (
          (λ h j o b. (syndrome-iff p.q R.known c j).1 (r.0 (m.1 h) j o b)),
          (λ h. m.0 (r.1 (λ j o b. (syndrome-iff p.q R.known c j).0 (h j o b)))),
        )

    module _ (S : ℕ → ℕ) where
      abbrev Same : ℕ → Type 0
      Same c = (j : ℕ) → 0 < j → j ≤ 2 * strength p a → syndrome p.q c j ≡ S j

      abbrev unlike : ℕ → ℕ → Bool
      unlike c j = not (eqb (syndrome p.q c j) (S j))

      agrees-iff : (c : ℕ) → T (agrees p a S c) ↔ Same c
      agrees-iff c = (
        (λ t j o b. same j (any_none (unlike c) 1 (2 * strength p a) (rw (agrees-eq p a S c) at t) j o (omega arith))),
        (λ h. rw (agrees-eq p a S c) (not_T (any (unlike c) (range 1 (2 * strength p a))) (λ t. none-such h (of_some (unlike c) 1 (2 * strength p a) t)))),
      )
        where
          again : (b : Bool) → T (not (not b)) → T b
          again true t = tt
          again false t = absurd t

          same : (j : ℕ) → T (not (unlike c j)) → syndrome p.q c j ≡ S j
          same j t = eqb→eq (syndrome p.q c j) (S j) (again (eqb (syndrome p.q c j) (S j)) t)

          none-such : Same c → (j : ℕ) × (1 ≤ j) × (j < 1 + 2 * strength p a) × T (unlike c j) → ⊥
          none-such h x =
              T_not (eqb (syndrome p.q c x.0) (S x.0)) x.3
              (rw (h x.0 x.1 (omega (arith, x.2))) (eqb_refl (S x.0)))

      -- at most one
      error-once : (Q M : List ℕ) → ErrorBy p a S Q → ErrorBy p a S M → Q ≡ M
      error-once Q M e g =
          flips-once p R a av (flips Q) (flips-lt 0 (stored p) Q e.rising) Q M
          (record { rising = e.rising; few = e.few; multiple = zeros (flips Q) (λ j o b. refl) })
          (record { rising = g.rising; few = g.few; multiple = zeros (flips M) (λ j o b. e.sums j o b ∙ sym (g.sums j o b)) })
        where
          zeros : (c : ℕ) → ((j : ℕ) → 0 < j → j ≤ 2 * strength p a → syndrome p.q (flips Q) j ≡ syndrome p.q c j) → Multiple (gen p a) (xor (flips Q) c)
          zeros c h =
              (multiple-syndromes (xor (flips Q) c)).1
              (λ j o b. syndrome-xor p.q R.known (flips Q) c j ∙ rw (h j o b) (xor_self (syndrome p.q c j)))

      pub error-sound : (Q : List ℕ) → error_of p a S ≡ some Q → ErrorBy p a S Q
      error-sound Q e =
          let f = tried-sound (agrees p a S) 0 (stored p) (stored p) (strength p a) 0 Q (Nat.zero-add (stored p)) (sym (error_of-eq p a S) ∙ e) in
          record { rising = f.rising; few = f.few; sums = (agrees-iff (flips Q)).0 (rw (xor_zero_l (flips Q)) at f.passes) }

      -- the places are given exactly where there are such
      pub error-iff : (Q : List ℕ) → (error_of p a S ≡ some Q) ↔ ErrorBy p a S Q
      error-iff Q = (error-sound Q, (λ g. go (error_of p a S) refl g))
        where
          go : (o : Option (List ℕ)) → error_of p a S ≡ o → ErrorBy p a S Q → error_of p a S ≡ some Q
          go (some M) e g = e ∙ ap some (error-once M Q (error-sound M e) g)
          go none e g =
              absurd (tried-none (agrees p a S) 0 (stored p) (stored p) (strength p a) 0 Q (Nat.zero-add (stored p)) (sym (error_of-eq p a S) ∙ e)
              (record { rising = g.rising; few = g.few; passes = rw (xor_zero_l (flips Q)) ((agrees-iff (flips Q)).1 g.sums) }))

      -- an error known by its syndromes is found
      pub error-found : (e : ℕ) → e < 2 ^ stored p → weight e ≤ strength p a → ((j : ℕ) → 0 < j → j ≤ 2 * strength p a → S j ≡ syndrome p.q e j)
          → error_of p a S ≡ some (ones (stored p) e)
      error-found e low h is =
          (error-iff (ones (stored p) e)).1 (record {
            rising = ones-rising (stored p) e;
            few = rw (length-ones (stored p) e low) h;
            sums = λ j o b. rw (flips-ones (stored p) e low) (sym (is j o b));
          })

    -- syndromes that agree have the same error
    error-same : (S N : ℕ → ℕ) → ((j : ℕ) → 0 < j → j ≤ 2 * strength p a → S j ≡ N j) → (Q : List ℕ) → error_of p a S ≡ some Q → error_of p a N ≡ some Q
    error-same S N h Q e =
        let g = error-sound S Q e in
        (error-iff N Q).1 (record { rising = g.rising; few = g.few; sums = λ j o b. g.sums j o b ∙ h j o b })

    pub error-agree : (S N : ℕ → ℕ) → ((j : ℕ) → 0 < j → j ≤ 2 * strength p a → S j ≡ N j) → error_of p a S ≡ error_of p a N
    error-agree S N h = same-option (error_of p a S) (error_of p a N) (error-same S N h) (error-same N S (λ j o b. sym (h j o b)))

  pub found-rising : (W : Work) → round_level p (length W.broken) ≤ p.v → (i : ℕ) (Q : List ℕ) → found p W i ≡ some Q → Rising 0 (stored p) Q
  found-rising W l i Q e =
      (error-sound (round_level p (length W.broken)) l (error_syndrome p W.words (others i W.broken) i) Q (sym (found-eq p W i) ∙ e)).rising

  pub alone-rising : (ys : List ℕ) → IsWords p ys → (i : ℕ) (Q : List ℕ) → alone p ys i ≡ some Q → Rising 0 (stored p) Q
  alone-rising ys w i Q e = (nearest-sound p R 0 zero-le (get_or ys i 0) (words-low p ys w i) Q e).rising

-- ---- sums of errors
module _ (F : Field2) (x : F.K) (g : ℕ → ℕ) where
  open F use {K, 𝟘, ◌⊕◌, ◌⊗◌}

  infixl 65 ◌⊕◌
  infixl 70 ◌⊗◌
  abbrev pub errors : List ℕ → List (K × K)
  errors ks = map (λ (k : ℕ). (pow F x k, eval F (g k) x)) ks

  -- words that are 0 but for those of ks: their sums are the power sums of the errors
  pub sparse : (l i : ℕ) (es ks : List ℕ) → ((k : ℕ) → k < length es → get_or es k 0 ≡ g (i + k)) → Rising i (i + length es) ks
      → ((k : ℕ) → i ≤ k → ¬ Mem k ks → g k ≡ 0) → weigh F x (λ i. pow F x (l * i)) i es ≡ sum F (errors ks) l
  sparse l i [] [] e r z = simp (weigh-nil, sum-nil)
  sparse l i [] (k ∷ ks) e r z = absurd (Nat.lt_irrefl k (omega (arith, r.0, r.1)))
  sparse l i (c ∷ es) [] e r z =
      let d : c ≡ 0 = e 0 (suc-le-suc zero-le) ∙ ap g (Nat.add-zero i) ∙ z i (Nat.le_refl i) (λ m. m) in
      simp (weigh-cons, d, eval-zero, sparse l (suc i) es [] (λ k h. e (suc k) (suc-le-suc h) ∙ ap g (omega arith)) tt (λ k h. z k (Nat.le_of_suc-le h)), ring)
  sparse l i (c ∷ es) (k ∷ ks) e r z =
      go (Nat.eq-or-lt_of_le r.0) (sparse l (suc i) es ks (λ k h. e (suc k) (suc-le-suc h) ∙ ap g (omega arith)))
      (sparse l (suc i) es (k ∷ ks) (λ k h. e (suc k) (suc-le-suc h) ∙ ap g (omega arith)))
    where
      first : c ≡ g i
      first = e 0 (suc-le-suc zero-le) ∙ ap g (Nat.add-zero i)

      wide : suc i + length es ≡ i + length (c ∷ es)
      wide = omega arith

      go : (i ≡ k) ⊎ (i < k)
          → (Rising (suc i) (suc i + length es) ks → ((k : ℕ) → suc i ≤ k → ¬ Mem k ks → g k ≡ 0) → weigh F x (λ i. pow F x (l * i)) (suc i) es ≡ sum F (errors ks) l)
          → (Rising (suc i) (suc i + length es) (k ∷ ks) → ((j : ℕ) → suc i ≤ j → ¬ Mem j (k ∷ ks) → g j ≡ 0)
          → weigh F x (λ i. pow F x (l * i)) (suc i) es ≡ sum F (errors (k ∷ ks)) l)
          → weigh F x (λ i. pow F x (l * i)) i (c ∷ es) ≡ sum F (errors (k ∷ ks)) l
      go (inl w) f h =
          weigh-cons F x (λ i. pow F x (l * i)) i c es
          ∙ ap₂ ◌⊕◌ (rw (first, w) (term k)) (f (rw (← w, ← wide) at r.2) (λ j b n. z j (Nat.le_of_suc-le b) (λ m. out j b n m)))
          ∙ sym (sum-cons F (pow F x k, eval F (g k) x) (errors ks) l)
        where
          term : (k : ℕ) → pow F x (l * k) ⊗ eval F (g k) x ≡ eval F (g k) x ⊗ pow F (pow F x k) l
          term k = simp (pow-mul, pow-swap F x k l, ring)

          out : (j : ℕ) → suc i ≤ j → ¬ Mem j ks → (k ≡ j) ⊎ Mem j ks → ⊥
          out j b n (inl v) = Nat.lt_irrefl j (omega arith)
          out j b n (inr m) = n m
      go (inr w) f h =
          let d : c ≡ 0 = first ∙ z i (Nat.le_refl i) (λ m. above (suc i) (i + length (c ∷ es)) (k ∷ ks) i (w, r.1, r.2) (Nat.le_refl (suc i)) m) in
          weigh-cons F x (λ i. pow F x (l * i)) i c es
          ∙ rw (d, eval-zero F x, h (w, rw (← wide) at r.1, rw (← wide) at r.2) (λ j b. z j (Nat.le_of_suc-le b))) (simp ring)

  -- one of them taken out
  pub take_out : (l i k n : ℕ) (ks : List ℕ) → Rising k n ks → Mem i ks
      → sum F (errors ks) l ≡ eval F (g i) x ⊗ pow F (pow F x i) l ⊕ sum F (errors (others i ks)) l
  take_out l i k n [] r m = absurd m
  take_out l i k n (j ∷ ks) r (inl e) =
      sum-cons F (pow F x j, eval F (g j) x) (errors ks) l
      ∙ rw (e) (ap (λ (q : List ℕ). eval F (g i) x ⊗ pow F (pow F x i) l ⊕ sum F (errors q) l)
      (sym (others_same i i ks refl ∙ others-none i ks (above (suc j) n ks i r.2 (Nat.le_of_eq (ap suc (sym e)))))))
  take_out l i k n (j ∷ ks) r (inr m) =
      let s = mem-from (suc j) n ks i r.2 m in
      sum-cons F (pow F x j, eval F (g j) x) (errors ks) l
      ∙ ap (λ (y : K). eval F (g j) x ⊗ pow F (pow F x j) l ⊕ y) (take_out l i (suc j) n ks r.2 m)
      ∙ add_left_comm F (eval F (g j) x ⊗ pow F (pow F x j) l) (eval F (g i) x ⊗ pow F (pow F x i) l) (sum F (errors (others i ks)) l)
      ∙ ap (λ (y : K). eval F (g i) x ⊗ pow F (pow F x i) l ⊕ y)
      (sym (ap (λ (q : List ℕ). sum F (errors q) l) (others-else i j ks (λ e. Nat.lt_irrefl i (rw e at s.0))) ∙ sum-cons F (pow F x j, eval F (g j) x) (errors (others i ks)) l))

pub firsts-errors : (B : BinaryField) (x : B.field.K) (g : ℕ → ℕ) (ks : List ℕ) → firsts B (errors B.field x g ks) ≡ map (pow B.field x) ks
firsts-errors B x g [] = refl
firsts-errors B x g (k ∷ ks) = ap (λ (l : List B.field.K). pow B.field x k ∷ l) (firsts-errors B x g ks)

pub record Sound (p : Parameters) (W : Work) (cs : List ℕ) : Type 0 where
  pub is : (i : ℕ) → i < p.m → ¬ Mem i W.broken → get_or W.words i 0 ≡ get_or cs i 0

pub none_left : (l : List ℕ) → ¬ (1 ≤ length l) → l ≡ []
none_left [] n = refl
none_left (x ∷ l) n = absurd (n (suc-le-suc zero-le))

module _ (p : Parameters) (A : Accepted p) where
  R : Rules p
  R = accepted p A

  -- the level of a round
  pub round-level : (b : ℕ) → 1 ≤ b → round_level p b ≤ p.v
  round-level b h = omega (arith, R.v_low)

  pub start-work : (ys : List ℕ) → IsWords p ys → IsWork p (start p ys)
  start-work ys w = record {
    stand = rw (start-words p ys) (mend_all-words p (alone p ys) (alone-rising p R ys w) (range 0 p.m) ys w);
    rising = rw (start-broken p ys) (unfound-rising (alone p ys) 0 p.m (range 0 p.m) (range-rising 0 p.m p.m (Nat.zero-add p.m)));
  }

  pub round-work : (W : Work) → IsWork p W → IsWork p (round p W)
  round-work W w = record {
    stand = rw (round-words p W) (go (dec_le 1 (length W.broken)));
    rising = rw (round-broken p W) (unfound-rising (found p W) 0 p.m W.broken w.rising);
  }
    where
      go : Dec (1 ≤ length W.broken) → IsWords p (mend_all (found p W) W.broken W.words)
      go (yes h) = mend_all-words p (found p W) (found-rising p R W (round-level (length W.broken) h)) W.broken W.words w.stand
      go (no n) = rw (ap (λ (l : List ℕ). mend_all (found p W) l W.words) (none_left W.broken n) ∙ mend_all-nil (found p W) W.words) w.stand

  -- broken words are as they were
  pub start-stays : (ys : List ℕ) → IsWords p ys → (i : ℕ) → Mem i (start p ys).broken → get_or (start p ys).words i 0 ≡ get_or ys i 0
  start-stays ys w i m =
      let s = unfound-mem (alone p ys) (range 0 p.m) i (rw (start-broken p ys) at m) in
      let r = range-rising 0 p.m p.m (Nat.zero-add p.m) in
      ap (λ (l : List ℕ). get_or l i 0) (start-words p ys)
      ∙ mend_all-at (alone p ys) 0 p.m (range 0 p.m) ys i r s.0 (rw w.many (mem-from 0 p.m (range 0 p.m) i r s.0).1)
      ∙ ap (mend_by (get_or ys i 0)) s.1

  pub round-stays : (W : Work) → IsWork p W → (i : ℕ) → Mem i (round p W).broken → Mem i W.broken × (get_or (round p W).words i 0 ≡ get_or W.words i 0)
  round-stays W w i m =
      let s = unfound-mem (found p W) W.broken i (rw (round-broken p W) at m) in (
        s.0,
        ap (λ (l : List ℕ). get_or l i 0) (round-words p W)
            ∙ mend_all-at (found p W) 0 p.m W.broken W.words i w.rising s.0
            (rw w.stand.many (mem-from 0 p.m W.broken i w.rising s.0).1)
            ∙ ap (mend_by (get_or W.words i 0)) s.1,
      )

  pub round-le : (W : Work) → length (round p W).broken ≤ length W.broken
  round-le W = rw (round-broken p W) (unfound-le (found p W) W.broken)

  -- ---- nodes
  abbrev B : BinaryField
  B = field_of p.q

  abbrev F : Field2
  F = B.field

  abbrev K : Type 0
  K = F.K

  abbrev α : K
  α = B.α

  L : Lawful B.field B.α p
  L = lawful p R

  pub node-apart : (j i k : ℕ) → 0 < j → j ≤ 2 * strength p p.v → i < p.m → k < p.m → i ≢ k → node B j i ≢ node B j k
  node-apart = Nodes.node-apart p R

  errors-apart : (g : ℕ → ℕ) (j i : ℕ) → 0 < j → j ≤ 2 * strength p p.v → i < p.m → (ks : List ℕ) → All (λ k. (k ≢ i) × (k < p.m)) ks
      → All (λ q. q.0 ≢ node B j i) (errors F (pow F α j) g ks)
  errors-apart g j i h b hi [] a = tt
  errors-apart g j i h b hi (k ∷ ks) a = (node-apart j k i h b a.0.1 hi a.0.0, errors-apart g j i h b hi ks a.1)

  -- ---- a round on a page that came from the member cs
  module _ (cs : List ℕ) (C : IsWords p cs) (M : Passing p cs) (W : Work) (w : IsWork p W) (s : Sound p W cs) where
    abbrev ks : List ℕ
    ks = W.broken

    abbrev a : ℕ
    a = round_level p (length ks)

    abbrev pub fault : ℕ → ℕ
    fault k = xor (get_or W.words k 0) (get_or cs k 0)

    whole : (k : ℕ) → 0 ≤ k → ¬ Mem k ks → fault k ≡ 0
    whole k z n = go (dec_le (suc k) p.m)
      where
        go : Dec (suc k ≤ p.m) → fault k ≡ 0
        go (yes l) = rw (s.is k l n) (xor_self (get_or cs k 0))
        go (no l) = rw (get_or-eq_default W.words 0 {n = k} (omega (arith, w.stand.many)), get_or-eq_default cs 0 {n = k} (omega (arith, C.many))) (xor_self 0)

    nested-sums : (j l : ℕ) → 0 < j → 1 ≤ length ks → length ks ≤ p.v → j ≤ 2 * strength p a → l < length ks
        → element B (syndrome p.q (nested p l W.words) j) ≡ sum F (errors F (pow F α j) fault ks) l
    nested-sums j l o b c t h =
        element-syndrome p.q R.known (nested p l W.words) j
        ∙ sym (sym (sparse F (pow F α j) fault l 0 (add W.words cs) ks (λ k q. add_at W.words cs k same ∙ ap fault (sym (Nat.zero-add k)))
        (rw (Nat.zero-add (length (add W.words cs)), length-add W.words cs same, w.stand.many) w.rising) whole)
        ∙ sym (eval-nested-root F α p L l j (add W.words cs))
        ∙ ap (λ (f : ℕ). eval F f (pow F α j)) (nested-add p L.pos L.degrees l W.words cs) ∙ eval_xor F (nested p l W.words) (nested p l cs) (pow F α j)
        ∙ rw ((L.roots (p.v - l) (Nat.sub-le p.v l) (nested p l cs)).0 (M.nesteds l (omega arith)) j o
        (omega (arith, L.rising a (p.v - l) (omega arith) (Nat.sub-le p.v l)))) (add-zero F (eval F (nested p l W.words) (pow F α j))))
      where
        same : length W.words ≡ length cs
        same = w.stand.many ∙ sym C.many

    -- the nested words give the syndromes of each error
    pub error-is : (i : ℕ) → Mem i ks → 1 ≤ length ks → length ks ≤ p.v → (j : ℕ) → 0 < j → j ≤ 2 * strength p a
        → error_syndrome p W.words (others i ks) i j ≡ syndrome p.q (fault i) j
    error-is i m b c j o t =
        let x : K = pow F α j in
        let im : i < p.m = (mem-from 0 p.m ks i w.rising m).1 in
        let N : ℕ → K = λ l. element B (syndrome p.q (nested p l W.words) j) in
        error_syndrome-eq p W.words (others i ks) i j
        ∙ ap B.num (ap (λ (ys : List K). unmix B (node B j i) ys N) (sym (firsts-errors B x fault (others i ks)))
        ∙ unmix-is B (node B j i) (eval F (fault i) x) (errors F x fault (others i ks)) N
        (errors-apart fault j i o (omega (arith, L.rising a p.v (round-level (length ks) b) (Nat.le_refl p.v))) im (others i ks) (others_apart i 0 p.m ks w.rising))
        (λ l d. nested-sums j l o b c t (omega (arith, length-map {B = K × K} (others i ks) (λ (k : ℕ). (pow F x k, eval F (fault k) x)), others-fewer i 0 p.m ks w.rising m))
        ∙ take_out F x fault l i 0 p.m ks w.rising m))
        ∙ syndrome-num p.q R.known (fault i) j

    pub fault-low : (i : ℕ) → fault i < 2 ^ stored p
    fault-low i = xor_low p W.words cs w.stand C i

    -- an error of at most t_a places is found: a round leaves fewer
    pub round-falls : (i : ℕ) → Mem i ks → length ks ≤ p.v → weight (fault i) ≤ strength p a → length (round p W).broken < length ks
    round-falls i m c h =
        let b : 1 ≤ length ks = mem-some i ks m in
        rw (round-broken p W) (unfound-fewer (found p W) ks i (ones (stored p) (fault i)) m
        (found-eq p W i ∙ error-found p R a (round-level (length ks) b) (error_syndrome p W.words (others i ks) i) (fault i) (xor_low p W.words cs w.stand C i) h (error-is i m b c)))

  -- ---- odd syndromes are enough in a round too, whatever the page holds
  module _ (ws : List ℕ) (i : ℕ) (im : i < p.m) (ks : List ℕ) (apart : All (λ k. (k ≢ i) × (k < p.m)) ks) where
    abbrev sq : K → K
    sq x = F.◌⊗◌ x x

    double : (j : ℕ) → pow F α (j + j) ≡ sq (pow F α j)
    double j = pow-add F α j j

    node-double : (j k : ℕ) → node B (j + j) k ≡ sq (node B j k)
    node-double j k = ap (λ (x : K). pow F x k) (double j) ∙ mul-pow F (pow F α j) (pow F α j) k

    nodes-double : (j : ℕ) (ks : List ℕ) → map (node B (j + j)) ks ≡ squares B (map (node B j) ks)
    nodes-double j [] = refl
    nodes-double j (k ∷ ks) = ap₂ ◌∷◌ (node-double j k) (nodes-double j ks)

    sums-double : (j l : ℕ) → element B (syndrome p.q (nested p l ws) (j + j)) ≡ sq (element B (syndrome p.q (nested p l ws) j))
    sums-double j l =
        let e = element-syndrome p.q R.known (nested p l ws) in
        e (j + j) ∙ ap (eval F (nested p l ws)) (double j) ∙ eval-sq F (nested p l ws) (pow F α j) ∙ sym (ap sq (e j))

    nodes-apart : (j : ℕ) → 0 < j → j ≤ 2 * strength p p.v → (ks : List ℕ) → All (λ k. (k ≢ i) × (k < p.m)) ks → All (λ y. y ≢ node B j i) (map (node B j) ks)
    nodes-apart j o b [] a = tt
    nodes-apart j o b (k ∷ ks) a = (node-apart j k i o b a.0.1 im a.0.0, nodes-apart j o b ks a.1)

    pub error-square : (j : ℕ) → 0 < j → j ≤ 2 * strength p p.v
        → times p.q (error_syndrome p ws ks i j) (error_syndrome p ws ks i j) ≡ error_syndrome p ws ks i (j + j)
    error-square j o b =
        let N : ℕ → ℕ → K = λ j l. element B (syndrome p.q (nested p l ws) j) in
        let u : K = unmix B (node B j i) (map (node B j) ks) (N j) in
        ap₂ (times p.q) (error_syndrome-eq p ws ks i j) (error_syndrome-eq p ws ks i j) ∙ sym (times-num p.q R.known u u)
        ∙ ap B.num (sym (unmix-sq B (node B j i) (map (node B j) ks) (nodes-apart j o b ks apart) (N j) (N (j + j)) (sums-double j))
        ∙ ap₂ (λ (x : K) (ys : List K). unmix B x ys (N (j + j))) (sym (node-double j i)) (sym (nodes-double j ks)))
        ∙ sym (error_syndrome-eq p ws ks i (j + j))

    pub error-odd : (t : ℕ) → t ≤ strength p p.v → (O : ℕ → ℕ) → ((k : ℕ) → k < t → O k ≡ error_syndrome p ws ks i (2 * k + 1))
        → (j : ℕ) → 0 < j → j ≤ 2 * t → from_odd p.q O j ≡ error_syndrome p ws ks i j
    error-odd t h O e = from_odd-is p.q t (error_syndrome p ws ks i) O (λ j o b. error-square j o (omega arith)) e
