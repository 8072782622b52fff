-- What the first pass and a round do, literally, on words: to each word, and by which syndromes.
--   pass-mends, pass-stays       the first pass
--   round-mends, round-leaves    a round: a broken word is mended by the places of an error with the syndromes given, or stays
--   round-sums                   these syndromes solve Vandermonde's equations of the nested words
use Rattle.std.specs.Prelude.{◌≡◌, refl, List, [], ◌∷◌, ℕ, ◌*◌, ◌≤◌, ◌<◌, length, get_or}
use Rattle.std.proofs.Common.{sym, ap, ap₂, ◌∙◌, zero-le}
use Rattle.std.proofs.Math.Option.{Option, none, some}
use Rattle.std.proofs.Math.Nat as Nat
use Rattle.polynomial.specs.Xor.{xor}
use Rattle.field.specs.Elements.{element, element-syndrome, power, power-num, syndrome, syndrome-num, times, times-num}
use Rattle.field.specs.Field.{Field2, pow, pow-mul}
use Rattle.field.specs.Fields.{BinaryField, field_of}
use Rattle.field.specs.Flips.{Rising, flips}
use Rattle.field.specs.Vandermonde.{sum, sum-cons, sum-nil}
use Rattle.code.specs.declared.Parameters.{Parameters}
use Rattle.code.specs.Accepted.{Rules}
use Rattle.code.proofs.Accepted.{accepted}
use Rattle.code.specs.Code.{Flips, nested}
use Rattle.code.specs.Lists.{range}
use Rattle.code.proofs.Mend.{nearest-iff, none-some}
use Rattle.code.specs.Nest.{ErrorBy, Mem, Work, add_over, add_over-cons, add_over-nil, alone, error_sums, error_syndrome-eq, found, found-eq}
use Rattle.code.specs.Nest.{mend_all, mend_by, node, round, round-broken, round-words, round_level, start, start-broken, start-words, unfound}
use Rattle.code.specs.Pages.{IsWords}
use Rattle.code.specs.Parameters.{Accepted, strength}
use Rattle.code.specs.Rounds.{IsWork}
use Rattle.code.proofs.Rounds.{error-iff, mem-from, mem-some, mem-unfound, mend_all-at, mend_all-else, node-apart, range-mem, range-rising}
use Rattle.code.proofs.Rounds.{round-level, unfound-mem, words-low}
use Rattle.code.proofs.Solved.{pairs, solves, weight_by}

-- ---- what is found is done, and what is not stays
module _ (n : ℕ) (f : ℕ → Option (List ℕ)) (js ws : List ℕ) (r : Rising 0 n js) (i : ℕ) (m : Mem i js) where
  found-done : i < length ws → (R : List ℕ) → f i ≡ some R → (get_or (mend_all f js ws) i 0 ≡ xor (get_or ws i 0) (flips R)) × (¬ Mem i (unfound f js))
  found-done l R e =
      (mend_all-at f 0 n js ws i r m l ∙ ap (mend_by (get_or ws i 0)) e, (λ k. none-some R (sym (unfound-mem f js i k).1 ∙ e)))

  none_left : i < length ws → ((R : List ℕ) → ¬ (f i ≡ some R)) → (get_or (mend_all f js ws) i 0 ≡ get_or ws i 0) × Mem i (unfound f js)
  none_left l h = go (f i) refl
    where
      go : (o : Option (List ℕ)) → f i ≡ o → (get_or (mend_all f js ws) i 0 ≡ get_or ws i 0) × Mem i (unfound f js)
      go none e = (mend_all-at f 0 n js ws i r m l ∙ ap (mend_by (get_or ws i 0)) e, mem-unfound f js i m e)
      go (some R) e = absurd (h R e)

module _ (p : Parameters) (A : Accepted p) where
  R : Rules p
  R = accepted p A

  -- ---- the first pass
  module _ (ys : List ℕ) (w : IsWords p ys) (i : ℕ) (l : i < p.m) where
    abbrev all : List ℕ
    all = range 0 p.m

    rises : Rising 0 p.m all
    rises = range-rising 0 p.m p.m (Nat.zero-add p.m)

    here : Mem i all
    here = range-mem 0 p.m i zero-le (rw (Nat.zero-add p.m) l)

    stands : i < length ys
    stands = rw w.many l

    pub pass-mends : (Q : List ℕ) → Flips p 0 (get_or ys i 0) Q
        → (get_or (start p ys).words i 0 ≡ xor (get_or ys i 0) (flips Q)) × (¬ Mem i (start p ys).broken)
    pass-mends Q F =
        rw (start-words p ys, start-broken p ys)
        (found-done p.m (alone p ys) all ys rises i here stands Q ((nearest-iff p R 0 zero-le (get_or ys i 0) (words-low p ys w i) Q).1 F))

    pub pass-stays : ((Q : List ℕ) → ¬ Flips p 0 (get_or ys i 0) Q) → (get_or (start p ys).words i 0 ≡ get_or ys i 0) × Mem i (start p ys).broken
    pass-stays h =
        rw (start-words p ys, start-broken p ys)
        (none_left p.m (alone p ys) all ys rises i here stands (λ Q e. h Q ((nearest-iff p R 0 zero-le (get_or ys i 0) (words-low p ys w i) Q).0 e)))

  -- ---- a round
  module _ (W : Work) (w : IsWork p W) where
    abbrev ks : List ℕ
    ks = W.broken

    abbrev a : ℕ
    a = round_level p (length ks)

    module _ (i : ℕ) (m : Mem i ks) where
      standing : i < length W.words
      standing = rw w.stand.many (mem-from 0 p.m ks i w.rising m).1

      pub round-mends : (Q : List ℕ) → ErrorBy p a (error_sums p W i) Q
          → (get_or (round p W).words i 0 ≡ xor (get_or W.words i 0) (flips Q)) × (¬ Mem i (round p W).broken)
      round-mends Q E =
          rw (round-words p W, round-broken p W)
          (found-done p.m (found p W) ks W.words w.rising i m standing Q
          (found-eq p W i ∙ (error-iff p R a (round-level p A (length ks) (mem-some i ks m)) (error_sums p W i) Q).1 E))

      pub round-leaves : ((Q : List ℕ) → ¬ ErrorBy p a (error_sums p W i) Q)
          → (get_or (round p W).words i 0 ≡ get_or W.words i 0) × Mem i (round p W).broken
      round-leaves h =
          rw (round-words p W, round-broken p W)
          (none_left p.m (found p W) ks W.words w.rising i m standing
          (λ Q e. h Q ((error-iff p R a (round-level p A (length ks) (mem-some i ks m)) (error_sums p W i) Q).0 (sym (found-eq p W i) ∙ e))))

    pub round-others : (i : ℕ) → ¬ Mem i ks → (get_or (round p W).words i 0 ≡ get_or W.words i 0) × (¬ Mem i (round p W).broken)
    round-others i n =
        rw (round-words p W, round-broken p W)
        (mend_all-else (found p W) ks W.words i n, (λ m. n (unfound-mem (found p W) ks i m).0))

    -- ---- the syndromes of the errors
    abbrev B : BinaryField
    B = field_of p.q

    abbrev F : Field2
    F = B.field

    abbrev K : Type 0
    K = F.K

    -- a sum of weights at nodes, in numbers
    sum_number : (j l : ℕ) (u : ℕ → K) (is : List ℕ)
        → B.num (sum F (pairs B (node B j) u is) l) ≡ add_over (λ i. times p.q (B.num (u i)) (power p.q (j * i * l))) is
    sum_number j l u [] = ap B.num (sum-nil F l) ∙ B.num-zero ∙ sym (add_over-nil (λ i. times p.q (B.num (u i)) (power p.q (j * i * l))))
    sum_number j l u (i ∷ is) =
        ap B.num (sum-cons F (node B j i, u i) (pairs B (node B j) u is) l)
        ∙ B.num-add (F.◌⊗◌ (u i) (pow F (node B j i) l)) (sum F (pairs B (node B j) u is) l)
        ∙ ap₂ xor (times-num p.q R.known (u i) (pow F (node B j i) l) ∙ ap (times p.q (B.num (u i))) at-node) (sum_number j l u is)
        ∙ sym (add_over-cons (λ i. times p.q (B.num (u i)) (power p.q (j * i * l))) i is)
      where
        at-node : B.num (pow F (node B j i) l) ≡ power p.q (j * i * l)
        at-node =
            ap B.num (sym (pow-mul F B.α (j * i) l ∙ ap (λ (x : K). pow F x l) (pow-mul F B.α j i))) ∙ power-num p.q R.known (j * i * l)

    pub round-sums : (j l : ℕ) → 0 < j → j ≤ 2 * strength p p.v → l < length ks
        → syndrome p.q (nested p l W.words) j ≡ add_over (λ i. times p.q (error_sums p W i j) (power p.q (j * i * l))) ks
    round-sums j l o b h =
        let N : ℕ → K = λ l. element B (syndrome p.q (nested p l W.words) j) in
        let low : (i : ℕ) → Mem i ks → i < p.m = λ i m. (mem-from 0 p.m ks i w.rising m).1 in
        sym (ap B.num (element-syndrome p.q R.known (nested p l W.words) j) ∙ syndrome-num p.q R.known (nested p l W.words) j)
        ∙ ap B.num (solves B (node B j) 0 p.m ks N w.rising (λ i k x y d. node-apart p A j i k o b (low i x) (low k y) d) l h)
        ∙ sum_number j l (weight_by B (node B j) N ks) ks
        ∙ over ks
      where
        over : (is : List ℕ) → add_over (λ i. times p.q (B.num (weight_by B (node B j) (λ l. element B (syndrome p.q (nested p l W.words) j)) ks i)) (power p.q (j * i * l))) is
            ≡ add_over (λ i. times p.q (error_sums p W i j) (power p.q (j * i * l))) is
        over is = simp (← error_syndrome-eq)
