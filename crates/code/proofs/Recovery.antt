-- Mending through the nested words: when the member comes back, what else may come, and how many rounds it takes.
--   heavy p ys cs       how many words of ys differ from those of cs in more than t_0 places
--   Hopeful p ys cs     the change request's supposition: ys came from cs by flips that the passes and rounds mend
--   MendedWords p es    what comes: the words of a member that is not blank
use Rattle.std.specs.Prelude.{◌≡◌, refl, Bool, true, false, not, ◌&&◌, cond, List, [], ◌∷◌, ℕ, zero, suc, ◌+◌, ◌≤◌, ◌<◌, T, eqb, leb, ltb, length, get_or}
use Rattle.std.proofs.Common.{sym, ap, ◌∙◌, zero-le, arith, eqb→eq, leb→le, le→leb, lt→ltb, ltb→lt, length-append, ext_get_or, le-ltb}
use Rattle.std.proofs.Math.Option.{Option, none, some}
use Rattle.std.proofs.Math.Nat as Nat
use Rattle.std.proofs.Math.Decide.{dec_le}
use Rattle.std.proofs.Math.Dec.{not_T}
use Rattle.polynomial.specs.Division.{xor_lt}
use Rattle.polynomial.specs.Multiple.{Multiple}
use Rattle.polynomial.specs.Sums.{all-at}
use Rattle.polynomial.specs.Xor.{xor, xor-cancel, xor_self}
use Rattle.field.specs.Bch.{weight, weight-zero}
use Rattle.field.specs.Flips.{flips-ones}
use Rattle.code.specs.declared.Parameters.{Parameters}
use Rattle.code.specs.Accepted.{Rules}
use Rattle.code.proofs.Accepted.{accepted}
use Rattle.code.proofs.Answers.{number-member, verdict-number}
use Rattle.code.specs.Calls.{verdict_number}
use Rattle.code.specs.Code.{IsMember, Near, failing_number, gen}
use Rattle.code.proofs.Distance.{Passing}
use Rattle.code.proofs.Judge.{member-passing, multiple-iff, verdict-member}
use Rattle.code.specs.Lists.{count_below, range}
use Rattle.code.proofs.Mend.{nearest-none, nearest-word, none-some, some_inj}
use Rattle.code.specs.Nest.{Mem, Work, after, after-suc, after-zero, all_ones, alone, end, end-eq, found, kept_by, mend_all, mend_all-nil, mend_by, mend_page, mend_page-eq}
use Rattle.code.specs.Nest.{round, round-broken, round-words, round_level, rounds, rounds-suc, rounds-zero, start, start-broken, start-words, unfound, unfound-nil}
use Rattle.code.specs.Pages.{IsWords}
use Rattle.code.specs.Parameters.{Accepted, stored, strength}
use Rattle.code.proofs.Places.{add_below-none, add_below-suc, count_below-eq}
use Rattle.code.specs.Rounds.{IsWork}
use Rattle.code.proofs.Rounds.{Sound, mend_all-at, none_left, range_last, range-mem, range-rising, round-falls, round-stays, round-work}
use Rattle.code.proofs.Rounds.{start-stays, start-work, unfound-append, unfound-one, words-low}
use Rattle.code.specs.Steps.{Divides}

abbrev pub heavy : Parameters → List ℕ → List ℕ → ℕ
heavy p ys cs = count_below p.m (λ i. ltb (strength p 0) (weight (xor (get_or ys i 0) (get_or cs i 0))))

pub record Hopeful (p : Parameters) (ys cs : List ℕ) : Type 0 where
  -- at most v sub-words have more than t_0 flips
  pub few : heavy p ys cs ≤ p.v
  -- no single mending gave a wrong word, in the first pass or in a round
  pub right : (k : ℕ) → Sound p (after p ys k) cs
  -- in every round some broken sub-word has at most t_a flips, a = v - b + 1
  pub light : (k : ℕ) → 0 < length (after p ys k).broken
      → (i : ℕ) × Mem i (after p ys k).broken × (weight (xor (get_or ys i 0) (get_or cs i 0)) ≤ strength p (round_level p (length (after p ys k).broken)))

pub record MendedWords (p : Parameters) (es : List ℕ) : Type 0 where
  pub member : IsMember p es
  pub unblank : T (not (all_ones p es))
  pub stand : IsWords p es

-- ---- tests
yes-is : {A : Type 0} (b : Bool) (x y : A) → T b → cond b x y ≡ x
yes-is true x y t = refl
yes-is false x y t = absurd t

no-is : {A : Type 0} (b : Bool) (x y : A) → T (not b) → cond b x y ≡ y
no-is true x y t = absurd t
no-is false x y t = refl

over : (a b : ℕ) → ¬ (a ≤ b) → T (not (leb a b))
over a b n = not_T (leb a b) (λ t. n (leb→le a b t))

-- a round's three tests
pick : (P : Type 0) (a b c : Bool) (o r : Option (List ℕ)) (es : List ℕ) → cond a o (cond b (cond c r none) none) ≡ some es
    → (o ≡ some es → P) → (T b → r ≡ some es → P) → P
pick P true b c o r es h f g = f h
pick P false true true o r es h f g = g tt h
pick P false true false o r es h f g = absurd (none-some es h)
pick P false false c o r es h f g = absurd (none-some es h)

-- ---- counts
kept-count : (o : Option (List ℕ)) (i : ℕ) (b : Bool) → (o ≡ none → T b) → length (kept_by o i []) ≤ cond b 1 0
kept-count none i true h = Nat.le_refl 1
kept-count none i false h = absurd (h refl)
kept-count (some R) i b h = zero-le

count-unfound : (f : ℕ → Option (List ℕ)) (P : ℕ → Bool) (n : ℕ) → ((i : ℕ) → i < n → f i ≡ none → T (P i)) → length (unfound f (range 0 n)) ≤ count_below n P
unfolding range
count-unfound f P zero h = rw (unfound-nil f) zero-le
count-unfound f P (suc n) h =
    rw (range_last 0 n, Nat.zero-add n, unfound-append f (range 0 n) (n ∷ []), length-append (unfound f (range 0 n)) (unfound f (n ∷ [])), unfound-one f n)
    (omega (
      arith,
      count_below-eq (suc n) P,
      add_below-suc n (λ k. cond (P k) 1 0),
      count_below-eq n P,
      count-unfound f P n (λ i l. h i (Nat.le_step l)),
      kept-count (f n) n (P n) (h n (Nat.le_refl (suc n))),
    ))

module _ (p : Parameters) (A : Accepted p) where
  R : Rules p
  R = accepted p A

  -- ---- the end: a member that is not blank, or nothing
  both : (a b : Bool) (ws es : List ℕ) → cond (a && b) (some ws) none ≡ some es → T a × T b × (ws ≡ es)
  both true true ws es e = (tt, tt, some_inj ws es e)
  both true false ws es e = absurd (none-some es e)
  both false b ws es e = absurd (none-some es e)

  pub end_is : (ws es : List ℕ) → end p ws ≡ some es → IsMember p ws × T (not (all_ones p ws)) × (ws ≡ es)
  end_is ws es h =
      let b = both (eqb (failing_number p ws) 0) (not (all_ones p ws)) ws es (sym (end-eq p ws) ∙ h) in
      ((verdict-member p R ws).0 (number-member p ws (eqb→eq (failing_number p ws) 0 b.0)), b.1, b.2)

  pub is-end : (ws : List ℕ) → IsMember p ws → T (not (all_ones p ws)) → end p ws ≡ some ws
  is-end ws M t =
      end-eq p ws
      ∙ rw (sym (verdict-number p ws) ∙ ap verdict_number ((verdict-member p R ws).1 M)) (yes-is (not (all_ones p ws)) (some ws) none t)

  pub ended : (W : Work) (es : List ℕ) → IsWork p W → end p W.words ≡ some es → MendedWords p es
  ended W es w h =
      let x = end_is W.words es h in
      let r : MendedWords p W.words = record { member = x.0; unblank = x.1; stand = w.stand } in
      rw x.2 at r

  -- more than v broken: nothing, however many rounds
  pub rounds-many : (f : ℕ) (W : Work) → p.v < length W.broken → rounds p f W ≡ none
  rounds-many zero W h = rounds-zero p W ∙ no-is (leb (length W.broken) 0) (end p W.words) none (over (length W.broken) 0 (Nat.not-le_of_lt (omega arith)))
  rounds-many (suc f) W h =
      let next = cond (ltb (length (round p W).broken) (length W.broken)) (rounds p f (round p W)) none in
      rounds-suc p f W ∙ no-is (leb (length W.broken) 0) (end p W.words) (cond (leb (length W.broken) p.v) next none) (over (length W.broken) 0 (Nat.not-le_of_lt (omega arith)))
      ∙ no-is (leb (length W.broken) p.v) next none (over (length W.broken) p.v (Nat.not-le_of_lt h))

  rounds-give : (f : ℕ) (W : Work) (es : List ℕ) → IsWork p W → rounds p f W ≡ some es → MendedWords p es
  rounds-give zero W es w h = go (leb (length W.broken) 0) (sym (rounds-zero p W) ∙ h)
    where
      go : (b : Bool) → cond b (end p W.words) none ≡ some es → MendedWords p es
      go true k = ended W es w k
      go false k = absurd (none-some es k)
  rounds-give (suc f) W es w h =
      pick (MendedWords p es) (leb (length W.broken) 0) (leb (length W.broken) p.v) (ltb (length (round p W).broken) (length W.broken))
      (end p W.words) (rounds p f (round p W)) es (sym (rounds-suc p f W) ∙ h) (ended W es w) (λ t. rounds-give f (round p W) es (round-work p A W w))

  -- A MEMBER OR NOTHING, whatever the page
  pub mended-words : (ys es : List ℕ) → IsWords p ys → mend_page p ys ≡ some es → MendedWords p es
  mended-words ys es w h = rounds-give p.v (start p ys) es (start-work p A ys w) (sym (mend_page-eq p ys) ∙ h)

  -- ---- the count of rounds never ends the work
  pub rounds-enough : (f : ℕ) (W : Work) → length W.broken ≤ f → rounds p (suc f) W ≡ rounds p f W
  rounds-enough zero W h =
      let t : T (leb (length W.broken) 0) = le→leb (length W.broken) 0 h in
      rounds-suc p zero W
      ∙ yes-is (leb (length W.broken) 0) (end p W.words)
      (cond (leb (length W.broken) p.v) (cond (ltb (length (round p W).broken) (length W.broken)) (rounds p zero (round p W)) none) none) t
      ∙ sym (rounds-zero p W ∙ yes-is (leb (length W.broken) 0) (end p W.words) none t)
  rounds-enough (suc f) W h =
      rounds-suc p (suc f) W
      ∙ ap (λ (o : Option (List ℕ)). cond (leb (length W.broken) 0) (end p W.words) (cond (leb (length W.broken) p.v) o none))
      (go (ltb (length (round p W).broken) (length W.broken)) refl (rounds-enough f (round p W)))
      ∙ sym (rounds-suc p f W)
    where
      go : (b : Bool) → ltb (length (round p W).broken) (length W.broken) ≡ b
          → (length (round p W).broken ≤ f → rounds p (suc f) (round p W) ≡ rounds p f (round p W))
          → cond b (rounds p (suc f) (round p W)) none ≡ cond b (rounds p f (round p W)) none
      go true e ih = ih (omega (arith, ltb→lt (length (round p W).broken) (length W.broken) (rw e tt)))
      go false e ih = refl

  -- ---- with v rounds: none broken, a round that leaves fewer, and one that does not
  pub rounds-end : (W : Work) → length W.broken ≡ 0 → rounds p p.v W ≡ end p W.words
  rounds-end W e = go p.v
    where
      t : T (leb (length W.broken) 0)
      t = le→leb (length W.broken) 0 (Nat.le_of_eq e)

      go : (f : ℕ) → rounds p f W ≡ end p W.words
      go zero = rounds-zero p W ∙ yes-is (leb (length W.broken) 0) (end p W.words) none t
      go (suc f) = rounds-suc p f W ∙ yes-is (leb (length W.broken) 0) (end p W.words) _ t

  one-round : (W : Work) (f : ℕ) → 0 < length W.broken → length W.broken ≤ p.v
      → rounds p (suc f) W ≡ cond (ltb (length (round p W).broken) (length W.broken)) (rounds p f (round p W)) none
  one-round W f o b =
      rounds-suc p f W ∙ no-is (leb (length W.broken) 0) (end p W.words) _ (over (length W.broken) 0 (Nat.not-le_of_lt o))
      ∙ yes-is (leb (length W.broken) p.v) (cond (ltb (length (round p W).broken) (length W.broken)) (rounds p f (round p W)) none) none (le→leb (length W.broken) p.v b)

  pub rounds-next : (W : Work) → 0 < length W.broken → length W.broken ≤ p.v → length (round p W).broken < length W.broken
      → rounds p p.v W ≡ rounds p p.v (round p W)
  rounds-next W o b d = go p.v b
    where
      go : (f : ℕ) → length W.broken ≤ f → rounds p f W ≡ rounds p f (round p W)
      go zero h = absurd (Nat.not-le_of_lt o h)
      go (suc f) h =
          one-round W f o b
          ∙ yes-is (ltb (length (round p W).broken) (length W.broken)) (rounds p f (round p W)) none (lt→ltb (length (round p W).broken) (length W.broken) d)
          ∙ sym (rounds-enough f (round p W) (omega arith))

  pub rounds-stop : (W : Work) → 0 < length W.broken → length W.broken ≤ p.v → length W.broken ≤ length (round p W).broken → rounds p p.v W ≡ none
  rounds-stop W o b d = go p.v b
    where
      go : (f : ℕ) → length W.broken ≤ f → rounds p f W ≡ none
      go zero h = absurd (Nat.not-le_of_lt o h)
      go (suc f) h =
          one-round W f o b
          ∙ no-is (ltb (length (round p W).broken) (length W.broken)) (rounds p f (round p W)) none
          (not_T (ltb (length (round p W).broken) (length W.broken)) (λ t. Nat.not-le_of_lt (ltb→lt (length (round p W).broken) (length W.broken) t) d))

  -- v rounds are enough: as many more as one likes give the same
  pub v-enough : (d : ℕ) (ys : List ℕ) → rounds p (p.v + d) (start p ys) ≡ mend_page p ys
  v-enough zero ys = ap (λ (f : ℕ). rounds p f (start p ys)) (Nat.add-zero p.v) ∙ sym (mend_page-eq p ys)
  v-enough (suc d) ys = ap (λ (f : ℕ). rounds p f (start p ys)) (Nat.add-suc p.v d) ∙ go (dec_le (length (start p ys).broken) p.v) ∙ v-enough d ys
    where
      go : Dec (length (start p ys).broken ≤ p.v) → rounds p (suc (p.v + d)) (start p ys) ≡ rounds p (p.v + d) (start p ys)
      go (yes l) = rounds-enough (p.v + d) (start p ys) (omega arith)
      go (no n) = rounds-many (suc (p.v + d)) (start p ys) (Nat.lt_of_not-le n) ∙ sym (rounds-many (p.v + d) (start p ys) (Nat.lt_of_not-le n))

  pub after-work : (ys : List ℕ) → IsWords p ys → (k : ℕ) → IsWork p (after p ys k)
  after-work ys w zero = rw (after-zero p ys) (start-work p A ys w)
  after-work ys w (suc k) = rw (after-suc p ys k) (round-work p A (after p ys k) (after-work ys w k))

  -- a broken word is as it was
  pub after-stays : (ys : List ℕ) → IsWords p ys → (k i : ℕ) → Mem i (after p ys k).broken → get_or (after p ys k).words i 0 ≡ get_or ys i 0
  after-stays ys w zero i m = rw (after-zero p ys) (start-stays p A ys w i (rw (after-zero p ys) at m))
  after-stays ys w (suc k) i m =
      let s = round-stays p A (after p ys k) (after-work ys w k) i (rw (after-suc p ys k) at m) in
      rw (after-suc p ys k) s.1 ∙ after-stays ys w k i s.0

  -- ---- the first pass leaves no more than the heavy words
  pub word-multiple : (cs : List ℕ) → IsWords p cs → Passing p cs → (i : ℕ) → i < p.m → Multiple (gen p 0) (get_or cs i 0)
  word-multiple cs C M i l = (multiple-iff p R 0 zero-le (get_or cs i 0)).0 (all-at (λ c. Divides p 0 c) cs M.words i (rw C.many l))

  pub word-near : (ys cs : List ℕ) → IsWords p cs → Passing p cs → (i : ℕ) → i < p.m → weight (xor (get_or ys i 0) (get_or cs i 0)) ≤ strength p 0
      → Near p 0 (get_or ys i 0) (get_or cs i 0)
  word-near ys cs C M i l h = record {
    stores = words-low p cs C i;
    multiple = word-multiple cs C M i l;
    near = h;
  }

  pub start-few : (ys cs : List ℕ) → IsWords p ys → IsWords p cs → Passing p cs → length (start p ys).broken ≤ heavy p ys cs
  start-few ys cs w C M =
      rw (start-broken p ys) (count-unfound (alone p ys) (λ i. ltb (strength p 0) (weight (xor (get_or ys i 0) (get_or cs i 0)))) p.m far)
    where
      far : (i : ℕ) → i < p.m → alone p ys i ≡ none → T (ltb (strength p 0) (weight (xor (get_or ys i 0) (get_or cs i 0))))
      far i l e = lt→ltb (strength p 0) (weight (xor (get_or ys i 0) (get_or cs i 0))) (Nat.lt_of_not-le (λ h.
          (nearest-none p R 0 zero-le (get_or ys i 0) (words-low p ys w i)).0 e (get_or cs i 0) (word-near ys cs C M i l h)))

  -- ---- at most t_0 flips in each word: the first pass mends them all
  module _ (ys cs : List ℕ) (w : IsWords p ys) (C : IsWords p cs) (M : Passing p cs)
      (h : (i : ℕ) → i < p.m → weight (xor (get_or ys i 0) (get_or cs i 0)) ≤ strength p 0) where
    none-heavy : heavy p ys cs ≡ 0
    none-heavy =
        count_below-eq p.m (λ i. ltb (strength p 0) (weight (xor (get_or ys i 0) (get_or cs i 0))))
        ∙ add_below-none p.m (λ i. cond (ltb (strength p 0) (weight (xor (get_or ys i 0) (get_or cs i 0)))) 1 0)
        (λ i l. simp (le-ltb (strength p 0) (weight (xor (get_or ys i 0) (get_or cs i 0))) (h i l)))

    pass-none : (start p ys).broken ≡ []
    pass-none = none_left (start p ys).broken (λ b. Nat.not-suc-le-zero (Nat.le_trans b (rw none-heavy at (start-few ys cs w C M))))

    pass-is : (i : ℕ) → i < p.m → get_or (start p ys).words i 0 ≡ get_or cs i 0
    pass-is i l =
        let y = get_or ys i 0 in
        let c = get_or cs i 0 in
        ap (λ (l : List ℕ). get_or l i 0) (start-words p ys)
        ∙ mend_all-at (alone p ys) 0 p.m (range 0 p.m) ys i (range-rising 0 p.m p.m (Nat.zero-add p.m))
        (range-mem 0 p.m i zero-le (rw (Nat.zero-add p.m) l)) (rw w.many l)
        ∙ ap (mend_by y) (nearest-word p R 0 zero-le y (words-low p ys w i) c (word-near ys cs C M i l (h i l)))
        ∙ ap (xor y) (flips-ones (stored p) (xor y c) (xor_lt (stored p) y c (words-low p ys w i) (words-low p cs C i))) ∙ xor-cancel y c

    -- and no round changes anything
    after_none : (k : ℕ) → ((after p ys k).broken ≡ []) × ((i : ℕ) → i < p.m → get_or (after p ys k).words i 0 ≡ get_or cs i 0)
    after_none zero = rw (after-zero p ys) (pass-none, pass-is)
    after_none (suc k) =
        let W = after p ys k in
        let n = after_none k in
        rw (after-suc p ys k) (
          round-broken p W ∙ ap (unfound (found p W)) n.0 ∙ unfound-nil (found p W),
          λ i l. ap (λ (l : List ℕ). get_or l i 0) (round-words p W ∙ ap (λ (js : List ℕ). mend_all (found p W) js W.words) n.0 ∙ mend_all-nil (found p W) W.words) ∙ n.1 i l,
        )

    pub near-hopeful : Hopeful p ys cs
    near-hopeful = record {
      few = rw none-heavy zero-le;
      right = λ k. record { is = λ i l m. (after_none k).1 i l };
      light = λ k b. absurd (Nat.not-suc-le-zero (rw (after_none k).0 at b));
    }

  -- ---- THE MEMBER COMES BACK
  module _ (cs ys : List ℕ) (C : IsWords p cs) (M : IsMember p cs) (u : T (not (all_ones p cs))) (w : IsWords p ys) (H : Hopeful p ys cs) where
    P : Passing p cs
    P = member-passing p R cs M C.many

    home : (W : Work) → IsWork p W → Sound p W cs → length W.broken ≡ 0 → end p W.words ≡ some cs
    home W d r e =
        let same : W.words ≡ cs = ext_get_or 0 W.words cs (d.stand.many ∙ sym C.many) (λ i l. r.is i (rw d.stand.many at l) (empty W.broken e i)) in
        ap (end p) same ∙ is-end cs M u
      where
        empty : (l : List ℕ) → length l ≡ 0 → (i : ℕ) → ¬ Mem i l
        empty [] e i m = m
        empty (x ∷ l) e i m = Nat.suc-ne-zero (length l) e

    back : (f k : ℕ) → length (after p ys k).broken ≤ f → length (after p ys k).broken ≤ p.v → rounds p f (after p ys k) ≡ some cs
    back zero k h b =
        rounds-zero p (after p ys k)
        ∙ yes-is (leb (length (after p ys k).broken) 0) (end p (after p ys k).words) none (le→leb (length (after p ys k).broken) 0 h)
        ∙ home (after p ys k) (after-work ys w k) (H.right k) (omega arith)
    back (suc f) k h b = rounds-suc p f W ∙ go (dec_le (length W.broken) 0) (back f (suc k))
      where
        W : Work
        W = after p ys k

        next : Option (List ℕ)
        next = cond (leb (length W.broken) p.v) (cond (ltb (length (round p W).broken) (length W.broken)) (rounds p f (round p W)) none) none

        falls : 0 < length W.broken → length (round p W).broken < length W.broken
        falls o =
            let x = H.light k o in
            round-falls p A cs C P W (after-work ys w k) (H.right k) x.0 x.1 b (rw (after-stays ys w k x.0 x.1) x.2)

        go : Dec (length W.broken ≤ 0) → (length (after p ys (suc k)).broken ≤ f → length (after p ys (suc k)).broken ≤ p.v → rounds p f (after p ys (suc k)) ≡ some cs)
            → cond (leb (length W.broken) 0) (end p W.words) next ≡ some cs
        go (yes e) ih = yes-is (leb (length W.broken) 0) (end p W.words) next (le→leb (length W.broken) 0 e) ∙ home W (after-work ys w k) (H.right k) (omega arith)
        go (no n) ih =
            let d : length (round p W).broken < length W.broken = falls (omega arith) in
            no-is (leb (length W.broken) 0) (end p W.words) next (over (length W.broken) 0 n)
            ∙ yes-is (leb (length W.broken) p.v) (cond (ltb (length (round p W).broken) (length W.broken)) (rounds p f (round p W)) none) none (le→leb (length W.broken) p.v b)
            ∙ yes-is (ltb (length (round p W).broken) (length W.broken)) (rounds p f (round p W)) none (lt→ltb (length (round p W).broken) (length W.broken) d)
            ∙ ap (rounds p f) (sym (after-suc p ys k))
            ∙ ih (rw (after-suc p ys k) (omega arith)) (rw (after-suc p ys k) (omega arith))

    pub comes_back : mend_page p ys ≡ some cs
    comes_back =
        let b : length (start p ys).broken ≤ p.v = Nat.le_trans (start-few ys cs w C P) H.few in
        mend_page-eq p ys ∙ ap (rounds p p.v) (sym (after-zero p ys)) ∙ back p.v 0 (rw (after-zero p ys) b) (rw (after-zero p ys) b)

  -- a member stays as it is
  pub mend_page-member : (ws : List ℕ) → IsWords p ws → IsMember p ws → T (not (all_ones p ws)) → mend_page p ws ≡ some ws
  mend_page-member ws w M u =
      comes_back ws ws w M u w
      (near-hopeful ws ws w w (member-passing p R ws M w.many) (λ i l. rw (xor_self (get_or ws i 0), weight-zero) zero-le))
