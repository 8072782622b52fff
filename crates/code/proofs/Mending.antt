-- A page mended through its nested words, over bytes: its refusal, and what comes of the page.
--   judged-member, member-judged             judge's members are those of the code, unless the page is blank
--   flips-are, flips-weight                  the flips of a sub-word, in its bytes and in its words
--   mend-page-first, mend-page-left          the refusal: the page's own, and 17 alone where there is none
--   mend-pass, mend-round                    what the first pass and a round do, literally
--   mend-page-zero, mend-page-17             when the page is mended, and when it is not
--   mend-page-succeeds, mend-page-fails      the same by the numbers of broken sub-words; mend-page-page: to what page
--   mend-page-else, mend-page-clean          a member or 17, whatever the page; a member as it is
--   mend-page-back, mend-page-always         the member comes back; mend-page-reached, mend-page-once: by a condition on the flips
use Rattle.std.specs.Prelude.{◌≡◌, Bool, not, ◌↔◌, ◌⊎◌, List, ℕ, suc, ◌+◌, ◌-◌, ◌≤◌, ◌<◌, T, eqb, ltb, length, Ok}
use Rattle.std.proofs.Math.Path.{refl}
use Rattle.std.proofs.Common.{sym, ap, ap₂, ◌∙◌, inl, inr, lit<, lit≤}
use Rattle.std.proofs.Math.Option.{Option, none, some}
use Rattle.polynomial.specs.Bits.{coefficient}
use Rattle.polynomial.specs.Xor.{xor}
use Rattle.field.specs.Bch.{weight}
use Rattle.code.specs.declared.Parameters.{Parameters}
use Rattle.code.specs.declared.Verdict.{Verdict}
use Rattle.code.specs.Accepted.{Rules}
use Rattle.code.proofs.Accepted.{accepted}
use Rattle.code.specs.Calls.{judge_answer, list_of, sub_word_of}
use Rattle.code.proofs.Chains.{exact_none, exact-of, first_of, given, last, off, or_assoc, or-le, or-none, or-second, past, unless, when-le}
use Rattle.code.proofs.Answers.{ok-iff}
use Rattle.code.specs.Code.{IsMember, verdict}
use Rattle.code.specs.Demands.{Fails, OneRound, PassLaws, Reached, Recoverable, RoundLaws, Succeeds, heavier, left, page_after}
use Rattle.code.proofs.Distance.{Passing}
use Rattle.code.proofs.Ending.{NoneComes, in-the-end, mend-none, mend-some, none-mends}
use Rattle.code.proofs.Judge.{member-passing, verdict-member}
use Rattle.code.specs.Layout.{Bytes, IsPage, blank, coefficient_of, flips_in, in_bytes, mended_page, page_bytes, page_clear, word_sizes, words_of}
use Rattle.code.specs.Lists.{◌or_else◌, ◌when◌, count_below, join, last_refusal}
use Rattle.code.proofs.Mend.{is-nowhere, none-some, somewhere}
use Rattle.code.specs.Nest.{after, after-suc, after-zero, all_ones, end, mend_page}
use Rattle.code.specs.Pages.{IsWords}
use Rattle.code.proofs.Pages.{join-words, page-words, word_lt, words-join, words-page}
use Rattle.code.specs.Parameters.{Accepted, sheet_refusal, stored, strength}
use Rattle.code.proofs.Passes.{pass-mends, pass-stays, round-leaves, round-mends, round-others, round-sums}
use Rattle.code.proofs.Placement.{sub-word-bit}
use Rattle.code.proofs.Places.{count_below-ext, differing, words-differ}
use Rattle.code.proofs.Reach.{Reaches, flipped, one-reaches, reach-hopeful}
use Rattle.code.proofs.Recovery.{Hopeful, after-work, comes_back, end_is, is-end, mended-words, mend_page-member, near-hopeful}
use Rattle.code.specs.Refusals.{mend_page_refusal, not_exact, nowhere, page_refusal}
use Rattle.code.proofs.Refused.{judged-else, judged-page, page-le, page-links, unblanked}
use Rattle.code.specs.Rounds.{IsWork}
use Rattle.code.proofs.Rounds.{error-is, mem-from, mem-some, round-work, start-work}

-- ---- the refusal
module _ (p : Parameters) (x : List ℕ) where
  abbrev from-17 : ℕ
  from-17 = 17 when nowhere (mended_page p x)

  mend-page-chain : mend_page_refusal p x ≡ (page_refusal p x or_else from-17)
  unfolding mend_page_refusal
  mend-page-chain = refl

  pub mend-page-le : mend_page_refusal p x ≤ last_refusal
  mend-page-le = rw mend-page-chain (or-le (page_refusal p x) from-17 (page-le p x) (when-le 17 (nowhere (mended_page p x)) (lit≤ tt)))

  pub mend-page-first : (k : ℕ) → k ≡ page_refusal p x → (k ≡ 0 → ⊥) → k ≡ mend_page_refusal p x
  mend-page-first k e h = first_of k (page_refusal p x) from-17 e h ∙ sym mend-page-chain

  page-none : Accepted p → IsPage p x → page_refusal p x ≡ 0
  page-none A h =
      page-links p x ∙ or-second (sheet_refusal p) _ A ∙ or-second (7 when not_exact (length x) (page_bytes p)) _ (exact_none 7 (length x) (page_bytes p) h.exact)
      ∙ off 8 (page_clear p x) h.clear

  pub mend-page-left : Accepted p → IsPage p x → mend_page_refusal p x ≡ (17 when nowhere (mended_page p x))
  mend-page-left A h = mend-page-chain ∙ or-second (page_refusal p x) from-17 (page-none A h)

  mend-page-links : mend_page_refusal p x
      ≡ (sheet_refusal p or_else 7 when not_exact (length x) (page_bytes p) or_else 8 when not (page_clear p x) or_else from-17)
  mend-page-links =
      let seven = 7 when not_exact (length x) (page_bytes p) in
      let eight = 8 when not (page_clear p x) in
      mend-page-chain ∙ ap (λ (k : ℕ). k or_else from-17) (page-links p x) ∙ or_assoc (sheet_refusal p) (seven or_else eight) from-17
      ∙ ap (λ (k : ℕ). sheet_refusal p or_else k) (or_assoc seven eight from-17)

  -- what no refusal shows, and 17
  lent : Bytes x → (7 when not_exact (length x) (page_bytes p)) ≡ 0 → (8 when not (page_clear p x)) ≡ 0 → IsPage p x
  lent b e c = record { bytes = b; exact = exact-of 6 (length x) (page_bytes p) e; clear = unless 7 (page_clear p x) c }

  shows-none : Bytes x → mend_page_refusal p x ≡ 0 → IsPage p x × T (not (nowhere (mended_page p x)))
  shows-none b z =
      let s = or-none (sheet_refusal p) _ (sym mend-page-links ∙ z) in
      let e = or-none (7 when not_exact (length x) (page_bytes p)) _ s.1 in
      let c = or-none (8 when not (page_clear p x)) from-17 e.1 in
      (lent b e.0 c.0, last 16 (nowhere (mended_page p x)) c.1)

  shows-17 : Accepted p → Bytes x → mend_page_refusal p x ≡ 17 → IsPage p x × T (nowhere (mended_page p x))
  shows-17 A b z =
      let e = past 6 (not_exact (length x) (page_bytes p)) _ 17 (lit< tt) (sym (or-second (sheet_refusal p) _ A) ∙ sym mend-page-links ∙ z) in
      let c = past 7 (not (page_clear p x)) from-17 17 (lit< tt) e.1 in
      (lent b e.0 c.0, given 16 (nowhere (mended_page p x)) c.1)

  pub blank-words : blank p x ≡ all_ones p (words_of p x)
  unfolding blank all_ones
  blank-words = refl

  mended-eq : mended_page p x ≡ in_bytes p (mend_page p (words_of p x))
  unfolding mended_page
  mended-eq = refl

  nowhere-eq : nowhere (mended_page p x) ≡ nowhere (mend_page p (words_of p x))
  nowhere-eq = ap nowhere mended-eq ∙ go (mend_page p (words_of p x))
    where
      go : (o : Option (List ℕ)) → nowhere (in_bytes p o) ≡ nowhere o
      go none = refl
      go (some cs) = refl

module _ (p : Parameters) (A : Accepted p) where
  R : Rules p
  R = accepted p A

  -- ---- judge's members
  pub judged-member : (x : List ℕ) → IsPage p x → judge_answer p x ≡ Ok Verdict.Member → IsMember p (words_of p x)
  judged-member x h e = (ok-iff (judge_answer p x) (verdict p (words_of p x)) Verdict.Member (unblanked p A x h (judged-else p x e)) (verdict-member p R (words_of p x))).0 e

  pub member-judged : (x : List ℕ) → IsPage p x → T (not (blank p x)) → IsMember p (words_of p x) → judge_answer p x ≡ Ok Verdict.Member
  member-judged x h n M = unblanked p A x h n ∙ ap Ok ((verdict-member p R (words_of p x)).1 M)

  -- ---- flips
  module _ (x z : List ℕ) (h : IsPage p x) (u : IsPage p z) (i : ℕ) (l : i < p.m) where
    pub flips-are : flips_in p x z i ≡ differing (stored p) (words_of p x) (words_of p z) i
    flips-are =
        count_below-ext (stored p) (λ k. not (eqb (coefficient_of p x i k) (coefficient_of p z i k)))
        (λ k. not (eqb (coefficient (sub_word_of p x i) k) (coefficient (sub_word_of p z i) k)))
        (λ k c. ap₂ (λ (s t : ℕ). not (eqb s t)) (sym (sub-word-bit p R x h.bytes i k l c)) (sym (sub-word-bit p R z u.bytes i k l c)))

    pub flips-weight : flips_in p x z i ≡ weight (xor (sub_word_of p x i) (sub_word_of p z i))
    flips-weight = flips-are ∙ words-differ (stored p) (sub_word_of p x i) (sub_word_of p z i) (word_lt p R x h i l) (word_lt p R z u i l)

  -- ---- the page by its words
  module _ (x : List ℕ) where
    abbrev words : Option (List ℕ)
    words = mend_page p (words_of p x)

    left-17 : IsPage p x → mend_page_refusal p x ≡ (17 when nowhere words)
    left-17 h = mend-page-left p x A h ∙ ap (λ (b : Bool). 17 when b) (nowhere-eq p x)

    pub mend-page-zero : Bytes x → (mend_page_refusal p x ≡ 0) ↔ (IsPage p x × ((cs : List ℕ) × (words ≡ some cs)))
    mend-page-zero b = (
      (λ z. (let s = shows-none p x b z in (s.0, somewhere words (rw (nowhere-eq p x) at s.1)))),
      (λ s. left-17 s.0 ∙ ap (λ (o : Option (List ℕ)). 17 when nowhere o) s.1.1),
    )

    pub mend-page-17 : Bytes x → (mend_page_refusal p x ≡ 17) ↔ (IsPage p x × (words ≡ none))
    mend-page-17 b = (
      (λ z. (let s = shows-17 p x A b z in (s.0, is-nowhere words (rw (nowhere-eq p x) at s.1)))),
      (λ s. left-17 s.0 ∙ ap (λ (o : Option (List ℕ)). 17 when nowhere o) s.1),
    )

    module _ (h : IsPage p x) where
      found-page : (cs : List ℕ) → words ≡ some cs → list_of (mended_page p x) ≡ join (word_sizes p) cs
      found-page cs e = ap list_of (mended-eq p x ∙ ap (in_bytes p) e)

      -- a member or 17
      pub mend-page-else : ((mend_page_refusal p x ≡ 0) × IsPage p (list_of (mended_page p x)) × (judge_answer p (list_of (mended_page p x)) ≡ Ok Verdict.Member))
          ⊎ (mend_page_refusal p x ≡ 17)
      mend-page-else = go words refl
        where
          go : (o : Option (List ℕ)) → words ≡ o
              → ((mend_page_refusal p x ≡ 0) × IsPage p (list_of (mended_page p x)) × (judge_answer p (list_of (mended_page p x)) ≡ Ok Verdict.Member))
              ⊎ (mend_page_refusal p x ≡ 17)
          go none e = inr ((mend-page-17 h.bytes).1 (h, e))
          go (some cs) e =
              let M = mended-words p A (words_of p x) cs (page-words p R x h) e in
              let g : IsPage p (join (word_sizes p) cs) = words-page p R cs M.stand in
              let w = words-join p R cs M.stand in
              inl (
                (mend-page-zero h.bytes).1 (h, (cs, e)),
                rw (found-page cs e) g,
                rw (found-page cs e) (member-judged (join (word_sizes p) cs) g (rw (blank-words p (join (word_sizes p) cs), w) M.unblank) (rw w M.member)),
              )

      -- the page that comes of the words of z is z
      module _ (z : List ℕ) (u : IsPage p z) where
        pub page-comes : words ≡ some (words_of p z) → (mend_page_refusal p x ≡ 0) × (list_of (mended_page p x) ≡ z)
        page-comes e = ((mend-page-zero h.bytes).1 (h, (words_of p z, e)), found-page (words_of p z) e ∙ join-words p R z u)

    -- ---- the pages in work
    module _ (h : IsPage p x) (k : ℕ) where
      stands : IsWork p (after p (words_of p x) k)
      stands = after-work p A (words_of p x) (page-words p R x h) k

      after-page : IsPage p (page_after p x k)
      after-page = words-page p R (after p (words_of p x) k).words stands.stand

      after-words : words_of p (page_after p x k) ≡ (after p (words_of p x) k).words
      after-words = words-join p R (after p (words_of p x) k).words stands.stand

      -- the end is a member
      end-judged : (es : List ℕ) → end p (after p (words_of p x) k).words ≡ some es → judge_answer p (page_after p x k) ≡ Ok Verdict.Member
      end-judged es e =
          let g = end_is p A (after p (words_of p x) k).words es e in
          member-judged (page_after p x k) after-page (rw (blank-words p (page_after p x k), after-words) g.1) (rw after-words g.0)

      judged-end : judge_answer p (page_after p x k) ≡ Ok Verdict.Member → end p (after p (words_of p x) k).words ≡ some (after p (words_of p x) k).words
      judged-end e =
          is-end p A (after p (words_of p x) k).words (rw after-words at (judged-member (page_after p x k) after-page e))
          (rw (blank-words p (page_after p x k), after-words) at (judged-else p (page_after p x k) e))

      unjudged-end : (judge_answer p (page_after p x k) ≡ Ok Verdict.Member → ⊥) → end p (after p (words_of p x) k).words ≡ none
      unjudged-end n = go (end p (after p (words_of p x) k).words) refl
        where
          go : (o : Option (List ℕ)) → end p (after p (words_of p x) k).words ≡ o → end p (after p (words_of p x) k).words ≡ none
          go none e = e
          go (some es) e = absurd (n (end-judged es e))

    -- the page afterwards is that after any number of rounds that leave none broken
    pub mend-page-page : (k : ℕ) → Bytes x → mend_page_refusal p x ≡ 0 → left p x k ≡ 0 → list_of (mended_page p x) ≡ page_after p x k
    mend-page-page k b z e =
        let s = (mend-page-zero b).0 z in
        let cs = s.1.0 in
        let g = mend-some p A (words_of p x) cs s.1.1 in
        let w = end_is p A (after p (words_of p x) k).words cs (sym (in-the-end p A (words_of p x) g.0 k e) ∙ s.1.1) in
        found-page s.0 cs s.1.1 ∙ ap (join (word_sizes p)) (sym w.2)

    -- ---- done and 17, literally; Member is judge's word for a member
    module _ (Member : List ℕ → Type 0) (is : (y : List ℕ) → Member y ↔ (judge_answer p y ≡ Ok Verdict.Member)) where
      pub mend-page-succeeds : Bytes x → (mend_page_refusal p x ≡ 0) ↔ (IsPage p x × Succeeds p x Member)
      mend-page-succeeds b = (
        (λ z. (let s = (mend-page-zero b).0 z in
            let g = mend-some p A (words_of p x) s.1.0 s.1.1 in
            (s.0, (g.0, (g.1.0, g.1.1, (is (page_after p x g.1.0)).1 (end-judged s.0 g.1.0 s.1.0 g.1.2)))))),
        (λ s. (let k = s.1.1.0 in
            (mend-page-zero b).1 (
              s.0,
              (
                (after p (words_of p x) k).words,
                in-the-end p A (words_of p x) s.1.0 k s.1.1.1 ∙ judged-end s.0 k ((is (page_after p x k)).0 s.1.1.2),
              ),
            ))),
      )

      fails_of : IsPage p x → NoneComes p A (words_of p x) (λ ws. end p ws ≡ none) → Fails p x Member
      fails_of h (inl b) = inl b
      fails_of h (inr (inl s)) = inr (inl s)
      fails_of h (inr (inr s)) =
          inr (inr (s.0, s.1, (λ m. none-some (after p (words_of p x) s.0).words (sym s.2 ∙ judged-end h s.0 ((is (page_after p x s.0)).0 m)))))

      of-fails : IsPage p x → Fails p x Member → NoneComes p A (words_of p x) (λ ws. end p ws ≡ none)
      of-fails h (inl b) = inl b
      of-fails h (inr (inl s)) = inr (inl s)
      of-fails h (inr (inr s)) = inr (inr (s.0, s.1, unjudged-end h s.0 (λ e. s.2 ((is (page_after p x s.0)).1 e))))

      pub mend-page-fails : Bytes x → (mend_page_refusal p x ≡ 17) ↔ (IsPage p x × Fails p x Member)
      mend-page-fails b = (
        (λ z. (let s = (mend-page-17 b).0 z in (s.0, fails_of s.0 (mend-none p A (words_of p x) s.1)))),
        (λ s. (mend-page-17 b).1 (s.0, none-mends p A (words_of p x) (of-fails s.0 s.1))),
      )

    -- ---- the first pass and each round
    pub mend-pass : IsPage p x → PassLaws p x (after p (words_of p x) 0)
    mend-pass h =
        let w = page-words p R x h in
        rw (after-zero p (words_of p x)) (record {
          mends = λ i Q l F. pass-mends p A (words_of p x) w i l Q F;
          stays = λ i l n. pass-stays p A (words_of p x) w i l n;
          rising = (start-work p A (words_of p x) w).rising;
        })

    pub mend-round : (k : ℕ) → IsPage p x → RoundLaws p (after p (words_of p x) k) (after p (words_of p x) (suc k))
    mend-round k h =
        let W = after p (words_of p x) k in
        let w = stands h k in
        rw (after-suc p (words_of p x) k) (record {
          mends = λ i Q m E. round-mends p A W w i m Q E;
          stays = λ i m n. round-leaves p A W w i m n;
          others = λ i n. round-others p A W w i n;
          rising = (round-work p A W w).rising;
          sums = λ j l o b d. round-sums p A W w j l o b d;
          errors = λ z b J s v i j m o t.
              (let e : judge_answer p z ≡ Ok Verdict.Member = sym J.answers in
              let u = judged-page p z e b in
              let C = page-words p R z u in
              error-is p A (words_of p z) C (member-passing p R (words_of p z) (judged-member z u e) C.many) W w (record { is = s }) i m
              (mem-some i W.broken m) v j o t);
        })

  pub mend-page-clean : (x : List ℕ) → Bytes x → judge_answer p x ≡ Ok Verdict.Member → (mend_page_refusal p x ≡ 0) × (list_of (mended_page p x) ≡ x)
  mend-page-clean x b e =
      let h = judged-page p x e b in
      page-comes x h x h (mend_page-member p A (words_of p x) (page-words p R x h) (judged-member x h e) (rw (← blank-words p x) (judged-else p x e)))

  -- ---- the member comes back
  module _ (z x : List ℕ) (h : IsPage p x) (b : Bytes z) (e : judge_answer p z ≡ Ok Verdict.Member) where
    u : IsPage p z
    u = judged-page p z e b

    hopeful-back : Hopeful p (words_of p x) (words_of p z) → (mend_page_refusal p x ≡ 0) × (list_of (mended_page p x) ≡ z)
    hopeful-back H =
        page-comes x h z u (comes_back p A (words_of p z) (words_of p x) (page-words p R z u) (judged-member z u e) (rw (← blank-words p z) (judged-else p z e))
        (page-words p R x h) H)

    pub mend-page-back : Recoverable p z x → (mend_page_refusal p x ≡ 0) × (list_of (mended_page p x) ≡ z)
    mend-page-back r = hopeful-back (record {
      few = rw (← count_below-ext p.m (λ i. ltb (strength p 0) (flips_in p x z i)) (λ i. ltb (strength p 0) (weight (xor (sub_word_of p x i) (sub_word_of p z i))))
          (λ i l. ap (ltb (strength p 0)) (flips-weight x z h u i l))) r.few;
      right = λ k. record { is = r.right k };
      light = λ k o. (let s = r.light k o in
          let l = (mem-from 0 p.m (after p (words_of p x) k).broken s.0 (after-work p A (words_of p x) (page-words p R x h) k).rising s.1).1 in
          (s.0, s.1, rw (← flips-weight x z h u s.0 l) s.2));
    })

    pub mend-page-always : ((i : ℕ) → i < p.m → flips_in p x z i ≤ strength p 0) → (mend_page_refusal p x ≡ 0) × (list_of (mended_page p x) ≡ z)
    mend-page-always f =
        hopeful-back (near-hopeful p A (words_of p x) (words_of p z) (page-words p R x h) (page-words p R z u)
        (member-passing p R (words_of p z) (judged-member z u e) (page-words p R z u).many) (λ i l. rw (← flips-weight x z h u i l) (f i l)))

    -- within reach
    heavy-are : (a : ℕ) → heavier p z x a ≡ count_below p.m (λ i. ltb (strength p a) (flipped (words_of p x) (words_of p z) i))
    heavy-are a =
        count_below-ext p.m (λ i. ltb (strength p a) (flips_in p x z i)) (λ i. ltb (strength p a) (flipped (words_of p x) (words_of p z) i))
        (λ i l. ap (ltb (strength p a)) (flips-weight x z h u i l))

    abbrev W : IsWords p (words_of p x)
    W = page-words p R x h

    abbrev C : IsWords p (words_of p z)
    C = page-words p R z u

    passing : Passing p (words_of p z)
    passing = member-passing p R (words_of p z) (judged-member z u e) C.many

    reaches-back : Reaches p (words_of p x) (words_of p z) → (mend_page_refusal p x ≡ 0) × (list_of (mended_page p x) ≡ z)
    reaches-back r = hopeful-back (reach-hopeful p A (words_of p x) (words_of p z) W C passing r)

    pub mend-page-reached : Reached p z x → (mend_page_refusal p x ≡ 0) × (list_of (mended_page p x) ≡ z)
    mend-page-reached r = reaches-back (record {
      few = λ c o b. rw (← heavy-are (p.v + 1 - c)) (r.few c o b);
      apart = λ a i c l s im d. r.apart a i c l (rw (← heavy-are 0) at s) im (rw (flips-weight x z h u i im) d);
    })

    pub mend-page-once : OneRound p z x → (mend_page_refusal p x ≡ 0) × (list_of (mended_page p x) ≡ z)
    mend-page-once r =
        reaches-back (one-reaches p A (words_of p x) (words_of p z) W C passing (rw (← heavy-are 0) r.few)
        (λ i l d. rw (← flips-weight x z h u i l, ← heavy-are 0) (r.light i l (rw (flips-weight x z h u i l) d)))
        (λ i c l d. r.apart i c l (rw (flips-weight x z h u i l) d)))
