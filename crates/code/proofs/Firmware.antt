-- Demand 3, blank pages, the quote, bursts, many pages, one bit altered, one sub-word mended and a page mended of the C calls, from those of the calls behind them: a C call's promise is that of the call behind it, with the number of its answer.
use Rattle.std.specs.Prelude.{◌≡◌, ◌↔◌, ◌⊎◌, length, Ok, Err}
use Rattle.std.proofs.Math.Path.{refl, sym, ap}
use Rattle.std.proofs.Common.{◌∙◌, inl, inr}
use mathlib.Core.List.{List, [], ◌∷◌}
use Prim.Native.Nat.{ℕ, zero, suc, ◌+◌, ◌-◌, ◌*◌, ◌≤◌, zero-le}
use Rattle.std.proofs.Math.Nat as Nat
use native.Mathlib.Omega.{arith}
use Rattle.std.proofs.Math.ListN.{replicate}
use Rattle.polynomial.specs.Digits.{digits}
use Rattle.polynomial.specs.Sums.{add}
use Rattle.code.specs.declared.Parameters.{Parameters}
use Rattle.code.specs.declared.Refusal.{Refusal}
use Rattle.code.specs.declared.Verdict.{Verdict}
use Rattle.code.specs.Answers.{Judgement, answer_number}
use Rattle.code.proofs.Accepted.{accepted}
use Rattle.code.proofs.Answers.{judged, judged-blanks, judged-zero, leaves-refused, made_of, done-zero, outcome-number, read, read-as-judge, read-zero}
use Rattle.code.proofs.Buffers.{bytes-at, length-bytes}
use Rattle.code.specs.Calls.{Altered, AlteredC, Judged, JudgedC, MendedC, PageMended, PageMendedC, QuoteMadeC, ReadOut, ReadOutC, Written, WrittenC, WrittenMany, WrittenManyC, as_bytes, judge_answer, number_at, AllMadeC, as_numbers, nested_of, nested_syndrome_list, syndrome_list}
use Rattle.code.specs.Calls.{leaves, list_of, outcome, places_of, quote, read_answer, sub_word_of, judgement_number}
use Rattle.code.specs.Code.{Near, odd_syndromes, all_syndromes, syndromes}
use Rattle.code.specs.Demands.{AlterC, AlteredMemberC, MendC, Mends, NamesBit, PageC, SetTo}
use Rattle.code.specs.Demands.{AlikeC, AlikeManyC, BlankC, BlankWriteLaws, BurstC, Demand3C, DemandsC, ManyC, QuoteLaws, QuotedC, RewritesC, SumsC, OddC}
use Rattle.code.specs.Layout.{Bytes, Fits, IsBlank, IsPage, altered, block_bit, differences, mended_page, no_place, page_of, place_list}
use Rattle.code.proofs.Mend.{places-eq}
use Rattle.code.proofs.Mending.{mend-page-17, mend-page-fails, mend-page-page, mend-page-succeeds, mend-page-zero}
use Rattle.code.specs.Parameters.{Accepted, strength}
use Rattle.code.proofs.Quote.{quote-length, quote-none, quote-small}
use Rattle.code.specs.Refusals.{alter_refusal, many_refusal, mend_page_refusal, mend_refusal, quote_refusal, write_refusal, all_refusal}
use Rattle.code.specs.Refused.{BlocksBuffer, PageBuffer, Width}
use Rattle.code.proofs.Refused.{judge-le, judged-page, open_none}
use Rattle.code.proofs.Theorems.{alters, bursts, demand2, demand3, many, page-mends, quote-numbers, whole-13}
use Rattle.code.proofs.Theorems.{member-multiple, mend-15-iff, mend-clean, mend-stays, mend-zero-iff, mends-of, number_of, undamaged}
use Rattle.code.proofs.Odd.{all_none, all-odd, all-bytes, length-odd, odd-back}

module _ (p : Parameters) (A : Accepted p) where
  abbrev refusal : ℕ → List ℕ → List ℕ → ℕ
  refusal L b old = write_refusal p L b (length old)

  written : (L : ℕ) (b old after : List ℕ) (r : ℕ) → WrittenC p L b old after r → Written p L b old after (outcome (refusal L b old))
  written L b old after r W = made_of (refusal L b old) (page_of p b) old after r W

  -- a C call that is done has the number 0, and no other has
  zero_of : (r k : ℕ) → r ≡ k → outcome k ≡ Ok tt → r ≡ 0
  zero_of r k e d = e ∙ done-zero k d

  alike-c : (L M : ℕ) (blocks old old' after after' : List ℕ) (r r' : ℕ) → Width L → Width M → length old ≡ length old'
      → WrittenC p L blocks old after r → WrittenC p M blocks old' after' r' → AlikeC after after' r r'
  alike-c L M b old old' after after' r r' w w' e W W' =
      let k = refusal L b old in
      let k' = refusal M b old' in
      let a = (demand3 p A).alike L M b old old' after after' (outcome k) (outcome k') w w' e (written L b old after r W)
      (written M b old' after' r' W') in
      record {
        answers = W.answers ∙ sym (outcome-number k W.small) ∙ ap answer_number a.answers ∙ outcome-number k' W'.small ∙ sym W'.answers;
        pages = λ z. a.pages (ap outcome (sym W.answers ∙ z));
      }

  sums-c : (K L M : ℕ) (a b old-a old-b old-sum page-a page-b page-sum : List ℕ) (r-a r-b r-sum : ℕ)
      → Width K → Width L → Width M → Fits p a → Fits p b → PageBuffer p old-a → PageBuffer p old-b → PageBuffer p old-sum
      → (¬ IsBlank p (page_of p a)) → (¬ IsBlank p (page_of p b)) → (¬ IsBlank p (page_of p (add a b)))
      → WrittenC p K a old-a page-a r-a → WrittenC p L b old-b page-b r-b → WrittenC p M (add a b) old-sum page-sum r-sum
      → SumsC p a b page-a page-b page-sum r-a r-b r-sum
  sums-c K L M a b oa ob os pa pb ps ra rb rs wk wl wm h j ea eb es na nb ns Wa Wb Ws =
      let s =
      (demand3 p A).sums K L M a b oa ob os pa pb ps (outcome (refusal K a oa)) (outcome (refusal L b ob)) (outcome (refusal M (add a b) os))
      wk wl wm h j ea eb es na nb ns (written K a oa pa ra Wa) (written L b ob pb rb Wb) (written M (add a b) os ps rs Ws) in
      record {
        fits = s.fits;
        done-a = zero_of ra (refusal K a oa) Wa.answers s.done-a;
        done-b = zero_of rb (refusal L b ob) Wb.answers s.done-b;
        done = zero_of rs (refusal M (add a b) os) Ws.answers s.done;
        page = s.page;
      }

  judge-number : (x : List ℕ) (r : ℕ) → JudgedC p x r → r ≡ judgement_number (judge_answer p x)
  judge-number x r J = J.answers ∙ sym (judged p x (judge_answer p x) refl).number

  judge-iff : (x : List ℕ) (j : ℕ) → JudgedC p x j → (j ≡ 0) ↔ (judge_answer p x ≡ Ok Verdict.Member)
  judge-iff x j J = ((λ e. judged-zero p x (sym J.answers ∙ e)), (λ e. judge-number x j J ∙ ap judgement_number e))

  as_read : (x old out : List ℕ) (r : ℕ) → ReadOutC p x old out r → ReadOut p x old out (read_answer p x old)
  as_read x old out r O = read p x old (read_answer p x old) out refl O.buffer

  read-iff : (x old out : List ℕ) (r : ℕ) → ReadOutC p x old out r → (r ≡ 0) ↔ (read_answer p x old ≡ Ok Verdict.Member)
  read-iff x old out r O = (
    (λ e. read-zero p x old (sym O.answers ∙ e)),
    (λ e. O.answers ∙ sym (as_read x old out r O).number ∙ ap judgement_number e),
  )

  through : {X Y Z : Type 0} → X ↔ Y → Y ↔ Z → X ↔ Z
  through f g = ((λ x. g.0 (f.0 x)), (λ z. f.1 (g.1 z)))

  rewrites-c : (L : ℕ) (x old-blocks blocks old-page after : List ℕ) (j r w : ℕ) → Width L → IsPage p x → BlocksBuffer p old-blocks
      → PageBuffer p old-page
      → JudgedC p x j → ReadOutC p x old-blocks blocks r → WrittenC p L blocks old-page after w → RewritesC p x blocks after j r w
  rewrites-c L x ob blocks op after j r o w h eb ep J O W =
      let k = refusal L blocks op in
      let s = (demand3 p A).rewrites L x ob blocks op after (judge_answer p x) (read_answer p x ob) (outcome k) w h eb ep
      (judged p x (judge_answer p x) refl) (as_read x ob blocks r O) (written L blocks op after o W) in
      let d : ((outcome k ≡ Ok tt) × (after ≡ x)) ↔ ((o ≡ 0) × (after ≡ x)) = (
        (λ b. (zero_of o k W.answers b.0, b.1)),
        (λ b. (ap outcome (sym W.answers ∙ b.0), b.1)),
      ) in
      record {
        fits = s.fits;
        by-judge = through (judge-iff x j J) (through s.by-judge d);
        by-read-out = through (read-iff x ob blocks r O) (through s.by-read-out d);
      }

  member-c : (x : List ℕ) → JudgedC p x 0 → Judged p x (Ok Verdict.Member)
  member-c x J = judged p x (Ok Verdict.Member) (sym ((judge-iff x 0 J).0 refl))

  pub demand3-c : Demand3C p
  demand3-c = record {
    alike = alike-c;
    sums = sums-c;
    rewrites = rewrites-c;
    apart = λ x y b c J K n. (demand3 p A).apart x y b c (member-c x J) (member-c y K) n;
  }

  -- ---- blank pages
  blank-judged-c : (x : List ℕ) (r : ℕ) → Bytes x → PageBuffer p x → JudgedC p x r → (r ≡ 96) ↔ IsBlank p x
  blank-judged-c x r b e J =
      let i = (demand2 p A).blank-laws x (judge_answer p x) b e (judged p x (judge_answer p x) refl) in (
        (λ z. i.0 (judged-blanks p x A (sym J.answers ∙ z))),
        (λ h. judge-number x r J ∙ ap judgement_number (i.1 h)),
      )

  -- lent blocks of exact length, read out's number is judge's
  read-judged : (x old out : List ℕ) (r : ℕ) → BlocksBuffer p old → ReadOutC p x old out r → JudgedC p x r
  read-judged x old out r e O =
      let J = judged p x (judge_answer p x) refl in
      record {
        answers = O.answers ∙ sym (as_read x old out r O).number ∙ ap judgement_number (read-as-judge p x old e) ∙ J.number;
        small = J.small;
      }

  pub blank-c : BlankC p
  blank-c = record {
    judged = blank-judged-c;
    read_out = λ x old out r b e f O. blank-judged-c x r b e (read-judged x old out r f O);
    read-ones = λ x old out r b e f O h.
        (let d = (demand2 p A).blank-read-laws x old out (read_answer p x old) b e f (as_read x old out r O) in (d.fits h, d.ones h));
    written = λ L b old after r w h e W. (
      (λ z. (made L b old after r w h e W).refused.0 (ap outcome (sym W.answers ∙ z))),
      (λ i. W.answers ∙ sym (outcome-number (refusal L b old) W.small) ∙ ap answer_number ((made L b old after r w h e W).refused.1 i)),
    );
    kept = λ L b old after r w h e W. (made L b old after r w h e W).kept;
    whole = λ L b old after h W. whole-13 p A L b (length old) h (sym W.answers);
  }
    where
      made : (L : ℕ) (b old after : List ℕ) (r : ℕ) → Width L → Fits p b → PageBuffer p old → WrittenC p L b old after r
          → BlankWriteLaws p b old after (outcome (refusal L b old))
      made L b old after r w h e W = (demand2 p A).blank-write-laws L b old after (outcome (refusal L b old)) w h e (written L b old after r W)

  -- ---- the quote
  quoted-c : (list after : List ℕ) (k : ℕ) → length list ≡ 24 → QuoteMadeC p list after k → (k ≡ 0) × QuoteLaws p (number_at after)
  quoted-c list after k e Q =
      let z : quote_refusal 2 p (length list) ≡ 0 = quote-none 2 p (length list) A e in
      let s : after ≡ as_bytes (quote p) = Q.buffer ∙ ap (λ (r : ℕ). leaves r (as_bytes (quote p)) list) z in (
        Q.answers ∙ z,
        quote-numbers p A (number_at after) (λ j h. ap (λ (l : List ℕ). number_at l j) s
            ∙ bytes-at (quote p) (quote-small p (accepted p A)) j (rw (quote-length p) h)),
      )

  pub quote-c : QuotedC p
  quote-c = record {
    quote-laws = quoted-c;
    quoted-pages = λ number L b old after r q w h e n W.
        (demand2 p A).quoted-pages number L b old after (outcome (refusal L b old)) q w h e n (written L b old after r W);
  }

  -- ---- bursts
  pub burst-c : BurstC p
  burst-c = record {
    never = λ x y i a r b c l d J S n K z.
        (bursts p A).never x y i a (judge_answer p y) b c l d (member-c x J) S n (judged p y (judge_answer p y) refl) ((judge-iff y r K).0 z);
    named = λ x y i a r b h o l d J S n K.
        which i r (judge_answer p y) (judge-number y r K)
        ((bursts p A).named x y i a (judge_answer p y) b h o l d (member-c x J) S n (judged p y (judge_answer p y) refl));
    bytes = λ x y i o l r b c h s d w same J n K z.
        (bursts p A).bytes x y i o l (judge_answer p y) b c h s d w same (member-c x J) n (judged p y (judge_answer p y) refl) ((judge-iff y r K).0 z);
    stray = λ y j k r b e o l h c s K.
        judge-number y r K ∙ ap judgement_number ((bursts p A).stray y j k (judge_answer p y) b e o l h c s (judged p y (judge_answer p y) refl));
  }
    where
      which : (i r : ℕ) (v : Judgement) → r ≡ judgement_number v → (v ≡ Ok (Verdict.SubWord i)) ⊎ (v ≡ Ok (Verdict.NestedWord 0)) → (r ≡ 32 + i) ⊎ (r ≡ 64)
      which i r v e (inl s) = inl (e ∙ ap judgement_number s)
      which i r v e (inr s) = inr (e ∙ ap judgement_number s)

  -- ---- many pages
  abbrev many_refused : ℕ → ℕ → List ℕ → List ℕ → List ℕ → ℕ
  many_refused L count blocks pages list = many_refusal p L count (length blocks) (length pages) (length list)

  written-many : (L count : ℕ) (blocks pages after list listed : List ℕ) (r : ℕ) → WrittenManyC p L count blocks pages after list listed r
      → WrittenMany p L count blocks pages after list listed (outcome (many_refused L count blocks pages list))
  written-many L count blocks pages after list listed r W = (
    made_of (many_refused L count blocks pages list) _ pages after r W.0,
    made_of (many_refused L count blocks pages list) _ list listed r W.1,
  )

  many-done : (L count : ℕ) (blocks pages after list listed : List ℕ) → WrittenManyC p L count blocks pages after list listed 0
      → WrittenMany p L count blocks pages after list listed (Ok tt)
  many-done L count blocks pages after list listed W =
      rw (ap outcome (sym W.0.answers)) at (written-many L count blocks pages after list listed 0 W)

  many-alike-c : (L M count : ℕ) (blocks pages pages' after after' list list' listed listed' : List ℕ) (r r' : ℕ) → Width L → Width M
      → length pages ≡ length pages' → length list ≡ length list' → WrittenManyC p L count blocks pages after list listed r
      → WrittenManyC p M count blocks pages' after' list' listed' r' → AlikeManyC p after after' listed listed' r r'
  many-alike-c L M count blocks pages pages' after after' list list' listed listed' r r' w w' e f W W' =
      let k = many_refused L count blocks pages list in
      let k' = many_refused M count blocks pages' list' in
      let s = (many p A).alike L M count blocks pages pages' after after' list list' listed listed' (outcome k) (outcome k') w w' e f
      (written-many L count blocks pages after list listed r W) (written-many M count blocks pages' after' list' listed' r' W') in
      let d : r ≡ 0 → outcome k ≡ Ok tt = λ z. ap outcome (sym W.0.answers ∙ z) in
      record {
        answers = W.0.answers ∙ sym (outcome-number k W.0.small) ∙ ap answer_number s.answers ∙ outcome-number k' W'.0.small ∙ sym W'.0.answers;
        lists = λ z. s.lists (d z);
        pages = λ z. s.pages (d z);
      }

  pub many-c : ManyC p
  many-c = record {
    done = λ L count blocks pages after list listed r W.
        (let i = (many p A).done L count blocks pages after list listed _ (written-many L count blocks pages after list listed r W) in (
          (λ e. i.0 (ap outcome (sym W.0.answers ∙ e))),
          (λ s. zero_of r (many_refused L count blocks pages list) W.0.answers (i.1 s)),
        ));
    kept = λ L count blocks pages after list listed r W n.
        (let h = Nat.pos_of_ne-zero (λ z. n (W.0.answers ∙ z)) in (
          W.0.buffer ∙ leaves-refused (many_refused L count blocks pages list) _ pages h,
          W.1.buffer ∙ leaves-refused (many_refused L count blocks pages list) _ list h,
        ));
    each = λ L count blocks pages after list listed W k h.
        (let D = many-done L count blocks pages after list listed W in
        let X = (many p A).each L count blocks pages after list listed D k h in
        record { answers = (many p A).status L count blocks pages after list listed D k h; small = X.small; buffer = X.buffer });
    whole = λ L count blocks pages after list listed W.
        (many p A).whole L count blocks pages after list listed (many-done L count blocks pages after list listed W);
    says = λ L count blocks pages after list listed W.
        (many p A).says L count blocks pages after list listed (many-done L count blocks pages after list listed W);
    alike = many-alike-c;
  }

  -- ---- one bit altered
  alters-of : (x after : List ℕ) (i r b o : ℕ) → AlteredC p x i r b after o → Altered p x i r b after (outcome (alter_refusal p x i r b))
  alters-of x after i r b o M = made_of (alter_refusal p x i r b) (altered p x i r b) x after o M

  altered-done : (x after : List ℕ) (i r b : ℕ) → AlteredC p x i r b after 0 → Altered p x i r b after (Ok tt)
  altered-done x after i r b M = rw (ap outcome (sym M.answers)) at (alters-of x after i r b 0 M)

  alter-member-c : (L : ℕ) (x after ob a c old page : List ℕ) (i r b v o w : ℕ) → Width L → Bytes x → JudgedC p x 0 → NamesBit p i r b
      → BlocksBuffer p ob → PageBuffer p old → AlteredC p x i r b after o
      → ReadOutC p x ob a v → SetTo p c i r b (block_bit p a) → WrittenC p L c old page w → AlteredMemberC p after page o w
  alter-member-c L x after ob a c old page i r b v o w L' y J n eb ep M O S W =
      let k = alter_refusal p x i r b in
      let l = refusal L c old in
      let m = (alters p A).member L x after ob a c old page i r b (read_answer p x ob) (outcome k) (outcome l) L' y (member-c x J) n eb ep
      (alters-of x after i r b o M) (as_read x ob a v O) S (written L c old page w W) in
      let d : o ≡ 0 → outcome k ≡ Ok tt = λ z. ap outcome (sym M.answers ∙ z) in
      record {
        answers = M.answers ∙ sym (outcome-number k M.small) ∙ ap answer_number m.answers ∙ outcome-number l W.small ∙ sym W.answers;
        pages = λ z. m.pages (d z);
        judged = λ z v K. (judge-iff after v K).1 (m.judged (d z) (judge_answer p after) (judged p after (judge_answer p after) refl));
        shortened = λ h. zero_of o k M.answers (m.shortened h);
      }

  pub alter-c : AlterC p
  alter-c = record {
    done = λ x after i r b o y M.
        (let d = (alters p A).done x after i r b (outcome (alter_refusal p x i r b)) y (alters-of x after i r b o M) in (
          (λ e. d.0 (ap outcome (sym M.answers ∙ e))),
          (λ s. zero_of o (alter_refusal p x i r b) M.answers (d.1 s)),
        ));
    blank = λ x after i r b o y M.
        (let d = (alters p A).blank x after i r b (outcome (alter_refusal p x i r b)) y (alters-of x after i r b o M) in (
          (λ e. d.0 (ap outcome (sym M.answers ∙ e))),
          (λ s. M.answers ∙ sym (outcome-number (alter_refusal p x i r b) M.small) ∙ ap answer_number (d.1 s)),
        ));
    kept = λ x after i r b o M n.
        M.buffer ∙ leaves-refused (alter_refusal p x i r b) _ x (Nat.pos_of_ne-zero (λ z. n (M.answers ∙ z)));
    same = λ x after i r b o e M. (alters p A).same x after i r b (outcome (alter_refusal p x i r b)) e (alters-of x after i r b o M);
    added = λ L x after c old unit i r b w y M n S L' e W.
        (let u = (alters p A).added L x after c old unit i r b (outcome (refusal L c old)) y (altered-done x after i r b M) n S L' e
        (written L c old unit w W) in
        (zero_of w (refusal L c old) W.answers u.0, u.1));
    made = λ x after i r b y M. (alters p A).made x after i r b y (altered-done x after i r b M);
    others = λ x after i r b j k y M. (alters p A).others x after i r b j k y (altered-done x after i r b M);
    member = alter-member-c;
    elsewhere = λ x after i r b j o y M.
        (alters p A).elsewhere x after i r b j (outcome (alter_refusal p x i r b)) y (alters-of x after i r b o M);
    least = λ x after i r b y M. (alters p A).least x after i r b y (altered-done x after i r b M);
    most = λ x after i r b y M. (alters p A).most x after i r b y (altered-done x after i r b M);
  }

  -- ---- one sub-word mended
  bytes-ones : (k : ℕ) → as_bytes (replicate k no_place) ≡ replicate (2 * k) 255
  unfolding as_bytes digits
  bytes-ones zero = refl
  bytes-ones (suc k) =
      let e : 2 * suc k ≡ suc (suc (2 * k)) = omega arith in
      ap (λ (l : List ℕ). 255 ∷ 255 ∷ l) (bytes-ones k) ∙ sym (ap (λ (n : ℕ). replicate {A = ℕ} n 255) e)

  pub mend-c : MendC p
  mend-c = record {
    done = λ x after i l listed n counted o y M.
        (let d = mend-zero-iff p A 2 x i (length l) y in ((λ e. d.0 (sym M.0.answers ∙ e)), (λ s. M.0.answers ∙ d.1 s)));
    nowhere = λ x after i l listed n counted o y M.
        (let d = mend-15-iff p A 2 x i (length l) y in ((λ e. d.0 (sym M.0.answers ∙ e)), (λ s. M.0.answers ∙ d.1 s)));
    kept = λ x after i l listed n counted o M m.
        (let b = Nat.pos_of_ne-zero (λ z. m (M.0.answers ∙ z)) in (
          M.0.buffer ∙ leaves-refused (mend_refusal 2 p x i (length l)) _ x b,
          M.1.buffer ∙ leaves-refused (mend_refusal 2 p x i (length l)) _ l b,
          number_of p A counted n (M.2.buffer ∙ leaves-refused (mend_refusal 2 p x i (length l)) _ (n ∷ []) b),
        ));
    mended = λ x after i l listed n counted y M. (let s = all_of x after i l listed n counted y M in (s.0, s.1));
    places = λ x after i l listed n counted y M.
        (let z = sym M.0.answers in
        let s = all_of x after i l listed n counted y M in
        (s.2.0, place_list (strength p 0) (places_of p x i), rw z at M.1.buffer, s.2.1));
    elsewhere = λ x after i l listed n counted o j y M. mend-stays p A 2 x after i (length l) j y M.0.buffer;
    clean = λ x after i l listed n counted o y M g m.
        (let s = mend-clean p A 2 x i (length l) g m in (
          M.0.answers ∙ s.0,
          rw s.0 at M.0.buffer ∙ s.2,
          rw s.0 at M.1.buffer ∙ ap as_bytes (ap (place_list (strength p 0)) s.1 ∙ places-eq (strength p 0) [] ∙ ap (λ (k : ℕ). replicate k no_place) (Nat.sub-zero (strength p 0)))
              ∙ bytes-ones (strength p 0),
          number_of p A counted 0 (rw s.0 at M.2.buffer ∙ ap (λ (Q : List ℕ). length Q ∷ []) s.1),
        ));
    back = λ z x after i l listed n counted o bz y J D g M.
        (let e = sym (member-c z J).answers in
        let u = judged-page p z e bz in
        let s = undamaged p A z x i g.page g.sub_word u D (member-multiple p A z u e i g.sub_word) 2 (length l) g in (
          M.0.answers ∙ s.0,
          rw s.0 at M.0.buffer ∙ s.1,
          number_of p A counted (differences p x z) (rw s.0 at M.2.buffer ∙ ap (λ (k : ℕ). k ∷ []) s.2),
        ));
  }
    where
      all_of : (x after : List ℕ) (i : ℕ) (l listed : List ℕ) (n counted : ℕ) → Bytes x → MendedC p x after i l listed n counted 0
          → IsPage p after × Near p 0 (sub_word_of p x i) (sub_word_of p after i)
          × ((Q : List ℕ) × Mends p x after i (place_list (strength p 0) (places_of p x i)) counted Q)
      all_of x after i l listed n counted y M =
          let z : mend_refusal 2 p x i (length l) ≡ 0 = sym M.0.answers in
          mends-of p A 2 x after i (length l) (place_list (strength p 0) (places_of p x i)) counted y z (rw z at M.0.buffer) refl
          (number_of p A counted (length (places_of p x i)) (rw z at M.2.buffer))

  -- ---- all syndromes from the odd ones
  all-from-c : (a c : ℕ) → a ≤ p.v → (odd old after : List ℕ) (o : ℕ) → odd ≡ as_bytes (odd_syndromes p (strength p a) c) → length old ≡ 4 * strength p a
      → AllMadeC p a odd old after o → (o ≡ 0) × (after ≡ as_bytes (syndromes p (2 * strength p a) c))
  all-from-c a c h odd old after o e l M =
      let R = accepted p A in
      let t = strength p a in
      let z : all_refusal 2 p a (length odd) (length old) ≡ 0 = all_none 2 p a (length odd) (length old) (sym (open_none p a A h))
      (ap length e ∙ length-bytes (odd_syndromes p t c) ∙ ap (λ (k : ℕ). 2 * k) (length-odd p t c)) (omega arith) in (
        M.answers ∙ z,
        rw z at M.buffer ∙ ap (λ (l : List ℕ). as_bytes (all_syndromes p l)) (ap as_numbers e ∙ odd-back p R.known t c)
            ∙ ap as_bytes (all-odd p R.known c t),
      )

  pub odd-c : OddC p
  unfolding syndrome_list nested_syndrome_list
  odd-c = record {
    sub_word = λ x list odd old after i o S l M.
        all-from-c 0 (sub_word_of p x i) zero-le odd old after o (rw (sym S.answers) at S.buffer) l M;
    nested-word = λ x list odd old after l o S e M.
        all-from-c (p.v - l) (nested_of p x l) (Nat.sub-le p.v l) odd old after o (rw (sym S.answers) at S.buffer) e M;
    number = λ c k j h. (let R = accepted p A in all-bytes p R.known k c j h);
  }

  -- ---- a page mended through its nested words
  pub page-c : PageC p
  page-c = record {
    done = λ x after o b M. (let d = mend-page-zero p A x b in ((λ e. d.0 (sym M.answers ∙ e)), (λ s. M.answers ∙ d.1 s)));
    nowhere = λ x after o b M. (let d = mend-page-17 p A x b in ((λ e. d.0 (sym M.answers ∙ e)), (λ s. M.answers ∙ d.1 s)));
    succeeds = λ x after o b M.
        (let d = mend-page-succeeds p A x (λ y. JudgedC p y 0) zero_is b in ((λ e. d.0 (sym M.answers ∙ e)), (λ s. M.answers ∙ d.1 s)));
    page = λ x after k b M e. (let z : mend_page_refusal p x ≡ 0 = sym M.answers in rw z at M.buffer ∙ mend-page-page p A x k b z e);
    fails = λ x after o b M.
        (let d = mend-page-fails p A x (λ y. JudgedC p y 0) zero_is b in ((λ e. d.0 (sym M.answers ∙ e)), (λ s. M.answers ∙ d.1 s)));
    kept = λ x after o M n. M.buffer ∙ leaves-refused (mend_page_refusal p x) _ x (Nat.pos_of_ne-zero (λ z. n (M.answers ∙ z)));
    otherwise = λ x after o h M. either x after o M ((page-mends p A).otherwise x after _ h (made x after o M));
    clean = λ x after o b J M. done x after x o M ((page-mends p A).clean x after _ b (member-c x J) (made x after o M));
    back = λ z x after o b h J r M. done x after z o M ((page-mends p A).back z x after _ b h (member-c z J) r (made x after o M));
    always = λ z x after o b h J f M. done x after z o M ((page-mends p A).always z x after _ b h (member-c z J) f (made x after o M));
    reached = λ z x after o b h J r M. done x after z o M ((page-mends p A).reached z x after _ b h (member-c z J) r (made x after o M));
    one-round = λ z x after o b h J r M. done x after z o M ((page-mends p A).one-round z x after _ b h (member-c z J) r (made x after o M));
  }
    where
      zero_is : (y : List ℕ) → JudgedC p y 0 ↔ (judge_answer p y ≡ Ok Verdict.Member)
      zero_is y = ((λ J. (judge-iff y 0 J).0 refl), (λ e. record { answers = sym (ap judgement_number e) ∙ (judged p y (judge_answer p y) refl).number; small = judge-le p y }))

      made : (x after : List ℕ) (o : ℕ) → PageMendedC p x after o → PageMended p x after (outcome (mend_page_refusal p x))
      made x after o M = made_of (mend_page_refusal p x) (list_of (mended_page p x)) x after o M

      done : (x after z : List ℕ) (o : ℕ) → PageMendedC p x after o → (outcome (mend_page_refusal p x) ≡ Ok tt) × (after ≡ z) → (o ≡ 0) × (after ≡ z)
      done x after z o M s = (zero_of o (mend_page_refusal p x) M.answers s.0, s.1)

      either : (x after : List ℕ) (o : ℕ) → PageMendedC p x after o
          → ((outcome (mend_page_refusal p x) ≡ Ok tt) × IsPage p after × ((r : Judgement) → Judged p after r → r ≡ Ok Verdict.Member))
          ⊎ ((outcome (mend_page_refusal p x) ≡ Err Refusal.UnmendedPage) × (after ≡ x))
          → ((o ≡ 0) × IsPage p after × ((r : ℕ) → JudgedC p after r → r ≡ 0)) ⊎ ((o ≡ 17) × (after ≡ x))
      either x after o M (inl s) =
          inl (
            zero_of o (mend_page_refusal p x) M.answers s.0,
            s.1,
            (λ r K. (judge-iff after r K).1 (s.2 (judge_answer p after) (judged p after (judge_answer p after) refl))),
          )
      either x after o M (inr s) = inr (M.answers ∙ sym (outcome-number (mend_page_refusal p x) M.small) ∙ ap answer_number s.0, s.1)

pub demands-c : DemandsC
demands-c p A = (demand3-c p A, blank-c p A, quote-c p A, burst-c p A, many-c p A, alter-c p A, mend-c p A, odd-c p A, page-c p A)
