-- THE THEOREM: demands 2 and 3 hold for all accepted parameters, judge finds every burst, many pages in one call are those of single calls,
-- a member with one bit altered is the page of its blocks with that bit altered, one sub-word is mended by the only multiple near it, and a page
-- through its nested words.
use Rattle.std.proofs.Math.Path.{◌≡◌, refl}
use Rattle.std.proofs.Common.{sym, ap, ap₂, ◌∙◌, inl, inr, arith, T_not, pow_pos}
use Rattle.std.specs.Prelude.{◌≢◌, ◌↔◌, ◌⊎◌, Bool, List, [], ◌∷◌, eqb, length, get_or, replicate, Ok, Err}
use Rattle.std.proofs.Math.Bool.{true, false, not, cond}
use Rattle.std.proofs.Math.Option.{Option, none, some}
use Prim.Native.Nat.{ℕ, zero, suc, ◌+◌, ◌-◌, ◌*◌, ◌^◌, ◌≤◌, ◌<◌, zero-le, suc-le-suc}
use Rattle.std.proofs.Math.Nat as Nat
use Rattle.std.proofs.Math.Decide.{ℕ_discrete}
use Rattle.std.proofs.Math.Dec.{T, eqb_refl, not_T}
use Rattle.polynomial.specs.Coefficients.{beyond}
use Rattle.polynomial.specs.Digits.{value}
use Rattle.polynomial.specs.Division.{rem_lt, rem-zero, xor_lt}
use Rattle.polynomial.specs.Sums.{All, add, all-at}
use Rattle.polynomial.specs.Multiple.{Multiple, multiple-same, rem-differ}
use Rattle.polynomial.specs.Xor.{xor, xor-cancel, xor_self}
use Rattle.field.specs.Bch.{weight, weight-zero}
use Rattle.field.specs.Elements.{power-full, power-order, syndrome, syndrome-iff, syndrome-lt, syndrome-sum, square}
use Rattle.field.specs.Fields.{BinaryField, field_of, polynomial-degree, polynomial-irreducible}
use Rattle.field.specs.Flips.{flips, flips-ones, length-ones, ones, ones-rising}
use Rattle.code.specs.declared.Parameters.{Parameters}
use Rattle.code.specs.Answers.{Outcome}
use Rattle.code.specs.declared.Refusal.{Refusal}
use Rattle.code.specs.declared.Verdict.{Verdict}
use Rattle.code.specs.Answers.{Judgement, answer_number}
use Rattle.code.specs.Register.{Register}
use Rattle.generator.proofs.Generator as G
use Rattle.generator.specs.Generator as Gen
use Rattle.code.proofs.Answers.{judged, leaves-refused, ok-iff, read-as-judge, err-pos}
use Rattle.code.specs.Accepted.{Rules}
use Rattle.code.proofs.Accepted.{accepted, degree-le, degree-low, degree-of, lawful, stored-le, stored-room, stored-whole, width-below}
use Rattle.code.specs.Alter.{Alterable, altered_blocks}
use Rattle.code.proofs.Alter.{after-page, alter-13, alter-left, alter-none, altered-eq, altered-fits, altered-is, altered-page}
use Rattle.code.proofs.Alter.{bit-alone, bit-fits, bit-none, by_eqb, by-neqb, bytes-stay, changed-least, changed-most, changed-weight, concerned}
use Rattle.code.specs.Alter.{units}
use Rattle.code.proofs.Alter.{data-here, data-there, set-alone, set_here, set_there}
use Rattle.code.proofs.Blank.{blank-iff, blank-stays, page-ones}
use Rattle.code.proofs.Buffers.{divides-up, divisor-deg, divisor-degree, divisor-times}
use Rattle.code.proofs.Buffers.{nested-back, remainder-back, row_back, short_back, short-differ, short-lt}
use Rattle.code.proofs.Bursts.{another, apart-pages, apart-places, burst-same, bytes-burst, cyclic, moved-divides, moved-lt, others_same}
use Rattle.code.proofs.Bursts.{single-has, single-is, single-passing, single-unblank, single_page}
use Rattle.code.specs.Calls.{Altered, Judged, Mended, PageMended, QuoteMade, ReadOut, Written, WrittenMany, empty, judge_answer, leaves, AllMade}
use Rattle.code.specs.Calls.{list_of, nested_of, nested_syndrome_list, outcome, pages_by, places_of, quote, statuses, sub_word_of, syndrome_list}
use Rattle.code.proofs.Chains.{off', on}
use Rattle.code.specs.Code.{Flips, IsMember, Near, check_bits, degree, distance, gen, least, nested, newton, remainder, syndromes, verdict, odd_syndromes, all_syndromes}
use Rattle.code.proofs.Degrees.{degree-exact}
use Rattle.code.specs.Demands.{AlterLaws, AlteredMember, Damaged, MendLaws, MendLent, Mends, NamesBit, PageLaws, SetTo, OddLaws}
use Rattle.code.specs.Demands.{Alike, AlikeMany, BlankReadLaws, BlankWriteLaws, BufferLaws, Burst, BurstLaws, Demand2, Demand3, Demands, GeneratorLaws, GeneratorOf}
use Rattle.code.specs.Demands.{JudgeLaws, ManyLaws, QuoteLaws, QuotedPage, RegisterLaws, Rewrites, ShortLaws, ShortenedLaws, Smallest}
use Rattle.code.specs.Demands.{Shortening, StoredLaws, Sums, Vanishes, WholeLaws, WriteLaws}
use Rattle.code.proofs.Distance.{Passing, least-few, least-many, page_weight}
use Rattle.code.proofs.Encode.{N-above, encode-member, member-encode}
use Rattle.code.proofs.Judge.{member-passing, multiple-iff, passing-member, verdict-member, verdict-nested, verdict-sub}
use Rattle.code.specs.Layout.{altered, block_bit, flipped, flips_in, mended_page, mending, no_place, one_bit, place_list}
use Rattle.code.specs.Layout.{Bytes, Fits, IsBlank, IsPage, blank, blocks_of, coefficient_of, data_bits, data_bytes, data_of, differences}
use Rattle.code.specs.Layout.{page_bytes, page_clear, page_of, stored_of, word_sizes, words_of}
use Rattle.code.specs.Lists.{◌when◌, add_below, count_below, join, part, sum}
use Rattle.code.proofs.Many.{each-written, length-by, length-statuses, many-alike, many-lent, many-none, part_length, runs-are, status-single}
use Rattle.code.proofs.Many.{status-at, status-left, statuses-alike}
use Rattle.code.proofs.Mend.{Mendable, flipped-here, flipped-is, flipped-none, flipped-page, flipped-stay, flips-near, flips-once, mend-15, mend-left}
use Rattle.code.proofs.Mend.{mend-none, mending-eq, near-once, nearest-clean, nearest-iff, nearest-none, nearest-word, places-eq}
use Rattle.code.proofs.Mending.{flips-are, judged-member, member-judged, mend-page-17, mend-page-always, mend-page-back, mend-page-clean, mend-page-else, mend-page-fails}
use Rattle.code.proofs.Mending.{mend-page-once, mend-page-page, mend-page-reached, mend-page-succeeds, mend-page-zero, mend-pass, mend-round}
use Rattle.code.proofs.Newton.{nesteds-of, newtons-of}
use Rattle.code.specs.Pages.{IsWords}
use Rattle.code.proofs.Pages.{again-from, again-to, data-fit, data_bytes-eq, join-words}
use Rattle.code.proofs.Pages.{page-back, page-has, page-is, page-words, sum_fits, sum-page, word_lt, words-many}
use Rattle.code.specs.Parameters.{Accepted, full, len, stored, strength, sub_word_bytes}
use Rattle.code.proofs.Placement.{all-places, any_fit, any-has, blocks-same, check-bits, data-room, place-bit, read-bit, sub-word-bit, word_at, written-bit}
use Rattle.code.proofs.Places.{add_below-ext, add_below-none, add_below-single, count_below-eq, differing, distance-places, words-differ}
use Rattle.code.proofs.Quote.{quote-bits, quote-degree, quote-length, quote-none, quote-past-m, quote-past-v}
use Rattle.code.proofs.Recovery.{v-enough}
use Rattle.code.specs.Refusals.{alter_refusal, many_refusal, mend_page_refusal, mend_refusal, nowhere, quote_refusal, write_refusal, all_refusal}
use Rattle.code.specs.Refused.{BlocksBuffer, PageBuffer, Width}
use Rattle.code.proofs.Refused.{blank-judgeable, judge-is, judge-stray, judged-blank, judged-else, judged-page, open_none}
use Rattle.code.proofs.Refused.{page-judgeable, read-leaves, unblanked, verdict-blank, write-alike, write_done, write_keeps}
use Rattle.code.proofs.Refused.{write-13, write-leaves, write-left, write-refused}
use Rattle.code.specs.Registers.{cut, feedings}
use Rattle.code.proofs.Registers.{fed-done, fed-holds, holding, opened-empty, register-back}
use Rattle.code.proofs.Shortened.{lengthened-fits, lengthened-keeps, lengthened-zero, same-degree, same-members, same-words, short-accepted, short-refused, shortened-all}
use Rattle.code.proofs.Shortened.{unshortened-accepted, whole-blocks, whole-bytes, whole-clear, whole-data}
use Rattle.code.proofs.Shortened.{whole-page, whole-unused, whole-verdict}
use Rattle.code.specs.Steps.{Divides}
use Rattle.code.proofs.Steps.{gen-eq}
use Rattle.code.proofs.Odd.{odd-at, odd-bytes, all-odd, all_none, length-odd}

-- ---- the distance is the smallest of its formulas
abbrev formula : Parameters → ℕ → ℕ
formula p b = b * (2 * strength p (p.v - b + 1) + 1)

above : (v b : ℕ) → suc b ≤ v → v - suc b + 1 ≡ v - b
above v b h = omega arith

least-below : (p : Parameters) (k d : ℕ) → k ≤ p.v → d ≤ (p.v + 1) * (2 * strength p 0 + 1) → ((b : ℕ) → 1 ≤ b → b ≤ k → d ≤ formula p b)
    → d ≤ least p k
least-below p zero d l h f = h
least-below p (suc k) d l h f =
    Nat.le-min (rw (above p.v k l) at (f (suc k) (suc-le-suc zero-le) (Nat.le_refl (suc k))))
    (least-below p k d (Nat.le_of_suc-le l) h (λ b i j. f b i (Nat.le_step j)))

smallest : (p : Parameters) → Smallest p
unfolding distance
smallest p d = (
  (λ h. (Nat.le_trans h (least-many p p.v), (λ b i l. Nat.le_trans h (few b i l)))),
  (λ h. least-below p p.v d (Nat.le_refl p.v) h.0 h.1),
)
  where
    few : (b : ℕ) → 1 ≤ b → b ≤ p.v → least p p.v ≤ formula p b
    few zero i l = absurd (Nat.not-suc-le-zero i)
    few (suc b) i l = rw (above p.v b l) (least-few p p.v b l)

-- ---- promises
refused-not-done : (r : ℕ) (x old old' : List ℕ) → outcome r ≡ Ok tt → leaves r x old ≡ leaves r x old'
refused-not-done zero x old old' e = refl
refused-not-done (suc r) x old old' e = let z : ◌≡◌ {A = ℕ} 0 1 = cc in absurd (Nat.not-suc-le-zero {n = 0} (omega arith))

module _ (p : Parameters) (A : Accepted p) where
  R : Rules p
  R = accepted p A

  abbrev B : BinaryField
  B = field_of p.q

  -- ---- the generators
  silent : (a c : ℕ) → Vanishes p.q (strength p a) c → Gen.HasRoots B (strength p a) c
  silent a c h j i k = (syndrome-iff p.q R.known c j).0 (h j i k)

  silenced : (a c : ℕ) → Gen.HasRoots B (strength p a) c → Vanishes p.q (strength p a) c
  silenced a c h j i k = (syndrome-iff p.q R.known c j).1 (h j i k)

  generator-of : (a : ℕ) → GeneratorOf p.q (strength p a) (gen p a)
  generator-of a =
      let g = G.generator-is B (strength p a) in
      rw (gen-eq p a) (record {
        non_zero = g.nonzero;
        vanishes = silenced a (Gen.generator B (strength p a)) g.roots;
        lowest = λ f l r. g.least f l (silent a f r);
      })

  generators-are : (a : ℕ) → a ≤ p.v → GeneratorLaws p a
  generators-are a h = record {
    is = generator-of a;
    alone = λ f d s. multiple-same (gen p a) (degree p a) f (degree-of p R a h) (((lawful p R).roots a h f).1 (silent a f s)) d;
    of-degree = degree-of p R a h;
    degree-bound = degree-le p R a;
    degree-exact = degree-exact p R a;
    degree-below = width-below p R a h;
    multiples = λ c. (
      (λ M. silenced a c (((lawful p R).roots a h c).0 ((multiple-iff p R a h c).1 M))),
      (λ s. (multiple-iff p R a h c).0 (((lawful p R).roots a h c).1 (silent a c s))),
    );
    cyclic = (multiple-iff p R a h (2 ^ len p + 1)).0 (cyclic p R a);
    next = λ l. (multiple-iff p R a h (gen p (a + 1))).0 (divides-up p R a (a + 1) (omega arith) (omega arith));
    row = row_back p R A a h;
  }

  -- ---- remainders, syndromes, registers, buffers
  shorts-are : (l : ℕ) (cs : List ℕ) → ShortLaws p l cs
  shorts-are l cs = record {
    divisor-is = divisor-times p R l;
    divisor-of = rw (← divisor-degree p R l) (divisor-deg p R l);
    below = rw (← divisor-degree p R l) (short-lt p R l cs);
    differs = short-differ p R l cs;
  }

  registers-are : (a : ℕ) → a ≤ p.v → (c : ℕ) (Ls : List ℕ) → All Width Ls → sum Ls ≤ full p → c < 2 ^ sum Ls → RegisterLaws p a c Ls
  registers-are a h c Ls w b l =
      let e : feedings p (empty a) (cut c Ls) ≡ holding a (sum Ls) (remainder p a c) = fed-holds p A a h c Ls w b l in
      record {
        opens = opened-empty p A a h;
        done = fed-done p A a h c Ls w b l;
        level = ap (λ (r : Register). r.level) e;
        count = ap (λ (r : Register). r.count) e;
        remainder_is = ap (λ (r : Register). value 64 r.remainder) e ∙ register-back p A a h c;
      }

  buffers-are : (x : List ℕ) → BufferLaws p x
  unfolding syndrome_list nested_syndrome_list
  buffers-are x = record {
    remainder-bytes = remainder-back p R x;
    short-bytes = λ l. short_back p R l x;
    nested-bytes = nested-back p R x;
    syndrome-at = λ i j h. odd-at p (strength p 0) (sub_word_of p x i) j h;
    nested-syndrome-at = λ l j h. odd-at p (strength p (p.v - l)) (nested_of p x l) j h;
    syndrome-bytes = λ i j h. odd-bytes p R.known (strength p 0) (sub_word_of p x i) j h;
    nested-syndrome-bytes = λ l j h. odd-bytes p R.known (strength p (p.v - l)) (nested_of p x l) j h;
  }

  -- the odd syndromes of a word c of level a, as a call gives them, and all from them
  all_from : (a c : ℕ) → a ≤ p.v → (odd old after : List ℕ) (o : Outcome) → odd ≡ odd_syndromes p (strength p a) c → length old ≡ 2 * strength p a
      → AllMade p a odd old after o → (o ≡ Ok tt) × (after ≡ syndromes p (2 * strength p a) c)
  all_from a c h odd old after o e l M =
      let t = strength p a in
      let z : all_refusal 1 p a (length odd) (length old) ≡ 0 = all_none 1 p a (length odd) (length old) (sym (open_none p a A h))
      (ap length e ∙ length-odd p t c ∙ sym (Nat.one-mul t)) (l ∙ sym (Nat.one-mul (2 * t))) in
      (M.answers ∙ ap outcome z, rw z at M.buffer ∙ ap (all_syndromes p) e ∙ all-odd p R.known c t)

  odds-are : OddLaws p
  unfolding syndrome_list nested_syndrome_list
  odds-are = record {
    whole = all-odd p R.known;
    sub_word = λ x list odd old after i o S l M.
        all_from 0 (sub_word_of p x i) zero-le odd old after o (rw (sym S.number) at S.buffer) l M;
    nested-word = λ x list odd old after l o S e M.
        all_from (p.v - l) (nested_of p x l) (Nat.sub-le p.v l) odd old after o (rw (sym S.number) at S.buffer) e M;
  }

  -- ---- shortened sheets
  stored-are : StoredLaws p
  stored-are = record {
    count = refl;
    full-count = refl;
    word_bytes = refl;
    nested-bytes = refl;
    top = λ x h i k l b. beyond (sub_word_of p x i) (stored p) k (word_lt p R x h i l) b;
    data-bit = λ i l. omega (arith, stored-room p R (p.v - i) (Nat.sub-le p.v i));
  }

  wholes-are : p.s ≡ 0 → WholeLaws p
  wholes-are e = record {
    page-bytes = ap (λ (b : ℕ). p.m * b) (whole-bytes p e R.known);
    data-bytes = data_bytes-eq p ∙ ap sum (whole-blocks p e);
    full-count = stored-whole p e;
    spare = whole-clear p e R.known;
    unused = whole-unused p e;
    page = whole-page p e R.known;
    verdicts = whole-verdict p e R.known;
    blocks = whole-data p e R.known;
  }

  shortened-are : (b : List ℕ) → Fits p b → ShortenedLaws p b
  shortened-are b h = record {
    fits = lengthened-fits p A b h;
    same = lengthened-keeps p A b h;
    zeros = λ i r l c d. lengthened-zero p A b h i r l c (omega (arith, same-degree p (p.v - i)));
    words = same-words p A b h;
  }

  -- ---- blank pages
  unblank : (x : List ℕ) → Bytes x → (¬ IsBlank p x) → T (not (blank p x))
  unblank x b n = not_T (blank p x) (λ t. n ((blank-iff p R x b).0 t))

  blank-judged : (x : List ℕ) → Bytes x → PageBuffer p x → (judge_answer p x ≡ Ok Verdict.Blank) ↔ IsBlank p x
  blank-judged x b e = (
    (λ j. (blank-iff p R x b).0 (judged-blank p x j)),
    (λ h. (let t : T (blank p x) = (blank-iff p R x b).1 h in judge-is p A x (blank-judgeable p x e t) ∙ ap Ok (verdict-blank p x t))),
  )

  blanks-read : (x old out : List ℕ) (r : Judgement) → Bytes x → PageBuffer p x → BlocksBuffer p old → ReadOut p x old out r
      → BlankReadLaws p x out r
  blanks-read x old out r b e f O = record {
    answers = rw (O.answers ∙ read-as-judge p x old f) (blank-judged x b e);
    fits = λ h. rw (given h) (data-fit p R x);
    ones = λ h i k l c. rw (given h) (read-bit p R x b i k l c) ∙ h i (check_bits p i + k) l (data-room p R i k c);
  }
    where
      given : IsBlank p x → out ≡ data_of p x
      given h = O.buffer ∙ read-leaves p A x old (blank-judgeable p x e ((blank-iff p R x b).1 h)) f

  m-pos : 0 < p.m
  m-pos = omega (arith, R.m-low)

  unmember : (x : List ℕ) → Bytes x → IsBlank p x → 0 < p.s → ¬ IsMember p (stored_of p x)
  unmember x h b s M = blank-stays p R s x h b ((multiple-iff p R 0 zero-le (get_or (stored_of p x) 0 0)).1 (M.sub_words 0 m-pos))

  pub whole-13 : (L : ℕ) (a : List ℕ) (k : ℕ) → Bytes a → write_refusal p L a k ≡ 13 → p.s ≡ 0
  whole-13 L a k b e =
      let t = write-13 p A L a k e in
      let h : Fits p a = record { bytes = b; exact = t.0; clear = t.1 } in
      ((page-ones p R a h).0 ((blank-iff p R (page_of p a) (page-is p R a h).bytes).0 t.2)).0

  -- ---- members
  judged-laws : (x : List ℕ) (r : Judgement) → IsPage p x → (¬ IsBlank p x) → Judged p x r → JudgeLaws p x r
  judged-laws x r h n J =
      let v : Verdict = verdict p (words_of p x) in
      let e : r ≡ Ok v = J.answers ∙ unblanked p A x h (unblank x h.bytes n) in
      record {
        member = ok-iff r v Verdict.Member e (verdict-member p R (words_of p x));
        sub_word = λ i. ok-iff r v (Verdict.SubWord i) e (verdict-sub p R (words_of p x) i);
        nested-word = λ l. ok-iff r v (Verdict.NestedWord l) e (verdict-nested p R (words_of p x) l);
      }

  judged-passing : (x : List ℕ) → IsPage p x → judge_answer p x ≡ Ok Verdict.Member → Passing p (words_of p x)
  judged-passing x h e =
      member-passing p R (words_of p x) (judged-member p A x h e) (page-words p R x h).many

  passing-judged : (x : List ℕ) → IsPage p x → T (not (blank p x)) → Passing p (words_of p x) → judge_answer p x ≡ Ok Verdict.Member
  passing-judged x h n M =
      member-judged p A x h n (passing-member p R (words_of p x) M (page-words p R x h).many)

  -- a page's words pass exactly when they are written again
  again-iff : (x : List ℕ) → IsPage p x → Passing p (words_of p x) ↔ (page_of p (data_of p x) ≡ x)
  again-iff x h = (
    (λ M. again-to p R x h ((member-encode B.field B.α p (lawful p R) (words_of p x)).0 M)),
    (λ e. (member-encode B.field B.α p (lawful p R) (words_of p x)).1 (again-from p R x h e)),
  )

  -- ---- what write makes
  page-passing : (a : List ℕ) → Fits p a → Passing p (words_of p (page_of p a))
  page-passing a h = rw (page-has p R a h) (encode-member B.field B.α p (lawful p R) (blocks_of p a))

  page-unblank : (a : List ℕ) → Fits p a → (¬ IsBlank p (page_of p a)) → T (not (blank p (page_of p a)))
  page-unblank a h = unblank (page_of p a) (page-is p R a h).bytes

  refused-done : (r : Outcome) (e : Refusal) → r ≡ Err e → r ≡ Ok tt → ⊥
  refused-done r e f d = let z : ◌≡◌ {A = ℕ} 0 1 = cc in Nat.suc-ne-zero 0 (sym z)

  module _ (L : ℕ) (a old after : List ℕ) (r : Outcome) (w : Width L) (h : Fits p a) (e : PageBuffer p old) (W : Written p L a old after r) where
    after_is : T (not (blank p (page_of p a))) → (r ≡ Ok tt) × (after ≡ page_of p a)
    after_is n = (W.answers ∙ write_done p A L a old w h e n, W.buffer ∙ write-leaves p A L a old w h e n)

    after-blank : T (blank p (page_of p a)) → (r ≡ Err Refusal.Blank) × (after ≡ old)
    after-blank t = (W.answers ∙ write-refused p A L a old w h e t, W.buffer ∙ write_keeps p A L a old w h e t)

    -- a write that is done has made a page other than blank
    done-unblank : r ≡ Ok tt → T (not (blank p (page_of p a)))
    done-unblank d = not_T (blank p (page_of p a)) (λ t. refused-done r Refusal.Blank (after-blank t).0 d)

    blanks-written : BlankWriteLaws p a old after r
    blanks-written =
        let i = blank-iff p R (page_of p a) (page-is p R a h).bytes in
        record {
          refused = (
            (λ k. i.0 (by-test (blank p (page_of p a)) (λ n. refused-done r Refusal.Blank k (after_is n).0))),
            (λ b. (after-blank (i.1 b)).0),
          );
          kept = λ b. (after-blank (i.1 b)).1;
          ones = page-ones p R a h;
        }
      where
        by-test : (b : Bool) → (T (not b) → ⊥) → T b
        by-test true f = tt
        by-test false f = absurd (f tt)

    written-laws : (¬ IsBlank p (page_of p a)) → WriteLaws p a after r
    written-laws m =
        let x : IsPage p (page_of p a) = page-is p R a h in
        let n : T (not (blank p (page_of p a))) = page-unblank a h m in
        let j : judge_answer p (page_of p a) ≡ Ok Verdict.Member = passing-judged (page_of p a) x n (page-passing a h) in
        let s : after ≡ page_of p a = (after_is n).1 in
        record {
          done = (after_is n).0;
          page = rw s x;
          member = rw s (passing-member p R (words_of p (page_of p a)) (page-passing a h) (page-words p R (page_of p a) x).many);
          judged = λ v J. J.answers ∙ rw s j;
          read = λ other out v b O. (
            O.answers ∙ rw s (read-as-judge p (page_of p a) other b ∙ j),
            O.buffer ∙ rw s (read-leaves p A (page_of p a) other (page-judgeable p (page_of p a) x) b ∙ page-back p R a h),
          );
        }

  -- ---- the quote
  level-place : (a : ℕ) → a ≤ p.v → a < 4
  level-place a h = omega (arith, R.v_high)

  block-place : (i : ℕ) → i < p.m → i < 8
  block-place i h = omega (arith, R.m-high)

  pub quote-numbers : (number : ℕ → ℕ) → ((j : ℕ) → j < 12 → number j ≡ get_or (quote p) j 0) → QuoteLaws p number
  quote-numbers number e = record {
    degrees = λ a h. e a (omega (arith, level-place a h)) ∙ quote-degree p a (level-place a h) h;
    data-bits = λ i h. e (4 + i) (omega (arith, block-place i h)) ∙ quote-bits p i (block-place i h) h;
    past-v = λ a h l. e a (omega arith) ∙ quote-past-v p a l h;
    past-m = λ i h l. e (4 + i) (omega arith) ∙ quote-past-m p i l h;
  }

  quoted : (list after : List ℕ) (k : Outcome) → length list ≡ 12 → QuoteMade p list after k
      → (k ≡ Ok tt) × (length after ≡ 12) × QuoteLaws p (λ j. get_or after j 0)
  quoted list after k e Q =
      let z : quote_refusal 1 p (length list) ≡ 0 = quote-none 1 p (length list) A e in
      let s : after ≡ quote p = Q.buffer ∙ ap (λ (r : ℕ). leaves r (quote p) list) z in
      (Q.answers ∙ ap outcome z, ap length s ∙ quote-length p, quote-numbers (λ j. get_or after j 0) (λ j h. ap (λ (l : List ℕ). get_or l j 0) s))

  page-quoted : (number : ℕ → ℕ) → QuoteLaws p number → (a : List ℕ) → Fits p a → QuotedPage p number a (page_of p a)
  page-quoted number q a h = record {
    places = λ i l. ap₂ ◌+◌ (w i) (d i l) ∙ all-places p R i;
    placed = λ i r l b. from (page_of p a) i r ∙ written-bit p R a h i r l (rw (d i l) at b);
    free = λ ds e b.
        let c : (i : ℕ) → i < p.m → get_or ds i 0 < 2 ^ data_bits p i = λ i l. rw (d i l) at (b i l) in
        (any_fit p R ds e c, any-has p R ds e c);
    follow = λ x k M c.
        sym ((again-iff x k).0 (member-passing p R (words_of p x) M (page-words p R x k).many))
        ∙ ap (page_of p) (blocks-same p R (data_of p x) a (data-fit p R x) h
        (λ i r l u. read-bit p R x k.bytes i r l u ∙ sym (from x i r) ∙ c i r l (rw (d i l) u) ∙ from (page_of p a) i r ∙ written-bit p R a h i r l u));
  }
    where
      w : (i : ℕ) → number (p.v - i) ≡ check_bits p i
      w i = q.degrees (p.v - i) (Nat.sub-le p.v i)

      d : (i : ℕ) → i < p.m → number (4 + i) ≡ data_bits p i
      d i l = q.data-bits i l

      from : (x : List ℕ) (i r : ℕ) → coefficient_of p x i (number (p.v - i) + r) ≡ coefficient_of p x i (check_bits p i + r)
      from x i r = ap (λ (k : ℕ). coefficient_of p x i (k + r)) (w i)

  -- ---- the equal form
  equal-form : (cs : List ℕ) → ((l : ℕ) → l < p.v → Multiple (gen p (p.v - l)) (nested p l cs))
      ↔ ((l : ℕ) → l < p.v → Multiple (gen p (p.v - l)) (newton l cs))
  equal-form cs = (
    (λ M l h. shown l (newton l cs) (newtons-of B.field B.α p (lawful p R) cs (λ l h. plain l (nested p l cs) (M l h)) l h)),
    (λ M l h. shown l (nested p l cs) (nesteds-of B.field B.α p (lawful p R) cs (λ l h. plain l (newton l cs) (M l h)) l h)),
  )
    where
      plain : (l c : ℕ) → Multiple (gen p (p.v - l)) c → Divides p (p.v - l) c
      plain l c = (multiple-iff p R (p.v - l) (Nat.sub-le p.v l) c).1

      shown : (l c : ℕ) → Divides p (p.v - l) c → Multiple (gen p (p.v - l)) c
      shown l c = (multiple-iff p R (p.v - l) (Nat.sub-le p.v l) c).0

  pub demand2 : Demand2 p
  demand2 = record {
    field_laws = record {
      polynomial = polynomial-degree p.q R.known;
      irreducible = polynomial-irreducible p.q R.known;
      full-order = power-full p.q R.known;
      no_less = power-order p.q R.known;
    };
    generator-laws = generators-are;
    remainder-laws = λ a h c. record {
      below = rem_lt (gen p a) (degree p a) (degree-of p R a h) c;
      differs = rem-differ (gen p a) (degree p a) (degree-of p R a h) c;
    };
    short-laws = λ l h cs. shorts-are l cs;
    syndrome-laws = λ c j. record {
      is_sum = syndrome-sum p.q R.known (len p) c j;
      below = syndrome-lt p.q R.known c j;
      doubled = square p.q R.known c j ∙ ap (syndrome p.q c) (omega arith);
    };
    register-laws = registers-are;
    buffer-laws = buffers-are;
    odd-laws = odds-are;
    placement-laws = record {
      sub_word = λ x h. sub-word-bit p R x h.bytes;
      written = written-bit p R;
      read = read-bit p R;
      checks = check-bits p R;
    };
    stored-laws = stored-are;
    whole-laws = wholes-are;
    full-sheet = (unshortened-accepted p A, same-members p);
    shortened-laws = shortened-are;
    shortened-all = λ f h z. shortened-all p A f h (λ i r l c d. z i r l c (omega (arith, same-degree p (p.v - i))));
    blank-no-member = unmember;
    blank-whole = λ L a old after b W. whole-13 L a (length old) b (sym W.number);
    blank-laws = λ x r b e J. rw J.answers (blank-judged x b e);
    blank-read-laws = blanks-read;
    blank-write-laws = blanks-written;
    judge-laws = judged-laws;
    write-laws = λ L a old after r w h e n W. written-laws L a old after r w h e W n;
    quote-laws = quoted;
    quoted-pages = λ number L a old after r q w h b n W.
        rw (after_is L a old after r w h b W (page-unblank a h n)).1 (page-quoted number q a h);
    read-laws = λ x old out j r e J O. O.answers ∙ read-as-judge p x old e ∙ sym J.answers;
    equal-form-laws = record { as-whole = λ cs e. equal-form cs; from-l = N-above };
  }

  -- ---- demand 3
  alike : (L M : ℕ) (a old old' after after' : List ℕ) (r r' : Outcome) → Width L → Width M → length old ≡ length old'
      → Written p L a old after r → Written p M a old' after' r' → Alike after after' r r'
  alike L M a old old' after after' r r' w w' e W W' =
      let s : write_refusal p L a (length old) ≡ write_refusal p M a (length old') =
      write-alike p L M w w' a (length old) ∙ ap (write_refusal p M a) e in
      record {
        answers = W.answers ∙ ap outcome s ∙ sym W'.answers;
        pages = λ d. W.buffer ∙ refused-not-done (write_refusal p L a (length old)) (page_of p a) old old' (sym W.answers ∙ d)
            ∙ ap (λ (k : ℕ). leaves k (page_of p a) old') s ∙ sym W'.buffer;
      }

  sums : (K L M : ℕ) (a b old-a old-b old-sum page-a page-b page-sum : List ℕ) (r-a r-b r-sum : Outcome) → Width K → Width L → Width M
      → Fits p a → Fits p b → PageBuffer p old-a → PageBuffer p old-b → PageBuffer p old-sum
      → (¬ IsBlank p (page_of p a)) → (¬ IsBlank p (page_of p b)) → (¬ IsBlank p (page_of p (add a b)))
      → Written p K a old-a page-a r-a → Written p L b old-b page-b r-b → Written p M (add a b) old-sum page-sum r-sum
      → Sums p a b page-a page-b page-sum r-a r-b r-sum
  sums K L M a b oa ob os pa pb ps ra rb rs wk wl wm h j ea eb es na nb ns Wa Wb Ws =
      let A-is = after_is K a oa pa ra wk h ea Wa (page-unblank a h na) in
      let B-is = after_is L b ob pb rb wl j eb Wb (page-unblank b j nb) in
      let S-is = after_is M (add a b) os ps rs wm (sum_fits p R a b h j) es Ws (page-unblank (add a b) (sum_fits p R a b h j) ns) in
      record {
        fits = sum_fits p R a b h j;
        done-a = A-is.0;
        done-b = B-is.0;
        done = S-is.0;
        page = S-is.1 ∙ sum-page p R a b h j ∙ sym (ap₂ add A-is.1 B-is.1);
      }

  -- a page is a member exactly when the writing of its blocks is done and makes it
  rewritten : (L : ℕ) (x old after : List ℕ) (w : Outcome) → Width L → IsPage p x → PageBuffer p old → Written p L (data_of p x) old after w
      → (judge_answer p x ≡ Ok Verdict.Member) ↔ ((w ≡ Ok tt) × (after ≡ x))
  rewritten L x old after w l h e W = (to, back)
    where
      to : judge_answer p x ≡ Ok Verdict.Member → (w ≡ Ok tt) × (after ≡ x)
      to m =
          let s : page_of p (data_of p x) ≡ x = (again-iff x h).0 (judged-passing x h m) in
          let d = after_is L (data_of p x) old after w l (data-fit p R x) e W (rw s (judged-else p x m)) in
          (d.0, d.1 ∙ s)

      back : (w ≡ Ok tt) × (after ≡ x) → judge_answer p x ≡ Ok Verdict.Member
      back d =
          let n = done-unblank L (data_of p x) old after w l (data-fit p R x) e W d.0 in
          let s : page_of p (data_of p x) ≡ x = sym (after_is L (data_of p x) old after w l (data-fit p R x) e W n).1 ∙ d.1 in
          passing-judged x h (rw s at n) ((again-iff x h).1 s)

  rewrites : (L : ℕ) (x old-blocks blocks old-page after : List ℕ) (j r : Judgement) (w : Outcome) → Width L → IsPage p x
      → BlocksBuffer p old-blocks → PageBuffer p old-page
      → Judged p x j → ReadOut p x old-blocks blocks r → Written p L blocks old-page after w → Rewrites p x blocks after j r w
  rewrites L x ob blocks op after j r o w h eb ep J O W =
      let b : blocks ≡ data_of p x = O.buffer ∙ read-leaves p A x ob (page-judgeable p x h) eb in
      let i : (judge_answer p x ≡ Ok Verdict.Member) ↔ ((o ≡ Ok tt) × (after ≡ x)) = rewritten L x op after o w h ep (rw b at W) in
      let v : r ≡ judge_answer p x = O.answers ∙ read-as-judge p x ob eb in
      record { fits = rw b (data-fit p R x); by-judge = rw J.answers i; by-read-out = rw v i }

  -- the places that the definition counts are those of the words
  differences-are : (x y : List ℕ) → IsPage p x → IsPage p y
      → differences p x y ≡ add_below p.m (differing (stored p) (words_of p x) (words_of p y))
  unfolding differences
  differences-are x y h l =
      add_below-ext p.m (flips_in p x y) (differing (stored p) (words_of p x) (words_of p y)) (flips-are p A x y h l)

  apart : (x y : List ℕ) → Bytes x → Bytes y → Judged p x (Ok Verdict.Member) → Judged p y (Ok Verdict.Member) → x ≢ y
      → distance p ≤ differences p x y
  apart x y b c J K n =
      let e : judge_answer p x ≡ Ok Verdict.Member = sym J.answers in
      let f : judge_answer p y ≡ Ok Verdict.Member = sym K.answers in
      let h : IsPage p x = judged-page p x e b in
      let k : IsPage p y = judged-page p y f c in
      let u : IsWords p (words_of p x) = page-words p R x h in
      let w : IsWords p (words_of p y) = page-words p R y k in
      rw (differences-are x y h k) (distance-places B.field B.α p (lawful p R) (stored p) (stored-le p R) (words_of p x) (words_of p y) u.many w.many
      u.below w.below (judged-passing x h e) (judged-passing y k f)
      (λ s. n (sym (join-words p R x h) ∙ ap (join (word_sizes p)) s ∙ join-words p R y k)))

  pub demand3 : Demand3 p
  demand3 = record { alike = alike; sums = sums; rewrites = rewrites; apart = apart; smallest = smallest p }

  -- ---- bursts
  first_passes : (x : List ℕ) → IsPage p x → judge_answer p x ≡ Ok Verdict.Member → Divides p p.v (nested p 0 (words_of p x))
  first_passes x h e = rw (Nat.sub-zero p.v) at ((judged-passing x h e).nesteds 0 R.v_low)

  never : (x y : List ℕ) (i a : ℕ) (r : Judgement) → Bytes x → Bytes y → i < p.m → a < stored p
      → Judged p x (Ok Verdict.Member) → Burst p x y i a → x ≢ y → Judged p y r → r ≢ Ok Verdict.Member
  never x y i a r bx by l b J S n K m =
      let e : judge_answer p x ≡ Ok Verdict.Member = sym J.answers in
      let f : judge_answer p y ≡ Ok Verdict.Member = sym K.answers ∙ m in
      let h : IsPage p x = judged-page p x e bx in
      let k : IsPage p y = judged-page p y f by in
      n (burst-same p R x y h k i a l b S (first_passes x h e) (first_passes y k f))

  named : (x y : List ℕ) (i a : ℕ) (r : Judgement) → Bytes x → IsPage p y → (¬ IsBlank p y) → i < p.m → a < stored p
      → Judged p x (Ok Verdict.Member) → Burst p x y i a → x ≢ y → Judged p y r → (r ≡ Ok (Verdict.SubWord i)) ⊎ (r ≡ Ok (Verdict.NestedWord 0))
  named x y i a r bx k o l b J S n K = go (ℕ_discrete (remainder p 0 (sub_word_of p y i)) 0)
    where
      e : judge_answer p x ≡ Ok Verdict.Member
      e = sym J.answers

      h : IsPage p x
      h = judged-page p x e bx

      x-member : IsMember p (words_of p x)
      x-member = passing-member p R (words_of p x) (judged-passing x h e) (page-words p R x h).many

      laws : JudgeLaws p y r
      laws = judged-laws y r k o K

      other : (j : ℕ) → j < p.m → j ≢ i → Multiple (gen p 0) (sub_word_of p y j)
      other j c s = rw (← others_same p R x y h k i a l b S j c s) (x-member.sub_words j c)

      fails : Multiple (gen p (p.v - 0)) (nested_of p y 0) → ⊥
      fails M = n (burst-same p R x y h k i a l b S (first_passes x h e)
          (rw (Nat.sub-zero p.v) at ((multiple-iff p R (p.v - 0) (Nat.sub-le p.v 0) (nested_of p y 0)).1 M)))

      every : Multiple (gen p 0) (sub_word_of p y i) → (j : ℕ) → j < p.m → Dec (j ≡ i) → Multiple (gen p 0) (sub_word_of p y j)
      every M j c (yes s) = rw s M
      every M j c (no s) = other j c s

      go : Dec (remainder p 0 (sub_word_of p y i) ≡ 0) → (r ≡ Ok (Verdict.SubWord i)) ⊎ (r ≡ Ok (Verdict.NestedWord 0))
      go (yes z) =
          let M : Multiple (gen p 0) (sub_word_of p y i) = (multiple-iff p R 0 zero-le (sub_word_of p y i)).0 z in
          inr ((laws.nested-word 0).1 (R.v_low, (λ j c. every M j c (ℕ_discrete j i)), fails, (λ j c. absurd (Nat.not-suc-le-zero c))))
      go (no z) =
          inl ((laws.sub_word i).1 (
            l,
            (λ M. z ((multiple-iff p R 0 zero-le (sub_word_of p y i)).1 M)),
            (λ j c. other j (omega arith) (λ s. Nat.lt_irrefl j (omega arith))),
          ))

  stray-judged : (y : List ℕ) (j k : ℕ) (r : Judgement) → Bytes y → PageBuffer p y → (¬ IsBlank p y) → j < p.m → stored p ≤ k
      → k < 8 * sub_word_bytes p → coefficient_of p y j k ≡ 1 → Judged p y r → r ≡ Err Refusal.Stray
  stray-judged y j k r b e o l h c s K = K.answers ∙ judge-stray p A y e (not_T (page_clear p y) unclear) (unblank y b o)
    where
      unclear : T (page_clear p y) → ⊥
      unclear t =
          let w : sub_word_of p y j < 2 ^ stored p = word_lt p R y (record { bytes = b; exact = e; clear = t }) j l in
          Nat.suc-ne-zero 0 (sym s ∙ sym (place-bit p R y b j k l c) ∙ beyond (sub_word_of p y j) (stored p) k w h)

  single-judged : (i c : ℕ) → i < p.m → c < 2 ^ stored p → Divides p p.v c → judge_answer p (single_page p i c) ≡ Ok Verdict.Member
  single-judged i c l b d =
      passing-judged (single_page p i c) (single-is p R i c l b) (unblank (single_page p i c) (single-is p R i c l b).bytes (single-unblank p R i c l b))
      (rw (single-has p R i c l b) (single-passing p R i c l d))

  pub bursts : BurstLaws p
  bursts = record {
    never = never;
    named = named;
    bytes = λ x y i o l r bx by h s c w same J n K.
        never x y i (8 * o) r bx by h (omega arith) J (bytes-burst p x y i o l c w same) n K;
    one_byte = degree-low p R;
    stray = stray-judged;
    longer = λ i a l b. (
      single_page p i 0,
      single_page p i (gen p p.v * 2 ^ a),
      record {
        member-x = λ r J. J.answers ∙ single-judged i 0 l (pow_pos (stored p)) (rem-zero (gen p p.v) (degree p p.v));
        member-y = λ r J. J.answers ∙ single-judged i (gen p p.v * 2 ^ a) l (moved-lt p R i a l b) (moved-divides p R i a l b);
        other = apart-pages p R i a l b;
        places = apart-places p R i a l b;
      },
    );
  }

  -- ---- many pages in one call
  abbrev refused_by : ℕ → ℕ → List ℕ → List ℕ → List ℕ → ℕ
  refused_by L count blocks pages list = many_refusal p L count (length blocks) (length pages) (length list)

  many-zero : (L count : ℕ) (blocks pages after list listed : List ℕ) → WrittenMany p L count blocks pages after list listed (Ok tt)
      → refused_by L count blocks pages list ≡ 0
  many-zero L count blocks pages after list listed W = sym W.0.number

  -- what a call that is done leaves
  many-made : (L count : ℕ) (blocks pages after list listed : List ℕ) → WrittenMany p L count blocks pages after list listed (Ok tt)
      → (after ≡ pages_by p (statuses p L count blocks) blocks pages) × (listed ≡ statuses p L count blocks)
  many-made L count blocks pages after list listed W =
      let z = many-zero L count blocks pages after list listed W in
      (rw z at W.0.buffer, rw z at W.1.buffer)

  many-each : (L count : ℕ) (blocks pages after list listed : List ℕ) → WrittenMany p L count blocks pages after list listed (Ok tt)
      → (k : ℕ) → k < count
      → Written p L (part (data_bytes p) k blocks) (part (page_bytes p) k pages) (part (page_bytes p) k after) (outcome (get_or listed k 0))
  many-each L count blocks pages after list listed W k h =
      let m = many-made L count blocks pages after list listed W in
      let s = many-lent p L count (length blocks) (length pages) (length list) (many-zero L count blocks pages after list listed W) in
      rw (m.0, m.1) (each-written p L count blocks pages s.pages-exact k h)

  many-status : (L count : ℕ) (blocks pages after list listed : List ℕ) → WrittenMany p L count blocks pages after list listed (Ok tt)
      → (k : ℕ) → k < count
      → get_or listed k 0 ≡ write_refusal p L (part (data_bytes p) k blocks) (length (part (page_bytes p) k pages))
  many-status L count blocks pages after list listed W k h =
      let m = many-made L count blocks pages after list listed W in
      let s = many-lent p L count (length blocks) (length pages) (length list) (many-zero L count blocks pages after list listed W) in
      rw m.1 (status-single p L count blocks pages s.pages-exact k h)

  pub many : ManyLaws p
  many = record {
    done = λ L count blocks pages after list listed r W. (
      (λ e. many-lent p L count (length blocks) (length pages) (length list) (sym W.0.number ∙ ap answer_number e)),
      (λ s. W.0.answers ∙ ap outcome (many-none p L count (length blocks) (length pages) (length list) A s)),
    );
    kept = λ L count n blocks pages after list listed W.
        (let h = err-pos tt n (refused_by L count blocks pages list) W.0.answers in (
          W.0.buffer ∙ leaves-refused (refused_by L count blocks pages list) _ pages h,
          W.1.buffer ∙ leaves-refused (refused_by L count blocks pages list) _ list h,
        ));
    each = many-each;
    status = many-status;
    whole = λ L count blocks pages after list listed W.
        (let m = many-made L count blocks pages after list listed W in
        let s = many-lent p L count (length blocks) (length pages) (length list) (many-zero L count blocks pages after list listed W) in
        let c = length-statuses p L count blocks in
        let l : length after ≡ length pages = ap length m.0 ∙ length-by p (statuses p L count blocks) blocks pages (rw c s.pages-exact) in (
          runs-are (page_bytes p) (λ k. part (page_bytes p) k after) 0 count after (l ∙ s.pages-exact)
              (λ k h. ap (λ (j : ℕ). part (page_bytes p) j after) (sym (Nat.zero-add k))),
          l,
          ap length m.1 ∙ c,
        ));
    says = λ L count blocks pages after list listed W k h.
        (let m = many-made L count blocks pages after list listed W in
        let s = many-lent p L count (length blocks) (length pages) (length list) (many-zero L count blocks pages after list listed W) in
        rw (m.1, status-at p L count blocks k h) (status-left p L (part (data_bytes p) k blocks) A s.width
        (part_length (data_bytes p) count blocks s.blocks-exact k h)));
    alike = many-alikes;
  }
    where
      many-alikes : (L M count : ℕ) (blocks pages pages' after after' list list' listed listed' : List ℕ) (r r' : Outcome) → Width L → Width M
          → length pages ≡ length pages' → length list ≡ length list' → WrittenMany p L count blocks pages after list listed r
          → WrittenMany p M count blocks pages' after' list' listed' r' → AlikeMany p after after' listed listed' r r'
      many-alikes L M count blocks pages pages' after after' list list' listed listed' r r' w w' e f W W' =
          let s : refused_by L count blocks pages list ≡ refused_by M count blocks pages' list' =
          many-alike p L M count (length blocks) (length pages) (length list) w w'
          ∙ ap₂ (many_refusal p M count (length blocks)) e f in
          let a : r ≡ r' = W.0.answers ∙ ap outcome s ∙ sym W'.0.answers in
          let l : r ≡ Ok tt → listed ≡ listed' = λ d.
          (many-made L count blocks pages after list listed (rw d at W)).1 ∙ statuses-alike p L M count blocks w w'
          ∙ sym (many-made M count blocks pages' after' list' listed' (rw (sym a ∙ d) at W')).1 in
          record {
            answers = a;
            lists = l;
            pages = λ d k h z.
                (let X : WrittenMany p L count blocks pages after list listed (Ok tt) = rw d at W in
                let X' : WrittenMany p M count blocks pages' after' list' listed' (Ok tt) = rw (sym a ∙ d) at W' in
                let c = many-lent p L count (length blocks) (length pages) (length list) (many-zero L count blocks pages after list listed X) in
                let i : k < count = rw (ap length (many-made L count blocks pages after list listed X).1 ∙ length-statuses p L count blocks) at h in
                (alike L M (part (data_bytes p) k blocks) (part (page_bytes p) k pages) (part (page_bytes p) k pages') (part (page_bytes p) k after)
                (part (page_bytes p) k after') (outcome (get_or listed k 0)) (outcome (get_or listed' k 0)) w w'
                (part_length (page_bytes p) count pages c.pages-exact k i ∙ sym (part_length (page_bytes p) count pages' (sym e ∙ c.pages-exact) k i))
                (many-each L count blocks pages after list listed X k i) (many-each M count blocks pages' after' list' listed' X' k i)
                ).pages (ap outcome z));
          }

  -- ---- one bit altered
  alterable : (x : List ℕ) (i r b : ℕ) → IsPage p x → NamesBit p i r b → Alterable p x i r b
  alterable x i r b h n = record { exact = h.exact; clear = h.clear; block = n.block; bit = n.bit; value = n.value }

  named-page : (x : List ℕ) (i r b : ℕ) → Bytes x → Alterable p x i r b → IsPage p x × NamesBit p i r b
  named-page x i r b y s =
      (record { bytes = y; exact = s.exact; clear = s.clear }, record { block = s.block; bit = s.bit; value = s.value })

  -- what a call that is done shows, and leaves
  alter-done : (x after : List ℕ) (i r b : ℕ) → Bytes x → Altered p x i r b after (Ok tt)
      → IsPage p x × NamesBit p i r b × (after ≡ altered p x i r b)
  alter-done x after i r b y M =
      let z : alter_refusal p x i r b ≡ 0 = sym M.number in
      let n = named-page x i r b y (alter-none p x i r b z).0 in
      (n.0, n.1, rw z at M.buffer)

  blank_of : (x : List ℕ) (i r b : ℕ) → IsPage p x → NamesBit p i r b → T (blank p (altered p x i r b)) ↔ IsBlank p (altered p x i r b)
  blank_of x i r b h n = blank-iff p R (altered p x i r b) (altered-is p R i r n.block n.bit x h b).bytes

  same-altered : (x : List ℕ) (i r b : ℕ) → coefficient_of p x i (check_bits p i + r) ≡ b → altered p x i r b ≡ x
  same-altered x i r b e = altered-eq p x i r b ∙ by_eqb (coefficient_of p x i (check_bits p i + r)) b _ _ e

  other-altered : (x : List ℕ) (i r b : ℕ) → coefficient_of p x i (check_bits p i + r) ≢ b → altered p x i r b ≡ add x (page_of p (one_bit p i r))
  other-altered x i r b n = altered-eq p x i r b ∙ by-neqb (coefficient_of p x i (check_bits p i + r)) b _ _ n

  left_alone : (k : ℕ) (x old : List ℕ) → x ≡ old → leaves k x old ≡ old
  left_alone zero x old e = e
  left_alone (suc k) x old e = refl

  alter-kept : (x after : List ℕ) (i r b : ℕ) (e : Refusal) → Altered p x i r b after (Err e) → after ≡ x
  alter-kept x after i r b n M = M.buffer ∙ leaves-refused (alter_refusal p x i r b) _ x (err-pos tt n (alter_refusal p x i r b) M.answers)

  -- whatever the answer is, the page afterwards is the altered one or the old one
  alter-either : (x after : List ℕ) (i r b : ℕ) (o : Outcome) → Altered p x i r b after o
      → ((o ≡ Ok tt) × (after ≡ altered p x i r b)) ⊎ (after ≡ x)
  alter-either x after i r b o M = go (alter_refusal p x i r b) M.answers M.buffer
    where
      go : (k : ℕ) → o ≡ outcome k → after ≡ leaves k (altered p x i r b) x → ((o ≡ Ok tt) × (after ≡ altered p x i r b)) ⊎ (after ≡ x)
      go zero e f = inl (e, f)
      go (suc k) e f = inr f

  elsewhere-kept : (x after : List ℕ) (i r b j : ℕ) (o : Outcome) → Bytes x → Altered p x i r b after o → j < p.m → j ≢ i
      → (i < j) ⊎ (p.v ≤ j) → part (sub_word_bytes p) j after ≡ part (sub_word_bytes p) j x
  elsewhere-kept x after i r b j o y M l n m = go (alter-either x after i r b o M)
    where
      go : ((o ≡ Ok tt) × (after ≡ altered p x i r b)) ⊎ (after ≡ x) → part (sub_word_bytes p) j after ≡ part (sub_word_bytes p) j x
      go (inr e) = ap (part (sub_word_bytes p) j) e
      go (inl d) = pick (ℕ_discrete (coefficient_of p x i (check_bits p i + r)) b)
        where
          shown : IsPage p x × NamesBit p i r b × (after ≡ altered p x i r b)
          shown = alter-done x after i r b y (rw d.0 at M)

          pick : Dec (coefficient_of p x i (check_bits p i + r) ≡ b) → part (sub_word_bytes p) j after ≡ part (sub_word_bytes p) j x
          pick (yes e) = ap (part (sub_word_bytes p) j) (d.1 ∙ same-altered x i r b e)
          pick (no e) =
              ap (part (sub_word_bytes p) j) (d.1 ∙ other-altered x i r b e)
              ∙ bytes-stay p R i r shown.1.block shown.1.bit x shown.0 j l n m

  -- how many bits differ
  changed : (x : List ℕ) (i r : ℕ) → IsPage p x → i < p.m → r < data_bits p i
      → differences p x (add x (page_of p (one_bit p i r))) ≡ page_weight (units p i r)
  changed x i r h l m =
      differences-are x (add x (page_of p (one_bit p i r))) h (after-page p R i r l m x h) ∙ changed-weight p R i r l m x h

  alter-least : (x after : List ℕ) (i r b : ℕ) → Bytes x → Altered p x i r b after (Ok tt)
      → coefficient_of p x i (check_bits p i + r) ≢ b → distance p ≤ differences p x after
  alter-least x after i r b y M n =
      let s = alter-done x after i r b y M in
      rw (s.2 ∙ other-altered x i r b n, changed x i r s.0 s.1.block s.1.bit) (changed-least p R i r s.1.block s.1.bit)

  differences-none : (x : List ℕ) → differences p x x ≡ 0
  unfolding differences
  differences-none x =
      add_below-none p.m (λ i. count_below (stored p) (λ k. not (eqb (coefficient_of p x i k) (coefficient_of p x i k))))
      (λ i h. count_below-eq (stored p) (λ k. not (eqb (coefficient_of p x i k) (coefficient_of p x i k)))
      ∙ add_below-none (stored p) (λ k. cond (not (eqb (coefficient_of p x i k) (coefficient_of p x i k))) 1 0)
      (λ k l. go (eqb (coefficient_of p x i k) (coefficient_of p x i k)) (eqb_refl (coefficient_of p x i k))))
    where
      go : (b : Bool) → T b → ◌≡◌ {A = ℕ} (cond (not b) 1 0) 0
      go true t = refl
      go false t = absurd t

  alter-most : (x after : List ℕ) (i r b : ℕ) → Bytes x → Altered p x i r b after (Ok tt)
      → differences p x after ≤ add_below p.m (λ j. cond (concerned p i j) (check_bits p j) 0) + 1
  alter-most x after i r b y M = go (ℕ_discrete (coefficient_of p x i (check_bits p i + r)) b)
    where
      s : IsPage p x × NamesBit p i r b × (after ≡ altered p x i r b)
      s = alter-done x after i r b y M

      go : Dec (coefficient_of p x i (check_bits p i + r) ≡ b) → differences p x after ≤ add_below p.m (λ j. cond (concerned p i j) (check_bits p j) 0) + 1
      go (yes e) = rw (s.2 ∙ same-altered x i r b e, differences-none x) zero-le
      go (no n) = rw (s.2 ∙ other-altered x i r b n, changed x i r s.0 s.1.block s.1.bit) (changed-most p R i r s.1.block s.1.bit)

  -- the page of a single bit is not blank: there is another block, whose bits are 0
  bit-unblank : (i r : ℕ) → i < p.m → r < data_bits p i → ¬ IsBlank p (page_of p (one_bit p i r))
  bit-unblank i r l m o = another p R i unequal
    where
      unequal : (j : ℕ) → j < p.m → j ≢ i → ⊥
      unequal j h s =
          let d : 0 < data_bits p j = omega (arith, stored-room p R (p.v - j) (Nat.sub-le p.v j)) in
          let z : ◌≡◌ {A = ℕ} 0 1 = sym (bit-none p R i r l m j 0 h d (inl s)) ∙ sym (written-bit p R (one_bit p i r) (bit-fits p R i r l m) j 0 h d)
          ∙ o j (check_bits p j + 0) h (data-room p R j 0 d) in
          Nat.suc-ne-zero 0 (sym z)

  alter-added : (L : ℕ) (x after c old unit : List ℕ) (i r b : ℕ) (w : Outcome) → Bytes x → Altered p x i r b after (Ok tt)
      → coefficient_of p x i (check_bits p i + r) ≢ b → SetTo p c i r 1 (λ j k. 0) → Width L → PageBuffer p old → Written p L c old unit w
      → (w ≡ Ok tt) × (after ≡ add x unit)
  alter-added L x after c old unit i r b w y M n S L' e W =
      let s = alter-done x after i r b y M in
      let k : c ≡ one_bit p i r = bit-alone p R i r s.1.block s.1.bit c S.fits S.here S.others in
      let u = after_is L c old unit w L' S.fits e W (rw k (page-unblank (one_bit p i r) (bit-fits p R i r s.1.block s.1.bit) (bit-unblank i r s.1.block s.1.bit))) in
      (u.0, s.2 ∙ other-altered x i r b n ∙ ap (add x) (sym (u.1 ∙ ap (page_of p) k)))

  -- a member altered is the page of the altered blocks
  alter-member : (L : ℕ) (x after ob a c old page : List ℕ) (i r b : ℕ) (v : Judgement) (o w : Outcome) → Width L → Bytes x
      → Judged p x (Ok Verdict.Member) → NamesBit p i r b → BlocksBuffer p ob → PageBuffer p old → Altered p x i r b after o
      → ReadOut p x ob a v → SetTo p c i r b (block_bit p a) → Written p L c old page w → AlteredMember p after page o w
  alter-member L x after ob a c old page i r b v o w L' y J n eb ep M O S W = record {
    answers = same_answer;
    pages = λ d. rw (none d) at M.buffer ∙ page-is-c ∙ sym (rw (sym same-refusal ∙ none d) at W.buffer);
    judged = λ d v K. K.answers ∙ passing-judged-as after (page_of p c) (rw (none d) at M.buffer ∙ page-is-c) (page-is p R c S.fits) (unblanked-c d) (page-passing c S.fits);
    shortened = λ z. M.answers ∙ ap outcome (left-13 ∙ off' 13 (blank p (altered p x i r b)) (not_T (blank p (altered p x i r b)) (λ t. short z t)));
  }
    where
      member : judge_answer p x ≡ Ok Verdict.Member
      member = sym J.answers

      h : IsPage p x
      h = judged-page p x member y

      a-is : a ≡ data_of p x
      a-is = O.buffer ∙ read-leaves p A x ob (page-judgeable p x h) eb

      fits-a : Fits p a
      fits-a = rw a-is (data-fit p R x)

      c-is : c ≡ altered_blocks p a i r b
      c-is = set-alone p R i r n.block n.bit a fits-a b n.value c S.fits S.here S.others

      x-is : x ≡ page_of p a
      x-is = sym ((again-iff x h).0 (judged-passing x h member)) ∙ ap (page_of p) (sym a-is)

      page-is-c : altered p x i r b ≡ page_of p c
      page-is-c = ap (λ (z : List ℕ). altered p z i r b) x-is ∙ altered-page p R i r n.block n.bit a fits-a b ∙ ap (page_of p) (sym c-is)

      left-13 : alter_refusal p x i r b ≡ (13 when blank p (altered p x i r b))
      left-13 = alter-left p x i r b A (alterable x i r b h n)

      same-refusal : alter_refusal p x i r b ≡ write_refusal p L c (length old)
      same-refusal = left-13 ∙ ap (λ (z : List ℕ). 13 when blank p z) page-is-c ∙ sym (write-left p A L c old L' S.fits ep)

      same_answer : o ≡ w
      same_answer = M.answers ∙ ap outcome same-refusal ∙ sym W.answers

      none : o ≡ Ok tt → alter_refusal p x i r b ≡ 0
      none d = sym M.number ∙ ap answer_number d

      unblanked-c : o ≡ Ok tt → T (not (blank p (page_of p c)))
      unblanked-c d = rw page-is-c at (alter-none p x i r b (none d)).1

      passing-judged-as : (z y : List ℕ) → z ≡ y → IsPage p y → T (not (blank p y)) → Passing p (words_of p y) → judge_answer p z ≡ Ok Verdict.Member
      passing-judged-as z y e h t P = ap (judge_answer p) e ∙ passing-judged y h t P

      short : 0 < p.s → T (blank p (altered p x i r b)) → ⊥
      short z t =
          let k : p.s ≡ 0 = ((page-ones p R c S.fits).0 ((blank-iff p R (page_of p c) (page-is p R c S.fits).bytes).0 (rw page-is-c at t))).0 in
          Nat.lt_irrefl 0 (rw k at z)

  pub alters : AlterLaws p
  alters = record {
    done = λ x after i r b o y M. (
      (λ e. (let s = alter-none p x i r b (sym M.number ∙ ap answer_number e) in
          let n = named-page x i r b y s.0 in
          (n.0, n.1, (λ k. T_not (blank p (altered p x i r b)) s.1 ((blank_of x i r b n.0 n.1).1 k))))),
      (λ s. M.answers ∙ ap outcome (alter-left p x i r b A (alterable x i r b s.0 s.1)
          ∙ off' 13 (blank p (altered p x i r b)) (not_T (blank p (altered p x i r b)) (λ t. s.2 ((blank_of x i r b s.0 s.1).0 t))))),
    );
    blank = λ x after i r b o y M. (
      (λ e. (let s = alter-13 p x i r b A (sym M.number ∙ ap answer_number e) in
          let n = named-page x i r b y s.0 in
          (n.0, n.1, (blank_of x i r b n.0 n.1).0 s.1))),
      (λ s. M.answers ∙ ap outcome (alter-left p x i r b A (alterable x i r b s.0 s.1)
          ∙ on 13 (blank p (altered p x i r b)) ((blank_of x i r b s.0 s.1).1 s.2))),
    );
    kept = alter-kept;
    same = λ x after i r b o e M. M.buffer ∙ left_alone (alter_refusal p x i r b) (altered p x i r b) x (same-altered x i r b e);
    added = alter-added;
    made = λ x after i r b y M.
        (let s = alter-done x after i r b y M in
        ap (λ (z : List ℕ). coefficient_of p z i (check_bits p i + r)) s.2 ∙ data-here p R i r s.1.block s.1.bit x s.0 b s.1.value);
    others = λ x after i r b j k y M l m o.
        (let s = alter-done x after i r b y M in
        ap (λ (z : List ℕ). coefficient_of p z j (check_bits p j + k)) s.2 ∙ data-there p R i r s.1.block s.1.bit x s.0 b j k l m o);
    member = alter-member;
    settable = λ a i r b h n. (
      altered_blocks p a i r b,
      record {
        fits = altered-fits p R i r n.block n.bit a h b;
        here = set_here p R i r n.block n.bit a h b n.value;
        others = set_there p R i r n.block n.bit a h b;
      },
    );
    elsewhere = elsewhere-kept;
    least = alter-least;
    most = alter-most;
  }

  -- ---- one sub-word mended
  mend-given : (size : ℕ) (x : List ℕ) (i k : ℕ) → Bytes x → Mendable p x i k (size * strength p 0) → MendLent size p x i k
  mend-given size x i k y s = record { page = record { bytes = y; exact = s.exact; clear = s.clear }; sub_word = s.sub_word; list = s.room }

  given-mend : (size : ℕ) (x : List ℕ) (i k : ℕ) → MendLent size p x i k → Mendable p x i k (size * strength p 0)
  given-mend size x i k g = record { exact = g.page.exact; clear = g.page.clear; sub_word = g.sub_word; room = g.list }

  -- the word of sub-word i
  module _ (x : List ℕ) (i : ℕ) (h : IsPage p x) (li : i < p.m) where
    sub_low : sub_word_of p x i < 2 ^ stored p
    sub_low = word_lt p R x h i li

    mending-iff : (Q : List ℕ) → (mending p x i ≡ some Q) ↔ Flips p 0 (sub_word_of p x i) Q
    mending-iff Q = let n = nearest-iff p R 0 zero-le (sub_word_of p x i) sub_low Q in ((λ e. n.0 (sym (mending-eq p x i) ∙ e)), (λ f. mending-eq p x i ∙ n.1 f))

    mending-none : (mending p x i ≡ none) ↔ ((c : ℕ) → ¬ Near p 0 (sub_word_of p x i) c)
    mending-none = let n = nearest-none p R 0 zero-le (sub_word_of p x i) sub_low in ((λ e. n.0 (sym (mending-eq p x i) ∙ e)), (λ f. mending-eq p x i ∙ n.1 f))

    mending-some : (c : ℕ) → Near p 0 (sub_word_of p x i) c → mending p x i ≡ some (ones (stored p) (xor (sub_word_of p x i) c))
    mending-some c N = mending-eq p x i ∙ nearest-word p R 0 zero-le (sub_word_of p x i) sub_low c N

  -- by the refusal, for a list whose numbers take `size` places
  module _ (size : ℕ) (x : List ℕ) (i k : ℕ) (y : Bytes x) where
    pub mend-zero-iff : (mend_refusal size p x i k ≡ 0) ↔ (MendLent size p x i k × ((c : ℕ) × Near p 0 (sub_word_of p x i) c))
    mend-zero-iff = (
      (λ z. (let s = mend-none size p x i k z in
          let g = mend-given size x i k y s.0 in
          let f = (mending-iff x i g.page g.sub_word s.1.0).0 s.1.1 in
          (g, (xor (sub_word_of p x i) (flips s.1.0), flips-near p R 0 zero-le (sub_word_of p x i) (sub_low x i g.page g.sub_word) s.1.0 f)))),
      (λ s. mend-left size p x i k A (given-mend size x i k s.0)
          ∙ ap (λ (o : Option (List ℕ)). 15 when nowhere o) (mending-some x i s.0.page s.0.sub_word s.1.0 s.1.1)),
    )

    pub mend-15-iff : (mend_refusal size p x i k ≡ 15) ↔ (MendLent size p x i k × ((c : ℕ) → ¬ Near p 0 (sub_word_of p x i) c))
    mend-15-iff = (
      (λ z. (let s = mend-15 size p x i k A z in
          let g = mend-given size x i k y s.0 in
          (g, (mending-none x i g.page g.sub_word).0 s.1))),
      (λ s. mend-left size p x i k A (given-mend size x i k s.0)
          ∙ ap (λ (o : Option (List ℕ)). 15 when nowhere o) ((mending-none x i s.0.page s.0.sub_word).1 s.1)),
    )

    -- no refusal: the places, and what they make
    mend-found : mend_refusal size p x i k ≡ 0
        → MendLent size p x i k × ((Q : List ℕ) × (mending p x i ≡ some Q) × Flips p 0 (sub_word_of p x i) Q)
    mend-found z =
        let s = mend-none size p x i k z in
        let g = mend-given size x i k y s.0 in
        (g, (s.1.0, s.1.1, (mending-iff x i g.page g.sub_word s.1.0).0 s.1.1))

  places-of : (x : List ℕ) (i : ℕ) (Q : List ℕ) → mending p x i ≡ some Q → places_of p x i ≡ Q
  places-of x i Q e = ap list_of e

  pub number_of : (n k : ℕ) → n ∷ [] ≡ k ∷ [] → n ≡ k
  number_of n k e = ap (λ (l : List ℕ). get_or l 0 0) e

  pub mends-of : (size : ℕ) (x after : List ℕ) (i k : ℕ) (numbers : List ℕ) (counted : ℕ) → Bytes x → mend_refusal size p x i k ≡ 0
      → after ≡ flipped p x i (places_of p x i) → numbers ≡ place_list (strength p 0) (places_of p x i) → counted ≡ length (places_of p x i)
      → IsPage p after × Near p 0 (sub_word_of p x i) (sub_word_of p after i) × ((Q : List ℕ) × Mends p x after i numbers counted Q)
  mends-of size x after i k numbers counted y z e f g =
      let s = mend-found size x i k y z in
      let h = s.0.page in
      let li = s.0.sub_word in
      let Q = s.1.0 in
      let t = places-of x i Q s.1.1 in
      let r = s.1.2.rising in
      let a : after ≡ flipped p x i Q = e ∙ ap (flipped p x i) t in
      let w : sub_word_of p after i ≡ xor (sub_word_of p x i) (flips Q) = ap (λ (b : List ℕ). sub_word_of p b i) a ∙ flipped-here p R x h i li Q r in (
        rw a (flipped-page p R x h i li Q r),
        rw w (flips-near p R 0 zero-le (sub_word_of p x i) (sub_low x i h li) Q s.1.2),
        (
          Q,
          record {
            flips = s.1.2;
            sub_word = w;
            list = f ∙ ap (place_list (strength p 0)) t ∙ places-eq (strength p 0) Q;
            number = g ∙ ap length t;
          },
        ),
      )

  pub mend-stays : (size : ℕ) (x after : List ℕ) (i k j : ℕ) → Bytes x → after ≡ leaves (mend_refusal size p x i k) (flipped p x i (places_of p x i)) x
      → j < p.m → j ≢ i → part (sub_word_bytes p) j after ≡ part (sub_word_bytes p) j x
  mend-stays size x after i k j y e l n = go (mend_refusal size p x i k) refl e
    where
      go : (r : ℕ) → mend_refusal size p x i k ≡ r → after ≡ leaves r (flipped p x i (places_of p x i)) x → part (sub_word_bytes p) j after ≡ part (sub_word_bytes p) j x
      go zero z e =
          let s = mend-found size x i k y z in
          ap (part (sub_word_bytes p) j) (e ∙ ap (flipped p x i) (places-of x i s.1.0 s.1.1))
          ∙ flipped-stay p R x s.0.page i s.0.sub_word s.1.0 s.1.2.rising j l n
      go (suc r) z e = ap (part (sub_word_bytes p) j) e

  -- no fault: done, and no flips
  pub mend-clean : (size : ℕ) (x : List ℕ) (i k : ℕ) → MendLent size p x i k → Multiple (gen p 0) (sub_word_of p x i)
      → (mend_refusal size p x i k ≡ 0) × (places_of p x i ≡ []) × (flipped p x i (places_of p x i) ≡ x)
  mend-clean size x i k g m =
      let e : mending p x i ≡ some [] = mending-eq p x i ∙ nearest-clean p R 0 zero-le (sub_word_of p x i) (sub_low x i g.page g.sub_word) m in
      let t = places-of x i [] e in (
        mend-left size p x i k A (given-mend size x i k g) ∙ ap (λ (o : Option (List ℕ)). 15 when nowhere o) e,
        t,
        ap (flipped p x i) t ∙ flipped-none p R x g.page i g.sub_word,
      )

  -- pages with one sub-word that differs
  module _ (z x : List ℕ) (i : ℕ) (h : IsPage p x) (li : i < p.m) (u : IsPage p z) (same_word : (j : ℕ) → j < p.m → j ≢ i → sub_word_of p z j ≡ sub_word_of p x j) where
    pub damage : differences p x z ≡ weight (xor (sub_word_of p x i) (sub_word_of p z i))
    damage =
        differences-are x z h u
        ∙ add_below-single p.m i (differing (stored p) (words_of p x) (words_of p z)) li (λ j l n. none-at j l n)
        ∙ words-differ (stored p) (sub_word_of p x i) (sub_word_of p z i) (sub_low x i h li) (sub_low z i u li)
      where
        none-at : (j : ℕ) → j < p.m → j ≢ i → differing (stored p) (words_of p x) (words_of p z) j ≡ 0
        none-at j l n =
            words-differ (stored p) (sub_word_of p x j) (sub_word_of p z j) (sub_low x j h l) (sub_low z j u l)
            ∙ ap (λ (c : ℕ). weight (xor (sub_word_of p x j) c)) (same_word j l n) ∙ ap weight (xor_self (sub_word_of p x j)) ∙ weight-zero

  -- a damaged member
  module _ (z x : List ℕ) (i : ℕ) (h : IsPage p x) (li : i < p.m) (u : IsPage p z) (D : Damaged p z x i) where
    same : (j : ℕ) → j < p.m → j ≢ i → sub_word_of p z j ≡ sub_word_of p x j
    same j l n = word_at p z j l ∙ ap (value 8) (sym (D.elsewhere j l n)) ∙ sym (word_at p x j l)

    pub undamaged : Multiple (gen p 0) (sub_word_of p z i) → (size k : ℕ) → MendLent size p x i k
        → (mend_refusal size p x i k ≡ 0) × (flipped p x i (places_of p x i) ≡ z) × (length (places_of p x i) ≡ differences p x z)
    undamaged m size k g =
        let c = sub_word_of p z i in
        let w : Near p 0 (sub_word_of p x i) c = record { stores = sub_low z i u li; multiple = m; near = rw (← damage z x i h li u same) D.few } in
        let e = mending-some x i h li c w in
        let Q = ones (stored p) (xor (sub_word_of p x i) c) in
        let b : xor (sub_word_of p x i) c < 2 ^ stored p = xor_lt (stored p) (sub_word_of p x i) c (sub_low x i h li) (sub_low z i u li) in
        let t = places-of x i Q e in (
          mend-left size p x i k A (given-mend size x i k g) ∙ ap (λ (o : Option (List ℕ)). 15 when nowhere o) e,
          ap (flipped p x i) t
              ∙ flipped-is p R x h i li Q (ones-rising (stored p) (xor (sub_word_of p x i) c)) z u
              (sym (ap (xor (sub_word_of p x i)) (flips-ones (stored p) (xor (sub_word_of p x i) c) b) ∙ xor-cancel (sub_word_of p x i) c))
              same,
          ap length t ∙ length-ones (stored p) (xor (sub_word_of p x i) c) b ∙ sym (damage z x i h li u same),
        )

  pub member-multiple : (z : List ℕ) → IsPage p z → judge_answer p z ≡ Ok Verdict.Member → (i : ℕ) → i < p.m → Multiple (gen p 0) (sub_word_of p z i)
  member-multiple z u e i li =
      (multiple-iff p R 0 zero-le (sub_word_of p z i)).0
      (all-at (λ c. Divides p 0 c) (words_of p z) (judged-passing z u e).words i (rw (words-many p z) li))

  pub mends : MendLaws p
  mends = record {
    once = λ a y c d h. near-once p R a h y c d;
    one_list = λ a y Q S h l. flips-once p R a h y l Q S;
    done = λ x after i l listed n counted o y M. (
      (λ e. (mend-zero-iff 1 x i (length l) y).0 (sym M.0.number ∙ ap answer_number e)),
      (λ s. M.0.answers ∙ ap outcome ((mend-zero-iff 1 x i (length l) y).1 s)),
    );
    nowhere = λ x after i l listed n counted o y M. (
      (λ e. (mend-15-iff 1 x i (length l) y).0 (sym M.0.number ∙ ap answer_number e)),
      (λ s. M.0.answers ∙ ap outcome ((mend-15-iff 1 x i (length l) y).1 s)),
    );
    kept = λ x after i l listed n counted k M.
        (let b = err-pos tt k (mend_refusal 1 p x i (length l)) M.0.answers in (
          M.0.buffer ∙ leaves-refused (mend_refusal 1 p x i (length l)) _ x b,
          M.1.buffer ∙ leaves-refused (mend_refusal 1 p x i (length l)) _ l b,
          number_of counted n (M.2.buffer ∙ leaves-refused (mend_refusal 1 p x i (length l)) _ (n ∷ []) b),
        ));
    mended = λ x after i l listed n counted y M. (let s = all_of x after i l listed n counted y M in (s.0, s.1));
    places = λ x after i l listed n counted y M. (let s = all_of x after i l listed n counted y M in s.2);
    elsewhere = λ x after i l listed n counted o j y M. mend-stays 1 x after i (length l) j y M.0.buffer;
    clean = λ x after i l listed n counted o y M g m.
        (let s = mend-clean 1 x i (length l) g m in (
          M.0.answers ∙ ap outcome s.0,
          rw s.0 at M.0.buffer ∙ s.2,
          rw s.0 at M.1.buffer ∙ ap (place_list (strength p 0)) s.1 ∙ places-eq (strength p 0) [] ∙ ap (λ (k : ℕ). replicate k no_place) (Nat.sub-zero (strength p 0)),
          number_of counted 0 (rw s.0 at M.2.buffer ∙ ap (λ (Q : List ℕ). length Q ∷ []) s.1),
        ));
    back = λ z x after i l listed n counted o bz y J D g M.
        (let e : judge_answer p z ≡ Ok Verdict.Member = sym J.answers in
        let u = judged-page p z e bz in
        let s = undamaged z x i g.page g.sub_word u D (member-multiple z u e i g.sub_word) 1 (length l) g in (
          M.0.answers ∙ ap outcome s.0,
          rw s.0 at M.0.buffer ∙ s.1,
          number_of counted (differences p x z) (rw s.0 at M.2.buffer ∙ ap (λ (k : ℕ). k ∷ []) s.2),
        ));
  }
    where
      all_of : (x after : List ℕ) (i : ℕ) (l listed : List ℕ) (n counted : ℕ) → Bytes x → Mended p x after i l listed n counted (Ok tt)
          → IsPage p after × Near p 0 (sub_word_of p x i) (sub_word_of p after i) × ((Q : List ℕ) × Mends p x after i listed counted Q)
      all_of x after i l listed n counted y M =
          let z : mend_refusal 1 p x i (length l) ≡ 0 = sym M.0.number in
          mends-of 1 x after i (length l) listed counted y z (rw z at M.0.buffer) (rw z at M.1.buffer)
          (number_of counted (length (places_of p x i)) (rw z at M.2.buffer))

  -- ---- a page mended through its nested words
  pub page-mends : PageLaws p
  page-mends = record {
    pass = λ x h. mend-pass p A x h;
    each-round = λ x k h. mend-round p A x k h;
    done = λ x after o b M. (
      (λ e. (mend-page-zero p A x b).0 (sym M.number ∙ ap answer_number e)),
      (λ s. M.answers ∙ ap outcome ((mend-page-zero p A x b).1 s)),
    );
    nowhere = λ x after o b M. (
      (λ e. (mend-page-17 p A x b).0 (sym M.number ∙ ap answer_number e)),
      (λ s. M.answers ∙ ap outcome ((mend-page-17 p A x b).1 s)),
    );
    succeeds = λ x after o b M.
        (let d = mend-page-succeeds p A x (λ y. Judged p y (Ok Verdict.Member)) member_is b in
        ((λ e. d.0 (sym M.number ∙ ap answer_number e)), (λ s. M.answers ∙ ap outcome (d.1 s))));
    page = λ x after k b M e. (let z : mend_page_refusal p x ≡ 0 = sym M.number in rw z at M.buffer ∙ mend-page-page p A x k b z e);
    fails = λ x after o b M.
        (let d = mend-page-fails p A x (λ y. Judged p y (Ok Verdict.Member)) member_is b in
        ((λ e. d.0 (sym M.number ∙ ap answer_number e)), (λ s. M.answers ∙ ap outcome (d.1 s))));
    kept = λ x after k M. M.buffer ∙ leaves-refused (mend_page_refusal p x) _ x (err-pos tt k (mend_page_refusal p x) M.answers);
    otherwise = λ x after o h M. either x after o M (mend-page-else p A x h);
    clean = λ x after o b J M. comes x after x o M (mend-page-clean p A x b (sym J.answers));
    back = λ z x after o b h J r M. comes x after z o M (mend-page-back p A z x h b (sym J.answers) r);
    always = λ z x after o b h J f M. comes x after z o M (mend-page-always p A z x h b (sym J.answers) f);
    reached = λ z x after o b h J r M. comes x after z o M (mend-page-reached p A z x h b (sym J.answers) r);
    one-round = λ z x after o b h J r M. comes x after z o M (mend-page-once p A z x h b (sym J.answers) r);
    enough = λ d x. v-enough p A d (words_of p x);
  }
    where
      member_is : (y : List ℕ) → Judged p y (Ok Verdict.Member) ↔ (judge_answer p y ≡ Ok Verdict.Member)
      member_is y = ((λ J. sym J.answers), (λ e. judged p y (Ok Verdict.Member) (sym e)))

      comes : (x after z : List ℕ) (o : Outcome) → PageMended p x after o → (mend_page_refusal p x ≡ 0) × (list_of (mended_page p x) ≡ z)
          → (o ≡ Ok tt) × (after ≡ z)
      comes x after z o M s = (M.answers ∙ ap outcome s.0, rw s.0 at M.buffer ∙ s.1)

      either : (x after : List ℕ) (o : Outcome) → PageMended p x after o
          → ((mend_page_refusal p x ≡ 0) × IsPage p (list_of (mended_page p x)) × (judge_answer p (list_of (mended_page p x)) ≡ Ok Verdict.Member))
          ⊎ (mend_page_refusal p x ≡ 17)
          → ((o ≡ Ok tt) × IsPage p after × ((r : Judgement) → Judged p after r → r ≡ Ok Verdict.Member)) ⊎ ((o ≡ Err Refusal.UnmendedPage) × (after ≡ x))
      either x after o M (inl s) =
          let c = comes x after (list_of (mended_page p x)) o M (s.0, refl) in
          inl (c.0, rw c.1 s.1, (λ r J. J.answers ∙ ap (judge_answer p) c.1 ∙ s.2))
      either x after o M (inr e) = inr (M.answers ∙ ap outcome e, rw e at M.buffer)

pub shortening : Shortening
shortening p z = (short-accepted p z, short-refused p z)

pub demands : Demands
demands p A = (demand2 p A, demand3 p A, bursts p A, many p A, alters p A, mends p A, page-mends p A)
