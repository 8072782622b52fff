-- When a call is refused, with which numbers, and what it answers otherwise.
--   Width L               L is 1 to 64
--   PageBuffer p old      a page buffer of exact length; BlocksBuffer p old a blocks buffer
--   Judgeable p x         what judge and read out do not refuse: bytes of a page's length, with clear spare bits or blank
use Rattle.std.specs.Prelude.{◌≡◌, ◌⊎◌, Bool, true, false, not, ◌||◌, cond, Ok, Err, List, ℕ, zero, suc, ◌≤◌, ◌<◌, T, eqb, ltb, length}
use Rattle.std.proofs.Math.Path.{refl}
use Rattle.std.proofs.Common.{sym, ap, ◌∙◌, inl, inr, arith, eqb→eq, ltb→lt, nltb→le, lit≤, lit<, lt-ltb, le-ltb}
use Rattle.std.proofs.Math.Nat as Nat
use Rattle.std.proofs.Math.Dec.{leb, not_T}
use Rattle.code.specs.declared.Parameters.{Parameters}
use Rattle.code.specs.declared.Refusal.{Refusal}
use Rattle.code.specs.declared.Verdict.{Verdict}
use Rattle.code.specs.Answers.{Judgement, unless_refused}
use Rattle.code.proofs.Accepted.{from-4}
use Rattle.code.proofs.Chains.{either, exact_none, exact-of, given, left, neither, nonzero, first_of, or-none, last}
use Rattle.code.proofs.Chains.{off, off', on, or_assoc, or-le, or-none, or-second, or-zero, past, right, unless, when-le}
use Rattle.code.proofs.Chains.{or-other, other, when-other}
use Rattle.code.specs.Calls.{judge_answer, page_verdict, read_leaves, write_answer, write_leaves}
use Rattle.code.specs.Code.{failing, failing_nested, verdict}
use Rattle.code.specs.Layout.{Bytes, Fits, IsPage, blank, blocks_clear, data_bytes, data_of, page_bytes, page_clear, page_of, words_of}
use Rattle.code.specs.Lists.{◌or_else◌, ◌when◌, last_refusal}
use Rattle.code.specs.Parameters.{Accepted, clashes, field_known, shape_fits, sheet_refusal, short_fits, strengths_fit}
use Rattle.code.specs.Refusals.{bad_width, judge_lengths, judge_refusal, not_exact, page_refusal, read_lengths, open_refusal}
use Rattle.code.specs.Refusals.{read_refusal, stray, word_refusal, write_lengths, write_refusal}
use Rattle.code.specs.Refused.{BlocksBuffer, PageBuffer, Width}

pub record Judgeable (p : Parameters) (x : List ℕ) : Type 0 where
  pub exact : length x ≡ page_bytes p
  pub passes : T (page_clear p x || blank p x)

pub page-judgeable : (p : Parameters) (x : List ℕ) → IsPage p x → Judgeable p x
page-judgeable p x h = record { exact = h.exact; passes = left (page_clear p x) (blank p x) h.clear }

pub blank-judgeable : (p : Parameters) (x : List ℕ) → PageBuffer p x → T (blank p x) → Judgeable p x
blank-judgeable p x e t = record { exact = e; passes = right (page_clear p x) (blank p x) t }

-- ---- a number from 1 to m
pub between-good : (m x : ℕ) → 1 ≤ x → x ≤ m → T (not (eqb x 0 || ltb m x))
between-good m x l h = not_T (eqb x 0 || ltb m x) (λ t. go (either (eqb x 0) (ltb m x) t))
  where
    go : T (eqb x 0) ⊎ T (ltb m x) → ⊥
    go (inl t) = Nat.not-suc-le-zero {n = 0} (omega (arith, eqb→eq x 0 t))
    go (inr t) = Nat.not-suc-le-zero {n = 0} (omega (arith, ltb→lt m x t))

pub between_is : (m x : ℕ) → T (not (eqb x 0 || ltb m x)) → (1 ≤ x) × (x ≤ m)
between_is m x t = let n = neither (eqb x 0) (ltb m x) t in (nonzero x n.0, nltb→le m x n.1)

-- ---- widths
pub width-good : (L : ℕ) → Width L → T (not (bad_width L))
width-good L w = between-good 64 L w.low w.high

pub width_is : (L : ℕ) → T (not (bad_width L)) → Width L
width_is L t = let b = between_is 64 L t in record { low = b.0; high = b.1 }

pub width_of : (L : ℕ) → true ≡ not (bad_width L) → Width L
width_of L e = width_is L (rw (← e) tt)

-- ---- the defining equations, link by link
pub sheet-le : (p : Parameters) → sheet_refusal p ≤ last_refusal
unfolding sheet_refusal
sheet-le p =
    or-le (1 when not (field_known p)) (2 when not (shape_fits p) or_else 3 when not (strengths_fit p) or_else from-4 p)
    (when-le 1 (not (field_known p)) (lit≤ tt))
    (or-le (2 when not (shape_fits p)) (3 when not (strengths_fit p) or_else from-4 p) (when-le 2 (not (shape_fits p)) (lit≤ tt))
    (or-le (3 when not (strengths_fit p)) (from-4 p) (when-le 3 (not (strengths_fit p)) (lit≤ tt))
    (or-le (4 when clashes p) (14 when not (short_fits p)) (when-le 4 (clashes p) (lit≤ tt)) (when-le 14 (not (short_fits p)) (lit≤ tt)))))

pub sheet-other : (p : Parameters) → other (sheet_refusal p)
unfolding sheet_refusal
sheet-other p =
    or-other (1 when not (field_known p)) _ (when-other 1 (not (field_known p)) tt)
    (or-other (2 when not (shape_fits p)) _ (when-other 2 (not (shape_fits p)) tt)
    (or-other (3 when not (strengths_fit p)) _ (when-other 3 (not (strengths_fit p)) tt)
    (or-other (4 when clashes p) _ (when-other 4 (clashes p) tt) (when-other 14 (not (short_fits p)) tt))))

module _ (p : Parameters) where
  abbrev page-7 : ℕ → ℕ
  page-7 k = 7 when not_exact k (page_bytes p)

  abbrev blocks-6 : ℕ → ℕ
  blocks-6 k = 6 when not_exact k (data_bytes p)

  abbrev stray-8 : List ℕ → ℕ
  stray-8 x = 8 when stray p x

  abbrev unused-8 : List ℕ → ℕ
  unused-8 a = 8 when not (blocks_clear p a)

  abbrev made-13 : List ℕ → ℕ
  made-13 a = 13 when blank p (page_of p a)

  page-chain : (x : List ℕ) → page_refusal p x ≡ ((sheet_refusal p or_else page-7 (length x)) or_else 8 when not (page_clear p x))
  unfolding page_refusal judge_lengths
  page-chain x = refl

  judge-chain : (x : List ℕ) → judge_refusal p x ≡ ((sheet_refusal p or_else page-7 (length x)) or_else stray-8 x)
  unfolding judge_refusal judge_lengths
  judge-chain x = refl

  read-chain : (x : List ℕ) (k : ℕ) → read_refusal p x k ≡ ((sheet_refusal p or_else blocks-6 k or_else page-7 (length x)) or_else stray-8 x)
  unfolding read_refusal read_lengths
  read-chain x k = refl

  write-chain : (L : ℕ) (a : List ℕ) (k : ℕ)
      → write_refusal p L a k
      ≡ ((sheet_refusal p or_else 5 when bad_width L or_else blocks-6 (length a) or_else page-7 k) or_else unused-8 a or_else made-13 a)
  unfolding write_refusal write_lengths
  write-chain L a k = refl

  -- ---- the links of a chain in their order
  pub page-links : (x : List ℕ) → page_refusal p x ≡ (sheet_refusal p or_else page-7 (length x) or_else 8 when not (page_clear p x))
  page-links x = page-chain x ∙ or_assoc (sheet_refusal p) (page-7 (length x)) (8 when not (page_clear p x))

  pub judge-links : (x : List ℕ) → judge_refusal p x ≡ (sheet_refusal p or_else page-7 (length x) or_else stray-8 x)
  judge-links x = judge-chain x ∙ or_assoc (sheet_refusal p) (page-7 (length x)) (stray-8 x)

  pub read-links : (x : List ℕ) (k : ℕ) → read_refusal p x k ≡ (sheet_refusal p or_else blocks-6 k or_else page-7 (length x) or_else stray-8 x)
  read-links x k =
      read-chain x k ∙ or_assoc (sheet_refusal p) (blocks-6 k or_else page-7 (length x)) (stray-8 x)
      ∙ ap (λ (r : ℕ). sheet_refusal p or_else r) (or_assoc (blocks-6 k) (page-7 (length x)) (stray-8 x))

  pub write-links : (L : ℕ) (a : List ℕ) (k : ℕ)
      → write_refusal p L a k
      ≡ (sheet_refusal p or_else 5 when bad_width L or_else blocks-6 (length a) or_else page-7 k or_else unused-8 a or_else made-13 a)
  write-links L a k =
      write-chain L a k
      ∙ or_assoc (sheet_refusal p) (5 when bad_width L or_else blocks-6 (length a) or_else page-7 k) (unused-8 a or_else made-13 a)
      ∙ ap (λ (r : ℕ). sheet_refusal p or_else r)
      (or_assoc (5 when bad_width L) (blocks-6 (length a) or_else page-7 k) (unused-8 a or_else made-13 a)
      ∙ ap (λ (r : ℕ). 5 when bad_width L or_else r) (or_assoc (blocks-6 (length a)) (page-7 k) (unused-8 a or_else made-13 a)))

  -- ---- no refusal's number is above the last
  lengths-le : (k : ℕ) → (sheet_refusal p or_else page-7 k) ≤ last_refusal
  lengths-le k = or-le (sheet_refusal p) (page-7 k) (sheet-le p) (when-le 7 (not_exact k (page_bytes p)) (lit≤ tt))

  pub page-le : (x : List ℕ) → page_refusal p x ≤ last_refusal
  page-le x =
      rw (page-chain x) (or-le (sheet_refusal p or_else page-7 (length x)) (8 when not (page_clear p x)) (lengths-le (length x))
      (when-le 8 (not (page_clear p x)) (lit≤ tt)))

  pub judge-le : (x : List ℕ) → judge_refusal p x ≤ last_refusal
  judge-le x =
      rw (judge-chain x) (or-le (sheet_refusal p or_else page-7 (length x)) (stray-8 x) (lengths-le (length x))
      (when-le 8 (stray p x) (lit≤ tt)))

  pub read-le : (x : List ℕ) (k : ℕ) → read_refusal p x k ≤ last_refusal
  read-le x k =
      rw (read-chain x k) (or-le (sheet_refusal p or_else blocks-6 k or_else page-7 (length x)) (stray-8 x)
      (or-le (sheet_refusal p) (blocks-6 k or_else page-7 (length x)) (sheet-le p)
      (or-le (blocks-6 k) (page-7 (length x)) (when-le 6 (not_exact k (data_bytes p)) (lit≤ tt))
      (when-le 7 (not_exact (length x) (page_bytes p)) (lit≤ tt)))) (when-le 8 (stray p x) (lit≤ tt)))

  pub write-le : (L : ℕ) (a : List ℕ) (k : ℕ) → write_refusal p L a k ≤ last_refusal
  write-le L a k =
      rw (write-chain L a k)
      (or-le (sheet_refusal p or_else 5 when bad_width L or_else blocks-6 (length a) or_else page-7 k) (unused-8 a or_else made-13 a)
      (or-le (sheet_refusal p) (5 when bad_width L or_else blocks-6 (length a) or_else page-7 k) (sheet-le p)
      (or-le (5 when bad_width L) (blocks-6 (length a) or_else page-7 k) (when-le 5 (bad_width L) (lit≤ tt))
      (or-le (blocks-6 (length a)) (page-7 k) (when-le 6 (not_exact (length a) (data_bytes p)) (lit≤ tt))
      (when-le 7 (not_exact k (page_bytes p)) (lit≤ tt)))))
      (or-le (unused-8 a) (made-13 a) (when-le 8 (not (blocks_clear p a)) (lit≤ tt)) (when-le 13 (blank p (page_of p a)) (lit≤ tt))))

  -- nor is it 16
  pub write-other : (L : ℕ) (a : List ℕ) (k : ℕ) → other (write_refusal p L a k)
  write-other L a k =
      rw (write-chain L a k)
      (or-other (sheet_refusal p or_else 5 when bad_width L or_else blocks-6 (length a) or_else page-7 k) (unused-8 a or_else made-13 a)
      (or-other (sheet_refusal p) (5 when bad_width L or_else blocks-6 (length a) or_else page-7 k) (sheet-other p)
      (or-other (5 when bad_width L) (blocks-6 (length a) or_else page-7 k) (when-other 5 (bad_width L) tt)
      (or-other (blocks-6 (length a)) (page-7 k) (when-other 6 (not_exact (length a) (data_bytes p)) tt)
      (when-other 7 (not_exact k (page_bytes p)) tt))))
      (or-other (unused-8 a) (made-13 a) (when-other 8 (not (blocks_clear p a)) tt) (when-other 13 (blank p (page_of p a)) tt)))

  pub word-le : (x : List ℕ) (i many out exact : ℕ) → word_refusal p x i many out exact ≤ last_refusal
  unfolding word_refusal
  word-le x i many out exact =
      or-le (page_refusal p x) (9 when leb many i or_else 10 when not_exact out exact) (page-le x)
      (or-le (9 when leb many i) (10 when not_exact out exact) (when-le 9 (leb many i) (lit≤ tt))
      (when-le 10 (not_exact out exact) (lit≤ tt)))

  -- ---- widths are alike
  pub write-alike : (L M : ℕ) → Width L → Width M → (a : List ℕ) (k : ℕ) → write_refusal p L a k ≡ write_refusal p M a k
  write-alike L M w w' a k =
      write-chain L a k
      ∙ rw (off' 5 (bad_width L) (width-good L w)) (sym (write-chain M a k ∙ rw (off' 5 (bad_width M) (width-good M w')) refl))

  -- ---- lent blocks of exact length, read out is refused as judge is
  pub read-judge : (x old : List ℕ) → BlocksBuffer p old → read_refusal p x (length old) ≡ judge_refusal p x
  read-judge x old e = read-chain x (length old) ∙ rw (exact_none 6 (length old) (data_bytes p) e) (sym (judge-chain x))

  -- ---- calls that are not refused
  module _ (A : Accepted p) where
    pub judge-none : (x : List ℕ) → Judgeable p x → judge_refusal p x ≡ 0
    judge-none x h =
        judge-chain x
        ∙ or-zero (sheet_refusal p or_else page-7 (length x)) (stray-8 x) (or-zero (sheet_refusal p) (page-7 (length x)) A
        (exact_none 7 (length x) (page_bytes p) h.exact)) (off 8 (page_clear p x || blank p x) h.passes)

    read_none : (x old : List ℕ) → Judgeable p x → BlocksBuffer p old → read_refusal p x (length old) ≡ 0
    read_none x old h e =
        read-chain x (length old)
        ∙ or-zero (sheet_refusal p or_else blocks-6 (length old) or_else page-7 (length x)) (stray-8 x)
        (or-zero (sheet_refusal p) (blocks-6 (length old) or_else page-7 (length x)) A
        (or-zero (blocks-6 (length old)) (page-7 (length x)) (exact_none 6 (length old) (data_bytes p) e)
        (exact_none 7 (length x) (page_bytes p) h.exact))) (off 8 (page_clear p x || blank p x) h.passes)

    -- for blocks that fit, 13 alone is left
    pub write-left : (L : ℕ) (a old : List ℕ) → Width L → Fits p a → PageBuffer p old → write_refusal p L a (length old) ≡ made-13 a
    write-left L a old w h e =
        write-chain L a (length old)
        ∙ or-second (sheet_refusal p or_else 5 when bad_width L or_else blocks-6 (length a) or_else page-7 (length old))
        (unused-8 a or_else made-13 a)
        (or-zero (sheet_refusal p) (5 when bad_width L or_else blocks-6 (length a) or_else page-7 (length old)) A
        (or-zero (5 when bad_width L) (blocks-6 (length a) or_else page-7 (length old)) (off' 5 (bad_width L) (width-good L w))
        (or-zero (blocks-6 (length a)) (page-7 (length old)) (exact_none 6 (length a) (data_bytes p) h.exact)
        (exact_none 7 (length old) (page_bytes p) e))))
        ∙ or-second (unused-8 a) (made-13 a) (off 8 (blocks_clear p a) h.clear)

    write-none : (L : ℕ) (a old : List ℕ) → Width L → Fits p a → PageBuffer p old → T (not (blank p (page_of p a)))
        → write_refusal p L a (length old) ≡ 0
    write-none L a old w h e n = write-left L a old w h e ∙ off' 13 (blank p (page_of p a)) n

    write-made : (L : ℕ) (a old : List ℕ) → Width L → Fits p a → PageBuffer p old → T (blank p (page_of p a))
        → write_refusal p L a (length old) ≡ 13
    write-made L a old w h e n = write-left L a old w h e ∙ on 13 (blank p (page_of p a)) n

    -- what 13 shows
    pub write-13 : (L : ℕ) (a : List ℕ) (k : ℕ) → write_refusal p L a k ≡ 13
        → (length a ≡ data_bytes p) × T (blocks_clear p a) × T (blank p (page_of p a))
    write-13 L a k e =
        let a5 = sym (or-second (sheet_refusal p) (5 when bad_width L or_else blocks-6 (length a) or_else page-7 k or_else unused-8 a or_else made-13 a) A)
        ∙ sym (write-links L a k) ∙ e in
        let a6 = past 4 (bad_width L) (blocks-6 (length a) or_else page-7 k or_else unused-8 a or_else made-13 a) 13 (lit< tt) a5 in
        let a7 = past 5 (not_exact (length a) (data_bytes p)) (page-7 k or_else unused-8 a or_else made-13 a) 13 (lit< tt) a6.1 in
        let a8 = past 6 (not_exact k (page_bytes p)) (unused-8 a or_else made-13 a) 13 (lit< tt) a7.1 in
        let a13 = past 7 (not (blocks_clear p a)) (made-13 a) 13 (lit< tt) a8.1 in
        (exact-of 5 (length a) (data_bytes p) a7.0, unless 7 (blocks_clear p a) a13.0, given 12 (blank p (page_of p a)) a13.1)

  -- ---- what is said of a page, and what shows of it
  never : {X : Type 0} → ◌≡◌ {A = ℕ} 0 1 → X
  never e = absurd (Nat.suc-ne-zero 0 (sym e))

  said-blank : (b : Bool) (v : Verdict) → T b → cond b Verdict.Blank v ≡ Verdict.Blank
  said-blank true v t = refl
  said-blank false v t = absurd t

  said-else : (b : Bool) (v : Verdict) → T (not b) → cond b Verdict.Blank v ≡ v
  said-else true v t = absurd t
  said-else false v t = refl

  else-said : (b : Bool) (v : Verdict) → cond b Verdict.Blank v ≡ Verdict.Member → T (not b)
  else-said true v e = let z : ◌≡◌ {A = ℕ} 0 1 = cc in never z
  else-said false v e = tt

  blank-said : (b c d : Bool) (f g : ℕ)
      → cond b Verdict.Blank (cond c (Verdict.SubWord f) (cond d (Verdict.NestedWord g) Verdict.Member)) ≡ Verdict.Blank → T b
  blank-said true c d f g e = tt
  blank-said false true d f g e = let z : ◌≡◌ {A = ℕ} 0 1 = cc in never z
  blank-said false false true f g e = let z : ◌≡◌ {A = ℕ} 0 1 = cc in never z
  blank-said false false false f g e = let z : ◌≡◌ {A = ℕ} 0 1 = cc in never z

  verdict-eq : (x : List ℕ) → page_verdict p x ≡ cond (blank p x) Verdict.Blank (verdict p (words_of p x))
  unfolding page_verdict
  verdict-eq x = refl

  pub verdict-blank : (x : List ℕ) → T (blank p x) → page_verdict p x ≡ Verdict.Blank
  verdict-blank x t = verdict-eq x ∙ said-blank (blank p x) (verdict p (words_of p x)) t

  pub verdict-else : (x : List ℕ) → T (not (blank p x)) → page_verdict p x ≡ verdict p (words_of p x)
  verdict-else x t = verdict-eq x ∙ said-else (blank p x) (verdict p (words_of p x)) t

  verdict-of-blank : (x : List ℕ) → page_verdict p x ≡ Verdict.Blank → T (blank p x)
  unfolding page_verdict verdict
  verdict-of-blank x e =
      blank-said (blank p x) (ltb (failing p (words_of p x)) p.m) (ltb (failing_nested p (words_of p x)) p.v) (failing p (words_of p x))
      (failing_nested p (words_of p x)) e

  -- ---- an answer that is no refusal is the page's verdict
  unrefused : (r : ℕ) (v w : Verdict) → ◌≡◌ {A = Judgement} (unless_refused r v) (Ok w) → (r ≡ 0) × (v ≡ w)
  unrefused zero v w e = (refl, cc)
  unrefused (suc r) v w e = let z : ◌≡◌ {A = ℕ} 0 1 = cc in never z

  judge-eq : (x : List ℕ) → judge_answer p x ≡ unless_refused (judge_refusal p x) (page_verdict p x)
  unfolding judge_answer
  judge-eq x = refl

  answer-else : (x : List ℕ) (v : Verdict) → judge_answer p x ≡ Ok v → (judge_refusal p x ≡ 0) × (page_verdict p x ≡ v)
  answer-else x v e = unrefused (judge_refusal p x) (page_verdict p x) v (sym (judge-eq x) ∙ e)

  -- what judge calls blank is blank
  pub judged-blank : (x : List ℕ) → judge_answer p x ≡ Ok Verdict.Blank → T (blank p x)
  judged-blank x e = verdict-of-blank x (answer-else x Verdict.Blank e).1

  -- what judge calls a member is a page of accepted parameters, and not blank
  clear_of : (b c : Bool) → T (b || c) → T (not c) → T b
  clear_of true c t n = tt
  clear_of false true t n = absurd n
  clear_of false false t n = absurd t

  module _ (x : List ℕ) (e : judge_answer p x ≡ Ok Verdict.Member) where
    member-said : (judge_refusal p x ≡ 0) × (page_verdict p x ≡ Verdict.Member)
    member-said = answer-else x Verdict.Member e

    pub judged-else : T (not (blank p x))
    judged-else = else-said (blank p x) (verdict p (words_of p x)) (sym (verdict-eq x) ∙ member-said.1)

    pub judged-page : Bytes x → IsPage p x
    judged-page h =
        let a = or-none (sheet_refusal p or_else page-7 (length x)) (stray-8 x) (sym (judge-chain x) ∙ member-said.0) in
        let b = or-none (sheet_refusal p) (page-7 (length x)) a.0 in
        record {
          bytes = h;
          exact = exact-of 6 (length x) (page_bytes p) b.1;
          clear = clear_of (page_clear p x) (blank p x) (unless 7 (page_clear p x || blank p x) a.1) judged-else;
        }

  -- ---- stray: a spare bit is 1, and the page is not blank
  unclear : (b c : Bool) → T (not b) → T (not c) → T (not (b || c))
  unclear true c t u = absurd t
  unclear false c t u = u

  pub judge-stray : Accepted p → (x : List ℕ) → PageBuffer p x → T (not (page_clear p x)) → T (not (blank p x)) → judge_answer p x ≡ Err Refusal.Stray
  judge-stray A x e t u =
      let r : judge_refusal p x ≡ 8 = judge-links x ∙ or-second (sheet_refusal p) (page-7 (length x) or_else stray-8 x) A
      ∙ or-second (page-7 (length x)) (stray-8 x) (exact_none 7 (length x) (page_bytes p) e)
      ∙ on 8 (stray p x) (unclear (page_clear p x) (blank p x) t u) in
      judge-eq x ∙ rw r refl

  -- ---- the answers where nothing is refused
  module _ (A : Accepted p) where
    pub judge-is : (x : List ℕ) → Judgeable p x → judge_answer p x ≡ Ok (page_verdict p x)
    judge-is x h = judge-eq x ∙ rw (judge-none A x h) refl

    pub unblanked : (x : List ℕ) → IsPage p x → T (not (blank p x)) → judge_answer p x ≡ Ok (verdict p (words_of p x))
    unblanked x h t = judge-is x (page-judgeable p x h) ∙ ap Ok (verdict-else x t)

    pub read-leaves : (x old : List ℕ) → Judgeable p x → BlocksBuffer p old → read_leaves p x old ≡ data_of p x
    unfolding read_leaves
    read-leaves x old h e = rw (read_none A x old h e) refl

    module _ (L : ℕ) (a old : List ℕ) (w : Width L) (h : Fits p a) (e : PageBuffer p old) where
      pub write_done : T (not (blank p (page_of p a))) → write_answer p L a old ≡ Ok tt
      write_done n = rw (write-none A L a old w h e n) refl

      pub write-leaves : T (not (blank p (page_of p a))) → write_leaves p L a old ≡ page_of p a
      write-leaves n = rw (write-none A L a old w h e n) refl

      pub write-refused : T (blank p (page_of p a)) → write_answer p L a old ≡ Err Refusal.Blank
      write-refused n = rw (write-made A L a old w h e n) refl

      pub write_keeps : T (blank p (page_of p a)) → write_leaves p L a old ≡ old
      write_keeps n = rw (write-made A L a old w h e n) refl

-- ---- opening
module _ (p : Parameters) (level : ℕ) where
  open-eq : open_refusal p level ≡ (sheet_refusal p or_else 9 when ltb p.v level)
  unfolding open_refusal
  open-eq = refl

  pub open-le : open_refusal p level ≤ last_refusal
  open-le = rw open-eq (or-le (sheet_refusal p) (9 when ltb p.v level) (sheet-le p) (when-le 9 (ltb p.v level) (lit≤ tt)))

  pub open-sheet : (k : ℕ) → k ≡ sheet_refusal p → (k ≡ 0 → ⊥) → k ≡ open_refusal p level
  open-sheet k e h = first_of k (sheet_refusal p) (9 when ltb p.v level) e h ∙ sym open-eq

  -- a chain that ends in 0
  pub open-zero : open_refusal p level ≡ 0 → Accepted p × (level ≤ p.v)
  open-zero z =
      let s = or-none (sheet_refusal p) (9 when ltb p.v level) (sym open-eq ∙ z) in
      (s.0, nltb→le p.v level (last 8 (ltb p.v level) s.1))

  module _ (A : Accepted p) where
    open-accepted : open_refusal p level ≡ (9 when ltb p.v level)
    open-accepted = open-eq ∙ or-second (sheet_refusal p) (9 when ltb p.v level) A

    pub open_above : p.v < level → 9 ≡ open_refusal p level
    open_above h = sym (open-accepted ∙ simp (lt-ltb p.v level h))

    pub open_none : level ≤ p.v → 0 ≡ open_refusal p level
    open_none h = sym (open-accepted ∙ simp (le-ltb p.v level h))
