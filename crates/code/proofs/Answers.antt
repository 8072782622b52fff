-- Promises met: what a program shows where it refuses, and where it is done.
use Rattle.std.specs.Prelude.{◌≡◌, ◌↔◌, ◌≢◌, Bool, true, false, ◌||◌, cond, Result, Ok, Err, List, [], ◌∷◌, ltb, length, get_or}
use Rattle.std.proofs.Math.Path.{refl}
use Rattle.std.proofs.Common.{sym, ap, ◌∙◌, arith, lit≤, lit<, ltb-true}
use Prim.Native.Nat.{ℕ, zero, suc, ◌+◌, ◌≤◌, ◌<◌, zero-le}
use Rattle.std.proofs.Math.Nat as Nat
use Rattle.code.specs.declared.Parameters.{Parameters}
use Rattle.code.specs.declared.Refusal.{Refusal}
use Rattle.code.specs.declared.Verdict.{Verdict}
use Rattle.code.specs.Register.{Register}
use Rattle.code.specs.Answers.{Judgement, Outcome, answer_number, refusal_number, refusals, unless_refused}
use Rattle.code.proofs.Accepted.{accepted}
use Rattle.code.specs.Calls.{Judged, Made, MadeC, Named, NestingMade, ReadOut, SizeC, Written, fed_by, judge_answer, judge_number, judge_values}
use Rattle.code.specs.Calls.{judgement_number, judgement_values, leaves, nesting, nesting_values, outcome, outcome_values}
use Rattle.code.specs.Calls.{page_number, page_values, page_verdict}
use Rattle.code.specs.Calls.{read_answer, read_leaves, read_number, read_values, size_unless, verdict_number, verdict_values}
use Rattle.code.proofs.Chains.{when-le}
use Rattle.code.specs.Code.{N, failing, failing_nested, failing_number, failing_values, verdict}
use Rattle.code.specs.Layout.{blank, data_of, page_of, words_of}
use Rattle.code.specs.Lists.{◌or_else◌, last_refusal, values_by}
use Rattle.code.specs.Parameters.{Accepted, Tests, sheet_refusal, sheet_values, tested, tested_values}
use Rattle.code.specs.Refusals.{judge_refusal, nesting_refusal, read_refusal, write_refusal}
use Rattle.code.specs.Refused.{BlocksBuffer}
use Rattle.code.proofs.Refused.{judge-le, read-judge, read-le, sheet-le, write-le}

-- ---- refusals and their numbers
pub refusal-pos : (e : Refusal) → 0 < refusal_number e
refusal-pos Refusal.Field = lit< tt
refusal-pos Refusal.Shape = lit< tt
refusal-pos Refusal.Strengths = lit< tt
refusal-pos Refusal.Clash = lit< tt
refusal-pos Refusal.Width = lit< tt
refusal-pos Refusal.Blocks = lit< tt
refusal-pos Refusal.Page = lit< tt
refusal-pos Refusal.Stray = lit< tt
refusal-pos Refusal.Index = lit< tt
refusal-pos Refusal.List = lit< tt
refusal-pos Refusal.Full = lit< tt
refusal-pos Refusal.Register = lit< tt
refusal-pos Refusal.Blank = lit< tt
refusal-pos Refusal.Shortening = lit< tt
refusal-pos Refusal.Unmended = lit< tt
refusal-pos Refusal.Reserved = lit< tt
refusal-pos Refusal.UnmendedPage = lit< tt

pub refusal-ne : (e : Refusal) → refusal_number e ≡ 0 → ⊥
refusal-ne e z = Nat.lt_irrefl 0 (rw z at (refusal-pos e))

-- the refusal of a refusal's number is that refusal
pub err-is : {A : Type 0} (x : A) (e : Refusal) → unless_refused (refusal_number e) x ≡ Err e
err-is x Refusal.Field = refl
err-is x Refusal.Shape = refl
err-is x Refusal.Strengths = refl
err-is x Refusal.Clash = refl
err-is x Refusal.Width = refl
err-is x Refusal.Blocks = refl
err-is x Refusal.Page = refl
err-is x Refusal.Stray = refl
err-is x Refusal.Index = refl
err-is x Refusal.List = refl
err-is x Refusal.Full = refl
err-is x Refusal.Register = refl
err-is x Refusal.Blank = refl
err-is x Refusal.Shortening = refl
err-is x Refusal.Unmended = refl
err-is x Refusal.Reserved = refl
err-is x Refusal.UnmendedPage = refl

-- an answer's value by its Ok
pub ok-inj : (v w : Verdict) → ◌≡◌ {A = Judgement} (Ok v) (Ok w) → v ≡ w
ok-inj v w e = cc

pub ok-iff : {X : Type 0} (j : Judgement) (v w : Verdict) → j ≡ Ok v → (v ≡ w) ↔ X → (j ≡ Ok w) ↔ X
ok-iff j v w e i = ((λ f. i.0 (ok-inj v w (sym e ∙ f))), (λ x. e ∙ ap Ok (i.1 x)))

pub err-by : {A : Type 0} (x : A) (e : Refusal) (k : ℕ) → refusal_number e ≡ k → Err e ≡ unless_refused k x
err-by x e k h = sym (ap (λ (n : ℕ). unless_refused n x) (sym h) ∙ err-is x e)

-- and the number of a number's refusal that number
numbered : (k : ℕ) → k < 17 → refusal_number (get_or refusals k Refusal.Reserved) ≡ suc k
numbered zero h = refl
numbered (suc zero) h = refl
numbered (suc (suc zero)) h = refl
numbered (suc (suc (suc zero))) h = refl
numbered (suc (suc (suc (suc zero)))) h = refl
numbered (suc (suc (suc (suc (suc zero))))) h = refl
numbered (suc (suc (suc (suc (suc (suc zero)))))) h = refl
numbered (suc (suc (suc (suc (suc (suc (suc zero))))))) h = refl
numbered (suc (suc (suc (suc (suc (suc (suc (suc zero)))))))) h = refl
numbered (suc (suc (suc (suc (suc (suc (suc (suc (suc zero))))))))) h = refl
numbered (suc (suc (suc (suc (suc (suc (suc (suc (suc (suc zero)))))))))) h = refl
numbered (suc (suc (suc (suc (suc (suc (suc (suc (suc (suc (suc zero))))))))))) h = refl
numbered (suc (suc (suc (suc (suc (suc (suc (suc (suc (suc (suc (suc zero)))))))))))) h = refl
numbered (suc (suc (suc (suc (suc (suc (suc (suc (suc (suc (suc (suc (suc zero))))))))))))) h = refl
numbered (suc (suc (suc (suc (suc (suc (suc (suc (suc (suc (suc (suc (suc (suc zero)))))))))))))) h = refl
numbered (suc (suc (suc (suc (suc (suc (suc (suc (suc (suc (suc (suc (suc (suc (suc zero))))))))))))))) h = refl
numbered (suc (suc (suc (suc (suc (suc (suc (suc (suc (suc (suc (suc (suc (suc (suc (suc zero)))))))))))))))) h = refl
numbered (suc (suc (suc (suc (suc (suc (suc (suc (suc (suc (suc (suc (suc (suc (suc (suc (suc k))))))))))))))))) h = absurd (Nat.not-suc-le-zero {n = 0} (omega arith))

pub unless-number : {A : Type 0} (x : A) (k : ℕ) → k ≤ last_refusal → answer_number (unless_refused k x) ≡ k
unless-number x zero h = refl
unless-number x (suc k) h = numbered k (omega (arith, h))

-- an answer that is a refusal comes of one
pub err-pos : {A : Type 0} (x : A) (e : Refusal) (k : ℕ) → Err e ≡ unless_refused k x → 0 < k
err-pos x e zero h = let z : ◌≡◌ {A = ℕ} 0 1 = cc in absurd (omega arith)
err-pos x e (suc k) h = omega arith

pub ok-zero : {A : Type 0} (x y : A) (k : ℕ) → Ok x ≡ unless_refused k y → k ≡ 0
ok-zero x y zero h = refl
ok-zero x y (suc k) h = let z : ◌≡◌ {A = ℕ} 0 1 = cc in absurd (omega arith)

-- ---- the test of parameters
tested-values : (p : Parameters) (r : ℕ)
    → tested_values (unless_refused r p) ≡ values_by r (p.q ∷ p.m ∷ p.v ∷ p.t0 ∷ p.t1 ∷ p.t2 ∷ p.t3 ∷ p.s ∷ [])
tested-values p zero = refl
tested-values p (suc r) = refl

pub tested_eq : (p : Parameters) → tested p ≡ unless_refused (sheet_refusal p) p
unfolding tested
tested_eq p = refl

module _ (p : Parameters) where
  values-are : tested_values (tested p) ≡ sheet_values p
  unfolding tested sheet_values
  values-are = tested-values p (sheet_refusal p)

  pub tests : (r : Result Parameters Refusal) → r ≡ tested p → Tests p r
  tests r e = record {
    answers = e;
    number = ap answer_number (e ∙ tested_eq p) ∙ unless-number p (sheet_refusal p) (sheet-le p);
    values = ap tested_values e ∙ values-are;
    small = sheet-le p;
  }

  pub test-refused : (e : Refusal) → refusal_number e ≡ sheet_refusal p → Tests p (Err e)
  test-refused e h = tests (Err e) (err-by p e (sheet_refusal p) h ∙ sym (tested_eq p))

-- ---- a refusal leaves the buffer as it was
pub leaves-refused : (r : ℕ) (x old : List ℕ) → 0 < r → leaves r x old ≡ old
leaves-refused zero x old h = absurd (Nat.not-suc-le-zero h)
leaves-refused (suc r) x old h = refl

pub done-zero : (k : ℕ) → outcome k ≡ Ok tt → k ≡ 0
done-zero k e = ok-zero tt tt k (sym e)

pub made-refused : (refusal : ℕ) (e : Refusal) (result old : List ℕ) → refusal_number e ≡ refusal → refusal ≤ last_refusal
    → Made refusal result old old (Err e)
made-refused refusal e result old h b = record {
  answers = err-by tt e refusal h;
  number = h;
  values = refl;
  small = b;
  buffer = sym (leaves-refused refusal result old (rw (sym h) (refusal-pos e)));
}

pub made-done : (refusal : ℕ) (result old after : List ℕ) → refusal ≡ 0 → after ≡ result → Made refusal result old after (Ok tt)
made-done refusal result old after e f = record {
  answers = sym (ap outcome e);
  number = sym e;
  values = refl;
  small = rw e zero-le;
  buffer = f ∙ sym (ap (λ (r : ℕ). leaves r result old) e);
}

-- ---- write
module _ (p : Parameters) (L : ℕ) (b x : List ℕ) where
  pub written-refused : (e : Refusal) → refusal_number e ≡ write_refusal p L b (length x) → Written p L b x x (Err e)
  written-refused e h = made-refused (write_refusal p L b (length x)) e (page_of p b) x h (write-le p L b (length x))

  pub written-done : (y : List ℕ) → write_refusal p L b (length x) ≡ 0 → y ≡ page_of p b → Written p L b x y (Ok tt)
  written-done y z e = made-done (write_refusal p L b (length x)) (page_of p b) x y z e

-- ---- feeding and opening
pub fed-refused : (e : Refusal) (k : ℕ) (next old : Register) → refusal_number e ≡ k → fed_by k next old ≡ record { outcome = Err e; register = old }
fed-refused e k next old h = go k (rw (sym h) (refusal-pos e)) ∙ ap (λ (o : Outcome). record { outcome = o; register = old }) (sym (err-by tt e k h))
  where
    go : (n : ℕ) → 0 < n → fed_by n next old ≡ record { outcome = outcome n; register = old }
    go zero f = absurd (Nat.not-suc-le-zero f)
    go (suc n) f = refl

-- ---- verdicts: the numbers and values of the enum are those of the first word that fails
number_of : (a b : Bool) (i l : ℕ)
    → verdict_number (cond a (Verdict.SubWord i) (cond b (Verdict.NestedWord l) Verdict.Member)) ≡ cond a (32 + i) (cond b (64 + l) 0)
number_of true b i l = refl
number_of false true i l = refl
number_of false false i l = refl

values_of : (a b : Bool) (i l : ℕ)
    → verdict_values (cond a (Verdict.SubWord i) (cond b (Verdict.NestedWord l) Verdict.Member)) ≡ cond a (i ∷ []) (cond b (l ∷ []) [])
values_of true b i l = refl
values_of false true i l = refl
values_of false false i l = refl

member_of : (a b : Bool) (i l : ℕ) → cond a (32 + i) (cond b (64 + l) 0) ≡ 0
    → cond a (Verdict.SubWord i) (cond b (Verdict.NestedWord l) Verdict.Member) ≡ Verdict.Member
member_of true b i l e = absurd (Nat.suc-ne-zero (31 + i) (sym (Nat.suc-add 31 i) ∙ e))
member_of false true i l e = absurd (Nat.suc-ne-zero (63 + l) (sym (Nat.suc-add 63 l) ∙ e))
member_of false false i l e = refl

-- the number of a word that fails is below 96
number_by : (b c : Bool) (f m g v : ℕ) → ltb f m ≡ b → ltb g v ≡ c → m ≤ 8 → v ≤ 3 → cond b (32 + f) (cond c (64 + g) 0) < 96
number_by true c f m g v d e h k = omega (arith, ltb-true f m d)
number_by false true f m g v d e h k = omega (arith, ltb-true g v e)
number_by false false f m g v d e h k = lit< tt

module _ (p : Parameters) (cs : List ℕ) where
  pub number-low : Accepted p → failing_number p cs < 96
  unfolding failing_number
  number-low A =
      number_by (ltb (failing p cs) p.m) (ltb (failing_nested p cs) p.v) (failing p cs) p.m (failing_nested p cs) p.v
      refl refl (accepted p A).m-high (accepted p A).v_high

  pub verdict-number : verdict_number (verdict p cs) ≡ failing_number p cs
  unfolding verdict failing_number
  verdict-number = number_of (ltb (failing p cs) p.m) (ltb (failing_nested p cs) p.v) (failing p cs) (failing_nested p cs)

  verdict-values : verdict_values (verdict p cs) ≡ failing_values p cs
  unfolding verdict failing_values
  verdict-values = values_of (ltb (failing p cs) p.m) (ltb (failing_nested p cs) p.v) (failing p cs) (failing_nested p cs)

  pub number-member : failing_number p cs ≡ 0 → verdict p cs ≡ Verdict.Member
  unfolding verdict failing_number
  number-member e = member_of (ltb (failing p cs) p.m) (ltb (failing_nested p cs) p.v) (failing p cs) (failing_nested p cs) e

  pub named : (r : Verdict) → r ≡ verdict p cs → Named p cs r
  named r e = record { answers = e; number = ap verdict_number e ∙ verdict-number; values = ap verdict_values e ∙ verdict-values }

-- ---- pages: blank before all else
blank-number : (b : Bool) (v : Verdict) (n : ℕ) → verdict_number v ≡ n → verdict_number (cond b Verdict.Blank v) ≡ cond b 96 n
blank-number true v n e = refl
blank-number false v n e = e

blank-values : (b : Bool) (v : Verdict) (l : List ℕ) → verdict_values v ≡ l → verdict_values (cond b Verdict.Blank v) ≡ cond b [] l
blank-values true v l e = refl
blank-values false v l e = e

blank-member : (b : Bool) (v : Verdict) (n : ℕ) → (n ≡ 0 → v ≡ Verdict.Member) → cond b 96 n ≡ 0 → cond b Verdict.Blank v ≡ Verdict.Member
blank-member true v n f e = absurd (Nat.suc-ne-zero 95 e)
blank-member false v n f e = f e

blank-only : (b : Bool) (v : Verdict) (n : ℕ) → n < 96 → cond b 96 n ≡ 96 → cond b Verdict.Blank v ≡ Verdict.Blank
blank-only true v n h e = refl
blank-only false v n h e = absurd (Nat.lt_irrefl 96 (rw e at h))

module _ (p : Parameters) (x : List ℕ) where
  page-number : verdict_number (page_verdict p x) ≡ page_number p x
  unfolding page_verdict page_number
  page-number = blank-number (blank p x) (verdict p (words_of p x)) (failing_number p (words_of p x)) (verdict-number p (words_of p x))

  page-values : verdict_values (page_verdict p x) ≡ page_values p x
  unfolding page_verdict page_values
  page-values = blank-values (blank p x) (verdict p (words_of p x)) (failing_values p (words_of p x)) (verdict-values p (words_of p x))

  page-member : page_number p x ≡ 0 → page_verdict p x ≡ Verdict.Member
  unfolding page_verdict page_number
  page-member = blank-member (blank p x) (verdict p (words_of p x)) (failing_number p (words_of p x)) (number-member p (words_of p x))

  -- ---- behind a refusal r
  unless-verdict : (r : ℕ) → r ≤ last_refusal → judgement_number (unless_refused r (page_verdict p x)) ≡ (r or_else page_number p x)
  unless-verdict zero h = page-number
  unless-verdict (suc r) h = numbered r (omega (arith, h))

  unless-values : (r : ℕ) → judgement_values (unless_refused r (page_verdict p x)) ≡ values_by r (page_values p x)
  unless-values zero = page-values
  unless-values (suc r) = refl

  unless-member : (r : ℕ) → (r or_else page_number p x) ≡ 0 → unless_refused r (page_verdict p x) ≡ Ok Verdict.Member
  unless-member zero e = ap Ok (page-member e)
  unless-member (suc r) e = absurd (Nat.suc-ne-zero r e)

  unless-blank : Accepted p → (r : ℕ) → r ≤ last_refusal → (r or_else page_number p x) ≡ 96 → unless_refused r (page_verdict p x) ≡ Ok Verdict.Blank
  unfolding page_verdict page_number
  unless-blank A zero h e =
      ap Ok (blank-only (blank p x) (verdict p (words_of p x)) (failing_number p (words_of p x)) (number-low p (words_of p x) A) e)
  unless-blank A (suc r) h e = absurd (Nat.not-suc-le-zero {n = 0} (omega arith))

  -- ---- judge
  judge-eq : judge_answer p x ≡ unless_refused (judge_refusal p x) (page_verdict p x)
  unfolding judge_answer
  judge-eq = refl

  number-eq : judge_number p x ≡ (judge_refusal p x or_else page_number p x)
  unfolding judge_number
  number-eq = refl

  values_eq : judge_values p x ≡ values_by (judge_refusal p x) (page_values p x)
  unfolding judge_values
  values_eq = refl

  pub judged : (r : Judgement) → r ≡ judge_answer p x → Judged p x r
  judged r e = record {
    answers = e;
    number = ap judgement_number (e ∙ judge-eq) ∙ unless-verdict (judge_refusal p x) (judge-le p x) ∙ sym number-eq;
    values = ap judgement_values (e ∙ judge-eq) ∙ unless-values (judge_refusal p x) ∙ sym values_eq;
    small = judge-le p x;
  }

  pub judged-refused : (e : Refusal) → refusal_number e ≡ judge_refusal p x → Judged p x (Err e)
  judged-refused e h = judged (Err e) (err-by (page_verdict p x) e (judge_refusal p x) h ∙ sym judge-eq)

  pub judged-done : (v : Verdict) → judge_refusal p x ≡ 0 → v ≡ page_verdict p x → Judged p x (Ok v)
  judged-done v z e = judged (Ok v) (ap Ok e ∙ sym (judge-eq ∙ ap (λ (k : ℕ). unless_refused k (page_verdict p x)) z))

  -- 0 is the number of members alone
  pub judged-zero : judge_number p x ≡ 0 → judge_answer p x ≡ Ok Verdict.Member
  judged-zero e = judge-eq ∙ unless-member (judge_refusal p x) (sym number-eq ∙ e)

  -- and 96 of blank pages
  pub judged-blanks : Accepted p → judge_number p x ≡ 96 → judge_answer p x ≡ Ok Verdict.Blank
  judged-blanks A e = judge-eq ∙ unless-blank A (judge_refusal p x) (judge-le p x) (sym number-eq ∙ e)

  -- ---- read out
  module _ (b : List ℕ) where
    read-eq : read_answer p x b ≡ unless_refused (read_refusal p x (length b)) (page_verdict p x)
    unfolding read_answer
    read-eq = refl

    read-number-eq : read_number p x b ≡ (read_refusal p x (length b) or_else page_number p x)
    unfolding read_number
    read-number-eq = refl

    read-values-eq : read_values p x b ≡ values_by (read_refusal p x (length b)) (page_values p x)
    unfolding read_values
    read-values-eq = refl

    leaves-eq : read_leaves p x b ≡ leaves (read_refusal p x (length b)) (data_of p x) b
    unfolding read_leaves
    leaves-eq = refl

    pub read : (r : Judgement) (y : List ℕ) → r ≡ read_answer p x b → y ≡ read_leaves p x b → ReadOut p x b y r
    read r y e f = record {
      answers = e;
      number = ap judgement_number (e ∙ read-eq) ∙ unless-verdict (read_refusal p x (length b)) (read-le p x (length b)) ∙ sym read-number-eq;
      values = ap judgement_values (e ∙ read-eq) ∙ unless-values (read_refusal p x (length b)) ∙ sym read-values-eq;
      small = read-le p x (length b);
      buffer = f;
    }

    pub read-refused : (e : Refusal) → refusal_number e ≡ read_refusal p x (length b) → ReadOut p x b b (Err e)
    read-refused e h =
        read (Err e) b (err-by (page_verdict p x) e (read_refusal p x (length b)) h ∙ sym read-eq)
        (sym (leaves-eq ∙ leaves-refused (read_refusal p x (length b)) (data_of p x) b (rw (sym h) (refusal-pos e))))

    pub read_done : (v : Verdict) (y : List ℕ) → read_refusal p x (length b) ≡ 0 → v ≡ page_verdict p x → y ≡ data_of p x
        → ReadOut p x b y (Ok v)
    read_done v y z e f =
        read (Ok v) y (ap Ok e ∙ sym (read-eq ∙ ap (λ (k : ℕ). unless_refused k (page_verdict p x)) z))
        (f ∙ sym (leaves-eq ∙ ap (λ (k : ℕ). leaves k (data_of p x) b) z))

    pub read-zero : read_number p x b ≡ 0 → read_answer p x b ≡ Ok Verdict.Member
    read-zero e = read-eq ∙ unless-member (read_refusal p x (length b)) (sym read-number-eq ∙ e)

    -- lent blocks of exact length, read out answers as judge does
    pub read-as-judge : BlocksBuffer p b → read_answer p x b ≡ judge_answer p x
    read-as-judge e = read-eq ∙ ap (λ (r : ℕ). unless_refused r (page_verdict p x)) (read-judge p x b e) ∙ sym judge-eq

-- ---- the C calls: the number of a promise met
pub outcome-number : (r : ℕ) → r ≤ last_refusal → answer_number (outcome r) ≡ r
outcome-number r h = unless-number tt r h

pub outcome-values : (r : ℕ) → outcome_values (outcome r) ≡ []
outcome-values zero = refl
outcome-values (suc r) = refl

-- a C call's promise is that of an outcome with its number
pub made_of : (refusal : ℕ) (result old after : List ℕ) (n : ℕ) → MadeC refusal result old after n
    → Made refusal result old after (outcome refusal)
made_of refusal result old after n m = record {
  answers = refl;
  number = outcome-number refusal m.small;
  values = outcome-values refusal;
  small = m.small;
  buffer = m.buffer;
}

-- ---- the nesting coefficient
nesting-values-by : (i l r : ℕ) → nesting_values (unless_refused r (N i l)) ≡ values_by r (N i l ∷ [])
nesting-values-by i l zero = refl
nesting-values-by i l (suc r) = refl

pub nesting-eq : (i l : ℕ) → nesting i l ≡ unless_refused (nesting_refusal i l) (N i l)
unfolding nesting
nesting-eq i l = refl

pub nesting-made : (i l : ℕ) (r : Result ℕ Refusal) → r ≡ nesting i l → NestingMade i l r
nesting-made i l r e =
    let b : nesting_refusal i l ≤ last_refusal = when-le 9 (ltb 7 i || ltb 7 l) (lit≤ tt) in
    record {
      answers = e;
      number = ap answer_number (e ∙ nesting-eq i l) ∙ unless-number (N i l) (nesting_refusal i l) b;
      values = ap nesting_values (e ∙ nesting-eq i l) ∙ nesting-values-by i l (nesting_refusal i l);
      small = b;
    }

-- ---- C's sizes
pub size-c : (p : Parameters) (size answer : ℕ) → (Accepted p → 0 < size) → answer ≡ size_unless (sheet_refusal p) size → SizeC p size answer
size-c p size answer h e = record { answers = e; refused = rw e (go (sheet_refusal p) h) }
  where
    go : (r : ℕ) → (r ≡ 0 → 0 < size) → (size_unless r size ≡ 0) ↔ (r ≢ 0)
    go zero f = ((λ z k. Nat.not-suc-le-zero (rw z at (f refl))), (λ k. absurd (k refl)))
    go (suc r) f = ((λ z k. Nat.suc-ne-zero r k), (λ k. refl))
