-- The numbers of outcomes and verdicts, and the promises of the calls by them.
use Rattle.std.specs.Prelude.{◌≡◌, refl, Bool, true, false, cond, List, ℕ, zero, suc, ◌≤◌, ◌<◌, length}
use Rattle.std.proofs.Common.{◌∙◌, arith, lit<}
use Rattle.code.specs.Answers.{Judgement, Outcome, answer_number}
use Rattle.code.specs.declared.Parameters.{Parameters}
use Rattle.code.proofs.Answers.{number-low}
use Rattle.code.specs.Calls.{Judged, JudgedC, Made, MadeC, ReadOut, ReadOutC, judge_number, page_number, read_number, judgement_number}
use Rattle.code.specs.Code.{failing_number}
use Rattle.code.specs.Layout.{blank, words_of}
use Rattle.code.specs.Lists.{◌or_else◌, last_refusal}
use Rattle.code.specs.Parameters.{Accepted}
use Rattle.code.specs.Refusals.{judge_refusal, read_refusal}
use Rattle.code.proofs.Refused.{judge-le, read-le}
use Rattle.refusal.specs.Judging.{judge-accepted}
use Rattle.refusal.specs.Reading.{read-accepted}

-- ---- the number of an outcome
pub made-number : (k : ℕ) (result old after : List ℕ) (r : Outcome) (n : ℕ) → Made k result old after r → n ≡ answer_number r
    → MadeC k result old after n
made-number k result old after r n o e = record { answers = e ∙ o.number; small = o.small; buffer = o.buffer }

-- ---- a verdict's number is below 128
blank-low : (b : Bool) (n : ℕ) → n < 96 → cond b 96 n < 128
blank-low true n h = lit< tt
blank-low false n h = omega arith

page-low : (p : Parameters) → Accepted p → (x : List ℕ) → page_number p x < 128
unfolding page_number
page-low p A x = blank-low (blank p x) (failing_number p (words_of p x)) (number-low p (words_of p x) A)

answer-low : (r n : ℕ) → r ≤ last_refusal → (r ≡ 0 → n < 128) → (r or_else n) < 128
answer-low zero n h k = k refl
answer-low (suc r) n h k = omega arith

module _ (p : Parameters) (x : List ℕ) where
  judge-low : judge_number p x < 128
  unfolding judge_number
  judge-low =
      answer-low (judge_refusal p x) (page_number p x) (judge-le p x) (λ z. page-low p (judge-accepted p x z) x)

  pub judged-low : (r : Judgement) → Judged p x r → judgement_number r < 128
  judged-low r j = rw j.number judge-low

  pub judged-number : (r : Judgement) (n : ℕ) → Judged p x r → n ≡ judgement_number r → JudgedC p x n
  judged-number r n j e = record { answers = e ∙ j.number; small = j.small }

  module _ (b : List ℕ) where
    read_low : read_number p x b < 128
    unfolding read_number
    read_low =
        answer-low (read_refusal p x (length b)) (page_number p x) (read-le p x (length b)) (λ z. page-low p (read-accepted p x (length b) z) x)

    pub read-out-low : (after : List ℕ) (r : Judgement) → ReadOut p x b after r → judgement_number r < 128
    read-out-low after r o = rw o.number read_low

    pub read-out-number : (after : List ℕ) (r : Judgement) (n : ℕ) → ReadOut p x b after r → n ≡ judgement_number r → ReadOutC p x b after n
    read-out-number after r n o e = record { answers = e ∙ o.number; small = o.small; buffer = o.buffer }
