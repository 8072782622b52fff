-- What judge and read out answer of a page of exact length: blank, stray, or the verdict on its words.
use Rattle.std.specs.Prelude.{◌≡◌, true, false, Ok, Err, List, ℕ, T, length}
use Rattle.std.proofs.Math.Path.{refl}
use Rattle.std.proofs.Common.{sym, ap, ◌∙◌}
use Rattle.code.specs.declared.Parameters.{Parameters}
use Rattle.code.specs.declared.Refusal.{Refusal}
use Rattle.code.specs.declared.Verdict.{Verdict}
use Rattle.code.specs.Answers.{Judgement, unless_refused}
use Rattle.code.proofs.Answers.{err-pos, judged-done, judged-refused, leaves-refused, ok-inj, ok-zero, read, read-as-judge, read_done}
use Rattle.code.specs.Calls.{Judged, ReadOut, judge_answer, leaves, page_verdict, read_leaves}
use Rattle.code.proofs.Chains.{left}
use Rattle.code.specs.Code.{verdict}
use Rattle.code.specs.Layout.{blank, data_of, page_bytes, page_clear, words_of}
use Rattle.code.specs.Parameters.{Accepted}
use Rattle.code.specs.Refusals.{judge_refusal}
use Rattle.code.specs.Refused.{BlocksBuffer}
use Rattle.code.proofs.Refused.{blank-judgeable, judge-none, read-judge, verdict-blank, verdict-else}
use Rattle.refusal.specs.Judging.{judge-stray}

module _ (p : Parameters) (x : List ℕ) (A : Accepted p) (e : length x ≡ page_bytes p) where
  pub exact-blank : true ≡ blank p x → Judged p x (Ok Verdict.Blank)
  exact-blank b =
      let t : T (blank p x) = rw (← b) tt in
      judged-done p x Verdict.Blank (judge-none p A x (blank-judgeable p x e t)) (sym (verdict-blank p x t))

  module _ (b : false ≡ blank p x) where
    pub exact-stray : false ≡ page_clear p x → Judged p x (Err Refusal.Stray)
    exact-stray c = judged-refused p x Refusal.Stray (judge-stray p x A e b c)

    pub exact-else : (r : Verdict) → true ≡ page_clear p x → r ≡ verdict p (words_of p x) → Judged p x (Ok r)
    exact-else r c v =
        judged-done p x r (judge-none p A x (record { exact = e; passes = left (page_clear p x) (blank p x) (rw (← c) tt) }))
        (v ∙ sym (verdict-else p x (rw (← b) tt)))

-- ---- read out, with a buffer b of exact length, by judge's answer: nothing where that is a refusal, else the blocks
module _ (p : Parameters) (x b : List ℕ) (e : BlocksBuffer p b) where
  answer-eq : judge_answer p x ≡ unless_refused (judge_refusal p x) (page_verdict p x)
  unfolding judge_answer
  answer-eq = refl

  leaves-eq : read_leaves p x b ≡ leaves (judge_refusal p x) (data_of p x) b
  unfolding read_leaves
  leaves-eq = ap (λ (k : ℕ). leaves k (data_of p x) b) (read-judge p x b e)

  pub read_kept : (d : Refusal) → Judged p x (Err d) → ReadOut p x b b (Err d)
  read_kept d J =
      let h = err-pos (page_verdict p x) d (judge_refusal p x) (J.answers ∙ answer-eq) in
      read p x b (Err d) b (J.answers ∙ sym (read-as-judge p x b e)) (sym (leaves-eq ∙ leaves-refused (judge_refusal p x) (data_of p x) b h))

  pub read-given : (v : Verdict) (y : List ℕ) → Judged p x (Ok v) → y ≡ data_of p x → ReadOut p x b y (Ok v)
  read-given v y J f =
      let z = ok-zero v (page_verdict p x) (judge_refusal p x) (J.answers ∙ answer-eq) in
      let s : ◌≡◌ {A = Judgement} (Ok v) (Ok (page_verdict p x)) = J.answers ∙ answer-eq ∙ ap (λ (k : ℕ). unless_refused k (page_verdict p x)) z in
      read_done p x b v y (read-judge p x b e ∙ z) (ok-inj v (page_verdict p x) s) f
