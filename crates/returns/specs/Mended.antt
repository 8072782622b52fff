-- What is written of a page: one byte where it is refused, byte 0 and the mended page where it is not.
--   answer_of p x    of the page x
use Rattle.std.specs.Prelude.{Ok, Err, ◌≡◌, refl, ◌⊎◌, List, ◌∷◌, ◌++◌, ℕ, ◌+◌, ◌-◌, ◌≤◌, ◌<◌, length, take, drop, replicate}
use Rattle.std.proofs.Common.{sym, ap, ◌∙◌, inl, inr, arith}
use Rattle.std.proofs.Math.Nat as Nat
use Rattle.code.specs.declared.Refusal.{Refusal}
use Rattle.code.specs.Answers.{Outcome, answer_number, refusal_number}
use Rattle.code.specs.declared.Parameters.{Parameters}
use Rattle.code.specs.Calls.{PageMended, leaves, list_of}
use Rattle.code.proofs.Chains.{exact-of, or-none}
use Rattle.code.specs.Layout.{mended_page, page_bytes}
use Rattle.code.proofs.Mending.{mend-page-first}
use Rattle.code.specs.Parameters.{Accepted, sheet_refusal}
use Rattle.code.specs.Refusals.{mend_page_refusal, page_refusal}
use Rattle.code.proofs.Refused.{page-links}
use Rattle.code.specs.Writer.{Puts, Returned, mender, output_of, rest_given, sheet_given}
use Rattle.given.specs.Output.{output-done, puts-refused, room-filled}
use Rattle.code.proofs.Answers.{refusal-pos}
use Rattle.layout.specs.Sizes.{page-high}

abbrev pub answer_of : Parameters → List ℕ → List ℕ
answer_of p x = output_of (mend_page_refusal p x) (list_of (mended_page p x))

pub mender-eq : (input : List ℕ) → mender input ≡ answer_of (sheet_given input) (rest_given input)
unfolding mender
mender-eq input = refl

-- ---- the page behind byte 0, where it was copied to zeros
pub page-put : (x after zeros : List ℕ) → zeros ≡ replicate 4097 0 → after ≡ x
    → Puts (0 ∷ x) (1 + length x) (take 1 zeros ++ (after ++ drop (1 + length x - 1) (drop 1 zeros)))
page-put x after zeros z e =
    let m : 1 + length x - 1 ≡ length x = omega arith in
    record {
      counted = omega arith;
      output = ap (λ (t : List ℕ). take 1 zeros ++ (t ++ drop (1 + length x - 1) (drop 1 zeros))) e ∙ room-filled 4096 (1 + length x - 1) zeros x z m;
    }

module _ (input : List ℕ) (p : Parameters) (x : List ℕ) (e : p ≡ sheet_given input) (f : x ≡ rest_given input) where
  answer-is : mender input ≡ answer_of p x
  answer-is = mender-eq input ∙ sym (rw (e, f) refl)

  -- ---- a page that is not refused is one of accepted parameters, and has their length
  not-refused : mend_page_refusal p x ≡ 0 → page_refusal p x ≡ 0
  not-refused z = go (Nat.eq-zero-or-pos (page_refusal p x))
    where
      go : (page_refusal p x ≡ 0) ⊎ (0 < page_refusal p x) → page_refusal p x ≡ 0
      go (inl e) = e
      go (inr h) = mend-page-first p x (page_refusal p x) refl (λ e. absurd (Nat.not-suc-le-zero {n = 0} (omega (arith, e, h)))) ∙ z

  lengths : mend_page_refusal p x ≡ 0 → Accepted p × (length x ≡ page_bytes p)
  lengths z =
      let s = or-none (sheet_refusal p) _ (sym (page-links p x) ∙ not-refused z) in
      (s.0, exact-of 6 (length x) (page_bytes p) (or-none _ _ s.1).0)

  -- ---- the call's answer
  none_of : (after : List ℕ) (o : Outcome) → o ≡ Ok tt → PageMended p x after o → mend_page_refusal p x ≡ 0
  none_of after o d M = sym M.number ∙ ap answer_number d

  pub page-fits : (after : List ℕ) (o : Outcome) → o ≡ Ok tt → PageMended p x after o → length x ≤ 4096
  page-fits after o d M = let s = lengths (none_of after o d M) in omega (arith, s.1, page-high p s.0)

  pub page-done : (after : List ℕ) (o : Outcome) (count : ℕ) (bytes : List ℕ) → o ≡ Ok tt → PageMended p x after o → Puts (0 ∷ after) count bytes
      → Returned input count bytes
  page-done after o count bytes d M w =
      let z = none_of after o d M in
      let y : after ≡ list_of (mended_page p x) = M.buffer ∙ ap (λ (r : ℕ). leaves r (list_of (mended_page p x)) x) z in
      let same : mender input ≡ 0 ∷ after = output-done (mender input) (mend_page_refusal p x) (list_of (mended_page p x)) answer-is z ∙ ap (λ (t : List ℕ). 0 ∷ t) (sym y) in
      rw same w

  pub page-refused : (e : Refusal) (n count : ℕ) (after bytes : List ℕ) → PageMended p x after (Err e) → n ≡ refusal_number e → count ≡ 1
      → bytes ≡ n ∷ replicate 4096 0 → Returned input count bytes
  page-refused e n count after bytes M h =
      puts-refused (mender input) (mend_page_refusal p x) (list_of (mended_page p x)) answer-is n count bytes (h ∙ M.number) (rw h (refusal-pos e))
