-- The chain of alter: what its tests show, link by link, and what its end shows.
--   bit_refusal p x i r b    the chain as far as it looks at what is lent: 13 is of the page afterwards
use Rattle.std.specs.Prelude.{Ok, Err, ◌≡◌, refl, true, false, not, List, ℕ, ◌≤◌, ◌<◌, leb, length}
use Rattle.std.proofs.Common.{sym, ap, ◌∙◌, le-leb, leb-true, le-ltb, ltb-false}
use Rattle.std.proofs.lemmas.Bool.{lt-leb, not-true, not-false}
use Rattle.code.specs.declared.Refusal.{Refusal}
use Rattle.code.specs.Answers.{refusal_number}
use Rattle.code.specs.declared.Parameters.{Parameters}
use Rattle.code.specs.Alter.{Alterable}
use Rattle.code.proofs.Alter.{alter-le, alter-left, alter-links, bit_is}
use Rattle.code.proofs.Answers.{made-done, made-refused, refusal-ne}
use Rattle.code.specs.Calls.{Altered}
use Rattle.code.proofs.Chains.{first_of, last, off', on, or_assoc, or-none, or-second}
use Rattle.code.specs.Layout.{altered, blank, data_bits, page_bytes, page_clear}
use Rattle.code.specs.Lists.{◌or_else◌, ◌when◌}
use Rattle.code.specs.Parameters.{Accepted, sheet_refusal}
use Rattle.code.specs.Refusals.{alter_refusal, no_bit, not_exact, page_refusal}
use Rattle.code.proofs.Refused.{page-links}
use Rattle.refusal.specs.Judging.{page-sheet, page-zero}
use Rattle.refusal.specs.Tests.{same}

abbrev pub bit_refusal : Parameters → List ℕ → ℕ → ℕ → ℕ → ℕ
bit_refusal p x i r b = page_refusal p x or_else 9 when no_bit p i r b

-- ---- the test of the bit
module _ (p : Parameters) (i r b : ℕ) where
  pub no_block : p.m ≤ i → false ≡ not (no_bit p i r b)
  no_block h = simp (le-leb p.m i h)

  pub no_place : i < p.m → data_bits p i ≤ r → false ≡ not (no_bit p i r b)
  no_place l h = simp (lt-leb p.m i l, le-leb (data_bits p i) r h)

  pub value-bit : i < p.m → r < data_bits p i → leb b 1 ≡ not (no_bit p i r b)
  value-bit l h =
      sym (simp (lt-leb p.m i l, lt-leb (data_bits p i) r h)
      (same _ _ (λ t. le-leb b 1 (ltb-false 1 b (not-true _ t))) (λ t. rw (le-ltb 1 b (leb-true b 1 t)) refl)))

module _ (p : Parameters) (x : List ℕ) (i r b : ℕ) where
  -- ---- the links
  pub bit-page : (k : ℕ) → k ≡ page_refusal p x → (k ≡ 0 → ⊥) → k ≡ bit_refusal p x i r b
  bit-page k e h = first_of k (page_refusal p x) (9 when no_bit p i r b) e h

  module _ (e : page_refusal p x ≡ 0) where
    behind : bit_refusal p x i r b ≡ (9 when no_bit p i r b)
    behind = or-second (page_refusal p x) (9 when no_bit p i r b) e

    pub bit-nine : false ≡ not (no_bit p i r b) → 9 ≡ bit_refusal p x i r b
    bit-nine f = sym (behind ∙ simp (not-false (no_bit p i r b) (sym f)))

    pub bit-none : true ≡ not (no_bit p i r b) → 0 ≡ bit_refusal p x i r b
    bit-none f = sym (behind ∙ simp (not-true (no_bit p i r b) (sym f)))

  -- ---- the promise of a call that is refused, by its sheet or by what is lent
  alter-eq : alter_refusal p x i r b ≡ (bit_refusal p x i r b or_else 13 when blank p (altered p x i r b))
  alter-eq =
      alter-links p x i r b
      ∙ sym (ap (λ (k : ℕ). (k or_else 9 when no_bit p i r b) or_else 13 when blank p (altered p x i r b)) (page-links p x)
      ∙ or_assoc (sheet_refusal p or_else page-7 or_else clear-8) (9 when no_bit p i r b) (13 when blank p (altered p x i r b))
      ∙ or_assoc (sheet_refusal p) (page-7 or_else clear-8) (9 when no_bit p i r b or_else 13 when blank p (altered p x i r b))
      ∙ ap (λ (k : ℕ). sheet_refusal p or_else k) (or_assoc page-7 clear-8 (9 when no_bit p i r b or_else 13 when blank p (altered p x i r b))))
    where
      page-7 : ℕ
      page-7 = 7 when not_exact (length x) (page_bytes p)

      clear-8 : ℕ
      clear-8 = 8 when not (page_clear p x)

  pub alter-refused : (e : Refusal) → refusal_number e ≡ alter_refusal p x i r b → Altered p x i r b x (Err e)
  alter-refused e h = made-refused (alter_refusal p x i r b) e (altered p x i r b) x h (alter-le p x i r b)

  pub bit-refused : (e : Refusal) → refusal_number e ≡ bit_refusal p x i r b → Altered p x i r b x (Err e)
  bit-refused e h =
      alter-refused e (first_of (refusal_number e) (bit_refusal p x i r b) (13 when blank p (altered p x i r b)) h (refusal-ne e) ∙ sym alter-eq)

  pub sheet-refused : (e : Refusal) → refusal_number e ≡ sheet_refusal p → Altered p x i r b x (Err e)
  sheet-refused e h =
      let n = refusal-ne e in
      bit-refused e (bit-page (refusal_number e) (page-sheet p x (refusal_number e) h n) n)

  -- ---- what the end of the chain shows, and the promises met
  pub alterable : bit_refusal p x i r b ≡ 0 → Alterable p x i r b
  alterable z =
      let a = or-none (page_refusal p x) (9 when no_bit p i r b) z in
      let c = page-zero p x a.0 in
      let n = bit_is p x i r b (last 8 (no_bit p i r b) a.1) in
      record { exact = c.exact; clear = c.clear; block = n.0; bit = n.1; value = n.2 }

  module _ (A : Accepted p) (s : Alterable p x i r b) where
    pub would-blank : true ≡ blank p (altered p x i r b) → Altered p x i r b x (Err Refusal.Blank)
    would-blank e =
        alter-refused Refusal.Blank (sym (alter-left p x i r b A s ∙ on 13 (blank p (altered p x i r b)) (rw (← e) tt)))

    pub alter-done : (after : List ℕ) → false ≡ blank p (altered p x i r b) → after ≡ altered p x i r b → Altered p x i r b after (Ok tt)
    alter-done after e f =
        made-done (alter_refusal p x i r b) (altered p x i r b) x after
        (alter-left p x i r b A s ∙ off' 13 (blank p (altered p x i r b)) (rw (← e) tt)) f
