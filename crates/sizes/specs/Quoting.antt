-- The quote, number by number.
--   Quoting p k l    the first k of the 12 numbers of l are those of the quote
use Rattle.std.specs.Prelude.{Ok, Err, ◌≡◌, refl, Bool, true, false, List, ℕ, ◌+◌, ◌-◌, ◌^◌, ◌≤◌, ◌<◌, leb, length, get_or, set}
use Rattle.std.proofs.Common.{sym, ap, ◌∙◌, arith, length-set, ext_get_or, leb-true, leb-false}
use Rattle.std.proofs.Math.Nat as Nat
use Rattle.code.specs.declared.Refusal.{Refusal}
use Rattle.code.specs.Answers.{refusal_number}
use Rattle.code.specs.declared.Parameters.{Parameters}
use Rattle.code.proofs.Accepted.{accepted}
use Rattle.code.proofs.Answers.{made-done, made-refused}
use Rattle.code.specs.Calls.{QuoteMade, quote}
use Rattle.code.specs.Layout.{data_bits}
use Rattle.code.specs.Parameters.{Accepted}
use Rattle.code.proofs.Placement.{first_more}
use Rattle.code.proofs.Quote.{quote-bits, quote-degree, quote-le, quote-length, quote-lt, quote-past-m, quote-past-v, quote-zero}
use Rattle.code.specs.Refusals.{quote_refusal}
use Rattle.layout.specs.Sizes.{Degrees}

pub record Quoting (p : Parameters) (k : ℕ) (l : List ℕ) : Type 0 where
  pub exact : length l ≡ 12
  pub first : (j : ℕ) → j < k → get_or l j 0 ≡ get_or (quote p) j 0

module _ (p : Parameters) where
  pub quoting-start : (l : List ℕ) → length l ≡ 12 → Quoting p 0 l
  quoting-start l e = record { exact = e; first = λ j h. absurd (Nat.not-suc-le-zero h) }

  pub quoting-next : (k x : ℕ) (l : List ℕ) → k < 12 → Quoting p k l → x ≡ get_or (quote p) k 0 → Quoting p (k + 1) (set l k x)
  quoting-next k x l h q e = record {
    exact = length-set l k x ∙ q.exact;
    first = first_more (λ j. get_or (quote p) j 0) k x l (omega (arith, q.exact)) q.first e;
  }

  pub quoting-done : (k : ℕ) (l : List ℕ) → 12 ≤ k → Quoting p k l → l ≡ quote p
  quoting-done k l h q =
      ext_get_or 0 l (quote p) (q.exact ∙ sym (quote-length p)) (λ j b. q.first j (Nat.lt_of_lt_of_le (rw q.exact at b) h))

  -- ---- number k, from the degrees and the data bits
  pub level-number : (w : List ℕ) (k : ℕ) → Degrees p w → k < 4 → get_or w k 0 ≡ get_or (quote p) k 0
  level-number w k D h = go (leb k p.v) refl
    where
      go : (b : Bool) → leb k p.v ≡ b → get_or w k 0 ≡ get_or (quote p) k 0
      go true e = let l : k ≤ p.v = leb-true k p.v e in D.at k l ∙ sym (quote-degree p k h l)
      go false e = let l : p.v < k = leb-false k p.v e in D.past k l ∙ sym (quote-past-v p k h l)

  pub level-fits : Accepted p → (w : List ℕ) (k : ℕ) → Degrees p w → k < 4 → get_or w k 0 < 2 ^ 16
  level-fits A w k D h = rw (level-number w k D h) (quote-lt p (accepted p A) k (omega arith))

  pub block-number : (k x : ℕ) → 4 ≤ k → k < 12 → k - 4 < p.m → x ≡ data_bits p (k - 4) → x ≡ get_or (quote p) k 0
  block-number k x l h m e =
      let s : 4 + (k - 4) ≡ k = omega arith in
      e ∙ sym (quote-bits p (k - 4) (omega arith) m) ∙ ap (λ (j : ℕ). get_or (quote p) j 0) s

  pub spare-number : (k : ℕ) → 4 ≤ k → k < 12 → p.m ≤ k - 4 → 0 ≡ get_or (quote p) k 0
  spare-number k l h m =
      let s : 4 + (k - 4) ≡ k = omega arith in
      sym (quote-past-m p (k - 4) (omega arith) m) ∙ ap (λ (j : ℕ). get_or (quote p) j 0) s

  -- ---- the promise
  pub quote-refused : (e : Refusal) (old : List ℕ) → refusal_number e ≡ quote_refusal 1 p (length old) → QuoteMade p old old (Err e)
  quote-refused e old h = made-refused (quote_refusal 1 p (length old)) e (quote p) old h (quote-le 1 p (length old))

  pub quote-done : (old after : List ℕ) → 0 ≡ quote_refusal 1 p (length old) → after ≡ quote p → QuoteMade p old after (Ok tt)
  quote-done old after e f = made-done (quote_refusal 1 p (length old)) (quote p) old after (sym e) f

  pub quote-accepted : (out : ℕ) → 0 ≡ quote_refusal 1 p out → Accepted p × (out ≡ 12)
  quote-accepted out e = quote-zero 1 p out (sym e)
