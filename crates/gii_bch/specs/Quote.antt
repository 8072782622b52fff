-- The quote as numbers and as bytes: numbers are 12, so that 10 is for the bytes alone.
use Rattle.std.specs.Prelude.{◌≡◌, List, ℕ, length}
use Rattle.std.proofs.Common.{sym, ap, ◌∙◌}
use Rattle.std.proofs.Math.Nat as Nat
use Rattle.code.specs.Answers.{Outcome, answer_number}
use Rattle.code.specs.declared.Parameters.{Parameters}
use Rattle.code.proofs.Answers.{leaves-refused}
use Rattle.code.specs.Calls.{QuoteMade, QuoteMadeC, as_bytes, leaves, quote}
use Rattle.code.specs.Parameters.{sheet_refusal}
use Rattle.code.proofs.Quote.{quote-exact, quote-le, quote-none, quote-sheet, quote-ten}
use Rattle.code.specs.Refusals.{quote_refusal}

-- the call on 12 numbers took xs to ys; n is its answer's number
module _ (p : Parameters) (xs ys : List ℕ) (o : Outcome) (n : ℕ) (l : length xs ≡ 12) (m : QuoteMade p xs ys o) (f : n ≡ answer_number o) where
  by-sheet : n ≡ sheet_refusal p
  by-sheet = f ∙ m.number ∙ quote-exact 1 p (length xs) l

  numbers-are : n ≡ 0 → ys ≡ quote p
  numbers-are z = m.buffer ∙ ap (λ (r : ℕ). leaves r (quote p) xs) (sym m.number ∙ sym f ∙ z)

  pub bytes-refused : (old : List ℕ) → (n ≡ 0 → ⊥) → QuoteMadeC p old old n
  bytes-refused old h =
      let e : n ≡ quote_refusal 2 p (length old) = quote-sheet 2 p (length old) n by-sheet h in
      record {
        answers = e;
        small = quote-le 2 p (length old);
        buffer = sym (leaves-refused (quote_refusal 2 p (length old)) (as_bytes (quote p)) old (Nat.pos_of_ne-zero (λ z. h (e ∙ z))));
      }

  pub bytes-ten : (old : List ℕ) → n ≡ 0 → (length old ≡ 24 → ⊥) → QuoteMadeC p old old 10
  bytes-ten old z h =
      let e : 10 ≡ quote_refusal 2 p (length old) = quote-ten 2 p (length old) (sym by-sheet ∙ z) h in
      record { answers = e; small = quote-le 2 p (length old); buffer = ap (λ (r : ℕ). leaves r (as_bytes (quote p)) old) e }

  pub bytes-done : (old after : List ℕ) → n ≡ 0 → length old ≡ 24 → after ≡ as_bytes ys → QuoteMadeC p old after 0
  bytes-done old after z h g =
      let e : quote_refusal 2 p (length old) ≡ 0 = quote-none 2 p (length old) (sym by-sheet ∙ z) h in
      record {
        answers = sym e;
        small = quote-le 2 p (length old);
        buffer = g ∙ ap as_bytes (numbers-are z) ∙ ap (λ (r : ℕ). leaves r (as_bytes (quote p)) old) (sym e);
      }
