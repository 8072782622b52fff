-- The output's bytes where write was lent those from 1 on, as many as the page has.
--   Asked input p L at k zeros    what the program holds where it asks write
use Rattle.std.specs.Prelude.{Ok, Err, ◌≡◌, refl, List, ◌∷◌, ◌++◌, ℕ, ◌+◌, ◌-◌, ◌≤◌, length, take, drop, replicate}
use Rattle.std.proofs.Common.{sym, ap, ◌∙◌, arith}
use Rattle.code.specs.declared.Refusal.{Refusal}
use Rattle.code.specs.Answers.{refusal_number}
use Rattle.code.specs.declared.Parameters.{Parameters}
use Rattle.code.specs.Calls.{Written, leaves}
use Rattle.code.specs.Layout.{page_bytes, page_of}
use Rattle.code.specs.Refusals.{write_refusal}
use Rattle.code.specs.Writer.{Wrote, lead, rest_given, sheet_given, writer}
use Rattle.given.specs.Input.{Begins, rest-lent}
use Rattle.given.specs.Output.{puts-done, room-filled, room-length}
use Rattle.code.proofs.Answers.{refusal-pos}
use Rattle.writer.specs.Output.{page_given, refusal_of, writer-eq, wrote-refused}

-- ---- write's answer
pub record Asked (input : List ℕ) (p : Parameters) (L at k : ℕ) (zeros : List ℕ) : Type 0 where
  pub sheet : p ≡ sheet_given input
  pub width : L ≡ lead input 3
  pub begins : Begins input at
  pub page : k ≡ page_bytes p
  pub most : k ≤ 4096
  pub clear : zeros ≡ replicate 4097 0

module _ (input : List ℕ) (p : Parameters) (L at k : ℕ) (zeros : List ℕ) (a : Asked input p L at k zeros) where
  -- the blocks and the page's room, as the program lends them
  abbrev given : List ℕ
  given = take (length input - at) (drop at input)

  abbrev lent : List ℕ
  lent = take (1 + k - 1) (drop 1 zeros)

  size : 1 + k - 1 ≡ k
  size = omega arith

  given_is : given ≡ rest_given input
  given_is = rest-lent input at a.begins

  lent_length : length lent ≡ page_bytes (sheet_given input)
  lent_length =
      ap (λ (i : ℕ). length (take i (drop 1 zeros))) size ∙ room-length 4096 k zeros a.clear a.most ∙ a.page
      ∙ ap page_bytes a.sheet

  refusal_is : write_refusal p L given (length lent) ≡ refusal_of input
  refusal_is = rw (given_is, lent_length, a.width, a.sheet) refl

  pub page-refused : (e : Refusal) (n count : ℕ) (after bytes : List ℕ) → Written p L given lent after (Err e) → n ≡ refusal_number e → count ≡ 1
      → bytes ≡ n ∷ replicate 4096 0 → Wrote input count bytes
  page-refused e n count after bytes w h f g =
      wrote-refused input n count bytes (h ∙ w.number ∙ refusal_is) (rw h (refusal-pos e)) f g

  pub page-done : (after : List ℕ) → Written p L given lent after (Ok tt) → length after ≡ length lent
      → Wrote input (1 + k) (take 1 zeros ++ (after ++ drop (1 + k - 1) (drop 1 zeros)))
  page-done after w l =
      let z : 0 ≡ write_refusal p L given (length lent) = w.number in
      let x : after ≡ page_of p given = w.buffer ∙ ap (λ (r : ℕ). leaves r (page_of p given) lent) (sym z) in
      let y : after ≡ page_given input = x ∙ rw (given_is, a.sheet) refl in
      let m : length after ≡ 1 + k - 1 = l ∙ lent_length ∙ ap page_bytes (sym a.sheet) ∙ sym a.page ∙ sym size in
      let full : take 1 zeros ++ (after ++ drop (1 + k - 1) (drop 1 zeros)) ≡ (0 ∷ after) ++ replicate (4097 - length (0 ∷ after)) 0 =
      room-filled 4096 (1 + k - 1) zeros after a.clear (sym m) in
      puts-done (writer input) (refusal_of input) (page_given input) (writer-eq input) (1 + k) _ (sym refusal_is ∙ sym z) (omega (arith, ap length y))
      (full ∙ ap (λ (t : List ℕ). (0 ∷ t) ++ replicate (4097 - length (0 ∷ t)) 0) y)
