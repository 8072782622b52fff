-- The tested sheet: its refusal comes first, and accepted numbers are those that were given.
use Rattle.std.specs.Prelude.{Result, Ok, Err, ◌≡◌, not, List, ◌∷◌, ℕ, zero, suc, ◌<◌, length, replicate}
use Rattle.std.proofs.Math.Path.{refl}
use Rattle.std.proofs.Common.{sym, ap, ◌∙◌}
use Rattle.std.proofs.Math.Nat as Nat
use Rattle.code.specs.declared.Parameters.{Parameters}
use Rattle.code.specs.declared.Refusal.{Refusal}
use Rattle.code.specs.Answers.{refusal_number, unless_refused}
use Rattle.code.proofs.Chains.{or-first, or-none}
use Rattle.code.proofs.Answers.{refusal-pos, tested_eq}
use Rattle.code.specs.Layout.{blank, blocks_clear, data_bytes, page_bytes, page_of}
use Rattle.code.specs.Lists.{◌or_else◌, ◌when◌}
use Rattle.code.specs.Parameters.{Accepted, Tests, sheet_refusal}
use Rattle.code.specs.Refusals.{bad_width, not_exact, write_lengths, write_refusal}
use Rattle.code.specs.Writer.{Wrote, rest_given, lead, sheet_given}
use Rattle.writer.specs.Output.{wrote-refused}

-- ---- write's chain of refusals: the sheet's stands first
module _ (p : Parameters) (L : ℕ) (x : List ℕ) (n : ℕ) where
  abbrev later : ℕ
  later = 5 when bad_width L or_else 6 when not_exact (length x) (data_bytes p) or_else 7 when not_exact n (page_bytes p)

  abbrev pub last : ℕ
  last = 8 when not (blocks_clear p x) or_else 13 when blank p (page_of p x)

  pub write-chain : write_refusal p L x n ≡ ((sheet_refusal p or_else later) or_else last)
  unfolding write_refusal write_lengths
  write-chain = refl

  pub write-sheet : 0 < sheet_refusal p → write_refusal p L x n ≡ sheet_refusal p
  write-sheet h = let e = or-first (sheet_refusal p) later h in write-chain ∙ or-first (sheet_refusal p or_else later) last (rw e h) ∙ e

  pub write-accepted : write_refusal p L x n ≡ 0 → Accepted p
  write-accepted e = (or-none (sheet_refusal p) later (or-none (sheet_refusal p or_else later) last (sym write-chain ∙ e)).0).0

-- ---- the test's answer is a refusal, whose number is written
pub sheet-refused : (input : List ℕ) (p : Parameters) (e : Refusal) (k count : ℕ) (bytes : List ℕ)
    → p ≡ sheet_given input → Tests p (Err e) → k ≡ refusal_number e → count ≡ 1 → bytes ≡ k ∷ replicate 4096 0
    → Wrote input count bytes
sheet-refused input p d k count bytes e s f a b =
    let h : 0 < k = rw f (refusal-pos d) in
    let g : k ≡ sheet_refusal p = f ∙ s.number in
    wrote-refused input k count bytes
    (g ∙ sym (write-sheet p (lead input 3) (rest_given input) (page_bytes p) (rw (← g) h))
    ∙ ap (λ (q : Parameters). write_refusal q (lead input 3) (rest_given input) (page_bytes q)) e) h a b

-- ---- the test's answer is the sheet
module _ (p a : Parameters) (t : Tests p (Ok a)) where
  pub accepted-is : a ≡ p
  accepted-is = go (sheet_refusal p) (sym t.number) (t.answers ∙ tested_eq p)
    where
      go : (r : ℕ) → r ≡ 0 → ◌≡◌ {A = Result Parameters Refusal} (Ok a) (unless_refused r p) → a ≡ p
      go zero z e = cc
      go (suc r) z e = absurd (Nat.suc-ne-zero r z)

  pub accepted-sheet : Accepted a
  accepted-sheet = ap sheet_refusal accepted-is ∙ sym t.number
