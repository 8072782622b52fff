-- What lies beyond the first 4,093 bytes of an input never alters the output.
--   early p L    the refusal of blocks of a length that no accepted parameters have
use Rattle.std.specs.Prelude.{◌≡◌, refl, ◌⊎◌, Bool, true, false, not, List, [], ◌∷◌, ℕ, zero, suc, ◌+◌, ◌≤◌, ◌<◌, length, take}
use Rattle.std.proofs.Common.{sym, ap₂, ◌∙◌, inl, inr, arith, lit<, ne_eqb}
use Rattle.std.proofs.Math.Nat as Nat
use Rattle.code.specs.declared.Parameters.{Parameters}
use Rattle.code.proofs.Chains.{or-first}
use Rattle.code.proofs.Accepted.{accepted}
use Rattle.code.specs.Layout.{data_bytes, page_bytes}
use Rattle.code.specs.Lists.{◌or_else◌, ◌when◌}
use Rattle.code.specs.Parameters.{Accepted, sheet_refusal}
use Rattle.code.specs.Refusals.{bad_width, not_exact, write_refusal}
use Rattle.code.specs.Writer.{Wrote, lead, rest_given, sheet_given, strengths_given, writer}
use Rattle.given.specs.Input.{lead-taken, many-within, rest-length, sheet-taken, v-given}
use Rattle.given.specs.Output.{Answered, answered, beyond-by}
use Rattle.writer.specs.Longest.{longest}
use Rattle.writer.specs.Output.{refusal_of, writer-refused}
use Rattle.writer.specs.Sheet.{last, write-chain, write-sheet}

-- ---- blocks of a length that no accepted parameters have: refused with 6 at the latest
abbrev early : Parameters → ℕ → ℕ
early p L = sheet_refusal p or_else 5 when bad_width L or_else 6

early-pos : (p : Parameters) (L : ℕ) → 0 < early p L
early-pos p L = go (sheet_refusal p) (bad_width L)
  where
    go : (r : ℕ) (b : Bool) → 0 < (r or_else 5 when b or_else 6)
    go zero true = lit< tt
    go zero false = lit< tt
    go (suc r) b = omega arith

module _ (p : Parameters) (L : ℕ) (x : List ℕ) (n : ℕ) where
  early-is : (Accepted p → length x ≡ data_bytes p → ⊥) → write_refusal p L x n ≡ early p L
  early-is h = go (Nat.eq-zero-or-pos (sheet_refusal p))
    where
      links : (b c : Bool) (r : ℕ) → ((0 or_else 5 when b or_else 6 when not false or_else 7 when c) or_else r) ≡ (0 or_else 5 when b or_else 6)
      links true c r = refl
      links false c r = refl

      go : (sheet_refusal p ≡ 0) ⊎ (0 < sheet_refusal p) → write_refusal p L x n ≡ early p L
      go (inl A) =
          write-chain p L x n
          ∙ rw (A, ne_eqb (length x) (data_bytes p) (h A)) (links (bad_width L) (not_exact n (page_bytes p)) (last p L x n))
      go (inr k) = write-sheet p L x n k ∙ sym (or-first (sheet_refusal p) (5 when bad_width L or_else 6) k)

-- ---- an input of more than 4,092 bytes
module _ (input : List ℕ) (h : 4093 ≤ length input) where
  abbrev p : Parameters
  p = sheet_given input

  too_long : Accepted p → length (rest_given input) ≡ data_bytes p → ⊥
  too_long A e =
      let R = accepted p A in
      let m : p.v + 1 ≡ strengths_given input = many-within input p.v (v-given input) R.v_low R.v_high in
      absurd (Nat.not-suc-le-zero {n = 0} (omega (arith, rest-length input, longest p A)))

  refused-early : refusal_of input ≡ early p (lead input 3)
  refused-early = early-is p (lead input 3) (rest_given input) (page_bytes p) too_long

  writer-long : writer input ≡ early p (lead input 3) ∷ []
  writer-long = writer-refused input (early p (lead input 3)) (sym refused-early) (early-pos p (lead input 3))

-- ---- the first 4,093 bytes decide
pub beyond : (k : ℕ) (input : List ℕ) → 4093 ≤ k → writer (take k input) ≡ writer input
beyond k input h =
    beyond-by writer k input
    (λ l t. (let e : 8 ≤ k = omega arith in writer-long (take k input) (omega arith)
    ∙ ap₂ (λ (q : Parameters) (L : ℕ). early q L ∷ []) (sheet-taken k input e) (lead-taken k input e 3 (lit< tt)) ∙ sym (writer-long input (omega arith))))

pub beyond-read : (input : List ℕ) → writer (take 4093 input) ≡ writer input
beyond-read input = beyond 4093 input (Nat.le_refl 4093)

-- a room of which `got` bytes were read
pub owed : (room : List ℕ) (got count : ℕ) (bytes : List ℕ) → 4093 ≤ length room → Wrote (take got room) count bytes
    → Answered writer room got count bytes
owed room got count bytes h w = answered writer room got count bytes (λ input. beyond (length room) input h) w
