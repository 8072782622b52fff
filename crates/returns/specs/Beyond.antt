-- The longest accepted input has 4,104 bytes: 4, the v + 1 strengths and the page. What lies beyond the first 4,105 bytes of an input never
-- alters the output.
--   early p      the refusal of a page of a length that no accepted parameters have
--   largest      a sheet whose input has 4,104 bytes
use Rattle.std.specs.Prelude.{◌≡◌, refl, ◌⊎◌, not, List, [], ◌∷◌, ℕ, zero, suc, ◌+◌, ◌≤◌, ◌<◌, length, take}
use Rattle.std.proofs.Common.{sym, ap, ◌∙◌, inl, inr, arith, lit<, ne_eqb}
use Rattle.std.proofs.Math.Nat as Nat
use Rattle.code.specs.declared.Parameters.{Parameters}
use Rattle.code.proofs.Accepted.{accepted}
use Rattle.code.specs.Calls.{list_of}
use Rattle.code.proofs.Chains.{or-first}
use Rattle.code.specs.Layout.{mended_page, page_bytes, page_clear}
use Rattle.code.specs.Lists.{◌or_else◌, ◌when◌}
use Rattle.code.proofs.Mending.{mend-page-first}
use Rattle.code.specs.Parameters.{Accepted, sheet_refusal}
use Rattle.code.specs.Refusals.{mend_page_refusal, not_exact}
use Rattle.code.proofs.Refused.{page-links}
use Rattle.code.specs.Writer.{Returned, mender, rest_given, sheet_given}
use Rattle.given.specs.Input.{many-most, rest-length, sheet-taken}
use Rattle.given.specs.Output.{Answered, answered, beyond-by, output-refused}
use Rattle.layout.specs.Sizes.{page-high}
use Rattle.returns.specs.Mended.{mender-eq}

-- ---- the longest accepted input
pub longest : (p : Parameters) → Accepted p → 4 + (p.v + 1) + page_bytes p ≤ 4104
longest p A = omega (arith, (accepted p A).v_high, page-high p A)

abbrev pub largest : Parameters
largest = record { q = 12; m = 8; v = 3; t0 = 1; t1 = 2; t2 = 2; t3 = 2; s = 0 }

pub largest-accepted : Accepted largest
unfolding sheet_refusal
largest-accepted = refl

pub longest-reached : 4 + (largest.v + 1) + page_bytes largest ≡ 4104
longest-reached = refl

-- ---- a page of a length that no accepted parameters have: refused with 7 at the latest
abbrev early : Parameters → ℕ
early p = sheet_refusal p or_else 7

early-pos : (p : Parameters) → 0 < early p
early-pos p = go (sheet_refusal p)
  where
    go : (r : ℕ) → 0 < (r or_else 7)
    go zero = lit< tt
    go (suc r) = omega arith

early-is : (p : Parameters) (x : List ℕ) → (Accepted p → length x ≡ page_bytes p → ⊥) → early p ≡ mend_page_refusal p x
early-is p x h = mend-page-first p x (early p) (go (Nat.eq-zero-or-pos (sheet_refusal p)) ∙ sym (page-links p x)) (λ z. absurd (omega (arith, z, early-pos p)))
  where
    go : (sheet_refusal p ≡ 0) ⊎ (0 < sheet_refusal p)
        → early p ≡ (sheet_refusal p or_else 7 when not_exact (length x) (page_bytes p) or_else 8 when not (page_clear p x))
    go (inl A) = rw (A, ne_eqb (length x) (page_bytes p) (h A)) refl
    go (inr k) = or-first (sheet_refusal p) 7 k ∙ sym (or-first (sheet_refusal p) _ k)

-- ---- an input of more than 4,104 bytes
module _ (input : List ℕ) (h : 4105 ≤ length input) where
  too_long : Accepted (sheet_given input) → length (rest_given input) ≡ page_bytes (sheet_given input) → ⊥
  too_long A e = absurd (Nat.not-suc-le-zero {n = 0} (omega (arith, rest-length input, many-most input, page-high (sheet_given input) A)))

  mender-long : mender input ≡ early (sheet_given input) ∷ []
  mender-long =
      output-refused (mender input) (mend_page_refusal (sheet_given input) (rest_given input)) (list_of (mended_page (sheet_given input) (rest_given input)))
      (mender-eq input) (early (sheet_given input)) (early-is (sheet_given input) (rest_given input) too_long) (early-pos (sheet_given input))

-- ---- the first 4,105 bytes decide
pub beyond : (k : ℕ) (input : List ℕ) → 4105 ≤ k → mender (take k input) ≡ mender input
beyond k input h =
    beyond-by mender k input
    (λ l t. (let e : 8 ≤ k = omega arith in mender-long (take k input) (omega arith) ∙ ap (λ (q : Parameters). early q ∷ []) (sheet-taken k input e)
    ∙ sym (mender-long input (omega arith))))

pub beyond-read : (input : List ℕ) → mender (take 4105 input) ≡ mender input
beyond-read input = beyond 4105 input (Nat.le_refl 4105)

-- a room of which `got` bytes were read
pub owed : (room : List ℕ) (got count : ℕ) (bytes : List ℕ) → 4105 ≤ length room → Returned (take got room) count bytes
    → Answered mender room got count bytes
owed room got count bytes h w = answered mender room got count bytes (λ input. beyond (length room) input h) w
