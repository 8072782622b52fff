-- The rows of a sheet's generators, level by level.
use Rattle.std.specs.Prelude.{Result, Ok, Err, ◌≡◌, refl, List, [], ◌∷◌, map, ℕ, zero, suc, ◌≤◌, ◌<◌, length, get_or, replicate}
use Rattle.std.proofs.Common.{sym, ap, ◌∙◌, arith, le-leb}
use Rattle.std.proofs.Math.Nat as Nat
use Rattle.std.proofs.lemmas.List.{get_or-replicate}
use Rattle.std.proofs.lemmas.Bool.{lt-leb}
use Rattle.polynomial.specs.Digits.{length_digits}
use Rattle.field.specs.Fields.{field_of}
use Rattle.generator.specs.Generator.{generator}
use Rattle.code.proofs.Answers.{tested_eq}
use Rattle.code.proofs.Buffers.{range-four, rows_eq}
use Rattle.code.specs.declared.Parameters.{Parameters}
use Rattle.code.specs.declared.Refusal.{Refusal}
use Rattle.code.specs.Answers.{unless_refused}
use Rattle.code.proofs.Accepted.{accepted}
use Rattle.code.specs.Calls.{generator_row, generators, rows_by}
use Rattle.code.specs.Lists.{range}
use Rattle.code.specs.Parameters.{Accepted, strength, sheet_refusal, Tests}
use Rattle.code.proofs.Steps.{gen-eq}
use Rattle.element.specs.declared.Field.{Field}
use Rattle.element.specs.Fields.{field_at}
use Rattle.generator_rows.specs.Rows.{row, row_zero}
use Rattle.generator_rows.specs.Within.{q-is}

module _ (p : Parameters) (A : Accepted p) where
  pub v-pos : 1 ≤ p.v
  v-pos = (accepted p A).v_low

  -- ---- level by level, f being the field of q
  module _ (f : Field) (e : f ≡ field_at p.q) (a : ℕ) (h : a ≤ p.v) where
    pub level-row : (r : List ℕ) → r ≡ row (generator (field_of f.q) (strength p a)) → r ≡ generator_row p a
    level-row r g = g ∙ ap row (ap (λ (q : ℕ). generator (field_of q) (strength p a)) (q-is p A f e a h) ∙ sym (gen-eq p a)) ∙ simp (le-leb a p.v h)

  -- rows past v are 0
  pub row-past : (a : ℕ) → p.v < a → replicate 13 0 ≡ generator_row p a
  row-past a h = sym row_zero ∙ simp (lt-leb a p.v h)

  pub rows_are : (r0 r1 r2 r3 : List ℕ) → r0 ≡ generator_row p 0 → r1 ≡ generator_row p 1 → r2 ≡ generator_row p 2 → r3 ≡ generator_row p 3
      → r0 ∷ r1 ∷ r2 ∷ r3 ∷ [] ≡ generators p
  rows_are r0 r1 r2 r3 e0 e1 e2 e3 = rw (e0, e1, e2, e3) (sym (rows_eq p ∙ rw (A, range-four) refl))

-- ---- any parameters, by what their test answers
pub rows-refused : (p : Parameters) (e : Refusal) → Tests p (Err e) → replicate 4 (replicate 13 0) ≡ generators p
rows-refused p k t = sym (rows_eq p ∙ go (sheet_refusal p) (t.answers ∙ tested_eq p))
  where
    go : (r : ℕ) → ◌≡◌ {A = Result Parameters Refusal} (Err k) (unless_refused r p) → rows_by r (map (generator_row p) (range 0 4)) ≡ replicate 4 (replicate 13 0)
    go zero e = let z : ◌≡◌ {A = ℕ} 0 1 = cc in absurd (omega arith)
    go (suc r) e = refl

-- ---- each row has 13 words
pub row-length : (p : Parameters) (a : ℕ) → a < 4 → length (get_or (generators p) a []) ≡ 13
row-length p a h = ap (λ (l : List (List ℕ)). length (get_or l a [])) (rows_eq p) ∙ go (sheet_refusal p) a h
  where
    go : (r a : ℕ) → a < 4 → length (get_or (rows_by r (map (generator_row p) (range 0 4))) a []) ≡ 13
    go zero zero h = rw range-four (length_digits 64 13 _)
    go zero (suc zero) h = rw range-four (length_digits 64 13 _)
    go zero (suc (suc zero)) h = rw range-four (length_digits 64 13 _)
    go zero (suc (suc (suc zero))) h = rw range-four (length_digits 64 13 _)
    go zero (suc (suc (suc (suc a)))) h = absurd (Nat.not-suc-le-zero {n = 0} (omega arith))
    go (suc r) a h = ap length (get_or-replicate 4 a (replicate 13 0) [] h)
