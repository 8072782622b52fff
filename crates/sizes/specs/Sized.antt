-- A size as an answer: the number, or the refusal.
--   size_values r     the values of an answer
--   Sized k x r      what a call promises: r is the size x, or the refusal k
use Rattle.std.specs.Prelude.{◌≡◌, refl, Result, Ok, Err, List, [], ◌∷◌, ℕ, zero, suc, ◌≤◌, ◌<◌}
use Rattle.std.proofs.Common.{zero-le}
use Rattle.std.proofs.Math.Nat as Nat
use Rattle.code.specs.declared.Parameters.{Parameters}
use Rattle.code.specs.declared.Refusal.{Refusal}
use Rattle.code.proofs.Answers.{err-by, refusal-pos}
use Rattle.code.specs.Answers.{answer_number, refusal_number, unless_refused}
use Rattle.code.specs.Lists.{last_refusal, values_by}
use Rattle.code.specs.Parameters.{sheet_refusal}
use Rattle.code.proofs.Refused.{sheet-le}

abbrev pub size_values : Result ℕ Refusal → List ℕ
size_values (Ok x) = x ∷ []
size_values (Err e) = []

pub record Sized (refusal size : ℕ) (r : Result ℕ Refusal) : Type 0 where
  pub answers : r ≡ unless_refused refusal size
  pub number : answer_number r ≡ refusal
  pub values : size_values r ≡ values_by refusal (size ∷ [])
  pub small : refusal ≤ last_refusal

pub sized-refused : (refusal size : ℕ) (e : Refusal) → refusal_number e ≡ refusal → refusal ≤ last_refusal → Sized refusal size (Err e)
sized-refused refusal size e h b = record {
  answers = err-by size e refusal h;
  number = h;
  values = go refusal (rw (← h) (refusal-pos e));
  small = b;
}
  where
    go : (k : ℕ) → 0 < k → [] ≡ values_by k (size ∷ [])
    go zero l = absurd (Nat.not-suc-le-zero l)
    go (suc k) l = refl

is-by : (x : ℕ) → Sized 0 x (Ok x)
is-by x = record { answers = refl; number = refl; values = refl; small = zero-le }

pub sized-is : (refusal size x : ℕ) → refusal ≡ 0 → x ≡ size → Sized refusal size (Ok x)
sized-is refusal size x z e = rw (z, ← e) (is-by x)

-- ---- where the sheet is refused
pub sheet-refused : (p : Parameters) (size : ℕ) (e : Refusal) → refusal_number e ≡ sheet_refusal p → Sized (sheet_refusal p) size (Err e)
sheet-refused p size e h = sized-refused (sheet_refusal p) size e h (sheet-le p)
