-- The parameters of a code (the requirement: the sheet) and the rules on its numbers.
--   sheet q m v ..    the parameters by their eight numbers, as C gives them
--   len p             n = 2^q - 1, the cyclic length: the places of a nested word, x^n = 1
--   stored p          n - s: how many coefficients of a sub-word are stored, from x^0 on; the top s are 0 (a shortened code)
--   sub_word_bytes p    the bytes of a sub-word in a page
--   nested_bytes p     the bytes of a nested word
--   full p            the count at which a register is full
--   strength p a      t_a, the strength of level a; degree p a is the degree w_a of its generator (Code: gen)
--   unshortened p     the same sheet at s = 0
--   sheet_refusal p    the refusal of the parameters, 1 to 4 or 14; 0: they are accepted
--   Accepted p        the parameters meet every rule
--   tested p          what testing them answers; sheet_values p the values of the answer; Tests p r is the test's promise
use Rattle.std.specs.Prelude.{◌≡◌, Bool, not, ◌&&◌, ◌||◌, cond, Result, Ok, Err, List, [], ◌∷◌, ℕ, ◌+◌, ◌-◌, ◌*◌, ◌/◌, ◌%◌, ◌^◌, ◌≤◌, eqb, leb, ltb, get_or}
use Rattle.field.specs.Fields.{field_of}
use Rattle.generator.specs.Generator.{width}
use Rattle.code.specs.declared.Parameters.{Parameters}
use Rattle.code.specs.declared.Refusal.{Refusal}
use Rattle.code.specs.Answers.{answer_number, unless_refused}
use Rattle.code.specs.Lists.{range, any, ◌when◌, ◌or_else◌, values_by, last_refusal}

abbrev pub sheet : ℕ → ℕ → ℕ → ℕ → ℕ → ℕ → ℕ → ℕ → Parameters
sheet q m v t0 t1 t2 t3 s = record { q = q; m = m; v = v; t0 = t0; t1 = t1; t2 = t2; t3 = t3; s = s }

abbrev pub len : Parameters → ℕ
len p = 2 ^ p.q - 1

abbrev pub stored : Parameters → ℕ
stored p = len p - p.s

abbrev pub sub_word_bytes : Parameters → ℕ
sub_word_bytes p = (stored p + 7) / 8

abbrev pub nested_bytes : Parameters → ℕ
nested_bytes p = 2 ^ p.q / 8

abbrev pub full : Parameters → ℕ
full p = stored p

abbrev pub strength : Parameters → ℕ → ℕ
strength p a = get_or (p.t0 ∷ p.t1 ∷ p.t2 ∷ p.t3 ∷ []) a 0

unfoldable pub degree : Parameters → ℕ → ℕ
unfolding field_of width
degree p a = width (field_of p.q) (strength p a)

abbrev pub unshortened : Parameters → Parameters
unshortened p = sheet p.q p.m p.v p.t0 p.t1 p.t2 p.t3 0

-- ---- the rules
-- q is 4, 8 or 12
unfoldable pub field_known : Parameters → Bool
field_known p = eqb p.q 4 || eqb p.q 8 || eqb p.q 12

-- v is 1 to 3, m is v + 1 to 8
unfoldable pub shape_fits : Parameters → Bool
shape_fits p = leb 1 p.v && leb p.v 3 && ltb p.v p.m && leb p.m 8

-- place a, 2 or 3: up to v the strengths do not fall, past v they are 0
unfoldable pub place_fits : Parameters → ℕ → Bool
place_fits p a = cond (leb a p.v) (leb (strength p (a - 1)) (strength p a)) (eqb (strength p a) 0)

-- 1 ≤ t_0 < t_1 ≤ .. ≤ t_v ≤ 64 and 2 t_v ≤ n - 1
unfoldable pub strengths_fit : Parameters → Bool
unfolding place_fits
strengths_fit p =
    leb 1 p.t0 && ltb p.t0 p.t1 && place_fits p 2 && place_fits p 3
    && leb (strength p p.v) 64 && leb (2 * strength p p.v) (len p - 1)

-- some d × j is a multiple of n, d from 1 to m - 1, j from 1 to 2 t_v
unfoldable pub clashes : Parameters → Bool
unfolding range any
clashes p = any (λ d. any (λ j. eqb (d * j % len p) 0) (range 1 (2 * strength p p.v))) (range 1 (p.m - 1))

-- s is at most n - w_v - 1, so that every block keeps a bit; at s = 0 the degree is not asked for
unfoldable pub short_fits : Parameters → Bool
unfolding degree
short_fits p = eqb p.s 0 || leb p.s (len p - degree p p.v - 1)

unfoldable pub sheet_refusal : Parameters → ℕ
unfolding field_known shape_fits strengths_fit clashes short_fits
sheet_refusal p =
    1 when not (field_known p)
    or_else 2 when not (shape_fits p)
    or_else 3 when not (strengths_fit p)
    or_else 4 when clashes p
    or_else 14 when not (short_fits p)

abbrev pub Accepted : Parameters → Type 0
Accepted p = sheet_refusal p ≡ 0

-- ---- the answer of testing parameters, and its number and values
unfoldable pub tested : Parameters → Result Parameters Refusal
unfolding sheet_refusal
tested p = unless_refused (sheet_refusal p) p

abbrev pub tested_values : Result Parameters Refusal → List ℕ
tested_values (Ok p) = p.q ∷ p.m ∷ p.v ∷ p.t0 ∷ p.t1 ∷ p.t2 ∷ p.t3 ∷ p.s ∷ []
tested_values (Err e) = []

-- apart from the answer: the eight numbers, where they are accepted
unfoldable pub sheet_values : Parameters → List ℕ
unfolding sheet_refusal
sheet_values p = values_by (sheet_refusal p) (p.q ∷ p.m ∷ p.v ∷ p.t0 ∷ p.t1 ∷ p.t2 ∷ p.t3 ∷ p.s ∷ [])

-- what the test promises
pub record Tests (p : Parameters) (r : Result Parameters Refusal) : Type 0 where
  pub answers : r ≡ tested p
  pub number : answer_number r ≡ sheet_refusal p
  pub values : tested_values r ≡ sheet_values p
  pub small : sheet_refusal p ≤ last_refusal
