-- The words of a page as the program meets them, and judge's two searches over them.
--   Judging p page t w               accepted parameters, a clear page of them, the table t of g_0, w the degree of g_0
--   JudgingNested p page rows t acc  accepted parameters, a page of them, the generators' rows; room for a table and a nested word
use Rattle.std.specs.Prelude.{◌≡◌, refl, Bool, not, List, ℕ, ◌+◌, ◌-◌, T, eqb, length, get_or}
use Rattle.code.specs.declared.Parameters.{Parameters}
use Rattle.code.specs.Calls.{generators}
use Rattle.code.specs.Code.{degree, remainder, nested, failing, failing_nested}
use Rattle.code.specs.Layout.{page_bytes, page_clear}
use Rattle.code.specs.Parameters.{Accepted, nested_bytes}
use Rattle.levels.specs.Ready.{Prepared}
use Rattle.judge.specs.Search.{first_from}

pub record Judging (p : Parameters) (page t : List ℕ) (w : ℕ) : Type 0 where
  pub accepts : Accepted p
  pub width : w ≡ degree p 0
  pub table : Prepared p 0 t
  pub exact : length page ≡ page_bytes p
  pub clear : T (page_clear p page)

pub record JudgingNested (p : Parameters) (page : List ℕ) (rows : List (List ℕ)) (t acc : List ℕ) : Type 0 where
  pub accepts : Accepted p
  pub rowed : rows ≡ generators p
  pub exact : length page ≡ page_bytes p
  pub table : length t ≡ 3072
  pub room : length acc ≡ nested_bytes p + 8

-- the tests of judge
abbrev pub fails_at : Parameters → List ℕ → ℕ → Bool
fails_at p cs i = not (eqb (remainder p 0 (get_or cs i 0)) 0)

abbrev pub nested_fails_at : Parameters → List ℕ → ℕ → Bool
nested_fails_at p cs l = not (eqb (remainder p (p.v - l) (nested p l cs)) 0)

pub failing-eq : (p : Parameters) (cs : List ℕ) → failing p cs ≡ first_from (fails_at p cs) 0 p.m p.m
unfolding failing first_from
failing-eq p cs = refl

pub failing_nested-eq : (p : Parameters) (cs : List ℕ) → failing_nested p cs ≡ first_from (nested_fails_at p cs) 0 p.v p.v
unfolding failing_nested first_from
failing_nested-eq p cs = refl
