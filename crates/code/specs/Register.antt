-- The register as a value: its level, the count of coefficients taken, and the remainder's twelve 64-bit words, lowest first.
--   Register    the value that each feeding takes and hands back
--   Fed         what opening and feeding hand back: the outcome beside the register
use Rattle.std.specs.Prelude.{List, ℕ}
use Rattle.code.specs.Answers.{Outcome}

pub record Register : Type 0 where
  pub level : ℕ
  pub count : ℕ
  pub remainder : List ℕ

pub record Fed : Type 0 where
  pub outcome : Outcome
  pub register : Register
