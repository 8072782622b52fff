use Rattle.std.proofs.Common.{inl, inr}
use native.Mathlib.Omega.{arith}
use Rattle.sheet.specs.Nesting.{nesting-i, nesting-l, nesting-is}
use Rattle.sheet.proofs.nesting_coefficient.Goals as goal

pub returns-then-i-gt7 : goal.returns-then-i-gt7
returns-then-i-gt7 c = elim c.then-i-gt7.either [
  | inl h ↦ nesting-i _ _ h
  | inr h ↦ nesting-l _ _ h.0 h.1
]

pub returns : goal.returns
returns c = nesting-is _ _ _ (omega arith) (omega arith) c.nest.ensures
