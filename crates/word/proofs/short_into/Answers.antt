use borrow.Author.Rules.{rules}
use mathlib.Core.Path.{◌≡◌, ap, ◌∙◌}
use native.Mathlib.Omega.{arith}
use Rattle.polynomial.specs.Digits.{digits, value}
use Rattle.polynomial.specs.Division.{deg, rem}
use Rattle.code.specs.Code.{divisor}
use Rattle.layout.specs.Sizes.{length_high}
use Rattle.word.specs.Row.{row_as}
use Rattle.word.specs.Short.{short-deg, short-most, short-room}
use Rattle.word.proofs.short_into.Goals as goal
use Rattle.word.proofs.short_into.Goals.{After-remainder_by}

-- the remainder by the divisor
made : (c : After-remainder_by) → let a = c.args in value 64 c.remainder_by.new.r ≡ rem (divisor a.p a.l) (deg (divisor a.p a.l)) (value 8 a.s.now)
made c = row_as _ _ _ _ _ _ _ c.divisor_row-w.ensures.1 c.divisor_row-w.ensures.0 (rw c.length_of-n.ensures c.requires.2) c.remainder_by.ensures.0

pub remainder_by-requires : goal.remainder_by-requires
remainder_by-requires c = (
  short-deg _ c.requires.0 _ _ _ c.divisor_row-w.ensures.1 c.divisor_row-w.ensures.0,
  short-most _ c.requires.0 _ _ _ c.divisor_row-w.ensures.1 c.divisor_row-w.ensures.0,
  omega (arith, c.length_of-n.ensures, length_high _ c.requires.0),
)

pub store-requires : goal.store-requires
store-requires c = (search rules, short-room _ c.requires.0 _ _ _ (made (goal.at.store-requires c).After-remainder_by))

pub returns : goal.returns
returns c = c.store.ensures ∙ ap (digits 8 96) (made (goal.at.returns c).After-remainder_by)
