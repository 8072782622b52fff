-- The 13th word says whether g is to be taken away.
use native.Mathlib.Omega.{arith}
use borrow.Author.Rules.{rules}
use Rattle.kernels.specs.Row.{top-zero}
use Rattle.word.specs.Quotient.{step-low, step-high}
use Rattle.word.proofs.divide.divide_step.Goals as goal

pub shift-requires : goal.shift-requires
shift-requires c = (omega arith, omega arith, top-zero c.args.q.now (search rules) c.requires.1)

pub shift-requires-2 : goal.shift-requires-2
shift-requires-2 c = (omega arith, omega arith, top-zero c.args.r.now (search rules) c.requires.2)

pub returns-then-r-ne0 : goal.returns-then-r-ne0
returns-then-r-ne0 c = (
  step-high _ c.requires.0 c.shift-2.new.r _ c.shift-2.ensures.1 (search rules) c.shift-2.ensures.0
      _ _ _ _ c.shift.ensures.0 c.insert.ensures.0 c.add.ensures.0 c.requires.2 c.if-r-ne0.true,
  c.insert.ensures.1,
)

pub returns-else-r-ne0 : goal.returns-else-r-ne0
returns-else-r-ne0 c = (
  step-low _ c.requires.0 c.shift-2.new.r _ c.shift-2.ensures.1 (search rules) c.shift-2.ensures.0
      _ _ c.shift.ensures.0 c.if-r-ne0.false,
  c.shift.ensures.1,
)
