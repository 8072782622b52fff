use native.Mathlib.Omega.{arith}
use Rattle.layout.specs.Sizes.{short-below}
use Rattle.layout.proofs.stored_of.Goals as goal

pub overflow_sub-result : goal.overflow_sub-result
overflow_sub-result c = omega (arith, short-below _ c.requires)

pub returns : goal.returns
returns c = omega arith
