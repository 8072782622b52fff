use native.Mathlib.Omega.{arith}
use Rattle.layout.specs.Sizes.{check-below}
use Rattle.layout.proofs.data_bits.Goals as goal

pub overflow_sub-result : goal.overflow_sub-result
overflow_sub-result c = omega (arith, check-below _ c.requires.0 c.args.i)
