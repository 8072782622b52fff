use native.Mathlib.Omega.{arith}
use Rattle.gii_bch.proofs.answers.size_number.Goals as goal

pub overflow_cast-result : goal.overflow_cast-result
overflow_cast-result c = omega (arith, rw c.in-Ok.is at c.requires)
