use native.Mathlib.Omega.{arith}
use Rattle.layout.proofs.full_count.Goals as goal

pub returns : goal.returns
returns c = omega arith
