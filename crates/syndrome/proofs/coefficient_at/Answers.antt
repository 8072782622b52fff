use native.Mathlib.Omega.{arith}
use Rattle.syndrome.specs.Places.{bit_at}
use Rattle.syndrome.proofs.coefficient_at.Goals as goal

pub returns : goal.returns
returns c = let a = c.args in (bit_at a.r.now (λ i. (c.type_inv.r i).fits) a.k, omega arith)
