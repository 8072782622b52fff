use native.Mathlib.Omega.{arith}
use Rattle.element.specs.Lent.{root_in}
use Rattle.element.proofs.root.Goals as goal

pub overflow_cast-result-2 : goal.overflow_cast-result-2
overflow_cast-result-2 c = omega (arith, c.type_inv.powers c.args.e)

pub returns : goal.returns
returns c = root_in c.args.powers.now c.args.e
