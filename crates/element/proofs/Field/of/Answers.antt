use mathlib.Core.Path.{sym, ap}
use native.Mathlib.Omega.{arith}
use Rattle.field.specs.Fields.{field_polynomial}
use Rattle.element.specs.Fields.{field_at, known-last}
use Rattle.element.proofs.Field.of.Goals as goal

pub returns-in-4 : goal.returns-in-4
unfolding field_polynomial
returns-in-4 c = sym (ap field_at c.in-4.is)

pub returns-in-8 : goal.returns-in-8
unfolding field_polynomial
returns-in-8 c = sym (ap field_at c.in-8.is)

pub returns-in_default : goal.returns-in_default
unfolding field_polynomial
returns-in_default c = sym (ap field_at (known-last c.args.q c.requires (λ e. omega arith) (λ e. omega arith)))
