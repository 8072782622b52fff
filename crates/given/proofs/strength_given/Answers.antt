use native.Mathlib.Omega.{arith}
use Rattle.given.specs.Input.{many-most, strength-there, strength-past}
use Rattle.given.proofs.strength_given.Goals as goal

pub overflow_add-a : goal.overflow_add-a
overflow_add-a c = omega (arith, c.strengths_given-many.ensures, many-most c.args.input.now)

pub returns-then-a-many : goal.returns-then-a-many
returns-then-a-many c =
    let a = c.args in
    strength-there a.input.now a.a c.strengths_given-many.result c.lead.result c.strengths_given-many.ensures c.if-a-many.true c.lead.ensures

pub returns-else-a-many : goal.returns-else-a-many
returns-else-a-many c =
    let a = c.args in
    strength-past a.input.now a.a c.strengths_given-many.result c.strengths_given-many.ensures c.if-a-many.false
