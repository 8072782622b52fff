use mathlib.Core.Path.{◌∙◌}
use native.Mathlib.Omega.{arith}
use Rattle.element.specs.Exponents.{times-lt}
use Rattle.element.specs.Fields.{size-most}
use Rattle.syndrome.specs.Squares.{square-reduced}
use Rattle.syndrome.proofs.square.Goals as goal

pub element_of-y-requires : goal.element_of-y-requires
element_of-y-requires c = c.requires.field

pub times_lent-r-requires : goal.times_lent-r-requires
times_lent-r-requires c = (c.requires, c.element_of-y.ensures.1, c.element_of-y.ensures.1)

pub overflow_cast-result : goal.overflow_cast-result
overflow_cast-result c = omega (arith, c.times_lent-r.ensures, times-lt c.args.f.q c.requires.field.known c.element_of-y.result c.element_of-y.result, size-most c.args.f.q c.requires.field.known)

pub returns : goal.returns
returns c = c.times_lent-r.ensures ∙ square-reduced c.args.f.q c.requires.field.known c.args.x c.element_of-y.result c.element_of-y.ensures.0
