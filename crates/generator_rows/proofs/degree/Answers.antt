use mathlib.Core.Path.{◌∙◌}
use native.Mathlib.Omega.{arith}
use Rattle.generator_rows.specs.Degree.{row-deg, row-pos, width-high}
use Rattle.generator_rows.proofs.degree.Goals as goal

pub degree_of-requires : goal.degree_of-requires
degree_of-requires c = row-pos _ _ c.requires.0 c.requires.2 _ c.generator_row-g.ensures

pub overflow_cast-result : goal.overflow_cast-result
overflow_cast-result c = omega (arith, c.degree_of.ensures, row-deg _ _ c.requires.0 c.requires.2 _ c.generator_row-g.ensures, width-high _ _ c.requires.0 c.requires.2)

pub returns : goal.returns
returns c = c.degree_of.ensures ∙ row-deg _ _ c.requires.0 c.requires.2 _ c.generator_row-g.ensures
