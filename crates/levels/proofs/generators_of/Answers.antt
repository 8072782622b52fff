use mathlib.Core.Path.{sym}
use Rattle.levels.specs.Levels.{rows-refused}
use Rattle.levels.proofs.generators_of.Goals as goal

pub rows-requires : goal.rows-requires
rows-requires c = sym c.in-Ok.ensures.number

pub returns-in-Err : goal.returns-in-Err
returns-in-Err c = rows-refused _ _ c.in-Err.ensures
