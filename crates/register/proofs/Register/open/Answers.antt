use mathlib.Core.Path.{sym}
use Rattle.register.specs.Register.{opened-refused, opened-done}
use Rattle.register.proofs.Register.open.Goals as goal

pub returns-in-Err : goal.returns-in-Err
returns-in-Err c = opened-refused _ _ c.empty.result _ _ c.refused.ensures c.in-Err.ensures c.empty.ensures

pub returns : goal.returns
returns c = opened-done _ _ c.empty-2.result (sym c.in_default.ensures) c.empty-2.ensures
