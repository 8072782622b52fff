use mathlib.Core.Path.{ap}
use Rattle.element.specs.declared.Field.{Field}
use Rattle.code.proofs.Accepted.{accepted}
use Rattle.layout.proofs.length_of.Goals as goal

pub of-f-requires : goal.of-f-requires
of-f-requires c = (accepted _ c.requires).known

pub returns : goal.returns
returns c = ap (λ (f : Field). f.order) c.of-f.ensures
