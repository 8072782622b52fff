use mathlib.Core.Path.{ap}
use Prim.Native.Nat.{◌/◌}
use Rattle.element.specs.declared.Field.{Field}
use Rattle.code.proofs.Accepted.{accepted}
use Rattle.layout.proofs.nested_bytes.Goals as goal

pub of-f-requires : goal.of-f-requires
of-f-requires c = (accepted _ c.requires).known

pub returns : goal.returns
returns c = ap (λ (f : Field). f.size / 8) c.of-f.ensures
