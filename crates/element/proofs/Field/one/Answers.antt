use mathlib.Core.Path.{sym}
use Rattle.field.specs.Fields.{field_of}
use Rattle.element.proofs.Field.one.Goals as goal

pub returns : goal.returns
returns c = sym (field_of c.args.self.q).num-one
