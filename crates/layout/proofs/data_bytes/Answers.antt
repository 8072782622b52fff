use mathlib.Core.Path.{◌∙◌}
use Rattle.layout.specs.Parts.{offset-all}
use Rattle.layout.proofs.data_bytes.Goals as goal

pub returns : goal.returns
returns c = c.block_offset.ensures ∙ offset-all _
