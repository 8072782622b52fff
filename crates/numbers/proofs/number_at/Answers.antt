-- Two bytes are the number: number-law.
use mathlib.Core.Path.{◌∙◌}
use Rattle.std.proofs.Common.{add_comm}
use Rattle.numbers.specs.List.{number-law}
use Rattle.numbers.proofs.number_at.Goals as goal

pub returns : goal.returns
returns c =
    let a = c.args in
    c.from_le_bytes.ensures ∙ add_comm _ _ ∙ number-law a.bytes.now a.k c.requires
