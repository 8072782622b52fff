use mathlib.Core.Path.{◌∙◌}
use native.Mathlib.Nat as Nat
use Rattle.encode.proofs.place.Goals as goal

pub returns : goal.returns
returns c = c.copy_up.ensures ∙ Nat.mod-eq_of_lt c.requires.2
