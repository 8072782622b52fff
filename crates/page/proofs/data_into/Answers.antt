use mathlib.Core.Path.{ap, ◌∙◌}
use Prim.Native.Nat.{ℕ, ◌%◌, ◌^◌}
use lib.ListN.{length}
use Rattle.page.specs.Taken.{cut_twice}
use Rattle.page.proofs.data_into.Goals as goal

pub returns : goal.returns
returns c = c.clear_above.ensures ∙ ap (λ (y : ℕ). y % 2 ^ c.args.b) c.copy_down.ensures ∙ cut_twice _ c.args.b (length c.args.block.now) c.requires.3
