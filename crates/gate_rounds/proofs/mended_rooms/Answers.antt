use borrow.Author.Rules.{rules}
use mathlib.Core.Path.{sym, ◌∙◌}
use lib.ListN.{length-take}
use native.Mathlib.Nat as Nat
use Rattle.gate_rounds.proofs.mended_rooms.Goals as goal

pub slice_bounds-mended-end : goal.slice_bounds-mended-end
slice_bounds-mended-end c = sym (length-take c.args.n _ ∙ Nat.min-eq_left c.requires.5)

pub slice_bounds-mended-end-2 : goal.slice_bounds-mended-end-2
slice_bounds-mended-end-2 c = sym (length-take c.args.n _ ∙ Nat.min-eq_left c.requires.5)

pub slice_bounds-mended-end-3 : goal.slice_bounds-mended-end-3
slice_bounds-mended-end-3 c = sym (length-take c.args.t _ ∙ Nat.min-eq_left c.requires.7)

pub mended-requires : goal.mended-requires
mended-requires c = (c.requires.0, search rules, search rules, c.requires.1, c.requires.2, c.requires.3, length-take c.args.n _ ∙ Nat.min-eq_left c.requires.5 ∙ c.requires.4, length-take c.args.n _ ∙ Nat.min-eq_left c.requires.5 ∙ c.requires.4, length-take c.args.t _ ∙ Nat.min-eq_left c.requires.7 ∙ c.requires.6)
