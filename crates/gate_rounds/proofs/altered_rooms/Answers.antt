use borrow.Author.Rules.{rules}
use mathlib.Core.Path.{sym, ◌∙◌}
use lib.ListN.{length, length-take}
use native.Mathlib.Nat as Nat
use Rattle.gate_rounds.proofs.altered_rooms.Goals as goal

pub slice_bounds-altered-end : goal.slice_bounds-altered-end
slice_bounds-altered-end c = sym (length-take c.args.n _ ∙ Nat.min-eq_left c.requires.4)

pub slice_bounds-altered-end-2 : goal.slice_bounds-altered-end-2
slice_bounds-altered-end-2 c = sym (length-take c.args.n _ ∙ Nat.min-eq_left c.requires.4)

pub slice_bounds-altered-end-3 : goal.slice_bounds-altered-end-3
slice_bounds-altered-end-3 c = sym (length-take c.args.n _ ∙ Nat.min-eq_left c.requires.4)

pub slice_bounds-altered-end-4 : goal.slice_bounds-altered-end-4
slice_bounds-altered-end-4 c = sym (length-take (length c.args.a.now) _ ∙ Nat.min-eq_left c.requires.3)

pub altered-requires : goal.altered-requires
altered-requires c = (c.requires.0, search rules, search rules, c.requires.1, length-take c.args.n _ ∙ Nat.min-eq_left c.requires.4 ∙ c.requires.2, length-take c.args.n _ ∙ Nat.min-eq_left c.requires.4 ∙ c.requires.2, length-take c.args.n _ ∙ Nat.min-eq_left c.requires.4 ∙ c.requires.2, length-take (length c.args.a.now) _ ∙ Nat.min-eq_left c.requires.3 ∙ c.requires.1.apt-a.fits.exact)
