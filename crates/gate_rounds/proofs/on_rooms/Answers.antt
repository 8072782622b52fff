use mathlib.Core.Path.{sym, ◌∙◌}
use lib.ListN.{length, length-take}
use native.Mathlib.Nat as Nat
use Rattle.gate_rounds.proofs.on_rooms.Goals as goal

pub slice_bounds-on-end : goal.slice_bounds-on-end
slice_bounds-on-end c = sym (length-take (length c.args.a.now) _ ∙ Nat.min-eq_left c.requires.4)

pub slice_bounds-on-end-2 : goal.slice_bounds-on-end-2
slice_bounds-on-end-2 c = sym (length-take c.args.n _ ∙ Nat.min-eq_left c.requires.5)

pub slice_bounds-on-end-3 : goal.slice_bounds-on-end-3
slice_bounds-on-end-3 c = sym (length-take c.args.n _ ∙ Nat.min-eq_left c.requires.5)

pub slice_bounds-on-end-4 : goal.slice_bounds-on-end-4
slice_bounds-on-end-4 c = sym (length-take c.args.n _ ∙ Nat.min-eq_left c.requires.5)

pub slice_bounds-on-end-5 : goal.slice_bounds-on-end-5
slice_bounds-on-end-5 c = sym (length-take c.args.n _ ∙ Nat.min-eq_left c.requires.5)

pub on-requires : goal.on-requires
on-requires c = (c.requires.0, c.requires.1, c.requires.2, length-take (length c.args.a.now) _ ∙ Nat.min-eq_left c.requires.4 ∙ c.requires.1.fits.exact, length-take c.args.n _ ∙ Nat.min-eq_left c.requires.5 ∙ c.requires.3, length-take c.args.n _ ∙ Nat.min-eq_left c.requires.5 ∙ c.requires.3, length-take c.args.n _ ∙ Nat.min-eq_left c.requires.5 ∙ c.requires.3, length-take c.args.n _ ∙ Nat.min-eq_left c.requires.5 ∙ c.requires.3, c.requires.6)
