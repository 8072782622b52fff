use borrow.Author.Rules.{rules}
use mathlib.Core.Path.{refl, sym, ◌∙◌}
use lib.ListN.{length, length-take}
use native.Mathlib.Nat as Nat
use Rattle.gate_rounds.proofs.erased_rooms.Goals as goal

pub slice_bounds-erased-end : goal.slice_bounds-erased-end
slice_bounds-erased-end c = sym (length-take c.args.k _ ∙ Nat.min-eq_left c.requires.4)

pub slice_bounds-erased-end-2 : goal.slice_bounds-erased-end-2
slice_bounds-erased-end-2 c = sym (length-take (length c.args.x.now) _ ∙ Nat.min-eq_left c.requires.5)

pub slice_bounds-erased-end-3 : goal.slice_bounds-erased-end-3
slice_bounds-erased-end-3 c = sym (length-take (length c.args.x.now) _ ∙ Nat.min-eq_left c.requires.5)

pub erased-requires : goal.erased-requires
erased-requires c = (c.requires.0, search rules, c.requires.1, c.requires.2, length-take c.args.k _ ∙ Nat.min-eq_left c.requires.4 ∙ c.requires.3, length-take (length c.args.x.now) _ ∙ Nat.min-eq_left c.requires.5 ∙ c.requires.1, refl, c.requires.6)
