use borrow.Author.Rules.{rules}
use mathlib.Core.Path.{sym, ◌∙◌}
use lib.ListN.{length, length-take}
use native.Mathlib.Nat as Nat
use Rattle.gate_rounds.proofs.rewrites_rooms.Goals as goal

pub slice_bounds-rewrites-end : goal.slice_bounds-rewrites-end
slice_bounds-rewrites-end c = sym (length-take c.args.k _ ∙ Nat.min-eq_left c.requires.3)

pub slice_bounds-rewrites-end-2 : goal.slice_bounds-rewrites-end-2
slice_bounds-rewrites-end-2 c = sym (length-take (length c.args.x.now) _ ∙ Nat.min-eq_left c.requires.4)

pub rewrites-requires : goal.rewrites-requires
rewrites-requires c = (c.requires.0, search rules, c.requires.1, length-take c.args.k _ ∙ Nat.min-eq_left c.requires.3 ∙ c.requires.2, length-take (length c.args.x.now) _ ∙ Nat.min-eq_left c.requires.4 ∙ c.requires.1.exact)
