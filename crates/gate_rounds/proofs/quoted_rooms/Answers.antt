use borrow.Author.Rules.{rules}
use mathlib.Core.Path.{sym, ◌∙◌}
use lib.ListN.{length-take}
use native.Mathlib.Nat as Nat
use Rattle.gate_rounds.proofs.quoted_rooms.Goals as goal

pub slice_bounds-quoted-end : goal.slice_bounds-quoted-end
slice_bounds-quoted-end c = sym (length-take c.args.n _ ∙ Nat.min-eq_left c.requires.3)

pub quoted-requires : goal.quoted-requires
quoted-requires c = (c.requires.0, search rules, c.requires.1, length-take c.args.n _ ∙ Nat.min-eq_left c.requires.3 ∙ c.requires.2, search rules)
