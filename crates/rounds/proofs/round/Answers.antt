use borrow.Author.Rules.{rules}
use mathlib.Core.Path.{refl}
use Prim.Native.Nat.{◌≤◌, ◌+◌, ◌-◌}
use native.Mathlib.Omega.{arith}
use lib.ListN.{length}
use Rattle.rounds.proofs.round.Goals as goal
use Rattle.rounds.proofs.round.Goals.{Start}

-- the level of a round
level : (s : Start) → s.args.p.v - length s.args.ks.now + 1 ≤ s.args.p.v
level s = omega (arith, s.requires.3, s.requires.4)

pub overflow_sub-a : goal.overflow_sub-a
overflow_sub-a c = c.requires.4

pub degree_at-w-requires : goal.degree_at-w-requires
degree_at-w-requires c = (c.requires.0.accepts, c.requires.1, level (goal.at.degree_at-w-requires c).Start)

pub prepare-requires : goal.prepare-requires
prepare-requires c = (c.requires.0.accepts, c.requires.1, level (goal.at.prepare-requires c).Start, c.degree_at-w.ensures, search rules)

pub mend_words-requires : goal.mend_words-requires
mend_words-requires c = (c.requires.0, c.prepare.ensures, c.degree_at-w.ensures, refl, c.requires.2, c.requires.3, c.requires.4, c.requires.5, c.requires.6)

pub returns : goal.returns
returns c = c.mend_words.ensures
