use borrow.Author.Rules.{rules}
use Prim.Native.Nat.{zero-le}
use Rattle.alone.proofs.first_pass.Goals as goal

pub degree_at-w-requires : goal.degree_at-w-requires
degree_at-w-requires c = (c.requires.0.accepts, c.requires.1, zero-le)

pub prepare-requires : goal.prepare-requires
prepare-requires c = (c.requires.0.accepts, c.requires.1, zero-le, c.degree_at-w.ensures, search rules)

pub mend_words-requires : goal.mend_words-requires
mend_words-requires c = (c.requires.0, c.prepare.ensures, c.degree_at-w.ensures, c.requires.2, c.requires.3)

pub returns : goal.returns
returns c = c.mend_words.ensures
