use mathlib.Core.Path.{◌≡◌}
use lib.ListN.{length}
use Rattle.code.specs.Layout.{words_of}
use Rattle.code.specs.Parameters.{strength}
use Rattle.rounds.specs.Rows.{Sums}
use Rattle.rounds.proofs.sums_into.Given as goal

abbrev pub invariant-loop-l : goal.invariant-loop-l
invariant-loop-l l = Sums l.p l.a (words_of l.p l.page) l.l l.rows × (length l.row ≡ strength l.p l.a)
