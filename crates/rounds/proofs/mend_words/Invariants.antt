use Rattle.code.specs.Layout.{words_of}
use Rattle.mend.specs.Settled.{Passed}
use Rattle.rounds.specs.Found.{found_by}
use Rattle.rounds.proofs.mend_words.Given as goal

abbrev pub invariant-loop-i : goal.invariant-loop-i
invariant-loop-i l = Passed l.p (found_by l.p l.a l.rows l.ks) l.ks (words_of l.p l.initial.page) l.page l.left l.i-index l.n
