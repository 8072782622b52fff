use Rattle.code.specs.Layout.{words_of}
use Rattle.code.specs.Lists.{range}
use Rattle.code.specs.Nest.{alone}
use Rattle.mend.specs.Settled.{Passed}
use Rattle.alone.proofs.mend_words.Given as goal

abbrev pub invariant-loop-i : goal.invariant-loop-i
invariant-loop-i l = Passed l.p (alone l.p (words_of l.p l.initial.page)) (range 0 l.p.m) (words_of l.p l.initial.page) l.page l.broken l.i l.b
