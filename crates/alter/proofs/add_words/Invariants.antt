use Rattle.code.specs.Layout.{words_of}
use Rattle.alter.specs.Spread.{Spread}
use Rattle.alter.proofs.add_words.Given as goal

abbrev pub invariant-loop-k : goal.invariant-loop-k
invariant-loop-k l = Spread l.p l.initial.sum (words_of l.q l.short) l.k l.sum
