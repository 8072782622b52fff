use Rattle.numbers.specs.List.{Stored}
use Rattle.numbers.proofs.store.Given as goal

abbrev pub invariant-loop-i : goal.invariant-loop-i
invariant-loop-i l = Stored l.numbers l.i l.list
