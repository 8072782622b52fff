use Rattle.code.specs.Calls.{number_at}
use Rattle.code.specs.Filled.{Filled}
use Rattle.numbers.proofs.load.Given as goal

abbrev pub invariant-loop-i : goal.invariant-loop-i
invariant-loop-i l = Filled (number_at l.bytes) l.i l.numbers
