-- The loop: the first i sub-words are added up.
use Rattle.polynomial.specs.Digits.{value}
use Rattle.nested.specs.Turned.{Turned}
use Rattle.nested.proofs.sum_into.Given as goal

abbrev pub invariant-loop-i : goal.invariant-loop-i
invariant-loop-i l = Turned l.p l.l l.page (value 8 l.acc) l.i
