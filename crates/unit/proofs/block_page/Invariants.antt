use Rattle.polynomial.specs.Digits.{value}
use Rattle.unit.specs.Unit.{Built}
use Rattle.unit.proofs.block_page.Given as goal

abbrev pub invariant-loop-j : goal.invariant-loop-j
invariant-loop-j l = Built l.p l.i (value 8 l.d) l.j l.unit l.t l.acc
