use Rattle.polynomial.specs.Digits.{value}
use Rattle.syndrome.specs.Places.{PutDown}
use Rattle.syndrome.proofs.places_of.Given as goal

abbrev pub invariant-loop-k : goal.invariant-loop-k
invariant-loop-k l = PutDown (value 64 l.r) l.k l.c l.places
