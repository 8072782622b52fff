use Prim.Native.Nat.{◌*◌, ◌-◌, ◌^◌}
use Rattle.polynomial.specs.Digits.{value}
use Rattle.kernels.specs.Value.{Bounded}
use Rattle.word.specs.Quotient.{Dividing}
use Rattle.word.proofs.divide.quotient.Given as goal

abbrev pub invariant-loop : goal.invariant-loop
invariant-loop l = Dividing (value 64 l.a) (value 64 l.f * 2 ^ (768 - l.u)) l.counter (value 64 l.q) (value 64 l.r) × Bounded 64 l.q
