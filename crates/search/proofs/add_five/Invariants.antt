use Rattle.search.specs.Slots.{Running, five}
use Rattle.search.specs.Values.{Adding}
use Rattle.search.proofs.add_five.Given as goal

abbrev pub invariant-loop-k : goal.invariant-loop-k
invariant-loop-k l = Adding l.f.q l.initial.acc (λ i. five l.f.q l.a l.b l.c l.d l.e i) l.k l.acc × Running l.f.q l.a l.b l.c l.d l.e l.k l.p l.q l.r l.s l.t
