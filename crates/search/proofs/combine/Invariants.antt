use mathlib.Core.Path.{◌≡◌}
use lib.ListN.{length}
use Rattle.field.specs.Elements.{power}
use Rattle.search.specs.Thirds.{Filled}
use Rattle.search.proofs.combine.Given as goal

abbrev pub invariant-loop-k : goal.invariant-loop-k
invariant-loop-k l = Filled l.f.q (power l.f.q l.h) l.a l.b l.c l.h l.k l.acc × (length l.acc ≡ length l.initial.acc)
