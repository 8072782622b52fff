use mathlib.Core.Path.{◌≡◌}
use Prim.Native.Nat.{◌*◌}
use lib.ListN.{length}
use Rattle.search.specs.Thirds.{every}
use Rattle.search.specs.Values.{Values}
use Rattle.search.proofs.values.Given as goal

abbrev pub invariant-loop-g : goal.invariant-loop-g
invariant-loop-g l = Values l.f.q (every l.f.q l.sig l.l l.c) (5 * l.g) l.z l.acc × (length l.acc ≡ length l.initial.acc)
