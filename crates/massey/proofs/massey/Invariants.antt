use mathlib.Core.Path.{◌≡◌}
use Prim.Native.Nat.{◌≤◌}
use lib.ListN.{length}
use Rattle.massey.specs.Steps.{After}
use Rattle.massey.proofs.massey.Given as goal

abbrev pub invariant-loop-r : goal.invariant-loop-r
invariant-loop-r l = After l.f.q l.s l.r l.l l.sig l.old × (l.l ≤ l.t) × (length l.old ≡ length l.initial.old) × (length l.sig ≡ length l.old)
