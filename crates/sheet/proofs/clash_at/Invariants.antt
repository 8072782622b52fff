use mathlib.Core.Path.{◌≡◌}
use Prim.Native.Nat.{◌*◌, ◌%◌, ◌<◌}
use Rattle.sheet.specs.Clashes.{hits, Searching}
use Rattle.sheet.proofs.clash_at.Given as goal

abbrev pub invariant-loop : goal.invariant-loop
invariant-loop l = Searching (hits l.n l.d) l.last l.counter × (l.x ≡ l.d * l.counter % l.n) × (l.x < l.n)
