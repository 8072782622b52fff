use mathlib.Core.Path.{◌≡◌}
use Prim.Native.Nat.{◌^◌, ◌≤◌, ◌<◌}
use Rattle.polynomial.specs.Division.{rem}
use Rattle.field.specs.Fields.{field_polynomial}
use Rattle.syndrome.proofs.reduce.Given as goal

abbrev pub invariant-loop-k : goal.invariant-loop-k
invariant-loop-k l = (l.q ≤ l.k) × (l.y < 2 ^ l.k) × (rem (field_polynomial l.q) l.q l.y ≡ rem (field_polynomial l.q) l.q l.x)
