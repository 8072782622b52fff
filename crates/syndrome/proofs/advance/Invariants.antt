use mathlib.Core.Path.{◌≡◌}
use Prim.Native.Nat.{ℕ, ◌-◌, ◌≤◌, ◌+◌, ◌%◌, ◌^◌}
use lib.ListN.{get_or}
use Rattle.code.specs.Filled.{Filled}
use Rattle.syndrome.proofs.advance.Given as goal

abbrev pub invariant-loop-i : goal.invariant-loop-i
invariant-loop-i l = Filled (λ j. (get_or l.initial.e j 0 + get_or l.d j 0) % (2 ^ l.f.q - 1)) l.i l.e × ((k : ℕ) → l.i ≤ k → get_or l.e k 0 ≡ get_or l.initial.e k 0)
