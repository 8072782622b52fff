-- The loop: i words are written, the lowest of r / 2 ^ s, and those from i on are as they were.
use mathlib.Core.Path.{◌≡◌}
use Prim.Native.Nat.{◌/◌, ◌^◌}
use lib.ListN.{drop}
use Rattle.polynomial.specs.Digits.{value}
use Rattle.kernels.specs.Value.{Bounded}
use Rattle.kernels.specs.Write.{Written}
use Rattle.kernels.proofs.row.lower.Given as goal

abbrev pub invariant-loop-i : goal.invariant-loop-i
invariant-loop-i l = (drop l.i l.r ≡ drop l.i l.initial.r) × Bounded 64 l.r × Written 64 l.initial.r l.r (value 64 l.initial.r / 2 ^ l.s) l.i
