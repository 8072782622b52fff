-- The loop: i words are written, the lowest of g * 2 ^ s. All of it fits: align-lt.
use Prim.Native.Nat.{◌*◌, ◌^◌}
use Rattle.polynomial.specs.Digits.{value}
use Rattle.kernels.specs.Value.{Bounded}
use Rattle.kernels.specs.Write.{Written}
use Rattle.kernels.proofs.row.align.Given as goal

abbrev pub invariant-loop-i : goal.invariant-loop-i
invariant-loop-i l = Written 64 l.initial.r l.r (value 64 l.g * 2 ^ l.s) l.i × Bounded 64 l.r
