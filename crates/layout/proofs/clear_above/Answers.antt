use mir.Facts.{Fits-widen}
use native.Mathlib.Nat as Nat
use native.Mathlib.Omega.{arith}
use Prim.Native.Nat.{◌-◌, ◌*◌}
use lib.ListN.{length}
use lib.Pow.{pow_pos}
use Rattle.layout.specs.Runs.{cut-run}
use Rattle.layout.proofs.clear_above.Goals as goal

pub overflow_cast-kept : goal.overflow_cast-kept
overflow_cast-kept c = Fits-widen tt (c.slice_known-2-1.given _)

pub nonzero_rem-kept : goal.nonzero_rem-kept
nonzero_rem-kept c = omega (arith, c.last_bound-bound.ensures, pow_pos (8 - (8 * length c.args.run.now - c.args.b)))

pub overflow_cast-run : goal.overflow_cast-run
overflow_cast-run c = record { fits = Nat.lt_of_le_of_lt (Nat.mod-le _ _) (c.slice_known-2-1.given _).fits }

pub returns : goal.returns
returns c = cut-run c.args.run.now c.args.b c.last_bound-bound.result (λ i. (c.slice_known-2-1.given i).fits) c.requires.0 c.requires.2 c.last_bound-bound.ensures
