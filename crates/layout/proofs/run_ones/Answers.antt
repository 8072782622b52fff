use mir.Facts.{Fits-widen}
use native.Mathlib.Omega.{arith}
use Prim.Native.Nat.{◌-◌, ◌*◌}
use lib.Pow.{pow_pos}
use Rattle.layout.specs.Runs.{run-not, run-top}
use Rattle.layout.proofs.run_ones.Goals as goal

pub returns-else-range_ones : goal.returns-else-range_ones
returns-else-range_ones c =
    rw c.if-range_ones.false
    (run-not c.args.bytes.now c.args.at c.args.size c.args.b (λ i. (c.type_inv.bytes i).fits) c.requires.0 c.requires.2
    c.range_ones.result c.range_ones.ensures c.if-range_ones.false)

pub overflow_cast-high : goal.overflow_cast-high
overflow_cast-high c = Fits-widen tt (c.type_inv.bytes _)

pub nonzero_rem-result : goal.nonzero_rem-result
nonzero_rem-result c = omega (arith, c.last_bound-bound.ensures, pow_pos (8 - (8 * c.args.size - c.args.b)))

pub overflow_sub-result : goal.overflow_sub-result
overflow_sub-result c = rw c.last_bound-bound.ensures (pow_pos _)

pub returns-then-range_ones : goal.returns-then-range_ones
returns-then-range_ones c =
    run-top c.args.bytes.now c.args.at c.args.size c.args.b (λ i. (c.shared_slice_known-1.given i).fits) c.requires.0 c.requires.2
    c.range_ones.result c.range_ones.ensures c.if-range_ones.true c.last_bound-bound.result c.last_bound-bound.ensures
