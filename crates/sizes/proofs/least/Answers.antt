use native.Mathlib.Omega.{arith}
use Prim.Native.Nat.{◌+◌, ◌-◌, ◌≤◌, zero-le}
use Rattle.code.proofs.Accepted.{accepted, strength-high}
use Rattle.sizes.specs.Least.{lowest_start, lowest-turn, lowest-done}
use Rattle.sizes.proofs.least.Goals as goal

pub overflow_add-v : goal.overflow_add-v
overflow_add-v c = omega (arith, (accepted _ c.requires).v_high)

pub weight-d-requires : goal.weight-d-requires
weight-d-requires c = (omega (arith, (accepted _ c.requires).v_high), rw c.strength_at-t.ensures (strength-high _ c.requires 0 zero-le))

pub loop-b-init : goal.loop-b-init
loop-b-init c = lowest_start _ _ _ c.strength_at-t.ensures c.weight-d.ensures

pub overflow_add-v-in-loop-b : goal.overflow_add-v-in-loop-b
overflow_add-v-in-loop-b c = omega (arith, c.loop-b.invariant.low, (accepted _ c.requires).v_high)

pub weight-requires : goal.weight-requires
weight-requires c =
    let a : c.args.p.v - c.loop-b.b + 1 ≤ c.args.p.v = omega (arith, c.loop-b.invariant.low) in
    (omega (arith, (accepted _ c.requires).v_high), rw c.strength_at-s.ensures (strength-high _ c.requires _ a))

pub loop-b-preserved : goal.loop-b-preserved
loop-b-preserved c = lowest-turn _ _ _ _ _ _ c.loop-b.invariant c.loop-b-test.true c.strength_at-s.ensures c.weight.ensures c.min-d.ensures

pub returns : goal.returns
returns c = lowest-done _ _ _ c.loop-b.invariant c.loop-b-test.false

pub returns-2 : goal.returns-2
returns-2 c =
    lowest-done _ (c.loop-b.b + 1) _
    (lowest-turn _ _ _ _ _ _ c.loop-b.invariant c.loop-b-test.true c.strength_at-s.ensures c.weight.ensures c.min-d.ensures) (omega arith)
