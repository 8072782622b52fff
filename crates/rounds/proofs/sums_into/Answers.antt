use mathlib.Core.Path.{sym, ◌∙◌}
use Prim.Native.Nat.{◌≤◌}
use native.Mathlib.Nat as Nat
use native.Mathlib.Omega.{arith}
use Rattle.code.proofs.Accepted.{accepted, strength-high}
use Rattle.code.proofs.Pages.{zeros-length}
use Rattle.rounds.specs.Rows.{row-size, sums_first, sums_next}
use Rattle.rounds.proofs.sums_into.Goals as goal
use Rattle.rounds.proofs.sums_into.Goals.{After-strength_at-k}

few : (k : After-strength_at-k) → k.strength_at-k.result ≤ 64
few k = rw k.strength_at-k.ensures (strength-high k.args.p k.requires.0 k.args.a k.requires.4)

pub slice_bounds-room-end : goal.slice_bounds-room-end
slice_bounds-room-end c = few (goal.at.slice_bounds-room-end c).After-strength_at-k

pub slice_bounds-row-end : goal.slice_bounds-row-end
slice_bounds-row-end c = sym (zeros-length _ 64 (few (goal.at.slice_bounds-row-end c).After-strength_at-k))

pub loop-l-init : goal.loop-l-init
loop-l-init c =
    let few : c.strength_at-k.result ≤ 64 = rw c.strength_at-k.ensures (strength-high c.args.p c.requires.0 c.args.a c.requires.4) in
    (sums_first _ _ _ _ c.requires.8 c.requires.9, zeros-length _ 64 (few) ∙ c.strength_at-k.ensures)

pub put_row-requires : goal.put_row-requires
put_row-requires c = (
  c.loop-l.invariant.0.size,
  omega (arith, c.loop-l-test.true, c.requires.7, (accepted _ c.requires.0).v_high),
  Nat.le_trans (Nat.le_of_eq (row-size _ _ _ _ c.nested_sums.ensures)) (strength-high c.args.p c.requires.0 c.args.a c.requires.4),
)

pub loop-l-preserved : goal.loop-l-preserved
loop-l-preserved c = (
  sums_next c.requires.0 c.requires.4 c.loop-l.invariant.0 c.nested_sums.ensures c.put_row.ensures,
  row-size _ _ _ _ c.nested_sums.ensures,
)
