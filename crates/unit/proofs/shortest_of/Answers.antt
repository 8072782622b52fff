use mathlib.Core.Path.{ap, ap₂, ◌∙◌}
use native.Mathlib.Nat as Nat
use native.Mathlib.Omega.{arith}
use Prim.Native.Nat.{ℕ, ◌+◌, ◌-◌, ◌≤◌}
use Rattle.code.proofs.Accepted.{accepted, lawful, width-below}
use Rattle.code.specs.Code.{degree}
use Rattle.code.specs.Parameters.{sheet}
use Rattle.layout.specs.Sizes.{length_high}
use Rattle.unit.proofs.shortest_of.Goals as goal
use Rattle.unit.proofs.shortest_of.Goals.{After-check_bits-bits}

-- the degree of level v's generator is below n
less : (c : After-check_bits-bits) → (let n = c.length_of-n.result in c.check_bits-bits.result + 1 ≤ n)
less c =
    let p = c.args.p in
    let e = c.check_bits-bits.ensures ∙ ap (degree p) (Nat.sub-zero p.v) in
    omega (arith, e, c.length_of-n.ensures, width-below p (accepted p c.requires.0) p.v (Nat.le_refl p.v), (lawful p (accepted p c.requires.0)).pos)

pub overflow_sub-s : goal.overflow_sub-s
overflow_sub-s c = omega (arith, less (goal.at.overflow_sub-s c).After-check_bits-bits)

pub overflow_sub-s-2 : goal.overflow_sub-s-2
overflow_sub-s-2 c = omega (arith, less (goal.at.overflow_sub-s-2 c).After-check_bits-bits)

pub overflow_cast-result : goal.overflow_cast-result
overflow_cast-result c = omega (arith, less (goal.at.overflow_cast-result c).After-check_bits-bits, c.length_of-n.ensures, length_high c.args.p c.requires.0)

pub returns : goal.returns
returns c =
    let p = c.args.p in
    ap₂ (λ (n b : ℕ). sheet p.q p.m p.v p.t0 p.t1 p.t2 p.t3 (n - b - 1)) c.length_of-n.ensures (c.check_bits-bits.ensures ∙ ap (degree p) (Nat.sub-zero p.v))
