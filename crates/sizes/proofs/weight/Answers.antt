use native.Mathlib.Nat as Nat
use native.Mathlib.Omega.{arith}
use Prim.Native.Nat.{◌+◌, ◌*◌, ◌≤◌}
use Rattle.sizes.proofs.weight.Goals as goal

pub overflow_mul-result-2 : goal.overflow_mul-result-2
overflow_mul-result-2 c =
    let w : 2 * c.args.t + 1 ≤ 129 = omega arith in
    omega (arith, Nat.mul-le-mul {n₂ = 4} {m₂ = 129} c.requires.0 w)
