use mathlib.Core.Path.{ap, ◌∙◌}
use native.Mathlib.Omega.{arith}
use Prim.Native.Nat.{ℕ}
use lib.ListN.{get_or}
use Rattle.layout.specs.Sizes.{check-at, check-place}
use Rattle.layout.proofs.check_bits.Goals as goal

pub bounds-w-a : goal.bounds-w-a
bounds-w-a c = omega (arith, check-place _ c.requires.0 _ c.requires.1 c.args.i)

pub overflow_cast-result : goal.overflow_cast-result
overflow_cast-result c = omega (arith, c.type_inv.w c.level_of-a.result)

pub returns : goal.returns
returns c = ap (λ (k : ℕ). get_or c.args.w.now k 0) c.level_of-a.ensures ∙ check-at _ c.requires.0 _ c.requires.1 _
