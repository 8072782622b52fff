use mathlib.Core.Path.{ap}
use native.Mathlib.Omega.{arith}
use Prim.Native.Nat.{ℕ, ◌*◌}
use Rattle.layout.specs.Sizes.{page-high}
use Rattle.layout.proofs.page_bytes.Goals as goal

pub overflow_mul-result : goal.overflow_mul-result
overflow_mul-result c = rw c.sub_word_bytes-b.ensures (omega (arith, page-high _ c.requires))

pub returns : goal.returns
returns c = ap (λ (b : ℕ). c.args.p.m * b) c.sub_word_bytes-b.ensures
