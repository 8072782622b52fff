use Prim.Native.Nat.{ℕ, ◌*◌, ◌^◌, ◌%◌}
use mathlib.Core.Path.{◌∙◌, ap₂}
use native.Mathlib.Omega.{arith}
use lib.Bits.{bit_xor}
use Rattle.sheet.specs.Nesting.{at_zero, above, N-next}
use Rattle.sheet.proofs.+nest.Goals as goal

pub returns-then-l-eq0 : goal.returns-then-l-eq0
returns-then-l-eq0 t c = at_zero _ _ c.if-l-eq0.true

pub returns-then-i-l : goal.returns-then-i-l
returns-then-i-l t c = above _ _ c.if-i-l.true

pub returns : goal.returns
returns t c =
    let a = c.args in
    ap₂ (λ (x y : ℕ). bit_xor x (y * 2 ^ a.l % 2 ^ 64)) c.nest-a.ensures c.nest-b.ensures
    ∙ N-next a.i a.l (omega arith) (omega arith) (omega arith) (omega arith)
