use mathlib.Core.Path.{ap, ◌∙◌}
use native.Mathlib.Omega.{arith}
use Prim.Native.Nat.{ℕ}
use Rattle.code.proofs.Filled.{filled-first, filled_next, filled-all}
use Rattle.numbers.specs.List.{first_numbers}
use Rattle.numbers.proofs.load.Goals as goal

pub loop-i-init : goal.loop-i-init
loop-i-init c = filled-first _ _

pub loop-i-preserved : goal.loop-i-preserved
loop-i-preserved c =
    let l = c.loop-i in
    filled_next _ l.i _ l.numbers l.invariant (omega arith) c.number_at.ensures

pub returns : goal.returns
returns c =
    let l = c.loop-i in
    let b = c.args.bytes.now in
    filled-all _ l.i l.numbers l.invariant (omega arith) ∙ ap (λ (k : ℕ). first_numbers k b) (omega arith)
