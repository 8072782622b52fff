use mathlib.Core.Path.{◌≡◌, sym, ◌∙◌}
use Prim.Native.Nat.{◌+◌, ◌-◌, ◌^◌}
use native.Mathlib.Nat.{mod-eq_of_lt, mod-eq-sub-mod}
use native.Mathlib.Omega.{arith}
use Rattle.element.specs.Fields.{size-most}
use Rattle.element.specs.Lent.{log-sum-most}
use Rattle.element.proofs.add_logs.Goals as goal

pub overflow_add-k : goal.overflow_add-k
overflow_add-k c = omega (arith, log-sum-most c.args.f.q c.requires.0.known c.args.i c.args.j c.requires.1 c.requires.2)

pub overflow_cast-left : goal.overflow_cast-left
overflow_cast-left c = omega (arith, c.requires.0.order, size-most c.args.f.q c.requires.0.known)

pub overflow_sub-left : goal.overflow_sub-left
overflow_sub-left c = omega (arith, c.requires.0.order, c.requires.2)

pub returns-then-i-left : goal.returns-then-i-left
returns-then-i-left c = sym (mod-eq_of_lt (omega (arith, c.if-i-left.true, c.requires.0.order)))

pub returns-else-i-left : goal.returns-else-i-left
returns-else-i-left c =
    let a = c.args in
    let n = 2 ^ a.f.q - 1 in
    let w : a.i - (a.f.order - a.j) ≡ a.i + a.j - n = omega (arith, c.if-i-left.false, c.requires.0.order, c.requires.2) in
    w ∙ sym (mod-eq-sub-mod (omega (arith, c.if-i-left.false, c.requires.0.order)) ∙ mod-eq_of_lt (omega (arith, c.requires.1, c.requires.2)))
