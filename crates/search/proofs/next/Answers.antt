use mathlib.Core.Path.{◌≡◌, sym, ap, ◌∙◌}
use Prim.Native.Nat.{ℕ, ◌+◌, ◌-◌, ◌%◌}
use native.Mathlib.Nat.{mod-eq_of_lt, mod-eq-sub-mod}
use native.Mathlib.Omega.{arith}
use Rattle.element.specs.Fields.{size-most}
use Rattle.search.proofs.next.Goals as goal

pub overflow_sub-result : goal.overflow_sub-result
overflow_sub-result c = omega (arith, c.requires.0.order, c.requires.2)

pub overflow_add-result : goal.overflow_add-result
overflow_add-result c = omega (arith, c.requires.0.order, c.requires.1, size-most c.args.f.q c.requires.0.known)

pub returns-then-e-i : goal.returns-then-e-i
returns-then-e-i c =
    let a = c.args in
    sym (mod-eq_of_lt (omega (arith, c.if-e-i.true, c.requires.0.order, c.requires.2))) ∙ ap (λ (n : ℕ). (a.e + (n - a.i)) % n) c.requires.0.order

pub returns-else-e-i : goal.returns-else-e-i
returns-else-e-i c =
    let a = c.args in
    let n = a.f.order in
    let w : a.e - a.i ≡ a.e + (n - a.i) - n = omega (arith, c.if-e-i.false, c.requires.0.order, c.requires.1) in
    w ∙ sym (mod-eq-sub-mod (omega (arith, c.if-e-i.false, c.requires.0.order, c.requires.2)) ∙ mod-eq_of_lt (omega (arith, c.requires.0.order, c.requires.1, c.requires.2)))
    ∙ ap (λ (n : ℕ). (a.e + (n - a.i)) % n) c.requires.0.order
