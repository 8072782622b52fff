use mathlib.Core.Path.{◌≡◌, sym, ap, ◌∙◌}
use Prim.Native.Nat.{ℕ, ◌+◌, ◌-◌, ◌*◌, ◌%◌}
use native.Mathlib.Nat.{mod-eq_of_lt, add-mul-mod_self_right}
use native.Mathlib.Omega.{arith}
use Rattle.element.proofs.modulo.Goals as goal

pub returns-then-s-n : goal.returns-then-s-n
returns-then-s-n c = (sym (mod-eq_of_lt (omega arith)), c.if-s-n.true)

pub returns-else-s-n : goal.returns-else-s-n
returns-else-s-n c =
    let n = c.args.n in
    let s = c.args.s in
    let w : s ≡ s - n + 1 * n = omega arith in
    (sym (ap (λ (x : ℕ). x % n) w ∙ add-mul-mod_self_right (s - n) 1 n ∙ mod-eq_of_lt (omega arith)), omega arith)
