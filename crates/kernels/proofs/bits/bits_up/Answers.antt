-- Three cases: from the place of s on, across it, and below it.
use mathlib.Core.Path.{sym, ap, ◌∙◌}
use Prim.Native.Nat.{ℕ, ◌-◌, ◌*◌, ◌%◌, ◌^◌}
use native.Mathlib.Nat.{div-one}
use native.Mathlib.Omega.{arith}
use Rattle.polynomial.specs.Digits.{value}
use Rattle.kernels.specs.Shift.{up-down, up_up, up-all, up-some}
use Rattle.kernels.proofs.bits.bits_up.Goals as goal

pub returns-then-up-pos : goal.returns-then-up-pos
returns-then-up-pos c =
    let a = c.args in
    c.bits.ensures ∙ ap (λ (n : ℕ). n % 2 ^ a.count) (sym (up-down (value 8 a.s.now) a.up a.pos c.if-up-pos.true))

pub returns-then-d-count : goal.returns-then-d-count
returns-then-d-count c =
    let a = c.args in
    let x = value 8 a.s.now in
    ap (λ (n : ℕ). n * 2 ^ (a.up - a.pos) % 2 ^ 64) (c.bits-then-d-count.ensures ∙ ap (λ (n : ℕ). n % 2 ^ (a.count - (a.up - a.pos))) (div-one x))
    ∙ up-some x (a.up - a.pos) a.count (omega arith) (omega arith)
    ∙ sym (ap (λ (n : ℕ). n % 2 ^ a.count) (up_up x a.up a.pos (omega arith)))

pub returns-else-d-count : goal.returns-else-d-count
returns-else-d-count c =
    let a = c.args in
    let x = value 8 a.s.now in
    sym (ap (λ (n : ℕ). n % 2 ^ a.count) (up_up x a.up a.pos (omega arith)) ∙ up-all x (a.up - a.pos) a.count (omega arith))
