-- Three cases: from the place of g on, across it, and below it.
use mathlib.Core.Path.{sym, ap, ◌∙◌}
use Prim.Native.Nat.{ℕ, ◌-◌, ◌*◌, ◌%◌, ◌^◌}
use native.Mathlib.Omega.{arith}
use Rattle.polynomial.specs.Digits.{value}
use Rattle.kernels.specs.Move.{first-up}
use Rattle.kernels.specs.Shift.{up-down, up_up, up-all}
use Rattle.kernels.proofs.row.window_up.Goals as goal

pub returns-then-up-pos : goal.returns-then-up-pos
returns-then-up-pos c =
    let a = c.args in
    c.window.ensures ∙ ap (λ (n : ℕ). n % 2 ^ 64) (sym (up-down (value 64 a.g.now) a.up a.pos c.if-up-pos.true))

pub returns-then-d-lt64 : goal.returns-then-d-lt64
returns-then-d-lt64 c =
    let a = c.args in
    ap (λ (n : ℕ). n * 2 ^ (a.up - a.pos) % 2 ^ 64) c.word_at.ensures ∙ first-up a.g.now (λ k. (c.type_inv.g k).fits) a.up a.pos (omega arith)

pub returns-else-d-lt64 : goal.returns-else-d-lt64
returns-else-d-lt64 c =
    let a = c.args in
    let x = value 64 a.g.now in
    sym (ap (λ (n : ℕ). n % 2 ^ 64) (up_up x a.up a.pos (omega arith)) ∙ up-all x (a.up - a.pos) 64 (omega arith))
