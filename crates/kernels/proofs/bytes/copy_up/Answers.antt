-- Added to nothing.
use mathlib.Core.Path.{ap₂, ◌∙◌}
use Prim.Native.Nat.{ℕ, ◌*◌, ◌%◌, ◌^◌}
use Rattle.polynomial.specs.Digits.{value}
use Rattle.polynomial.specs.Xor.{xor, xor_zero_l}
use Rattle.kernels.specs.Value.{value-nil}
use Rattle.kernels.proofs.bytes.copy_up.Goals as goal

pub returns : goal.returns
returns c =
    let a = c.args in
    let q = c.clear_bytes in
    c.add_up.ensures ∙ ap₂ (λ (x n : ℕ). xor x (value 8 a.src.now * 2 ^ a.w % 2 ^ (8 * n))) (q.ensures ∙ value-nil 8) q.auto.acc ∙ xor_zero_l _
