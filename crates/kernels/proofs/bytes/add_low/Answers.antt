use mathlib.Core.Path.{refl, ap, ◌∙◌}
use native.Mathlib.Omega.{arith}
use Prim.Native.Nat.{◌+◌, ◌*◌}
use lib.ListN.{length}
use Rattle.polynomial.specs.Digits.{value}
use Rattle.polynomial.specs.Xor.{xor}
use Rattle.kernels.specs.Add.{low-law, same-cut}
use Rattle.kernels.specs.Value.{value-lt}
use Rattle.kernels.proofs.bytes.add_low.Goals as goal

pub returns-then-c-acc : goal.returns-then-c-acc
returns-then-c-acc c =
    let a = c.args in
    let x = value 8 a.x.now in
    let n = c.min-c.result in
    low-law x (64 * n) (8 * n) 8 (8 * n + 8) (value 8 a.acc.now) _ _ (omega arith) refl c.add_in.ensures
    (rw c.bits_up-v.ensures at c.add_word.ensures)
    ∙ ap (xor (value 8 a.acc.now)) (same-cut x (length a.x.now) (8 * n + 8) (length a.acc.now) (value-lt 8 a.x.now (λ j. (c.type_inv.x j).fits)) (omega (arith, c.if-x-c.true)) (omega (arith, c.if-x-c.true, c.if-c-acc.true, c.acc-1.given)))

pub returns-else-x-c : goal.returns-else-x-c
returns-else-x-c c =
    let a = c.args in
    low-law (value 8 a.x.now) _ _ _ (length a.acc.now) _ _ _ (omega arith) (omega arith) c.add_in.ensures c.add_rest.ensures
