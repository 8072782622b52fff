-- Added to nothing, in two parts: down-law.
use mathlib.Core.Path.{◌≡◌, ◌∙◌}
use native.Mathlib.Omega.{arith}
use lib.ListN.{length}
use Rattle.polynomial.specs.Digits.{value}
use Rattle.kernels.specs.Add.{down-law}
use Rattle.kernels.specs.Value.{value-nil}
use Rattle.kernels.proofs.bytes.copy_down.Goals as goal

pub returns : goal.returns
returns c =
    let a = c.args in
    let q = c.clear_bytes in
    let z : value 8 _ ≡ 0 = q.ensures ∙ value-nil 8 in
    down-law (value 8 a.src.now) a.w _ _ _ _ (length a.dst.now) _ _ (omega arith) (omega arith) (omega arith) (rw z at c.add_windows.ensures) c.add_rest.ensures
