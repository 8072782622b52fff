-- Byte k is cut, and those above are cleared: clear-law.
use mathlib.Core.Path.{◌∙◌}
use Prim.Native.Nat.{◌/◌}
use native.Mathlib.Omega.{arith}
use lib.ListN.{length-set}
use Rattle.kernels.specs.Fold.{clear-law}
use Rattle.kernels.proofs.bytes.clear_from.Goals as goal

pub clear_bytes-requires : goal.clear_bytes-requires
clear_bytes-requires c = simp length-set (omega arith)

pub shape_of-acc : goal.shape_of-acc
shape_of-acc c = c.clear_bytes.auto.acc ∙ simp length-set

pub returns : goal.returns
returns c =
    let a = c.args in
    c.clear_bytes.ensures ∙ clear-law a.acc.now a.n (a.n / 8) (λ k. (c.slice_known-1.given k).fits) (omega arith) (omega arith)
