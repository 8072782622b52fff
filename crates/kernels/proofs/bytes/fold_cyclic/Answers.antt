-- unity-fold, as fold_law has it.
use native.Mathlib.Omega.{arith}
use Rattle.polynomial.specs.Digits.{value}
use Rattle.kernels.specs.Fold.{top_lt, fold_law}
use Rattle.kernels.proofs.bytes.fold_cyclic.Goals as goal

pub add_bytes-requires : goal.add_bytes-requires
add_bytes-requires c =
    let k = c.clear_from.auto.acc in
    (omega arith, top_lt c.args.n (value 8 c.args.acc.now) _ _ c.requires.4 (omega (arith, k)) c.bits-top.ensures)

pub returns : goal.returns
returns c =
    let q = c.bits-top in
    fold_law c.args.n (value 8 c.args.acc.now) _ q.result _ (omega arith) c.requires.3 c.requires.4 c.clear_from.ensures q.ensures c.add_bytes.ensures
