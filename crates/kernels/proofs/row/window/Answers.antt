-- The coefficients lie in two words: row-window.
use Prim.Native.Nat.{◌%◌}
use native.Mathlib.Omega.{arith}
use Rattle.kernels.specs.Move.{row-window}
use Rattle.kernels.specs.Word.{window-lt}
use Rattle.kernels.proofs.row.window.Goals as goal

pub overflow_add-result : goal.overflow_add-result
overflow_add-result c = record { fits = window-lt (c.args.pos % 64) (omega arith) c.word_at-lo.result c.word_at-hi.result (rw c.word_at-lo.ensures (c.type_inv.g _).fits) }

pub returns : goal.returns
returns c =
    let a = c.args in
    rw (c.word_at-lo.ensures, c.word_at-hi.ensures) (row-window a.g.now (λ k. (c.type_inv.g k).fits) a.pos)
