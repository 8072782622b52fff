-- The coefficients lie in eight bytes and the one above: bits-law.
use mathlib.Core.Path.{◌∙◌}
use Prim.Native.Nat.{◌+◌, ◌/◌, ◌%◌}
use native.Mathlib.Nat.{mod-lt}
use native.Mathlib.Omega.{arith}
use lib.Pow.{pow_pos}
use Rattle.polynomial.specs.Digits.{value}
use Rattle.kernels.specs.Bytes.{bits-law, byte-is}
use Rattle.kernels.specs.Value.{Bounded}
use Rattle.kernels.specs.Word.{window-lt}
use Rattle.kernels.proofs.bits.bits.Goals as goal

pub overflow_add-x : goal.overflow_add-x
overflow_add-x c =
    let a = c.args in
    record {
      fits =
          window-lt (a.pos % 8) (omega arith) c.word_at-lo.result c.from-hi.result
          (rw c.word_at-lo.ensures (mod-lt _ (pow_pos 64)));
    }

pub returns : goal.returns
returns c =
    let a = c.args in
    let b : Bounded 8 a.s.now = λ k. (c.type_inv.s k).fits in
    rw (c.word_at-lo.ensures, c.from-hi.ensures ∙ c.byte_at.ensures ∙ byte-is a.s.now b (a.pos / 8 + 8))
    (bits-law (value 8 a.s.now) a.pos a.count c.requires.2)
