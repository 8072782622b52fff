-- The coefficients lie in two words: word-law.
use native.Mathlib.Nat.{mod-lt}
use native.Mathlib.Omega.{arith}
use lib.Pow.{pow_pos}
use Rattle.polynomial.specs.Digits.{value}
use Rattle.kernels.specs.Bytes.{word-law}
use Rattle.kernels.specs.Word.{window-lt}
use Rattle.kernels.proofs.bits.window_in.Goals as goal

pub overflow_add-result : goal.overflow_add-result
overflow_add-result c = record { fits = window-lt c.args.sh (omega arith) c.word_in-lo.result c.word_in-hi.result (rw c.word_in-lo.ensures (mod-lt _ (pow_pos 64))) }

pub returns : goal.returns
returns c = rw (c.word_in-lo.ensures, c.word_in-hi.ensures) (word-law (value 8 c.args.s.now) c.args.at c.args.sh 64 (omega arith) (omega arith))
