use native.Mathlib.Nat as Nat
use native.Mathlib.Omega.{arith}
use Rattle.layout.specs.Runs.{found_first, found-rest}
use Rattle.layout.proofs.range_ones.Goals as goal

pub returns-else-words_ones : goal.returns-else-words_ones
returns-else-words_ones c =
    rw c.if-words_ones.false
    (found_first c.args.bytes.now c.args.at _ c.args.end (rw c.if-words_ones.false at c.words_ones.ensures) (omega (arith, c.requires.0)))

pub returns-then-words_ones : goal.returns-then-words_ones
returns-then-words_ones c = found-rest c.args.bytes.now c.args.at _ c.args.end c.bytes_ones.result (rw c.if-words_ones.true at c.words_ones.ensures) c.bytes_ones.ensures (Nat.le-add_right _ _)
