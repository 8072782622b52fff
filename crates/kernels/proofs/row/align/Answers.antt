-- The loop: i words are written, the lowest of g * 2 ^ s. All of it fits: align-lt.
use mathlib.Core.Path.{◌∙◌}
use native.Mathlib.Nat.{mod-eq_of_lt, mod-lt}
use Rattle.std.proofs.Common.{arith, rules}
use lib.Pow.{pow_pos}
use Rattle.polynomial.specs.Digits.{value}
use Rattle.kernels.specs.Move.{align-lt}
use Rattle.kernels.specs.Value.{bounded-set}
use Rattle.kernels.specs.Write.{written_start, written-digit, written-done}
use Rattle.kernels.proofs.row.align.Goals as goal

pub loop-i-init : goal.loop-i-init
loop-i-init c = (written_start 64 _ _, search rules)

pub loop-i-preserved : goal.loop-i-preserved
loop-i-preserved c =
    let l = c.loop-i in
    let q = c.window_up.ensures in (
      written-digit 64 _ l.r _ l.i _ (omega arith) q l.invariant.0,
      bounded-set 64 l.r l.invariant.1 l.i _ (rw q (mod-lt _ (pow_pos 64))),
    )

pub returns : goal.returns
returns c =
    let l = c.loop-i in
    let a = c.args in
    (written-done 64 _ l.r _ l.i 13 (omega arith) (omega arith) l.invariant.0 ∙ mod-eq_of_lt (align-lt (value 64 a.g.now) a.w c.requires.1 c.requires.0), l.invariant.1)
