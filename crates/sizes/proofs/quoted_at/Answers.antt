use Prim.Native.Nat.{◌-◌}
use native.Mathlib.Omega.{arith}
use Rattle.layout.specs.Sizes.{data-high}
use Rattle.sizes.specs.Quoting.{level-number, level-fits, block-number, spare-number}
use Rattle.sizes.proofs.quoted_at.Goals as goal

pub bounds-w-k : goal.bounds-w-k
bounds-w-k c = omega (arith, c.if-k-lt4.true, c.requires.1.four)

pub overflow_cast-result : goal.overflow_cast-result
overflow_cast-result c = omega (arith, level-fits c.args.p c.requires.0 c.args.w.now c.args.k c.requires.1 c.if-k-lt4.true)

pub returns-then-k-lt4 : goal.returns-then-k-lt4
returns-then-k-lt4 c = level-number _ _ _ c.requires.1 c.if-k-lt4.true

pub data_bits-requires : goal.data_bits-requires
data_bits-requires c = (c.requires.0, c.requires.1)

pub overflow_cast-result-then-i-p : goal.overflow_cast-result-then-i-p
overflow_cast-result-then-i-p c = omega (arith, c.data_bits.ensures, data-high c.args.p c.requires.0 (c.args.k - 4))

pub returns-then-i-p : goal.returns-then-i-p
returns-then-i-p c = block-number _ _ _ c.if-k-lt4.false c.requires.2 c.if-i-p.true c.data_bits.ensures

pub returns-else-i-p : goal.returns-else-i-p
returns-else-i-p c = spare-number _ _ c.if-k-lt4.false c.requires.2 c.if-i-p.false
