use native.Mathlib.Omega.{arith}
use Rattle.quote.specs.Given.{read_low, read-high, read_past, read-there}
use Rattle.quote.proofs.strength_given.Goals as goal

pub returns-then-v-lt1 : goal.returns-then-v-lt1
returns-then-v-lt1 c = read_low c.args.input c.args.a c.if-v-lt1.true

pub returns-then-v-gt3 : goal.returns-then-v-gt3
returns-then-v-gt3 c = read-high c.args.input c.args.a c.if-v-lt1.false c.if-v-gt3.true

pub returns-then-v-a : goal.returns-then-v-a
returns-then-v-a c = read_past c.args.input c.args.a c.if-v-lt1.false c.if-v-gt3.false (omega (arith, c.if-v-gt3.false, c.if-v-a.true))

pub returns : goal.returns
returns c = read-there c.args.input c.args.a c.if-v-lt1.false c.if-v-gt3.false (omega (arith, c.if-v-a.false))
