use native.Mathlib.Omega.{arith}
use Rattle.element.specs.Exponents.{times-lt}
use Rattle.element.specs.Fields.{size-most}
use Rattle.search.specs.Slots.{bits-lt}
use Rattle.search.specs.Thirds.{turned}
use Rattle.search.proofs.three_of.Goals as goal

pub times_lent-p-requires : goal.times_lent-p-requires
times_lent-p-requires c = (c.requires.0, rw c.from.ensures c.requires.1, rw c.from-2.ensures (bits-lt c.args.f.q c.args.b c.args.c c.requires.3 c.requires.4))

pub overflow_cast-p : goal.overflow_cast-p
overflow_cast-p c = let k = c.requires.0.field.known in omega (arith, c.times_lent-p.ensures, times-lt c.args.f.q k c.from.result c.from-2.result, size-most c.args.f.q k)

pub returns : goal.returns
returns c =
    let a = c.args in
    turned a.f.q c.requires.0.field.known a.w a.a a.b a.c c.times_lent-p.result c.requires.1 c.requires.2 c.requires.3 c.requires.4 (rw (c.from.ensures, c.from-2.ensures) at c.times_lent-p.ensures)
