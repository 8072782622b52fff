use native.Mathlib.Nat as Nat
use native.Mathlib.Omega.{arith}
use Rattle.element.specs.Exponents.{times-lt}
use Rattle.element.specs.Fields.{size-most}
use Rattle.massey.specs.Entries.{product_is}
use Rattle.massey.proofs.product.Goals as goal

pub overflow_cast-result : goal.overflow_cast-result
overflow_cast-result c =
    let k = c.requires.0.field.known in
    record { fits = rw c.times_lent-r.ensures (Nat.lt_of_lt_of_le (times-lt c.args.f.q k c.args.a c.args.b) (Nat.le_trans (size-most c.args.f.q k) (omega arith))) }

pub returns : goal.returns
returns c = product_is c.args.f.q c.requires.0.field.known c.args.a c.args.b c.times_lent-r.result c.requires.1 c.requires.2 c.times_lent-r.ensures
