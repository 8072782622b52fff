use mathlib.Core.Path.{sym, ◌∙◌}
use Prim.Native.Nat.{zero-le}
use native.Mathlib.Nat as Nat
use native.Mathlib.Omega.{arith}
use lib.Pow.{pow_mono}
use borrow.Author.Tests.{eqb-true}
use Rattle.polynomial.specs.Digits.{value}
use Rattle.code.proofs.Accepted.{accepted, degree-high, stored-le}
use Rattle.word.specs.Level.{level-lt, degree-few}
use Rattle.mend.specs.Nearest.{nearest-remainder, nearest_zero}
use Rattle.mend.proofs.find.Goals as goal

pub level_remainder-w-requires : goal.level_remainder-w-requires
level_remainder-w-requires c = (c.requires.0, zero-le, Nat.lt_of_lt_of_le c.requires.1 (pow_mono (stored-le c.args.p (accepted c.args.p c.requires.0))))

pub returns-then-is_zero : goal.returns-then-is_zero
returns-then-is_zero c = (nearest_zero c.args.p c.requires.0 (value 8 c.args.s.now) c.requires.1 _ c.level_remainder-w.ensures.1 (eqb-true _ 0 (sym c.is_zero.ensures ∙ c.if-is_zero.true)) c.args.list.now, zero-le)

pub locate_in-requires : goal.locate_in-requires
locate_in-requires c =
    let w = c.level_remainder-w.ensures.0 in
    let d = degree-few c.args.p c.requires.0 0 zero-le _ w in
    (c.requires.0, omega (arith, w, degree-high c.args.p (accepted c.args.p c.requires.0) 0 zero-le), d.0, d.1, level-lt c.args.p c.requires.0 0 zero-le (value 8 c.args.s.now) _ _ w c.level_remainder-w.ensures.1, c.requires.2, c.requires.3)

pub returns-else-is_zero : goal.returns-else-is_zero
returns-else-is_zero c = (nearest-remainder c.args.p c.requires.0 (value 8 c.args.s.now) c.requires.1 _ c.level_remainder-w.ensures.1 c.args.t _ c.requires.2 c.locate_in.ensures.0, c.locate_in.ensures.1)
