use native.Mathlib.Nat as Nat
use native.Mathlib.Omega.{arith}
use Prim.Native.Nat.{◌/◌}
use Rattle.syndrome.specs.Squares.{next-odd, next-even}
use Rattle.syndrome.proofs.next_of.Goals as goal

pub offset_bounds-odd-j : goal.offset_bounds-odd-j
offset_bounds-odd-j c = omega arith

pub returns-then-j-eq0 : goal.returns-then-j-eq0
returns-then-j-eq0 c = next-odd c.args.f.q _ c.args.j c.if-j-eq0.true

pub square-requires : goal.square-requires
square-requires c = c.requires.0

pub returns-else-j-eq0 : goal.returns-else-j-eq0
returns-else-j-eq0 c = next-even c.args.f.q _ c.args.j _ _ c.if-j-eq0.false (c.requires.3.is (c.args.j / 2) (omega (arith, Nat.pos_of_ne-zero c.if-j-eq0.false))) c.square.ensures
