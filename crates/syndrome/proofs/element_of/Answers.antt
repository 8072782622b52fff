use mathlib.Core.Path.{sym}
use Prim.Native.Nat.{◌^◌, ◌<◌}
use Rattle.polynomial.specs.Division.{rem-small}
use Rattle.field.specs.Fields.{field_polynomial, polynomial-degree}
use Rattle.syndrome.proofs.element_of.Goals as goal

pub returns-then-y-f : goal.returns-then-y-f
returns-then-y-f c =
    let q = c.args.f.q in
    let h : c.args.x < 2 ^ q = rw c.requires.size at c.if-y-f.true in
    (sym (rem-small (field_polynomial q) q (polynomial-degree q c.requires.known) c.args.x h), h)

pub reduce-requires : goal.reduce-requires
reduce-requires c = c.requires.known

pub returns-else-y-f : goal.returns-else-y-f
returns-else-y-f c = c.reduce.ensures
