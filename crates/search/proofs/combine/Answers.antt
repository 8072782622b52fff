use mathlib.Core.Path.{◌≡◌}
use Prim.Native.Nat.{◌-◌, ◌^◌, ◌<◌}
use native.Mathlib.Omega.{arith}
use lib.ListN.{get_or, length-set}
use Rattle.field.specs.Elements.{power}
use Rattle.tables.specs.Powers.{power-lt}
use Rattle.element.specs.Fields.{size-least}
use Rattle.element.specs.Lent.{root_in}
use Rattle.search.specs.Thirds.{filled_next}
use Rattle.search.proofs.combine.Goals as goal
use Rattle.search.proofs.combine.Goals.{Start}

-- what is lent
module _ (b : Start) where
  below : b.args.h < 2 ^ b.args.f.q - 1
  below = omega (arith, b.requires.7, size-least b.args.f.q b.requires.0.field.known)

  root : get_or b.args.powers.now b.args.h 0 ≡ power b.args.f.q b.args.h
  root = (root_in b.args.powers.now b.args.h).root b.args.f.q b.requires.0.powers below

pub three_of-r-requires : goal.three_of-r-requires
three_of-r-requires c =
    let k = c.loop-k.k in
    (c.requires.0, rw (root (goal.at.three_of-r-requires c).Start) (power-lt c.args.f.q c.requires.0.field.known c.args.h), c.requires.1.lt k, c.requires.2.lt k, c.requires.3.lt k)

pub loop-k-preserved : goal.loop-k-preserved
loop-k-preserved c =
    let i = c.loop-k.invariant in (
      filled_next _ (omega arith) (omega (arith, i.1, c.requires.9)) i.0 (rw (root (goal.at.loop-k-preserved c).Start) at c.three_of-r.ensures),
      simp length-set i.1,
    )
