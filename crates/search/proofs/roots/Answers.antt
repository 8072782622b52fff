use mathlib.Core.Path.{◌≡◌}
use Prim.Native.Nat.{◌*◌, ◌/◌, ◌+◌, ◌-◌, ◌^◌, ◌≤◌}
use native.Mathlib.Omega.{arith}
use Rattle.element.specs.Fields.{size-most}
use Rattle.massey.specs.Steps.{zeroed-below}
use Rattle.search.specs.Thirds.{all-values, third-order}
use Rattle.search.specs.Values.{zeroed}
use Rattle.search.specs.Zeros.{rooted}
use Rattle.search.proofs.roots.Goals as goal
use Rattle.search.proofs.roots.Goals.{Start}

-- a third of the places
module _ (s : Start) where
  thirds : 3 * (s.args.f.order / 3) ≡ 2 ^ s.args.f.q - 1
  thirds = third-order s.args.f.q s.args.f.order s.requires.0.field.known s.requires.0.field.order

  fits : s.args.f.order / 3 ≤ 1365
  fits = omega (arith, s.requires.0.field.order, size-most s.args.f.q s.requires.0.field.known)

pub values-requires : goal.values-requires
values-requires c = (c.requires.0, c.requires.1, c.requires.2, c.requires.3, omega arith, zeroed 1365, fits (goal.at.values-requires c).Start)

pub values-requires-2 : goal.values-requires-2
values-requires-2 c = (c.requires.0, c.requires.1, c.requires.2, c.requires.3, omega arith, zeroed 1365, fits (goal.at.values-requires-2 c).Start)

pub values-requires-3 : goal.values-requires-3
values-requires-3 c = (c.requires.0, c.requires.1, c.requires.2, c.requires.3, omega arith, zeroed 1365, fits (goal.at.values-requires-3 c).Start)

pub combine-requires : goal.combine-requires
combine-requires c =
    let h = fits (goal.at.combine-requires c).Start in
    let n = thirds (goal.at.combine-requires c).Start in
    let m = size-most c.args.f.q c.requires.0.field.known in (
      c.requires.0,
      c.values.ensures.small,
      c.values-2.ensures.small,
      c.values-3.ensures.small,
      omega (arith, h, c.a-2-1.given),
      omega (arith, h, c.b-2-1.given),
      omega (arith, h, c.c-2-1.given),
      n,
      zeroed-below c.args.f.q _ (zeroed 4095),
      omega (arith, n, m),
    )

pub collect-requires : goal.collect-requires
collect-requires c =
    let m = size-most c.args.f.q c.requires.0.field.known in
    (omega (arith, c.requires.4, c.acc-2-1.given, m), omega (arith, c.requires.4, m))

pub returns : goal.returns
returns c =
    let a = c.args in
    let k = c.requires.0.field.known in
    let n = thirds (goal.at.returns c).Start in
    rooted a.f.q k _ _ _ _ _ _ _
    (all-values a.f.q k (a.f.order / 3) n a.sig.now a.l (5 * (a.l / 15 + 1)) (omega arith) c.values.ensures c.values-2.ensures c.values-3.ensures
    c.combine.ensures a.z (omega (arith, n, c.requires.4))) c.collect.ensures
