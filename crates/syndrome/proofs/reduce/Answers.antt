use mathlib.Core.Path.{◌≡◌, refl, sym, ap, ◌∙◌}
use native.Mathlib.Nat as Nat
use native.Mathlib.Omega.{arith}
use Prim.Native.Nat.{◌+◌, ◌-◌}
use Rattle.polynomial.specs.Division.{rem-small}
use Rattle.field.specs.Fields.{field_polynomial, polynomial-degree}
use Rattle.element.specs.declared.Field.{Field}
use lib.Dec.{lit≤}
use Rattle.code.proofs.Accepted.{q-high}
use Rattle.syndrome.proofs.reduce.Goals as goal

pub of-f-requires : goal.of-f-requires
of-f-requires c = c.requires

pub loop-k-init : goal.loop-k-init
loop-k-init c = (Nat.le_trans (q-high c.args.q c.requires) (lit≤ {m = 12} {n = 16} tt), c.ranges.x.fits, refl)

pub reduce_at-y-requires : goal.reduce_at-y-requires
reduce_at-y-requires c =
    let e : c.loop-k.k - 1 + 1 ≡ c.loop-k.k = omega (arith, c.loop-k-test.true) in
    (c.requires, ap (λ (f : Field). f.polynomial) c.of-f.ensures, omega (arith, c.loop-k-test.true), omega (arith, c.loop-k-test.true), rw e c.loop-k.invariant.1)

pub loop-k-preserved : goal.loop-k-preserved
loop-k-preserved c = (omega (arith, c.loop-k-test.true), c.reduce_at-y.ensures.1, c.reduce_at-y.ensures.0 ∙ c.loop-k.invariant.2)

pub returns : goal.returns
returns c =
    let q = c.args.q in
    let w : c.loop-k.k ≡ q = omega (arith, c.loop-k.invariant.0, c.loop-k-test.false) in
    let h = rw w at c.loop-k.invariant.1 in
    (sym (rem-small (field_polynomial q) q (polynomial-degree q c.requires) c.loop-k.y h) ∙ c.loop-k.invariant.2, h)
