use mathlib.Core.Path.{◌≡◌, refl, ap, ◌∙◌}
use native.Mathlib.Omega.{arith}
use Prim.Native.Nat.{ℕ, ◌+◌, ◌*◌}
use Rattle.search.specs.Slots.{group}
use Rattle.search.specs.Thirds.{group-is}
use Rattle.search.specs.Values.{values-first, values-last, values-next}
use Rattle.search.proofs.values.Goals as goal

pub loop-g-init : goal.loop-g-init
loop-g-init c = (values-first _ _ _ _ c.requires.5, refl)

pub loop-g-preserved : goal.loop-g-preserved
loop-g-preserved c =
    let i = c.loop-g.invariant in
    let a = c.add_group.ensures in
    let e : c.args.c + 15 * c.loop-g.g ≡ c.args.c + 3 * (5 * c.loop-g.g) = omega arith in
    (values-last _ (omega arith) (values-next _ i.0 a (λ k. ap (λ (i : ℕ). group c.args.f.q c.args.sig.now c.args.l i k) e ∙ group-is c.args.f.q c.args.sig.now c.args.l c.args.c (5 * c.loop-g.g) k)), a.size ∙ i.1)
