use mathlib.Core.Logic.{◌≢◌}
use mathlib.Core.Path.{ap, ◌∙◌}
use Prim.Native.Nat.{ℕ, ◌*◌}
use lib.ListN.{get_or}
use Rattle.polynomial.specs.Division.{xor_lt}
use Rattle.polynomial.specs.Sums.{all-at}
use Rattle.polynomial.specs.Xor.{xor_is}
use Rattle.field.specs.Elements.{power}
use Rattle.unmix.specs.Weights.{unmixing-first, unmixing-last, unmixing-next}
use Rattle.unmix.proofs.weight_of.Goals as goal

pub loop-k-init : goal.loop-k-init
loop-k-init c = unmixing-first c.args.f.q c.requires.0.field.known c.args.j c.args.i c.args.others.now c.args.sums.now c.requires.1

pub product-d-requires : goal.product-d-requires
product-d-requires c =
    let x = c.node-x in
    (c.requires.0, c.loop-k.invariant.below, rw (xor_is x.result c.node-y.result) (xor_lt c.args.f.q x.result c.node-y.result x.ensures.2 c.node-y.ensures.2))

pub loop-k-preserved : goal.loop-k-preserved
loop-k-preserved c =
    let x = c.node-x in
    let apart : power c.args.f.q (c.args.j * get_or c.args.others.now c.loop-k.k-index 0) ≢ power c.args.f.q (c.args.j * c.args.i) =
    all-at (λ k. power c.args.f.q (c.args.j * k) ≢ power c.args.f.q (c.args.j * c.args.i)) c.args.others.now c.requires.6 c.loop-k.k-index c.loop-k-test.true in
    unmixing-next c.args.f.q c.requires.0.field.known c.args.j c.args.i c.args.others.now c.args.sums.now c.loop-k.invariant c.requires.2 c.loop-k-test.true
    x.result c.node-y.result x.ensures.0 (c.node-y.ensures.0 ∙ ap (λ (k : ℕ). power c.args.f.q (c.args.j * k)) c.from.ensures) apart c.take_out.ensures c.product-d.ensures

pub returns : goal.returns
returns c = unmixing-last c.args.f.q c.requires.0.field.known c.args.j c.args.i c.args.others.now c.args.sums.now c.loop-k.invariant c.quotient.result c.loop-k-test.false c.quotient.ensures
