use mathlib.Core.Path.{◌≡◌}
use native.Mathlib.Omega.{arith}
use Rattle.polynomial.specs.Digits.{value}
use Rattle.syndrome.specs.Places.{put_first, put_next}
use Rattle.syndrome.proofs.places_of.Goals as goal

pub loop-k-init : goal.loop-k-init
loop-k-init c = put_first _ _

pub loop-k-preserved : goal.loop-k-preserved
loop-k-preserved c =
    let P = c.loop-k.invariant in
    put_next (value 64 c.args.r.now) c.loop-k.k c.loop-k.c c.coefficient_at-c.result c.loop-k.places P
    (omega (arith, P.few, c.loop-k-test.true, c.requires.1)) c.coefficient_at-c.ensures.1 c.coefficient_at-c.ensures.0

pub returns : goal.returns
returns c =
    let w : c.loop-k.k ≡ c.args.w = omega arith in
    let P = rw w at c.loop-k.invariant in
    (P.few, P.are)
