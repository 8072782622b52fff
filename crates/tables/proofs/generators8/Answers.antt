use mathlib.Core.Path.{◌≡◌}
use native.Mathlib.Omega.{arith}
use lib.Dec.{lit≤}
use Rattle.tables.proofs.Generated.{words, holds8}
use Rattle.tables.proofs.generators8.Goals as goal

pub returns-then-b-eq0 : goal.returns-then-b-eq0
unfolding words
returns-then-b-eq0 c = rw c.if-b-eq0.true (holds8 0 16 (lit≤ tt))

pub returns-then-b-eq1 : goal.returns-then-b-eq1
unfolding words
returns-then-b-eq1 c = rw c.if-b-eq1.true (holds8 16 16 (lit≤ tt))

pub returns-then-b-eq2 : goal.returns-then-b-eq2
unfolding words
returns-then-b-eq2 c = rw c.if-b-eq2.true (holds8 32 16 (lit≤ tt))

pub returns : goal.returns
unfolding words
returns c =
    let b = c.args.b in
    let e : b ≡ 3 = omega (arith, c.if-b-eq2.false, c.if-b-eq1.false, c.if-b-eq0.false) in
    rw e (holds8 48 16 (lit≤ tt))
