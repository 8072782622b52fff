-- The loop: the rows of the digits up to m + b - 1 are there.
use mathlib.Core.Path.{◌≡◌, ◌∙◌, subst}
use Prim.Native.Nat.{◌+◌, ◌*◌}
use native.Mathlib.Nat as Nat
use native.Mathlib.Omega.{arith}
use Rattle.reduction.specs.Build.{Grown, begun-on, grown-on, grown-start, hex-sum}
use Rattle.reduction.proofs.table.fill.Goals as goal

pub loop-b-init : goal.loop-b-init
loop-b-init c = (c.requires.0.words, grown-start c.args.t.now (16 * c.args.k + c.args.m + 1))

pub sum_row-requires : goal.sum_row-requires
sum_row-requires c =
    let l = c.loop-b in (
      begun-on c.args.t.now l.t _ _ c.requires.0 l.invariant.0 l.invariant.1,
      omega arith,
      omega arith,
      omega arith,
      hex-sum c.args.k c.args.m l.b c.requires.3 (omega arith) c.requires.4,
    )

pub loop-b-preserved : goal.loop-b-preserved
loop-b-preserved c =
    let l = c.loop-b in
    let q = c.sum_row in (
      q.auto.t ∙ l.invariant.0,
      grown-on c.args.t.now l.t q.new.t _ _ _ l.invariant.1
          (subst (Grown l.t q.new.t (16 * c.args.k + c.args.m + l.b)) (Nat.add_assoc (16 * c.args.k + c.args.m) l.b 1) q.ensures),
    )

pub returns : goal.returns
returns c =
    let l = c.loop-b in
    let e : l.b ≡ c.args.m = omega arith in
    rw e at l.invariant.1
