-- The loop: j words of g are added.
use mathlib.Core.Path.{◌≡◌, sym}
use Rattle.std.proofs.Common.{arith, rules}
use Rattle.std.proofs.lemmas.Nat.{xor_lt}
use lib.Seq.{take_all}
use Rattle.polynomial.specs.Digits.{value}
use Rattle.polynomial.specs.Xor.{xors}
use Rattle.kernels.specs.Value.{Bounded, add_turn, bounded-set, value-nil}
use Rattle.kernels.proofs.row.add.Goals as goal

pub loop-j-init : goal.loop-j-init
loop-j-init c = (sym (simp (value-nil 64, xors)), λ h. search rules)

pub loop-j-preserved : goal.loop-j-preserved
loop-j-preserved c =
    let l = c.loop-j in
    let e : Bounded 64 l.e = search rules in
    let g : Bounded 64 c.args.g.now = search rules in (
      add_turn 64 (value 64 c.args.e.now) l.e c.args.g.now l.j e g (omega arith) (omega arith) l.invariant.0,
      λ h. bounded-set 64 l.e e l.j _ (xor_lt 64 _ _ (e l.j) (g l.j)),
    )

pub returns : goal.returns
returns c =
    let e : c.loop-j.j ≡ 13 = omega arith in
    (rw (e, take_all 13 c.args.g.now (omega arith)) at c.loop-j.invariant.0, c.loop-j.invariant.1 (omega arith))
