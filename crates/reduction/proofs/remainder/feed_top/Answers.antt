-- The loop: what stands from x^q on is fed to v.
use mathlib.Core.Path.{◌≡◌, refl, ◌∙◌}
use Prim.Native.Nat.{◌-◌}
use native.Mathlib.Nat as Nat
use native.Mathlib.Omega.{arith}
use borrow.Author.Rules.{rules}
use Rattle.polynomial.specs.Digits.{value}
use Rattle.reduction.specs.Feed.{held, row-of-zeros, start-fed, taken-over, turn-fed}
use Rattle.reduction.specs.Step.{stepping-less}
use Rattle.reduction.proofs.remainder.feed_top.Goals as goal
use Rattle.reduction.proofs.remainder.feed_top.Goals.{then-l-eq64, else-l-eq64}

pub feed_words-q-requires : goal.feed_words-q-requires
feed_words-q-requires c =
    let p = c.requires in
    (p.0, p.1, row-of-zeros, p.3, p.4, p.5)

pub loop-q-init : goal.loop-q-init
loop-q-init c =
    elim c.if-l-eq64.branch [
      | then-l-eq64 w ↦
          let f = w.feed_words-q in
          rw (w.v-is, w.q-is, w.most-is) (omega arith, omega arith, f.ensures.1, f.ensures.0, f.array_long, f.ensures.3)
      | else-l-eq64 w ↦
          rw (w.v-is, w.q-is, w.most-is) (
            c.requires.6,
            omega (arith, c.requires.7, w.if-l-eq64.false),
            Nat.le_refl c.args.n,
            c.requires.3,
            refl,
            start-fed c.args.t.now (value 8 c.args.s.now) c.args.n _ row-of-zeros,
          )
    ]

pub step_part-requires : goal.step_part-requires
step_part-requires c =
    let l = c.loop-q in
    let k = c.min-k in
    (stepping-less _ _ c.args.p 0 (omega arith) (held l.v c.args.t.now _ c.args.p l.invariant.4 c.requires.0 c.requires.1 c.requires.5 l.invariant.5), omega (arith, k.ensures), omega (arith, k.ensures))

pub loop-q-preserved : goal.loop-q-preserved
loop-q-preserved c =
    let x = c.step_part in
    let k = c.min-k in
    let l = c.loop-q in (
      l.invariant.0,
      l.invariant.1,
      omega arith,
      omega arith,
      x.auto.r ∙ l.invariant.4,
      turn-fed c.args.t.now (value 8 c.args.s.now) c.args.n l.q (l.q - k.result) k.result (value 64 l.v) _ (omega (arith, k.ensures)) l.invariant.2 l.invariant.5 (rw c.bits-u.ensures at x.ensures),
    )

pub copy-requires : goal.copy-requires
copy-requires c =
    let l = c.loop-q in
    (search rules, omega (arith, l.invariant.4), omega arith, refl)

pub returns : goal.returns
returns c =
    let x = c.copy in
    let l = c.loop-q in
    let e : l.q ≡ c.args.w = omega arith in
    rw (taken-over c.args.r.now x.new.dst l.v (search rules) (search rules) l.invariant.4 c.requires.2 l.invariant.5.small x.ensures, ← e) l.invariant.5
