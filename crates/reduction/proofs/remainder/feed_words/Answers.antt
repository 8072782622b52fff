-- The loop: what stands from the i-th word on is fed to v.
use mathlib.Core.Path.{◌≡◌, refl}
use Prim.Native.Nat.{◌+◌, ◌-◌, ◌*◌, ◌/◌, ◌%◌}
use native.Mathlib.Omega.{arith}
use borrow.Author.Rules.{rules}
use Rattle.polynomial.specs.Digits.{value}
use Rattle.reduction.specs.Feed.{held, row-of-zeros, start-fed, taken-over, turn-fed}
use Rattle.reduction.proofs.remainder.feed_words.Goals as goal

pub loop-i-init : goal.loop-i-init
loop-i-init c =
    let e : c.args.w + (c.args.n - c.args.w) % 64 + 64 * ((c.args.n - c.args.w) / 64) ≡ c.args.n = omega arith in
    (refl, rw e (start-fed c.args.t.now (value 8 c.args.s.now) c.args.n _ row-of-zeros))

pub step_whole-requires : goal.step_whole-requires
step_whole-requires c =
    let l = c.loop-i in
    held l.v c.args.t.now _ c.args.p l.invariant.0 c.requires.0 c.requires.1 c.requires.5 l.invariant.1

pub loop-i-preserved : goal.loop-i-preserved
loop-i-preserved c =
    let x = c.step_whole in
    let l = c.loop-i in (
      x.array_long,
      turn-fed c.args.t.now (value 8 c.args.s.now) c.args.n _ _ 64 (value 64 l.v) _ (omega arith) (omega arith) l.invariant.1 (rw c.bits-u.ensures at x.ensures),
    )

pub copy-requires : goal.copy-requires
copy-requires c = (omega arith, omega (arith, c.loop-i.invariant.0), omega arith, refl)

pub returns : goal.returns
returns c =
    let x = c.copy in
    let l = c.loop-i in
    let q = c.args.w + (c.args.n - c.args.w) % 64 in
    let e : q + 64 * l.i ≡ q = omega arith in (
      omega arith,
      omega arith,
      omega arith,
      rw (taken-over c.args.r.now x.new.dst l.v (search rules) (search rules) l.invariant.0 c.requires.2 l.invariant.1.small x.ensures) (rw e at l.invariant.1),
    )
