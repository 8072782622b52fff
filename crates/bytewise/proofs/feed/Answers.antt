-- The loop: what stands from x^(w + 64 i) on is fed to v.
use mathlib.Core.Path.{◌≡◌, refl, subst, ◌∙◌}
use Prim.Native.Nat.{ℕ, ◌+◌, ◌-◌, ◌*◌, ◌/◌, ◌%◌, ◌^◌, ◌≤◌}
use native.Mathlib.Omega.{arith}
use borrow.Author.Rules.{rules}
use Rattle.polynomial.specs.Digits.{value}
use Rattle.kernels.specs.Row.{D, D-is}
use Rattle.kernels.specs.Shift.{up-all}
use Rattle.reduction.specs.Feed.{row-of-zeros, start-fed, taken-over, turn-fed}
use Rattle.reduction.specs.Table.{Reduced, reduced-low}
use Rattle.bytewise.specs.Bytes.{half, half_is}
use Rattle.bytewise.proofs.feed.Goals as goal

pub loop-i-init : goal.loop-i-init
loop-i-init c =
    let a = c.args in
    (refl, λ t W. start-fed t (value 8 a.s.now) (a.w + 64 * a.k) _ row-of-zeros)

pub step-requires : goal.step-requires
step-requires c =
    let l = c.loop-i in
    let b = c.requires.1 in
    let q = l.invariant.1 b.hex b.widened in
    let h : half ≤ D = omega (arith, D-is, half_is) in
    (l.invariant.0, q.small, reduced-low b.hex half _ (value 64 l.v) (omega (arith, half_is)) b.moved (up-all _ D half h) q, b)

pub loop-i-preserved : goal.loop-i-preserved
loop-i-preserved c =
    let x = c.step in
    let b = c.bits-u in
    let l = c.loop-i in
    let a = c.args in (
      x.auto.r ∙ l.invariant.0,
      λ t W. turn-fed t (value 8 a.s.now) (a.w + 64 * a.k) (a.w + 64 * l.i) (a.w + 64 * (l.i - 1)) 64 (value 64 l.v) _ (omega arith) (omega arith) (l.invariant.1 t W) (rw b.ensures at (x.ensures t W)),
    )

pub copy-requires : goal.copy-requires
copy-requires c =
    let l = c.loop-i in
    (omega arith, omega (arith, l.invariant.0), omega arith, refl)

pub returns : goal.returns
returns c =
    let x = c.copy in
    let l = c.loop-i in
    let a = c.args in
    let e : a.w + 64 * l.i ≡ a.w = omega arith in
    λ t W. rw (taken-over a.r.now x.new.dst l.v (search rules) (search rules) l.invariant.0 c.requires.0 (l.invariant.1 t W).small x.ensures)
    (subst (λ (j : ℕ). Reduced t (value 8 a.s.now % 2 ^ (a.w + 64 * a.k) / 2 ^ j * 2 ^ D) (value 64 l.v)) e (l.invariant.1 t W))
