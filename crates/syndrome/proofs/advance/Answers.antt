use mathlib.Core.Path.{◌≡◌, refl, ap, ◌∙◌}
use native.Mathlib.Nat as Nat
use native.Mathlib.Omega.{arith}
use Prim.Native.Nat.{ℕ, ◌-◌, ◌<◌, ◌+◌, ◌%◌, ◌^◌}
use lib.ListN.{length, get_or}
use lib.Seq.{get_or-set_other}
use Rattle.code.proofs.Filled.{filled-first, filled_next, filled-all}
use Rattle.syndrome.proofs.advance.Goals as goal

pub loop-i-init : goal.loop-i-init
loop-i-init c = (filled-first _ _, λ k h. refl)

pub add_logs-requires : goal.add_logs-requires
add_logs-requires c =
    let i = c.loop-i.i in
    let h : i < length c.args.e.now = omega arith in
    (c.requires.0, rw (c.loop-i.invariant.1 i (Nat.le_refl i)) (c.requires.2.below i h), c.requires.3.below i (omega (arith, h, c.requires.1)))

pub loop-i-preserved : goal.loop-i-preserved
loop-i-preserved c =
    let i = c.loop-i.i in
    let h : i < length c.loop-i.e = omega arith in (
      filled_next _ i _ c.loop-i.e c.loop-i.invariant.0 h
          (c.add_logs.ensures ∙ ap (λ (a : ℕ). (a + get_or c.args.d.now i 0) % (2 ^ c.args.f.q - 1)) (c.loop-i.invariant.1 i (Nat.le_refl i))),
      λ k b. get_or-set_other c.loop-i.e i k _ 0 (omega arith) ∙ c.loop-i.invariant.1 k (omega arith),
    )

pub returns : goal.returns
returns c =
    let w : c.loop-i.i ≡ length c.args.e.now = omega arith in
    filled-all _ (length c.args.e.now) c.loop-i.e (rw w at c.loop-i.invariant.0) (omega arith)
