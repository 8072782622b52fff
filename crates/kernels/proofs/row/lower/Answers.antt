-- The loop: i words are written, the lowest of r / 2 ^ s, and those from i on are as they were.
use mathlib.Core.Path.{refl, ap, ◌∙◌}
use Prim.Native.Nat.{ℕ, ◌%◌, ◌^◌}
use native.Mathlib.Nat.{mod-lt}
use Rattle.std.proofs.Common.{arith, rules}
use lib.Pow.{pow_pos}
use Rattle.kernels.specs.Move.{lower_word, lower-done}
use Rattle.kernels.specs.Value.{drop-next, Bounded, bounded-set}
use Rattle.kernels.specs.Write.{written_start, written-done, written-digit}
use Rattle.kernels.proofs.row.lower.Goals as goal

pub loop-i-init : goal.loop-i-init
loop-i-init c = (refl, (search rules), written_start 64 _ _)

pub loop-i-preserved : goal.loop-i-preserved
loop-i-preserved c =
    let l = c.loop-i in
    let a = c.args in
    let b : Bounded 64 a.r.now = search rules in
    let q = c.window in (
      drop-next l.r a.r.now l.i _ l.invariant.0,
      bounded-set 64 l.r l.invariant.1 l.i _ (rw q.ensures (mod-lt _ (pow_pos 64))),
      written-digit 64 _ l.r _ l.i _ (omega arith)
          (q.ensures ∙ ap (λ (n : ℕ). n % 2 ^ 64) (lower_word a.r.now l.r a.s l.i b l.invariant.1 l.invariant.0)) l.invariant.2,
    )

pub returns : goal.returns
returns c =
    let l = c.loop-i in
    (lower-done c.args.r.now c.args.s _ (search rules) (search rules) (written-done 64 _ l.r _ l.i 13 (omega arith) (omega arith) l.invariant.2), l.invariant.1)
