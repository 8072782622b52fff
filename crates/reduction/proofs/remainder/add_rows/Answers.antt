-- The loop: the first j words of the rows are added.
use Prim.Native.Nat.{ℕ}
use lib.Bits.{bit_xor, xor_assoc}
use mathlib.Core.Path.{◌≡◌, refl, ◌∙◌}
use native.Mathlib.Omega.{arith}
use borrow.Author.Rules.{rules}
use lib.Seq.{take-set-le}
use Rattle.reduction.specs.Sum.{rows_start, rows-turn, rows-done}
use Rattle.reduction.proofs.remainder.add_rows.Goals as goal

grouped : (x a b c d : ℕ) → bit_xor x (bit_xor (bit_xor (bit_xor a b) c) d) ≡ bit_xor (bit_xor (bit_xor (bit_xor x a) b) c) d
grouped x a b c d = simp xor_assoc

pub loop-j-init : goal.loop-j-init
loop-j-init c =
    let a = c.args in (
      refl,
      rows_start a.t.now a.a a.b a.c a.d a.from _ c.requires.1.clear c.requires.2.clear c.requires.3.clear c.requires.4.clear,
    )

pub loop-j-preserved : goal.loop-j-preserved
loop-j-preserved c =
    let l = c.loop-j in
    let a = c.args in (
      take-set-le a.from l.v l.j _ (omega arith) ∙ l.invariant.0,
      rw grouped (rows-turn a.t.now a.a a.b a.c a.d _ l.v l.j (search rules) (λ k. (c.type_inv.t k).fits)
          (omega arith) (omega arith) (omega arith) (omega arith) (omega arith) l.invariant.1),
    )

pub returns : goal.returns
returns c =
    let l = c.loop-j in
    let a = c.args in
    (rows-done a.t.now a.a a.b a.c a.d _ _ l.j (omega arith) l.invariant.1, l.invariant.0)
