-- The loop: j words of the row are written.
use mathlib.Core.Path.{refl, sym, ◌∙◌}
use Prim.Native.Nat.{◌+◌}
use native.Mathlib.Omega.{arith}
use lib.ListN.{length-set}
use Rattle.polynomial.specs.Xor.{xors}
use Rattle.kernels.specs.Value.{value-nil}
use Rattle.bytewise.specs.Bytes.{six-done, six-turn}
use Rattle.bytewise.proofs.put_row.Goals as goal

pub loop-j-init : goal.loop-j-init
loop-j-init c = (c.requires.0, record { before = refl; done = value-nil 64 ∙ sym (rw (value-nil 64) (simp xors)) })

pub loop-j-preserved : goal.loop-j-preserved
loop-j-preserved c =
    let l = c.loop-j in
    let a = c.args in (
      length-set l.b _ _ ∙ l.invariant.0,
      six-turn a.b.now l.b a.t.now a.at (a.a + 6) (a.c + 6) l.j (λ k. (c.type_inv.t k).fits) (omega arith) (omega arith) (omega arith) l.invariant.1,
    )

pub returns : goal.returns
returns c =
    let l = c.loop-j in
    let a = c.args in
    six-done a.b.now l.b a.t.now a.at (a.a + 6) (a.c + 6) l.j (omega arith) l.invariant.1
