-- The loop: the first n rows are made.
use mathlib.Core.Path.{◌∙◌}
use native.Mathlib.Nat as Nat
use native.Mathlib.Omega.{arith}
use Prim.Native.Nat.{◌+◌, ◌*◌, ◌/◌, ◌%◌}
use Rattle.bytewise.specs.Bytes.{wide-next}
use Rattle.bytewise.proofs.build.Goals as goal

pub loop-n-init : goal.loop-n-init
loop-n-init c = (c.requires.0, λ i h. absurd (Nat.not-suc-le-zero h))

pub loop-n-preserved : goal.loop-n-preserved
loop-n-preserved c =
    let l = c.loop-n in
    let n = l.n in (
      c.put_row.auto.b ∙ l.invariant.0,
      wide-next c.args.t.now l.b _ n (n / 256 * 384 + n % 16 * 12) (n / 256 * 384 + 192 + n / 16 % 16 * 12) c.requires.2 (λ j. (c.type_inv.t j).fits) c.requires.1 c.loop-n-test.true (omega arith) (omega arith) c.put_row.ensures l.invariant.1,
    )

pub returns : goal.returns
returns c =
    let l = c.loop-n in
    record { rows = λ n h. l.invariant.1 n (Nat.lt_of_lt_of_le h c.loop-n-test.false) }
