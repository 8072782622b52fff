use mathlib.Core.Path.{◌≡◌, sym, ap, ◌∙◌}
use Prim.Native.Nat.{◌+◌, ◌*◌, ◌/◌, ◌%◌}
use native.Mathlib.Nat as Nat
use native.Mathlib.Omega.{arith}
use Rattle.std.proofs.lemmas.Nat.{xor_lt}
use Rattle.polynomial.specs.Digits.{value}
use Rattle.polynomial.specs.Xor.{xor, xor_zero_r}
use Rattle.kernels.specs.Value.{bounded-set}
use Rattle.reduction.specs.Above.{low_turn}
use Rattle.reduction.proofs.remainder.add_low.Goals as goal

pub loop-j-init : goal.loop-j-init
loop-j-init c = (sym (ap (xor (value 64 c.args.r.now)) (Nat.mod-one (value 8 c.args.s.now)) ∙ xor_zero_r (value 64 c.args.r.now)), c.fits-r)

pub loop-j-preserved : goal.loop-j-preserved
loop-j-preserved c =
    let l = c.loop-j in
    let b = l.invariant.1 in (
      low_turn l.r _ (value 8 c.args.s.now) l.j 64 (64 * (l.j + 1)) _ b (omega arith) (omega arith) (omega arith) c.bits.ensures l.invariant.0,
      bounded-set 64 l.r b l.j _ (xor_lt 64 _ _ (b l.j) c.bits.type_inv),
    )

pub returns-else-k-ne0 : goal.returns-else-k-ne0
returns-else-k-ne0 c =
    let e : 64 * c.loop-j.j ≡ c.args.k = omega arith in
    (rw e at c.loop-j.invariant.0, c.loop-j.invariant.1)

pub returns-then-k-ne0 : goal.returns-then-k-ne0
returns-then-k-ne0 c =
    let l = c.loop-j in
    let k = c.args.k in
    let b = l.invariant.1 in
    let e : l.j ≡ k / 64 = omega arith in (
      low_turn l.r _ (value 8 c.args.s.now) (k / 64) (k % 64) k _ b (omega arith) (omega arith) (omega arith) c.bits-then-k-ne0.ensures (rw e at l.invariant.0),
      bounded-set 64 l.r b (k / 64) _ (xor_lt 64 _ _ (b (k / 64)) c.bits-then-k-ne0.type_inv),
    )
