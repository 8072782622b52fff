use Prim.Native.Nat.{◌+◌, ◌-◌, ◌*◌, ◌≤◌}
use native.Mathlib.Nat as Nat
use native.Mathlib.Omega.{arith}
use lib.ListN.{length}
use Rattle.polynomial.specs.Digits.{value}
use Rattle.reduction.specs.Above.{short-rest, whole-rest}
use Rattle.bytewise.specs.Bytes.{whole-remainder}
use Rattle.bytewise.proofs.remainder_of.Goals as goal

pub returns-then-n-w : goal.returns-then-n-w
returns-then-n-w c =
    let a = c.args in
    let n = 8 * length a.s.now in (
      λ t W. whole-remainder t a.s.now (768 - a.w) n _ (λ i. (c.type_inv.s i).fits) (Nat.le_refl n)
          (short-rest t (768 - a.w) n (value 8 a.s.now) _ _ (omega (arith, c.requires.1)) (omega (arith, c.if-n-w.true, c.requires.2)) c.clear.ensures c.add_low.ensures.0),
      c.add_low.ensures.1,
    )

pub feed-requires : goal.feed-requires
feed-requires c = (c.clear.ensures, c.requires.0, omega (arith, c.requires.3), omega (arith, c.requires.2))

pub returns-else-n-w : goal.returns-else-n-w
returns-else-n-w c =
    let a = c.args in
    let l = 8 * length a.s.now in
    let n = a.w + 64 * c.div_ceil-k.result in
    let h : l ≤ n = omega (arith, c.div_ceil-k.ensures) in (
      λ t W. whole-remainder t a.s.now (768 - a.w) n _ (λ i. (c.type_inv.s i).fits) h
          (whole-rest t (768 - a.w) n a.w (value 8 a.s.now) _ _ _ (omega (arith, c.requires.1)) (omega (arith, c.requires.2)) (omega arith) (c.feed.ensures t W) c.lower.ensures.0 c.add_low-else-n-w.ensures.0),
      c.add_low-else-n-w.ensures.1,
    )
