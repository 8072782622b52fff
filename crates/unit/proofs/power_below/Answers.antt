use mathlib.Core.Path.{ap, ◌∙◌}
use native.Mathlib.Nat as Nat
use native.Mathlib.Omega.{arith}
use Prim.Native.Nat.{ℕ, ◌^◌}
use lib.Dec.{lit≤}
use Rattle.polynomial.specs.Division.{rem_lt}
use Rattle.polynomial.specs.Xor.{xor, xor_zero_l}
use Rattle.code.proofs.Accepted.{accepted, degree-high, lawful}
use Rattle.code.specs.Code.{degree, gen, remainder}
use Rattle.layout.specs.Sizes.{stored-high}
use Rattle.encode.specs.Loaded.{loaded-plain}
use Rattle.unit.specs.Unit.{no-data, put_in}
use Rattle.unit.proofs.power_below.Goals as goal

pub check_bits-bits-requires : goal.check_bits-bits-requires
check_bits-bits-requires c = (c.requires.0, c.requires.2)

pub prepare-requires : goal.prepare-requires
prepare-requires c = (c.requires.0, c.requires.1, Nat.le_refl _, c.check_bits-bits.ensures ∙ ap (degree c.args.p) (Nat.sub-zero c.args.p.v), c.requires.6)

pub flip-requires : goal.flip-requires
flip-requires c = omega (arith, c.requires.5, stored-high c.args.p c.requires.0)

pub check_of-requires : goal.check_of-requires
check_of-requires c =
    let p = c.args.p in
    (c.requires.0, Nat.le_refl _, c.check_bits-bits.ensures ∙ ap (degree p) (Nat.sub-zero p.v), loaded-plain p p.v _ c.prepare.ensures, omega (arith, c.s-2-1.given), lit≤ tt, lit≤ tt)

pub store_low-requires : goal.store_low-requires
store_low-requires c =
    let p = c.args.p in
    let R = accepted p c.requires.0 in
    let e = c.check_bits-bits.ensures ∙ ap (degree p) (Nat.sub-zero p.v) in (
      omega (arith, e, degree-high p R p.v (Nat.le_refl p.v), c.check_of.array_long),
      omega (arith, e, degree-high p R p.v (Nat.le_refl p.v), c.requires.4),
      rw (c.check_of.ensures.0, e) (rem_lt (gen p p.v) (degree p p.v) ((lawful p R).degrees p.v (Nat.le_refl p.v)) _),
      rw c.requires.3 (Nat.zero-mod _),
    )

pub returns : goal.returns
returns c =
    put_in _ _ _ c.store_low.ensures c.requires.3 ∙ c.check_of.ensures.0
    ∙ ap (remainder c.args.p c.args.p.v) (c.flip.ensures ∙ ap (λ (f : ℕ). xor f (2 ^ c.args.e)) (no-data 512) ∙ xor_zero_l _)
