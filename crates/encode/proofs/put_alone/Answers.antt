use mathlib.Core.Path.{ap, ap₂, ◌∙◌}
use native.Mathlib.Nat as Nat
use native.Mathlib.Omega.{arith}
use Prim.Native.Nat.{◌+◌}
use Rattle.polynomial.specs.Division.{rem_lt}
use Rattle.code.proofs.Accepted.{accepted, degree-high, lawful}
use Rattle.code.specs.Code.{degree, gen, remainder}
use Rattle.encode.proofs.put_alone.Goals as goal

pub place-requires : goal.place-requires
place-requires c = (omega (arith, c.requires.2, degree-high c.args.p (accepted c.args.p c.requires.0) c.args.a c.requires.1), c.requires.5, c.requires.6)

pub check_of-requires : goal.check_of-requires
check_of-requires c = (c.requires.0, c.requires.1, c.requires.2, c.requires.3, omega (arith, c.place.auto.part, c.requires.5), c.requires.7, c.requires.8)

pub store_low-requires : goal.store_low-requires
store_low-requires c =
    let a = c.args in
    let R = accepted a.p c.requires.0 in (
      omega (arith, c.requires.2, degree-high a.p R a.a c.requires.1, c.check_of.array_long),
      omega (arith, c.place.auto.part, c.requires.4),
      rw (c.check_of.ensures.0, c.requires.2) (rem_lt (gen a.p a.a) (degree a.p a.a) ((lawful a.p R).degrees a.a c.requires.1) _),
      rw c.place.ensures (Nat.mul-mod_left _ _),
    )

pub returns : goal.returns
returns c = c.store_low.ensures ∙ ap₂ ◌+◌ c.place.ensures (c.check_of.ensures.0 ∙ ap (remainder c.args.p c.args.a) c.place.ensures)
