use mathlib.Core.Path.{ap, ◌∙◌}
use native.Mathlib.Nat as Nat
use native.Mathlib.Omega.{arith}
use Prim.Native.Nat.{◌*◌, ◌%◌, ◌^◌}
use lib.ListN.{length}
use Rattle.polynomial.specs.Digits.{value}
use Rattle.kernels.specs.Value.{value-lt}
use Rattle.code.specs.Code.{remainder}
use Rattle.code.proofs.Accepted.{accepted, degree-high}
use Rattle.levels.specs.Ready.{degree-low, prepared-up, table-remainder}
use Rattle.encode.specs.Loaded.{byte-remainder, byte-wide}
use Rattle.encode.proofs.check_of.Goals as goal

pub overflow_sub-w : goal.overflow_sub-w
overflow_sub-w c = omega (arith, c.requires.2, degree-high c.args.p (accepted c.args.p c.requires.0) c.args.a c.requires.1)

pub remainder_of-requires : goal.remainder_of-requires
remainder_of-requires c =
    let P = c.requires.3.plain c.if-t-eq3072.true in
    (P.words, c.requires.5, c.requires.6, omega (arith, c.requires.2, degree-low c.args.p c.requires.0 c.args.a c.requires.1), omega (arith, c.requires.4), prepared-up c.args.p c.args.a c.args.w c.args.t.now c.requires.2 P)

pub returns-then-t-eq3072 : goal.returns-then-t-eq3072
returns-then-t-eq3072 c =
    let a = c.args in (
      table-remainder a.p c.requires.0 a.a a.w (value 8 a.acc.now % 2 ^ (8 * length a.acc.now)) _ a.t.now c.requires.1 c.requires.2 (c.requires.3.plain c.if-t-eq3072.true) c.remainder_of.ensures.0
          ∙ ap (remainder a.p a.a) (Nat.mod-eq_of_lt (value-lt 8 a.acc.now (λ i. (c.type_inv.acc i).fits))),
      c.remainder_of.ensures.1,
    )

pub remainder_of-requires-else-t-eq3072 : goal.remainder_of-requires-else-t-eq3072
remainder_of-requires-else-t-eq3072 c =
    let B = c.requires.3.bytes c.if-t-eq3072.false in
    (byte-wide c.args.p c.args.a c.args.t.now B, omega (arith, c.requires.2, degree-low c.args.p c.requires.0 c.args.a c.requires.1), omega (arith, c.requires.2, B.short), c.requires.4)

pub returns-else-t-eq3072 : goal.returns-else-t-eq3072
returns-else-t-eq3072 c =
    let a = c.args in
    (byte-remainder a.p c.requires.0 a.a a.w (value 8 a.acc.now) _ a.t.now c.requires.1 c.requires.2 (c.requires.3.bytes c.if-t-eq3072.false) c.remainder_of-else-t-eq3072.ensures.0, c.remainder_of-else-t-eq3072.ensures.1)
