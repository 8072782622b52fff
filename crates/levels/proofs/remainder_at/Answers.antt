use mathlib.Core.Path.{ap, ◌∙◌}
use Prim.Native.Nat.{◌%◌, ◌^◌}
use native.Mathlib.Nat as Nat
use native.Mathlib.Omega.{arith}
use Rattle.polynomial.specs.Digits.{value}
use Rattle.code.proofs.Accepted.{accepted, degree-high}
use Rattle.code.specs.Code.{remainder}
use Rattle.levels.specs.Ready.{degree-low, prepared-up, table-remainder}
use Rattle.levels.proofs.remainder_at.Goals as goal

pub overflow_sub-w : goal.overflow_sub-w
overflow_sub-w c = omega (arith, c.requires.2, degree-high c.args.p (accepted c.args.p c.requires.0) c.args.a c.requires.1)

pub remainder_of-requires : goal.remainder_of-requires
remainder_of-requires c = (
  c.requires.3.words,
  omega arith,
  omega arith,
  omega (arith, c.requires.2, degree-high c.args.p (accepted c.args.p c.requires.0) c.args.a c.requires.1, degree-low c.args.p c.requires.0 c.args.a c.requires.1),
  omega (arith, c.requires.4),
  prepared-up c.args.p c.args.a c.args.w c.args.t.now c.requires.2 c.requires.3,
)

pub returns : goal.returns
returns c =
    let a = c.args in (
      table-remainder a.p c.requires.0 a.a a.w (value 8 a.s.now % 2 ^ a.n) _ a.t.now c.requires.1 c.requires.2 c.requires.3 c.remainder_of.ensures.0
          ∙ ap (remainder a.p a.a) (Nat.mod-eq_of_lt c.requires.5),
      c.remainder_of.ensures.1,
    )
