use mathlib.Core.Path.{ap, ◌∙◌}
use native.Mathlib.Omega.{arith}
use Prim.Native.Nat.{ℕ, ◌+◌, ◌<◌}
use Rattle.code.specs.Layout.{coefficient_of}
use Rattle.code.specs.Parameters.{stored}
use Rattle.layout.specs.Sizes.{bits-all, check-below, stored-high}
use Rattle.alter.specs.Sum.{added-altered, kept-altered}
use Rattle.alter.proofs.alter_named.Goals as goal
use Rattle.alter.proofs.alter_named.Goals.{After-check_bits}

-- the bit's place
place : (c : After-check_bits) → (let a = c.args in c.check_bits.result + a.r < stored a.p)
place c =
    let a = c.args in
    omega (arith, c.check_bits.ensures, c.requires.3.bit, check-below a.p c.requires.0 a.i)

pub overflow_add-k : goal.overflow_add-k
overflow_add-k c = omega (arith, place (goal.at.overflow_add-k c).After-check_bits, stored-high c.args.p c.requires.0)

pub coefficient_at-requires : goal.coefficient_at-requires
coefficient_at-requires c = (c.requires.0, c.requires.3.exact, c.requires.3.block, omega (arith, place (goal.at.coefficient_at-requires c).After-check_bits, bits-all c.args.p c.requires.0))

pub keep-requires : goal.keep-requires
keep-requires c = (c.requires.0, c.requires.3.exact)

pub returns-then-coefficient_at-b : goal.returns-then-coefficient_at-b
returns-then-coefficient_at-b c =
    let a = c.args in
    let e = c.coefficient_at.ensures ∙ ap (λ (n : ℕ). coefficient_of a.p a.page.now a.i (n + a.r)) c.check_bits.ensures in
    kept-altered a.p c.requires.0 a.page.now a.i a.r a.b c.requires.3 c.keep.result (omega (arith, e, c.if-coefficient_at-b.true)) c.keep.ensures

pub add_bit-requires : goal.add_bit-requires
add_bit-requires c = (c.requires.0, c.requires.1, c.requires.2, c.requires.3.exact, c.requires.3.clear, c.requires.3.block, c.requires.3.bit)

pub returns : goal.returns
returns c =
    let a = c.args in
    let e = c.coefficient_at.ensures ∙ ap (λ (n : ℕ). coefficient_of a.p a.page.now a.i (n + a.r)) c.check_bits.ensures in
    added-altered a.p c.requires.0 a.page.now a.i a.r a.b c.requires.3 _ c.add_bit.result (λ g. c.if-coefficient_at-b.false (omega (arith, e, g))) c.add_bit.ensures
