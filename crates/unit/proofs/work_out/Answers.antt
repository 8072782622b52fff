use mathlib.Core.Path.{refl, sym, ap, ap₂, ◌∙◌}
use native.Mathlib.Nat as Nat
use native.Mathlib.Omega.{arith}
use Prim.Native.Nat.{ℕ, ◌+◌, ◌/◌, ◌^◌, ◌<◌}
use lib.Pow.{pow_mono}
use Rattle.code.proofs.Accepted.{accepted, degree-high}
use Rattle.code.specs.Code.{remainder}
use Rattle.code.specs.Layout.{one_block, page_of}
use Rattle.code.specs.Parameters.{stored}
use Rattle.layout.specs.Sizes.{check-below, stored-high}
use Rattle.unit.specs.Short.{below-lt, data-below, shortest-accepted, shortest-degrees, shortest-rows}
use Rattle.unit.proofs.work_out.Goals as goal
use Rattle.unit.proofs.work_out.Goals.{After-check_bits-bits}

-- the bit's place
place : (c : After-check_bits-bits) → (let a = c.args in c.check_bits-bits.result + a.r < stored a.p)
place c =
    let a = c.args in
    omega (arith, c.check_bits-bits.ensures, c.requires.4, check-below a.p c.requires.0 a.i)

pub check_bits-bits-requires : goal.check_bits-bits-requires
check_bits-bits-requires c = (c.requires.0, c.requires.2)

pub overflow_add-bits : goal.overflow_add-bits
overflow_add-bits c = omega (arith, place (goal.at.overflow_add-bits c).After-check_bits-bits, stored-high c.args.p c.requires.0)

pub power_below-requires : goal.power_below-requires
power_below-requires c = (c.requires.0, c.requires.1, c.requires.2, c.requires.5, c.requires.6, place (goal.at.power_below-requires c).After-check_bits-bits, refl)

pub short_page-requires : goal.short_page-requires
short_page-requires c =
    let a = c.args in
    let A = c.requires.0 in
    let e = c.requires.7 in
    let y = c.power_below.ensures ∙ ap (λ (b : ℕ). remainder a.p a.p.v (2 ^ (b + a.r))) c.check_bits-bits.ensures in (
      rw e (shortest-accepted a.p A),
      rw e (c.requires.1 ∙ sym (shortest-rows a.p A)),
      rw e (shortest-degrees a.p a.w.now c.requires.2),
      c.requires.8,
      rw e c.requires.3,
      omega (arith, place (goal.at.short_page-requires c).After-check_bits-bits, stored-high a.p A),
      rw y (Nat.lt_of_lt_of_le (below-lt a.p A a.i a.r c.requires.3) (pow_mono (degree-high a.p (accepted a.p A) a.p.v (Nat.le_refl a.p.v)))),
      rw (y, c.check_bits-bits.ensures, e) (data-below a.p A a.i a.r c.requires.3),
      c.t-1.given,
    )

pub returns : goal.returns
returns c =
    let a = c.args in
    let y = c.power_below.ensures ∙ ap (λ (b : ℕ). remainder a.p a.p.v (2 ^ (b + a.r))) c.check_bits-bits.ensures in
    (y, c.short_page.ensures ∙ ap₂ (λ (f b : ℕ). page_of a.q (one_block a.q a.i (f / 2 ^ b))) y c.check_bits-bits.ensures)
