use Rattle.code.specs.declared.Refusal.{Refusal}
use Rattle.code.proofs.Answers.{refusal-ne}
use borrow.Author.Tests.{ltb-true}
use mathlib.Core.Path.{refl, sym, ◌∙◌}
use native.Mathlib.Omega.{arith}
use Rattle.refusal.specs.Feeding.{numbers_fit, feed-numbers, feed-bits, feed-none}
use Rattle.register.specs.Register.{value_of, feeding-refused, feeding-done}
use Rattle.refusal.specs.Tests.{full-lt}
use Rattle.register.proofs.Register.feed_accepted.Goals as goal

pub returns-in-Err : goal.returns-in-Err
returns-in-Err c =
    let a = c.args in
    feeding-refused a.p a.width a.self a.u c.in-Err.e _ c.refused.ensures
    (feed-numbers a.p a.width (value_of a.self) a.u c.requires _ c.in-Err.ensures (refusal-ne c.in-Err.e))

pub degree_at-w-requires : goal.degree_at-w-requires
degree_at-w-requires c =
    let a = c.args in
    (c.requires, c.rows-rows.ensures, (numbers_fit a.p a.width a.self.level a.self.count a.u 0 c.in_default.ensures refl).level)

pub overflow_add-next : goal.overflow_add-next
overflow_add-next c =
    let a = c.args in
    omega (arith, (numbers_fit a.p a.width a.self.level a.self.count a.u 0 c.in_default.ensures refl).room, full-lt a.p c.requires)

pub returns-then-not-remainder_fits : goal.returns-then-not-remainder_fits
returns-then-not-remainder_fits c =
    let a = c.args in
    feeding-refused a.p a.width a.self a.u Refusal.Register _ c.refused-then-not-remainder_fits.ensures
    (feed-bits a.p a.width (value_of a.self) a.u c.requires 0 c.in_default.ensures refl c.degree_at-w.result c.degree_at-w.ensures
    (sym c.if-not-remainder_fits.true ∙ c.remainder_fits.ensures))

pub advance-g-requires : goal.advance-g-requires
advance-g-requires c =
    let a = c.args in
    let n = numbers_fit a.p a.width a.self.level a.self.count a.u 0 c.in_default.ensures refl in (
      c.requires,
      c.rows-rows.ensures,
      n.level,
      c.degree_at-w.ensures,
      ltb-true _ _ (sym c.remainder_fits.ensures ∙ c.if-not-remainder_fits.false),
      n.width.low,
      n.width.high,
    )

pub returns : goal.returns
returns c =
    let a = c.args in
    feeding-done a.p a.width a.self a.u c.advance-g.result
    (sym (feed-none a.p a.width (value_of a.self) a.u c.requires 0 c.in_default.ensures refl c.degree_at-w.result c.degree_at-w.ensures
    (sym c.if-not-remainder_fits.false ∙ c.remainder_fits.ensures)))
    c.advance-g.ensures
