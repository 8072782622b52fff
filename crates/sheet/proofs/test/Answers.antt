use mathlib.Core.Path.{sym, ◌∙◌}
use native.Mathlib.Omega.{arith}
use Rattle.element.specs.Fields.{made-field, made_none}
use Rattle.sheet.specs.Rules.{shape-facts, strength-high, field-facts, test-field, test_shape, test-strengths, test-clash, test_short, test-accepted, full-accepted}
use Rattle.sheet.proofs.test.Goals as goal

pub returns-in_default : goal.returns-in_default
returns-in_default c = test-field _ (made_none _ _ c.make.ensures _ c.in_default.is)

pub returns-then-not-shape_fits : goal.returns-then-not-shape_fits
returns-then-not-shape_fits c =
    let f = field-facts _ _ c.in-Ok.f c.make.ensures c.in-Ok.is in
    test_shape _ f.is_known (sym c.if-not-shape_fits.true ∙ c.shape_fits.ensures)

pub strengths_fit-requires : goal.strengths_fit-requires
strengths_fit-requires c =
    let f = field-facts _ _ c.in-Ok.f c.make.ensures c.in-Ok.is in
    (f.order, omega (arith, f.order-low))

pub returns-then-not-strengths_fit : goal.returns-then-not-strengths_fit
returns-then-not-strengths_fit c =
    let f = field-facts _ _ c.in-Ok.f c.make.ensures c.in-Ok.is in
    test-strengths _ f.is_known (sym c.if-not-shape_fits.false ∙ c.shape_fits.ensures)
    (sym c.if-not-strengths_fit.true ∙ c.strengths_fit.ensures)

pub clashes_at-requires : goal.clashes_at-requires
clashes_at-requires c =
    let f = field-facts _ _ c.in-Ok.f c.make.ensures c.in-Ok.is in
    let s = shape-facts _ (sym c.if-not-shape_fits.false ∙ c.shape_fits.ensures) in (
      f.order,
      f.order-low,
      f.order-high,
      omega (arith, s.m-low),
      s.m-high,
      strength-high _ (sym c.if-not-strengths_fit.false ∙ c.strengths_fit.ensures),
    )

pub returns-then-clashes_at : goal.returns-then-clashes_at
returns-then-clashes_at c =
    let f = field-facts _ _ c.in-Ok.f c.make.ensures c.in-Ok.is in
    test-clash _ f.is_known (sym c.if-not-shape_fits.false ∙ c.shape_fits.ensures)
    (sym c.if-not-strengths_fit.false ∙ c.strengths_fit.ensures) (sym c.if-clashes_at.true ∙ c.clashes_at.ensures)

pub short_fits-requires : goal.short_fits-requires
short_fits-requires c =
    let f = field-facts _ _ c.in-Ok.f c.make.ensures c.in-Ok.is in (
      full-accepted _ f.is_known (sym c.if-not-shape_fits.false ∙ c.shape_fits.ensures)
          (sym c.if-not-strengths_fit.false ∙ c.strengths_fit.ensures) (sym c.if-clashes_at.false ∙ c.clashes_at.ensures),
      made-field _ _ c.make.ensures _ c.in-Ok.is,
    )

pub returns-then-not-short_fits : goal.returns-then-not-short_fits
returns-then-not-short_fits c =
    let f = field-facts _ _ c.in-Ok.f c.make.ensures c.in-Ok.is in
    test_short _ f.is_known (sym c.if-not-shape_fits.false ∙ c.shape_fits.ensures)
    (sym c.if-not-strengths_fit.false ∙ c.strengths_fit.ensures) (sym c.if-clashes_at.false ∙ c.clashes_at.ensures)
    (sym c.if-not-short_fits.true ∙ c.short_fits.ensures)

pub returns : goal.returns
returns c =
    let f = field-facts _ _ c.in-Ok.f c.make.ensures c.in-Ok.is in
    test-accepted _ f.is_known (sym c.if-not-shape_fits.false ∙ c.shape_fits.ensures)
    (sym c.if-not-strengths_fit.false ∙ c.strengths_fit.ensures) (sym c.if-clashes_at.false ∙ c.clashes_at.ensures)
    (sym c.if-not-short_fits.false ∙ c.short_fits.ensures)
