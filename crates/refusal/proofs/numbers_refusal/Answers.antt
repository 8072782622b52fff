use mathlib.Core.Path.{sym, ◌∙◌}
use Rattle.code.proofs.Refused.{width_of}
use Rattle.refusal.specs.Feeding.{numbers-width, numbers-stray, numbers-full, numbers-level, numbers-none}
use Rattle.refusal.proofs.numbers_refusal.Goals as goal

pub returns-then-not-width_good : goal.returns-then-not-width_good
returns-then-not-width_good c = numbers-width _ _ _ _ _ (sym c.if-not-width_good.true ∙ c.width_good.ensures)

pub number_fits-requires : goal.number_fits-requires
number_fits-requires c = let w = width_of _ (sym c.if-not-width_good.false ∙ c.width_good.ensures) in (w.low, w.high)

pub returns-then-not-number_fits : goal.returns-then-not-number_fits
returns-then-not-number_fits c = numbers-stray _ _ _ _ _ (sym c.if-not-width_good.false ∙ c.width_good.ensures) (sym c.if-not-number_fits.true ∙ c.number_fits.ensures)

pub returns-then-not-room : goal.returns-then-not-room
returns-then-not-room c =
    let s = c.args in
    numbers-full s.p s.width s.level s.count s.u (sym c.if-not-width_good.false ∙ c.width_good.ensures) (sym c.if-not-number_fits.false ∙ c.number_fits.ensures)
    c.full_count-n.result c.full_count-n.ensures (sym c.if-not-room.true ∙ c.room.ensures)

pub returns-then-p-level : goal.returns-then-p-level
returns-then-p-level c =
    let s = c.args in
    numbers-level s.p s.width s.level s.count s.u (sym c.if-not-width_good.false ∙ c.width_good.ensures) (sym c.if-not-number_fits.false ∙ c.number_fits.ensures)
    c.full_count-n.result c.full_count-n.ensures (sym c.if-not-room.false ∙ c.room.ensures) c.if-p-level.true

pub returns : goal.returns
returns c =
    let s = c.args in
    numbers-none s.p s.width s.level s.count s.u (sym c.if-not-width_good.false ∙ c.width_good.ensures) (sym c.if-not-number_fits.false ∙ c.number_fits.ensures)
    c.full_count-n.result c.full_count-n.ensures (sym c.if-not-room.false ∙ c.room.ensures) c.if-p-level.false
