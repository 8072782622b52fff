use Rattle.sheet.specs.Rules.{place-within, place-past}
use Rattle.sheet.proofs.place_fits.Goals as goal

pub returns-then-a-p : goal.returns-then-a-p
returns-then-a-p c =
    let a = c.args in
    place-within a.p a.a c.strength_at-t.result c.strength_at.result c.if-a-p.true c.strength_at-t.ensures c.strength_at.ensures

pub returns-else-a-p : goal.returns-else-a-p
returns-else-a-p c =
    let a = c.args in
    place-past a.p a.a c.strength_at-t.result c.if-a-p.false c.strength_at-t.ensures
