use Rattle.std.proofs.Common.{eq-eqb, ◌∙◌}
use native.Mathlib.Nat as Nat
use native.Mathlib.Omega.{arith}
use Rattle.code.specs.Parameters.{unshortened}
use Rattle.generator_rows.specs.Within.{level-within}
use Rattle.sheet.specs.Rules.{short-degree, short_none, short-order, short-room, short-some}
use Rattle.sheet.proofs.short_fits.Goals as goal

pub returns-then-p-eq0 : goal.returns-then-p-eq0
returns-then-p-eq0 c = eq-eqb c.args.p.s 0 c.if-p-eq0.true ∙ short_none _ c.if-p-eq0.true

pub degree-requires : goal.degree-requires
degree-requires c =
    let p = c.args.p in
    rw c.strength_at-t.ensures (level-within (unshortened p) c.requires.0 c.args.f c.requires.1 p.v (Nat.le_refl p.v))

pub overflow_sub-result : goal.overflow_sub-result
overflow_sub-result c =
    let p = c.args.p in
    let w = short-degree p c.requires.0 c.args.f c.requires.1 _ _ c.strength_at-t.ensures c.degree.ensures in
    omega (arith, short-order p c.args.f c.requires.1, short-room p c.requires.0, w)

pub overflow_sub-result-else-p-eq0 : goal.overflow_sub-result-else-p-eq0
overflow_sub-result-else-p-eq0 c =
    let p = c.args.p in
    let w = short-degree p c.requires.0 c.args.f c.requires.1 _ _ c.strength_at-t.ensures c.degree.ensures in
    omega (arith, short-order p c.args.f c.requires.1, short-room p c.requires.0, w)

pub returns-else-p-eq0 : goal.returns-else-p-eq0
returns-else-p-eq0 c =
    let p = c.args.p in
    let w = short-degree p c.requires.0 c.args.f c.requires.1 _ _ c.strength_at-t.ensures c.degree.ensures in
    short-some p _ _ c.if-p-eq0.false (short-order p c.args.f c.requires.1) w
