use Rattle.std.proofs.Common.{rules, tests, inl, inr, arith, ◌≡◌, ◌≤◌, ◌<◌, ◌⊎◌, true, false}
use Rattle.code.specs.Parameters.{shape_fits}
use Rattle.sheet.specs.Rules.{shape-v-low, shape-v-high, shape-m-low, shape-rest}
use Rattle.sheet.proofs.shape_fits.Goals as goal
use Rattle.sheet.proofs.shape_fits.Goals.{After-contains}

-- what `contains` says
inside : (c : After-contains) → c.contains.result ≡ true → (1 ≤ c.args.p.v) × (c.args.p.v ≤ 3)
inside c e = (search (rules, tests), search (rules, tests))

outside : (c : After-contains) → c.contains.result ≡ false → (c.args.p.v < 1) ⊎ (3 < c.args.p.v)
outside c e = search (rules, tests)

pub returns-then-p : goal.returns-then-p
returns-then-p c =
    let h = inside (goal.at.returns-then-p c).After-contains c.if-p.true.0 in
    shape-rest c.args.p h.0 h.1 c.if-p.true.1

pub returns-else-p : goal.returns-else-p
returns-else-p c =
    let p = c.args.p in
    let says = (goal.at.returns-else-p c).After-contains in
    let e : false ≡ shape_fits p = elim c.if-p.either [
      | inl h ↦ let v = inside says h.0 in shape-m-low p v.0 v.1 h.1
      | inr h ↦ elim (outside says h) [ inl l ↦ shape-v-low p l | inr l ↦ shape-v-high p (omega arith) l ]
    ] in
    (cc)
