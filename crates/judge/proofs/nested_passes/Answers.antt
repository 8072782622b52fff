use mathlib.Core.Path.{ap, ◌∙◌}
use native.Mathlib.Omega.{arith}
use Prim.Native.Nat.{ℕ, ◌-◌}
use lib.Dec.{eqb}
use Rattle.code.specs.Code.{remainder}
use Rattle.layout.specs.Sizes.{places-high}
use Rattle.judge.proofs.nested_passes.Goals as goal

pub overflow_sub-a : goal.overflow_sub-a
overflow_sub-a c = omega (arith, c.requires.1)

pub degree_at-w-requires : goal.degree_at-w-requires
degree_at-w-requires c = (c.requires.0.accepts, c.requires.0.rowed, omega arith)

pub prepare-requires : goal.prepare-requires
prepare-requires c = (c.requires.0.accepts, c.requires.0.rowed, omega arith, c.degree_at-w.ensures, c.requires.0.table)

pub nested_into-requires : goal.nested_into-requires
nested_into-requires c = (c.requires.0.accepts, c.requires.0.exact, c.requires.1, c.requires.0.room)

pub passes-requires : goal.passes-requires
passes-requires c =
    let a = c.args in
    (c.requires.0.accepts, omega arith, c.degree_at-w.ensures, c.prepare.ensures, rw c.nested_places-n.ensures (places-high a.p c.requires.0.accepts), rw c.nested_places-n.ensures c.nested_into.ensures.1)

pub returns : goal.returns
returns c =
    let a = c.args in
    c.passes.ensures ∙ ap (λ (x : ℕ). eqb (remainder a.p (a.p.v - a.l) x) 0) c.nested_into.ensures.0
