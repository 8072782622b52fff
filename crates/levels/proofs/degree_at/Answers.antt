use mathlib.Core.Path.{◌∙◌}
use native.Mathlib.Omega.{arith}
use Rattle.code.proofs.Accepted.{accepted, degree-high}
use Rattle.levels.specs.Ready.{row-at, row-deg, level-lt, gen-pos}
use Rattle.levels.proofs.degree_at.Goals as goal

pub bounds-rows-a : goal.bounds-rows-a
bounds-rows-a c = level-lt c.args.p c.requires.0 c.args.a c.requires.2

pub degree_of-d-requires : goal.degree_of-d-requires
degree_of-d-requires c =
    let r = row-at c.args.p c.requires.0 _ c.args.a c.requires.1 c.requires.2 in
    rw r.is (gen-pos c.args.p c.requires.0 c.args.a c.requires.2)

pub overflow_cast-result : goal.overflow_cast-result
overflow_cast-result c =
    let r = row-at c.args.p c.requires.0 _ c.args.a c.requires.1 c.requires.2 in
    omega (arith, c.degree_of-d.ensures, row-deg c.args.p c.requires.0 _ c.args.a c.requires.2 r, degree-high c.args.p (accepted c.args.p c.requires.0) c.args.a c.requires.2)

pub returns : goal.returns
returns c =
    let g = row-at c.args.p c.requires.0 _ c.args.a c.requires.1 c.requires.2 in
    c.degree_of-d.ensures ∙ row-deg c.args.p c.requires.0 _ c.args.a c.requires.2 g
