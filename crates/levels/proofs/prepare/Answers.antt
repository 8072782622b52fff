use borrow.Author.Rules.{rules}
use mathlib.Core.Path.{sym}
use Rattle.code.proofs.Accepted.{accepted, degree-high}
use Rattle.levels.specs.Ready.{row-at, row_lt, level-lt, prepared, aligned-deg}
use Rattle.levels.proofs.prepare.Goals as goal

pub bounds-rows-a : goal.bounds-rows-a
bounds-rows-a c = level-lt c.args.p c.requires.0 c.args.a c.requires.2

pub slice_bounds-align-end : goal.slice_bounds-align-end
slice_bounds-align-end c = sym (row-at c.args.p c.requires.0 _ c.args.a c.requires.1 c.requires.2).words

pub align-requires : goal.align-requires
align-requires c =
    let r = row-at c.args.p c.requires.0 _ c.args.a c.requires.1 c.requires.2 in
    (rw c.requires.3 (degree-high c.args.p (accepted c.args.p c.requires.0) c.args.a c.requires.2), rw (r.is, c.requires.3) (row_lt c.args.p c.requires.0 c.args.a c.requires.2))

pub build-requires : goal.build-requires
build-requires c =
    let r = row-at c.args.p c.requires.0 _ c.args.a c.requires.1 c.requires.2 in
    (search rules, aligned-deg c.args.p c.requires.0 _ c.align.new.r c.args.a c.args.w c.requires.2 c.requires.3 r c.align.ensures.0)

pub returns : goal.returns
returns c =
    let r = row-at c.args.p c.requires.0 _ c.args.a c.requires.1 c.requires.2 in
    prepared c.args.p c.requires.0 _ c.align.new.r c.build.new.t c.args.a c.args.w c.requires.2 c.requires.3 r c.align.ensures.0 (search rules) c.build.ensures
