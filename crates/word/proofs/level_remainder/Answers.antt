use mathlib.Core.Path.{sym}
use native.Mathlib.Omega.{arith}
use Rattle.layout.specs.Sizes.{length_high}
use Rattle.levels.specs.Ready.{row-at, level-lt}
use Rattle.word.specs.Level.{row-deg, row-most}
use Rattle.word.specs.Row.{row_as}
use Rattle.word.specs.WordBytes.{in-places}
use Rattle.word.proofs.level_remainder.Goals as goal

pub bounds-rows-a : goal.bounds-rows-a
bounds-rows-a c = level-lt c.args.p c.requires.0 c.args.a c.requires.1

pub slice_bounds-remainder_by-end : goal.slice_bounds-remainder_by-end
slice_bounds-remainder_by-end c = sym (row-at c.args.p c.requires.0 _ c.args.a c.rows-rows.ensures c.requires.1).words

pub remainder_by-requires : goal.remainder_by-requires
remainder_by-requires c =
    let r = row-at c.args.p c.requires.0 _ c.args.a c.rows-rows.ensures c.requires.1 in (
      row-deg _ c.requires.0 _ c.requires.1 _ r _ c.degree_at-w.ensures,
      row-most _ c.requires.0 _ c.requires.1 _ r _ c.degree_at-w.ensures,
      omega (arith, c.places_in-n.ensures, length_high _ c.requires.0),
    )

pub returns : goal.returns
returns c =
    let r = row-at c.args.p c.requires.0 _ c.args.a c.rows-rows.ensures c.requires.1 in (
      c.degree_at-w.ensures,
      row_as _ _ _ _ _ _ _ r.is c.degree_at-w.ensures (in-places c.args.s.now _ _ (λ i. (c.type_inv.s i).fits) c.places_in-n.ensures c.requires.2) c.remainder_by.ensures.0,
      c.remainder_by.ensures.1,
    )
