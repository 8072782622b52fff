use mathlib.Core.Path.{sym}
use mathlib.Core.List.{[]}
use Prim.Native.Nat.{zero-le, ◌≤◌}
use lib.ListN.{get_or}
use Rattle.layout.specs.Sizes.{level-low}
use Rattle.levels.specs.Ready.{RowOf, row-at, level-lt}
use Rattle.word.specs.Level.{row-deg, row-most}
use Rattle.word.specs.Short.{degree-rises, divisor-is, divisor-width}
use Rattle.word.proofs.divisor_row.Goals as goal
use Rattle.word.proofs.divisor_row.Goals.{After-degree_at-w, After-level_of-a}

-- the rows of the levels v - l and 0
module _ (c : After-degree_at-w) where
  lower : RowOf c.args.p 0 (get_or c.rows-rows.result 0 [])
  lower = row-at c.args.p c.requires _ 0 c.rows-rows.ensures zero-le

-- the level v - l is one
low : (c : After-level_of-a) → c.level_of-a.result ≤ c.args.p.v
low c = let a = c.args in rw c.level_of-a.ensures (level-low a.p a.l)

pub degree_at-u-requires : goal.degree_at-u-requires
degree_at-u-requires c = (c.requires, c.rows-rows.ensures, low (goal.at.degree_at-u-requires c).After-level_of-a)

pub bounds-rows-a : goal.bounds-rows-a
bounds-rows-a c = level-lt c.args.p c.requires _ (low (goal.at.bounds-rows-a c).After-level_of-a)

pub slice_bounds-quotient-end : goal.slice_bounds-quotient-end
slice_bounds-quotient-end c =
    let upper : RowOf c.args.p c.level_of-a.result (get_or c.rows-rows.result c.level_of-a.result []) = row-at c.args.p c.requires _ _ c.rows-rows.ensures (low (goal.at.slice_bounds-quotient-end c).After-level_of-a) in
    sym (upper).words

pub slice_bounds-quotient-end-2 : goal.slice_bounds-quotient-end-2
slice_bounds-quotient-end-2 c = sym (lower (goal.at.slice_bounds-quotient-end-2 c).After-degree_at-w).words

pub quotient-requires : goal.quotient-requires
quotient-requires c =
    let upper : RowOf c.args.p c.level_of-a.result (get_or c.rows-rows.result c.level_of-a.result []) = row-at c.args.p c.requires _ _ c.rows-rows.ensures (low (goal.at.quotient-requires c).After-level_of-a) in (
      row-deg _ c.requires _ (low (goal.at.quotient-requires c).After-level_of-a) _ (upper) _ c.degree_at-u.ensures,
      row-deg _ c.requires 0 zero-le _ (lower (goal.at.quotient-requires c).After-degree_at-w) _ c.degree_at-w.ensures,
      degree-rises _ c.requires _ _ _ _ c.level_of-a.ensures c.degree_at-u.ensures c.degree_at-w.ensures,
      row-most _ c.requires _ (low (goal.at.quotient-requires c).After-level_of-a) _ (upper) _ c.degree_at-u.ensures,
    )

pub overflow_sub-result : goal.overflow_sub-result
overflow_sub-result c = degree-rises _ c.requires _ _ _ _ c.level_of-a.ensures c.degree_at-u.ensures c.degree_at-w.ensures

pub returns : goal.returns
returns c =
    let upper : RowOf c.args.p c.level_of-a.result (get_or c.rows-rows.result c.level_of-a.result []) = row-at c.args.p c.requires _ _ c.rows-rows.ensures (low (goal.at.returns c).After-level_of-a) in (
      divisor-width _ c.requires _ _ _ _ c.level_of-a.ensures c.degree_at-u.ensures c.degree_at-w.ensures,
      divisor-is _ c.requires _ _ _ _ c.level_of-a.ensures c.degree_at-u.ensures c.degree_at-w.ensures _ _ _ (upper) (lower (goal.at.returns c).After-degree_at-w) c.quotient.ensures.0,
    )
