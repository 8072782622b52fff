use Prim.Native.Nat.{zero-le}
use native.Mathlib.Omega.{arith}
use Rattle.code.proofs.Accepted.{accepted}
use Rattle.generator_rows.specs.Within.{level-within}
use Rattle.levels.specs.Levels.{v-pos, level-row, row-past, rows_are}
use Rattle.levels.proofs.rows.Goals as goal

pub of-f-requires : goal.of-f-requires
of-f-requires c = (accepted _ c.requires).known

pub generator_row-requires : goal.generator_row-requires
generator_row-requires c = level-within _ c.requires _ c.of-f.ensures 0 zero-le

pub generator_row-requires-2 : goal.generator_row-requires-2
generator_row-requires-2 c = level-within _ c.requires _ c.of-f.ensures 1 (v-pos _ c.requires)

pub returns-then-p-lt2 : goal.returns-then-p-lt2
returns-then-p-lt2 c =
    let A = c.requires in
    let e = c.of-f.ensures in
    rows_are _ A _ _ _ _ (level-row _ A _ e 0 zero-le _ c.generator_row.ensures) (level-row _ A _ e 1 (v-pos _ A) _ c.generator_row-2.ensures) (row-past _ A 2 c.if-p-lt2.true) (row-past _ A 3 (omega arith))

pub generator_row-requires-3 : goal.generator_row-requires-3
generator_row-requires-3 c = level-within _ c.requires _ c.of-f.ensures 2 c.if-p-lt2.false

pub returns-then-p-lt3 : goal.returns-then-p-lt3
returns-then-p-lt3 c =
    let A = c.requires in
    let e = c.of-f.ensures in
    rows_are _ A _ _ _ _ (level-row _ A _ e 0 zero-le _ c.generator_row.ensures) (level-row _ A _ e 1 (v-pos _ A) _ c.generator_row-2.ensures) (level-row _ A _ e 2 c.if-p-lt2.false _ c.generator_row-3.ensures) (row-past _ A 3 c.if-p-lt3.true)

pub generator_row-requires-4 : goal.generator_row-requires-4
generator_row-requires-4 c = level-within _ c.requires _ c.of-f.ensures 3 c.if-p-lt3.false

pub returns : goal.returns
returns c =
    let A = c.requires in
    let e = c.of-f.ensures in
    rows_are _ A _ _ _ _ (level-row _ A _ e 0 zero-le _ c.generator_row.ensures) (level-row _ A _ e 1 (v-pos _ A) _ c.generator_row-2.ensures) (level-row _ A _ e 2 c.if-p-lt2.false _ c.generator_row-3.ensures) (level-row _ A _ e 3 c.if-p-lt3.false _ c.generator_row-4.ensures)
