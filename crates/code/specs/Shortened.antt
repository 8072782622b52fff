-- A sheet beside the one with s 0.
--   full_sizes, full_bits, full_blocks p   bytes of a sub-word, data bits and bytes of the blocks at s = 0
--   full_refusal p       the rules on a sheet but for s
--   lengthened p b       the blocks b as those of the sheet with s 0
use Rattle.std.specs.Prelude.{not, ℕ, ◌+◌, ◌-◌, ◌/◌, ◌^◌, replicate}
use mathlib.Core.List.{List, map}
use Rattle.code.specs.declared.Parameters.{Parameters}
use Rattle.code.specs.Code.{degree}
use Rattle.code.specs.Layout.{block_sizes, blocks_of}
use Rattle.code.specs.Lists.{◌or_else◌, ◌when◌, join, range}
use Rattle.code.specs.Parameters.{clashes, field_known, len, shape_fits, strengths_fit}
use Rattle.code.specs.Parameters.{unshortened}

-- ---- at s = 0
abbrev pub full_sizes : Parameters → List ℕ
full_sizes p = replicate p.m (2 ^ p.q / 8)

abbrev pub full_bits : Parameters → List ℕ
full_bits p = map (λ i. len p - degree p (p.v - i)) (range 0 p.m)

abbrev pub full_blocks : Parameters → List ℕ
full_blocks p = map (λ b. (b + 7) / 8) (full_bits p)

-- the rules on a sheet but for s
abbrev pub full_refusal : Parameters → ℕ
full_refusal p = 1 when not (field_known p) or_else 2 when not (shape_fits p) or_else 3 when not (strengths_fit p) or_else 4 when clashes p

abbrev pub lengthened : Parameters → List ℕ → List ℕ
lengthened p b = join (block_sizes (unshortened p)) (blocks_of p b)
