use mathlib.Core.Path.{◌∙◌}
use Prim.Native.Nat.{◌≤◌}
use native.Mathlib.Omega.{arith}
use Rattle.reduction.specs.Above.{kept-clear, next_start, one_less, step-law, word-parts}
use Rattle.reduction.proofs.remainder.step_word.Goals as goal

pub copy_next-requires : goal.copy_next-requires
copy_next-requires c =
    let f : c.args.from ≤ 11 = omega (arith, c.requires.place) in
    (omega (arith, c.requires.words), f, next_start c.args.r.now c.args.from (λ k. (c.slice_known-1.given k).fits) c.requires.words f c.requires.low)

pub copy-requires : goal.copy-requires
copy-requires c =
    let f : c.args.from ≤ 11 = omega (arith, c.requires.place) in
    (omega (arith, c.requires.words), omega (arith, c.add_top.array_long), omega (arith, f), kept-clear c.args.r.now c.copy_next.new.dst c.add_top.new.v c.args.from (λ j. (c.slice_known-1.given j).fits) c.requires.words f c.requires.low (one_less c.copy_next.new.dst _ c.args.from c.copy_next.ensures.1) c.add_top.ensures.1)

pub returns : goal.returns
returns c =
    let w = word-parts c.args.r.now c.copy_next.new.dst (λ j. (c.slice_known-1.given j).fits) c.requires.words c.requires.small c.copy_next.ensures.0 in
    step-law c.args.t.now c.args.r.now c.copy_next.new.dst c.add_top.new.v c.copy.new.dst _ c.args.u 64 c.requires.words c.requires.small (λ j. (c.type_inv.r j).fits) (c.copy.auto.dst ∙ c.requires.words)
    c.add_top.array_long w.0 w.1 c.add_top.ensures.0 c.copy.ensures
