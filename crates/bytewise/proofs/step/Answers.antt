use mathlib.Core.Path.{◌∙◌}
use native.Mathlib.Omega.{arith}
use lib.ListN.{replicate}
use Rattle.reduction.specs.Above.{kept-clear, next_start, one_less, step-law, word-parts}
use Rattle.bytewise.specs.Bytes.{half_is}
use Rattle.bytewise.proofs.step.Goals as goal

pub copy_next-requires : goal.copy_next-requires
copy_next-requires c = (omega (arith, c.requires.0), omega arith, next_start c.args.r.now 6 (λ k. (c.slice_known-2-1.given k).fits) c.requires.0 (omega arith) (rw half_is at c.requires.2))

pub copy-requires : goal.copy-requires
copy-requires c = (omega (arith, c.requires.0), omega (arith, c.add_top.array_long), omega arith, kept-clear c.args.r.now c.copy_next.new.dst c.add_top.new.v 6 (λ j. (c.slice_known-2-1.given j).fits) c.requires.0 (omega arith) (rw half_is at c.requires.2) (one_less c.copy_next.new.dst (replicate 12 0) 6 c.copy_next.ensures.1) c.add_top.ensures.1)

pub returns : goal.returns
returns c =
    let w = word-parts c.args.r.now c.copy_next.new.dst (λ j. (c.slice_known-2-1.given j).fits) c.requires.0 c.requires.1 c.copy_next.ensures.0 in
    λ t W. step-law t c.args.r.now c.copy_next.new.dst c.add_top.new.v c.copy.new.dst _ c.args.u 64 c.requires.0 c.requires.1 (λ j. (c.type_inv.r j).fits) (c.copy.auto.dst ∙ c.requires.0)
    c.add_top.array_long w.0 w.1 (c.add_top.ensures.0 t W) c.copy.ensures
