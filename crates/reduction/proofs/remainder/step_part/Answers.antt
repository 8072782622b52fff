-- The register is moved up aside, the remainder of what passes x^768 and u is added, and it is copied back: step-law.
use mathlib.Core.Path.{refl, ◌∙◌}
use native.Mathlib.Omega.{arith}
use Rattle.reduction.specs.Above.{part-parts, step-law}
use Rattle.reduction.proofs.remainder.step_part.Goals as goal

pub add_shifted-requires : goal.add_shifted-requires
add_shifted-requires c = (omega (arith, c.requires.0.words), c.requires.1, c.requires.2)

pub copy-requires : goal.copy-requires
copy-requires c = (omega (arith, c.requires.0.words), omega (arith, c.add_top.array_long), omega arith, refl)

pub returns : goal.returns
returns c =
    let p = c.requires.0 in
    let a = c.add_shifted in
    let m = c.add_top in
    let o = c.copy in
    let w = part-parts c.args.r.now a.new.v c.args.l (λ k. (c.slice_known-1.given k).fits) p.words p.small c.requires.2 a.ensures in
    step-law c.args.t.now c.args.r.now a.new.v m.new.v o.new.dst _ c.args.u c.args.l p.words p.small (λ k. (c.type_inv.r k).fits) (o.auto.dst ∙ p.words)
    m.array_long w.0 w.1 m.ensures.0 o.ensures
