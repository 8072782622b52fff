-- The lower words are copied, the 13th's remainder is added, and they are copied back: reduce-law.
use mathlib.Core.Path.{◌∙◌}
use Prim.Native.Nat.{◌≤◌}
use native.Mathlib.Omega.{arith}
use lib.ListN.{length-set}
use borrow.Author.Rules.{rules}
use Rattle.kernels.specs.Value.{Bounded}
use Rattle.reduction.specs.Reduce.{clear_in, clear-out, reduce-law}
use Rattle.reduction.proofs.remainder.reduce.Goals as goal

pub copy-requires : goal.copy-requires
copy-requires c =
    let f : c.args.from ≤ 12 = omega (arith, c.requires.place) in
    (search rules, rw (length-set c.args.r.now 12 0) (omega (arith, c.requires.words)), f, clear_in c.args.r.now c.args.from (λ k. (c.slice_known-1.given k).fits) c.requires.words f c.requires.low)

pub copy-requires-2 : goal.copy-requires-2
copy-requires-2 c =
    let i = c.copy in
    let a = c.add_top in
    let f : c.args.from ≤ 12 = omega (arith, c.requires.place) in
    (rw (length-set c.args.r.now 12 0) (omega (arith, c.requires.words)), omega (arith, a.array_long), f, clear-out c.args.r.now _ i.new.dst a.new.v c.args.from f i.ensures a.ensures.1)

pub shape_of-r : goal.shape_of-r
shape_of-r c = c.copy-2.auto.dst ∙ length-set c.args.r.now 12 0

pub returns : goal.returns
returns c =
    let r : Bounded 64 c.args.r.now = λ k. (c.slice_known-1.given k).fits in
    let i = c.copy in
    let a = c.add_top in
    let o = c.copy-2 in
    let b : Bounded 64 o.new.dst = λ k. (c.type_inv.r k).fits in (
      reduce-law c.args.t.now c.args.r.now _ i.new.dst a.new.v o.new.dst r c.requires.words b
          (o.auto.dst ∙ length-set c.args.r.now 12 0 ∙ c.requires.words) i.auto.dst a.array_long i.ensures a.ensures.0 o.ensures,
      b,
    )
