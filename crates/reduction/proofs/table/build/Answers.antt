-- The loop: the rows of k places are there.
use mathlib.Core.Path.{◌≡◌, sym, ◌∙◌, subst}
use mathlib.Core.List.{List}
use Prim.Native.Nat.{ℕ, ◌+◌, ◌*◌}
use native.Mathlib.Omega.{arith}
use borrow.Author.Rules.{rules}
use lib.ListN.{length, take}
use lib.Seq.{length-take-le}
use Rattle.polynomial.specs.Digits.{value}
use Rattle.reduction.specs.Build.{Rows, rows-done, rows_start}
use Rattle.reduction.proofs.table.build.Goals as goal

-- the lower 12 words of 13
twelve : (g : List ℕ) → length g ≡ 13 → length (take 12 g) ≡ 12
twelve g e = length-take-le 12 g (omega arith)

pub slice_bounds-put_row-end : goal.slice_bounds-put_row-end
slice_bounds-put_row-end c = sym (twelve c.args.g.now (search rules))

pub put_row-requires : goal.put_row-requires
put_row-requires c = (c.clear_row.auto.t ∙ c.requires.0, twelve c.args.g.now (search rules), omega arith)

pub fill_place-requires : goal.fill_place-requires
fill_place-requires c =
    let q = c.clear_row in
    let r = c.put_row in (
      record {
        words = r.auto.t ∙ q.auto.t ∙ c.requires.0;
        G = value 64 c.args.g.now;
        deg = c.requires.1;
        rows = rows_start c.args.t.now q.new.t r.new.t c.args.g.now (search rules) (search rules) c.requires.1 q.ensures r.ensures;
      },
      omega arith,
    )

pub loop-k-init : goal.loop-k-init
loop-k-init c =
    let q = c.clear_row in
    let r = c.put_row in
    let x = c.fill_place in (
      x.auto.t ∙ r.auto.t ∙ q.auto.t ∙ c.requires.0,
      x.ensures.grow (value 64 c.args.g.now) c.requires.1
          (rows_start c.args.t.now q.new.t r.new.t c.args.g.now (search rules) (search rules) c.requires.1 q.ensures r.ensures),
    )

pub place-requires : goal.place-requires
place-requires c =
    let l = c.loop-k in
    (record { words = l.invariant.0; G = value 64 c.args.g.now; deg = c.requires.1; rows = l.invariant.1 }, omega arith, omega arith)

pub loop-k-preserved : goal.loop-k-preserved
loop-k-preserved c =
    let l = c.loop-k in
    let x = c.place in
    let e : 16 * l.k + 16 ≡ 16 * (l.k + 1) = omega arith in
    (x.auto.t ∙ l.invariant.0, subst (Rows (value 64 c.args.g.now) x.new.t) e (x.ensures.grow (value 64 c.args.g.now) c.requires.1 l.invariant.1))

pub returns : goal.returns
returns c =
    let l = c.loop-k in
    rows-done (value 64 c.args.g.now) l.t l.k c.requires.1 (omega arith) l.invariant.1
