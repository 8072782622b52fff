use mathlib.Core.Path.{◌≡◌, refl, sym, ◌∙◌}
use native.Mathlib.Omega.{arith}
use Prim.Native.Nat.{◌+◌, ◌-◌, ◌*◌, ◌≤◌}
use lib.ListN.{length, take, drop}
use Rattle.code.specs.Layout.{data_bytes, page_bytes}
use Rattle.code.specs.Lists.{part}
use Rattle.code.proofs.Many.{part_length, part_room}
use Rattle.layout.specs.Parts.{bytes_high}
use Rattle.layout.specs.Replaced.{put_is}
use Rattle.layout.specs.Sizes.{page-high}
use Rattle.pages.specs.Filling.{lent-part, place-small, turned-done, turned-kept}
use Rattle.pages.proofs.write_page.Goals as goal
use Rattle.pages.proofs.write_page.Goals.{After-data_bytes-size, After-page_bytes-bytes}

-- where the blocks stand, and the page
blocks-small : (d : After-data_bytes-size) → (d.args.k * d.data_bytes-size.result + d.data_bytes-size.result ≤ 65536)
blocks-small d =
    let g = d.requires.0.given in
    place-small d.args.k (length d.args.list.now) (data_bytes d.args.p) d.data_bytes-size.result d.requires.1 g.many (bytes_high d.args.p g.accepts) d.data_bytes-size.ensures

blocks-lent : (d : After-data_bytes-size) → (let a = d.args in let n = d.data_bytes-size.result in
    take (a.k * n + n - a.k * n) (drop (a.k * n) a.blocks.now) ≡ part (data_bytes a.p) a.k a.blocks.now)
blocks-lent d =
    let a = d.args in
    let n = d.data_bytes-size.result in
    lent-part a.blocks.now a.k n (a.k * n) (data_bytes a.p) refl d.data_bytes-size.ensures

page-small : (b : After-page_bytes-bytes) → (b.args.k * b.page_bytes-bytes.result + b.page_bytes-bytes.result ≤ 65536)
page-small b =
    let g = b.requires.0.given in
    place-small b.args.k (length b.args.list.now) (page_bytes b.args.p) b.page_bytes-bytes.result b.requires.1 g.many (page-high b.args.p g.accepts) b.page_bytes-bytes.ensures

pub returns-then-list-k-ne0 : goal.returns-then-list-k-ne0
returns-then-list-k-ne0 c =
    let a = c.args in
    turned-kept a.p a.blocks.now a.list.now a.pages.now a.k a.to c.if-list-k-ne0.true

pub data_bytes-size-requires : goal.data_bytes-size-requires
data_bytes-size-requires c = let g = c.requires.0.given in (g.accepts, g.degrees)

pub page_bytes-bytes-requires : goal.page_bytes-bytes-requires
page_bytes-bytes-requires c = c.requires.0.given.accepts

pub overflow_mul-at : goal.overflow_mul-at
overflow_mul-at c = omega (arith, blocks-small (goal.at.overflow_mul-at c).After-data_bytes-size)

pub overflow_add-end : goal.overflow_add-end
overflow_add-end c = omega (arith, blocks-small (goal.at.overflow_add-end c).After-data_bytes-size)

pub overflow_mul-start : goal.overflow_mul-start
overflow_mul-start c = omega (arith, page-small (goal.at.overflow_mul-start c).After-page_bytes-bytes)

pub overflow_add-stop : goal.overflow_add-stop
overflow_add-stop c = omega (arith, page-small (goal.at.overflow_add-stop c).After-page_bytes-bytes)

pub slice_bounds-write_span-end : goal.slice_bounds-write_span-end
slice_bounds-write_span-end c =
    let g = c.requires.0.given in
    rw (c.data_bytes-size.ensures, g.blocks-exact) (part_room (data_bytes c.args.p) (length c.args.list.now) c.args.k c.requires.1)

pub slice_bounds-write_span-end-2 : goal.slice_bounds-write_span-end-2
slice_bounds-write_span-end-2 c =
    let g = c.requires.0.given in
    rw (c.page_bytes-bytes.ensures, g.pages-exact) (part_room (page_bytes c.args.p) (length c.args.list.now) c.args.k c.requires.1)

pub write_span-requires : goal.write_span-requires
write_span-requires c =
    let a = c.args in
    let f = c.requires.0 in
    let g = f.given in
    let x = blocks-lent (goal.at.write_span-requires c).After-data_bytes-size in
    let y = lent-part a.pages.now a.k c.page_bytes-bytes.result (a.k * c.page_bytes-bytes.result) (page_bytes a.p) refl c.page_bytes-bytes.ensures in
    rw (x, y) (
      record {
        ready = record {
          accepts = g.accepts;
          degrees = g.degrees;
          exact = part_length (data_bytes a.p) (length a.list.now) a.blocks.now g.blocks-exact a.k c.requires.1;
          clear = g.clear a.k c.requires.1 c.if-list-k-ne0.false;
        };
        exact = part_length (page_bytes a.p) (length a.list.now) a.pages.now g.pages-exact a.k c.requires.1;
        low = g.low;
        high = g.high;
        room = f.room;
      },
      c.requires.2,
      c.requires.3.done c.if-list-k-ne0.false,
    )

pub returns : goal.returns
returns c =
    let a = c.args in
    let g = c.requires.0.given in
    let x = blocks-lent (goal.at.returns c).After-data_bytes-size in
    let w = rw x at c.write_span.ensures in
    rw (put_is a.pages.now c.write_span.new.page c.write_span.new.page (a.k * c.page_bytes-bytes.result) c.page_bytes-bytes.result (a.k * page_bytes a.p) (rw c.page_bytes-bytes.ensures refl) refl (w.exact ∙ sym c.page_bytes-bytes.ensures))
    (turned-done a.p a.blocks.now a.list.now a.pages.now c.write_span.new.page a.k a.to g.pages-exact c.requires.1 c.if-list-k-ne0.false w)
