use mathlib.Core.Path.{◌≡◌, sym, ◌∙◌}
use native.Mathlib.Omega.{arith}
use Prim.Native.Nat.{◌≤◌}
use lib.ListN.{length}
use Rattle.code.proofs.Pages.{zeros-length}
use Rattle.polynomial.specs.Digits.{value}
use Rattle.polynomial.specs.Sums.{add}
use Rattle.code.specs.Layout.{IsPage, one_bit, page_of}
use Rattle.layout.specs.Sizes.{page-high}
use Rattle.layout.specs.SubWords.{is-page}
use Rattle.alter.specs.Spread.{below-stored, bit_high, shortest-beside, spread-sum}
use Rattle.alter.specs.Sum.{added-blank, added-done, copied}
use Rattle.alter.proofs.add_short.Goals as goal
use Rattle.alter.proofs.add_short.Goals.{After-shared_slice_known-2-1}

-- the room suffices, and the page is one with clear spare bits
fit : (c : After-shared_slice_known-2-1) → length c.args.page.now ≤ 4096
fit c = omega (arith, c.requires.page-exact, page-high c.args.p c.requires.accepts)

is : (c : After-shared_slice_known-2-1) → (IsPage c.args.p c.args.page.now)
is c = is-page c.args.p c.args.page.now (λ j. (c.type_inv.page j).fits) c.requires.page-exact c.requires.clear

pub slice_bounds-room-end : goal.slice_bounds-room-end
slice_bounds-room-end c = fit (goal.at.slice_bounds-room-end c).After-shared_slice_known-2-1

pub slice_bounds-sum-end : goal.slice_bounds-sum-end
slice_bounds-sum-end c = sym (zeros-length _ 4096 (fit (goal.at.slice_bounds-sum-end c).After-shared_slice_known-2-1))

pub copy_up-requires : goal.copy_up-requires
copy_up-requires c = omega (arith, zeros-length _ 4096 (fit (goal.at.copy_up-requires c).After-shared_slice_known-2-1), fit (goal.at.copy_up-requires c).After-shared_slice_known-2-1)

pub add_at-requires : goal.add_at-requires
add_at-requires c =
    let page-is : (c.copy_up.new.dst ≡ c.args.page.now) = let l = zeros-length _ 4096 (fit (goal.at.add_at-requires c).After-shared_slice_known-2-1) in
    copied c.args.page.now _ _ (λ j. (c.slice_known-1.given j).fits) (λ j. (c.slice_known-2-1.given j).fits) (c.sum-1.given ∙ l) l c.copy_up.ensures in
    let a = c.args in
    let g = c.requires in (
      g.accepts,
      rw (page-is) g.page-exact,
      omega (arith, g.block),
      rw g.placed (bit_high a.p g.accepts a.i a.r g.block g.bit a.page.now (is (goal.at.add_at-requires c).After-shared_slice_known-2-1)),
      rw g.remains (below-stored a.p g.accepts a.i a.r g.block g.bit a.page.now (is (goal.at.add_at-requires c).After-shared_slice_known-2-1)),
    )

pub add_words-requires : goal.add_words-requires
add_words-requires c =
    let page-is : (c.copy_up.new.dst ≡ c.args.page.now) = let l = zeros-length _ 4096 (fit (goal.at.add_words-requires c).After-shared_slice_known-2-1) in
    copied c.args.page.now _ _ (λ j. (c.slice_known-1.given j).fits) (λ j. (c.slice_known-2-1.given j).fits) (c.sum-1.given ∙ l) l c.copy_up.ensures in
    let a = c.args in
    let g = c.requires in
    let b = shortest-beside a.p a.q a.i _ a.short.now g.accepts g.sheet g.shorted in
    (g.accepts, c.sum-2-1.given ∙ rw (page-is) g.page-exact, b.0, b.1, b.2, b.3)

pub page_blank-requires : goal.page_blank-requires
page_blank-requires c =
    let page-is : (c.copy_up.new.dst ≡ c.args.page.now) = let l = zeros-length _ 4096 (fit (goal.at.page_blank-requires c).After-shared_slice_known-2-1) in
    copied c.args.page.now _ _ (λ j. (c.slice_known-1.given j).fits) (λ j. (c.slice_known-2-1.given j).fits) (c.sum-1.given ∙ l) l c.copy_up.ensures in
    (c.requires.accepts, c.sum-3-1.given ∙ c.sum-2-1.given ∙ rw (page-is) c.requires.page-exact)

pub returns-then-page_blank : goal.returns-then-page_blank
returns-then-page_blank c =
    let page-is : (c.copy_up.new.dst ≡ c.args.page.now) = let l = zeros-length _ 4096 (fit (goal.at.returns-then-page_blank c).After-shared_slice_known-2-1) in
    copied c.args.page.now _ _ (λ j. (c.slice_known-1.given j).fits) (λ j. (c.slice_known-2-1.given j).fits) (c.sum-1.given ∙ l) l c.copy_up.ensures in
    let sum_is : (c.add_words.new.sum ≡ add c.args.page.now (page_of c.args.p (one_bit c.args.p c.args.i c.args.r))) = let a = c.args in
    let g = c.requires in
    spread-sum a.p g.accepts a.i a.r g.block g.bit a.page.now (is (goal.at.returns-then-page_blank c).After-shared_slice_known-2-1) a.q a.short.now _ _ a.e (value 8 a.y.now) g.sheet g.shorted g.placed g.remains
    (rw (page-is) at c.add_at.ensures) c.add_words.ensures in
    added-blank c.args.p c.args.page.now _ _ (sum_is) (sym c.if-page_blank.true ∙ c.page_blank.ensures)

pub copy_up-requires-2 : goal.copy_up-requires-2
copy_up-requires-2 c = omega (arith, c.requires.page-exact, page-high c.args.p c.requires.accepts)

pub returns : goal.returns
returns c =
    let page-is : (c.copy_up.new.dst ≡ c.args.page.now) = let l = zeros-length _ 4096 (fit (goal.at.returns c).After-shared_slice_known-2-1) in
    copied c.args.page.now _ _ (λ j. (c.slice_known-1.given j).fits) (λ j. (c.slice_known-2-1.given j).fits) (c.sum-1.given ∙ l) l c.copy_up.ensures in
    let sum_is : (c.add_words.new.sum ≡ add c.args.page.now (page_of c.args.p (one_bit c.args.p c.args.i c.args.r))) = let a = c.args in
    let g = c.requires in
    spread-sum a.p g.accepts a.i a.r g.block g.bit a.page.now (is (goal.at.returns c).After-shared_slice_known-2-1) a.q a.short.now _ _ a.e (value 8 a.y.now) g.sheet g.shorted g.placed g.remains
    (rw (page-is) at c.add_at.ensures) c.add_words.ensures in
    let l = c.sum-3-1.given ∙ c.sum-2-1.given ∙ c.sum-1.given ∙ zeros-length _ 4096 (fit (goal.at.returns c).After-shared_slice_known-2-1) in
    added-done c.args.p c.args.page.now _ _ _ (sum_is) (sym c.if-page_blank.false ∙ c.page_blank.ensures)
    (copied _ _ (length c.args.page.now) (λ j. (c.slice_known-4-1.given j).fits) (λ j. (c.type_inv.page j).fits) (c.page-1.given ∙ sym l) (sym l) c.copy_up-2.ensures)
