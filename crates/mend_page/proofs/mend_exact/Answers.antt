use borrow.Author.Rules.{rules}
use mathlib.Core.Path.{◌≡◌, sym, ◌∙◌}
use Prim.Native.Nat.{◌≤◌}
use native.Mathlib.Omega.{arith}
use lib.ListN.{length}
use Rattle.code.specs.Layout.{words_of}
use Rattle.code.specs.Nest.{mend_page}
use Rattle.code.proofs.Pages.{zeros-length}
use Rattle.layout.specs.Sizes.{page-high}
use Rattle.mend_page.proofs.Called.{copied, ends-copied, mended-done, mended-member, mended-nowhere}
use Rattle.mend_page.specs.Ends.{Ends}
use Rattle.mend_page.proofs.mend_exact.Goals as goal
use Rattle.mend_page.proofs.mend_exact.Goals.{Start}

short : (s : Start) → length s.args.page.now ≤ 4096
short s = rw s.requires.1.exact (page-high s.args.p s.requires.0)

pub rows-rows-requires : goal.rows-rows-requires
rows-rows-requires c = c.requires.0

pub is_member-requires : goal.is_member-requires
is_member-requires c = (c.requires.0, c.rows-rows.ensures, c.requires.1)

pub returns-then-is_member : goal.returns-then-is_member
returns-then-is_member c = mended-member c.args.p c.args.page.now c.requires.0 c.requires.1 (sym c.if-is_member.true ∙ c.is_member.ensures)

pub slice_bounds-room-end : goal.slice_bounds-room-end
slice_bounds-room-end c = short (goal.at.slice_bounds-room-end c).Start

pub slice_bounds-work-end : goal.slice_bounds-work-end
slice_bounds-work-end c = sym (zeros-length (length c.args.page.now) 4096 (short (goal.at.slice_bounds-work-end c).Start))

pub copy_up-requires : goal.copy_up-requires
copy_up-requires c = omega (arith, zeros-length (length c.args.page.now) 4096 (short (goal.at.copy_up-requires c).Start), short (goal.at.copy_up-requires c).Start)

pub mend_in-requires : goal.mend_in-requires
mend_in-requires c =
    let size : length c.copy_up.new.dst ≡ length c.args.page.now = c.work-1.given ∙ zeros-length (length c.args.page.now) 4096 (short (goal.at.mend_in-requires c).Start) in
    let same : c.copy_up.new.dst ≡ c.args.page.now = copied c.args.page.now c.copy_up.new.dst _ (λ i. (c.slice_known-1.given i).fits) (λ i. (c.slice_known-2-1.given i).fits) size
    (zeros-length (length c.args.page.now) 4096 (short (goal.at.mend_in-requires c).Start)) c.copy_up.ensures in
    (c.requires.0, search rules, rw (same) c.requires.1)

pub returns-then-not-mend_in : goal.returns-then-not-mend_in
returns-then-not-mend_in c =
    let size : length c.copy_up.new.dst ≡ length c.args.page.now = c.work-1.given ∙ zeros-length (length c.args.page.now) 4096 (short (goal.at.returns-then-not-mend_in c).Start) in
    let same : c.copy_up.new.dst ≡ c.args.page.now = copied c.args.page.now c.copy_up.new.dst _ (λ i. (c.slice_known-1.given i).fits) (λ i. (c.slice_known-2-1.given i).fits) size
    (zeros-length (length c.args.page.now) 4096 (short (goal.at.returns-then-not-mend_in c).Start)) c.copy_up.ensures in
    let ends : Ends c.args.p (mend_page c.args.p (words_of c.args.p c.args.page.now)) c.mend_in.new.page c.mend_in.result = ends-copied c.args.p c.args.page.now c.copy_up.new.dst c.mend_in.new.page c.mend_in.result (same) c.mend_in.ensures in
    mended-nowhere c.args.p c.args.page.now c.requires.0 c.requires.1 c.mend_in.new.page c.mend_in.result c.if-not-mend_in.true (ends)

pub copy_up-requires-2 : goal.copy_up-requires-2
copy_up-requires-2 c = omega (arith, short (goal.at.copy_up-requires-2 c).Start)

pub returns : goal.returns
returns c =
    let size : length c.copy_up.new.dst ≡ length c.args.page.now = c.work-1.given ∙ zeros-length (length c.args.page.now) 4096 (short (goal.at.returns c).Start) in
    let same : c.copy_up.new.dst ≡ c.args.page.now = copied c.args.page.now c.copy_up.new.dst _ (λ i. (c.slice_known-1.given i).fits) (λ i. (c.slice_known-2-1.given i).fits) size
    (zeros-length (length c.args.page.now) 4096 (short (goal.at.returns c).Start)) c.copy_up.ensures in
    let ends : Ends c.args.p (mend_page c.args.p (words_of c.args.p c.args.page.now)) c.mend_in.new.page c.mend_in.result = ends-copied c.args.p c.args.page.now c.copy_up.new.dst c.mend_in.new.page c.mend_in.result (same) c.mend_in.ensures in
    let l : length c.mend_in.new.page ≡ length c.args.page.now = (ends).page.exact ∙ sym c.requires.1.exact in
    mended-done c.args.p c.args.page.now c.requires.0 c.requires.1 c.mend_in.new.page c.copy_up-2.new.dst c.mend_in.result c.if-not-mend_in.false (ends)
    (copied c.mend_in.new.page c.copy_up-2.new.dst _ (λ i. (c.slice_known-3-1.given i).fits) (λ i. (c.type_inv.page i).fits) (c.page-1.given ∙ sym l) (sym l) c.copy_up-2.ensures)
