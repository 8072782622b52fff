use mathlib.Core.Path.{◌≡◌, refl, sym, ap, ◌∙◌}
use native.Mathlib.Omega.{arith}
use Prim.Native.Nat.{◌-◌, ◌≤◌}
use lib.ListN.{length, take, drop}
use Rattle.code.proofs.Pages.{zeros-length}
use Rattle.code.specs.Writer.{rest_given}
use Rattle.given.specs.Input.{rest-length, rest-lent}
use Rattle.returns.specs.Mended.{page-done, page-fits, page-refused}
use Rattle.returns.proofs.page_mended.Goals as goal
use Rattle.returns.proofs.page_mended.Goals.{After-rest_begins-at}

-- the page, as it was read
module _ (b : After-rest_begins-at) where
  is : (take (length b.args.input.now - b.rest_begins-at.result) (drop b.rest_begins-at.result b.args.input.now)) ≡ rest_given b.args.input.now
  is = rest-lent b.args.input.now b.rest_begins-at.result b.rest_begins-at.ensures

  short : length (take (length b.args.input.now - b.rest_begins-at.result) (drop b.rest_begins-at.result b.args.input.now)) ≤ 4105
  short = omega (arith, b.requires.1, ap length is ∙ rest-length b.args.input.now)

pub slice_bounds-work-end : goal.slice_bounds-work-end
slice_bounds-work-end c = sym (zeros-length (length ((take (length c.args.input.now - c.rest_begins-at.result) (drop c.rest_begins-at.result c.args.input.now)))) 4105 (short (goal.at.slice_bounds-work-end c).After-rest_begins-at))

pub copy-requires : goal.copy-requires
copy-requires c =
    let l = zeros-length (length ((take (length c.args.input.now - c.rest_begins-at.result) (drop c.rest_begins-at.result c.args.input.now)))) 4105 (short (goal.at.copy-requires c).After-rest_begins-at) in
    (l, omega (arith, l, short (goal.at.copy-requires c).After-rest_begins-at))

pub page_out-requires : goal.page_out-requires
page_out-requires c =
    let same : c.copy.new.to ≡ rest_given c.args.input.now = c.copy.ensures ∙ is (goal.at.page_out-requires c).After-rest_begins-at in
    let fits : length c.copy.new.to ≤ 4096 = page-fits c.args.input.now c.args.p c.copy.new.to c.requires.0 (same) c.mend_page.new.page _ refl c.in-Ok.ensures in
    omega (arith, ap length c.copy.ensures)

pub returns-in-Ok : goal.returns-in-Ok
returns-in-Ok c =
    let same : c.copy.new.to ≡ rest_given c.args.input.now = c.copy.ensures ∙ is (goal.at.returns-in-Ok c).After-rest_begins-at in
    page-done c.args.input.now c.args.p c.copy.new.to c.requires.0 (same) c.mend_page.new.page _
    c.page_out.result.count c.page_out.result.bytes refl c.in-Ok.ensures c.page_out.ensures

pub returns-in-Err : goal.returns-in-Err
returns-in-Err c =
    let same : c.copy.new.to ≡ rest_given c.args.input.now = c.copy.ensures ∙ is (goal.at.returns-in-Err c).After-rest_begins-at in
    page-refused c.args.input.now c.args.p c.copy.new.to c.requires.0 (same) _ _ c.refused.result.count c.mend_page.new.page c.refused.result.bytes
    c.in-Err.ensures c.number.ensures c.refused.ensures.0 c.refused.ensures.1
