use borrow.Author.Rules.{rules}
use mathlib.Core.Path.{ap, ◌∙◌}
use Prim.Native.Nat.{ℕ}
use native.Mathlib.Omega.{arith}
use lib.ListN.{length, length-replicate}
use Rattle.layout.specs.Sizes.{page-high}
use Rattle.writer.specs.Room.{Asked, page-done, page-refused}
use Rattle.writer.proofs.page_written.Goals as goal
use Rattle.writer.proofs.page_written.Goals.{After-zeros-bytes}

-- what write was asked
asked : (c : After-zeros-bytes) → (Asked c.args.input.now c.args.p c.lead-width.result c.rest_begins-at.result c.page_bytes-end.result c.zeros-bytes.result)
asked c =
    record {
      sheet = c.requires.0;
      width = c.lead-width.ensures;
      begins = c.rest_begins-at.ensures;
      page = c.page_bytes-end.ensures;
      most = omega (arith, c.page_bytes-end.ensures, page-high c.args.p c.requires.1);
      clear = c.zeros-bytes.ensures;
    }

pub overflow_add-end : goal.overflow_add-end
overflow_add-end c = omega (arith, c.page_bytes-end.ensures, page-high c.args.p c.requires.1)

pub slice_bounds-bytes-end : goal.slice_bounds-bytes-end
slice_bounds-bytes-end c = omega (arith, c.page_bytes-end.ensures, page-high c.args.p c.requires.1, ap length c.zeros-bytes.ensures ∙ length-replicate {A = ℕ} 4097 0)

pub returns-in-Ok : goal.returns-in-Ok
returns-in-Ok c =
    page-done c.args.input.now c.args.p c.lead-width.result c.rest_begins-at.result c.page_bytes-end.result c.zeros-bytes.result (asked (goal.at.returns-in-Ok c).After-zeros-bytes)
    c.write.new.page c.in-Ok.ensures (search rules)

pub returns-in-Err : goal.returns-in-Err
returns-in-Err c =
    page-refused c.args.input.now c.args.p c.lead-width.result c.rest_begins-at.result c.page_bytes-end.result c.zeros-bytes.result (asked (goal.at.returns-in-Err c).After-zeros-bytes)
    _ _ c.refused.result.count c.write.new.page c.refused.result.bytes c.in-Err.ensures c.number.ensures c.refused.ensures.0 c.refused.ensures.1
