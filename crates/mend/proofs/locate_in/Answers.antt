use Prim.Native.Nat.{◌-◌, ◌^◌, ◌≤◌}
use Rattle.std.proofs.Common.{rules}
use Rattle.polynomial.specs.Digits.{value}
use Rattle.code.proofs.Accepted.{accepted}
use Rattle.element.specs.Fields.{Sized, field-at}
use Rattle.mend.specs.Nearest.{sheet-bounds, sheet-located}
use Rattle.mend.proofs.locate_in.Goals as goal

pub of-f-requires : goal.of-f-requires
of-f-requires c = (accepted _ c.requires.0).known

pub with_tables-requires : goal.with_tables-requires
with_tables-requires c =
    let s : Sized c.of-f.result = field-at _ _ (accepted _ c.requires.0).known c.of-f.ensures in
    let w : c.args.w ≤ 2 ^ c.of-f.result.q - 1 = rw c.of-f.ensures c.requires.3 in
    let b = sheet-bounds c.args.p c.requires.0 c.of-f.result c.of-f.ensures c.stored_of-z.result c.stored_of-z.ensures c.args.t c.requires.5 in
    search rules

pub returns : goal.returns
returns c = (
  sheet-located c.args.p c.requires.0 c.of-f.result c.of-f.ensures c.stored_of-z.result c.stored_of-z.ensures (value 64 c.args.r.now) c.args.t _ (search rules),
  search rules,
)
