use Rattle.std.proofs.Common.{rules}
use Rattle.code.proofs.Accepted.{accepted}
use Rattle.element.specs.Fields.{Sized, field-at}
use Rattle.mend_page.proofs.mend_in.Goals as goal

pub of-f-requires : goal.of-f-requires
of-f-requires c = (accepted _ c.requires.0).known

pub with_tables-requires : goal.with_tables-requires
with_tables-requires c =
    let s : Sized c.of-f.result = field-at _ _ (accepted _ c.requires.0).known c.of-f.ensures in
    search rules
