use Rattle.code.proofs.Accepted.{accepted}
use Rattle.element.specs.Fields.{field-at}
use Rattle.word.specs.Level.{all_are}
use Rattle.word.proofs.all_from.Goals as goal

pub of-f-requires : goal.of-f-requires
of-f-requires c = (accepted _ c.requires.0).known

pub all_of-requires : goal.all_of-requires
all_of-requires c = (field-at _ _ (accepted _ c.requires.0).known c.of-f.ensures, c.requires.1)

pub returns : goal.returns
returns c = all_are _ _ _ _ c.of-f.ensures c.all_of.ensures
