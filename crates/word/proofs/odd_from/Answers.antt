use Rattle.code.proofs.Accepted.{accepted}
use Rattle.element.specs.Fields.{field-at}
use Rattle.word.specs.Level.{odd-are}
use Rattle.word.proofs.odd_from.Goals as goal

pub of-f-requires : goal.of-f-requires
of-f-requires c = (accepted _ c.requires.0).known

pub odd_of-requires : goal.odd_of-requires
odd_of-requires c = (field-at _ _ (accepted _ c.requires.0).known c.of-f.ensures, c.requires.1, c.requires.2, rw c.of-f.ensures c.requires.3, c.requires.4)

pub returns : goal.returns
returns c = odd-are _ _ _ _ _ c.of-f.ensures c.odd_of.ensures
