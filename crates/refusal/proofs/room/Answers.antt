use Rattle.std.proofs.Common.{◌∙◌}
use Rattle.std.proofs.lemmas.Bool.{lt-leb}
use Rattle.refusal.specs.Tests.{room-none, room-left}
use Rattle.refusal.proofs.room.Goals as goal

pub returns-then-count-n : goal.returns-then-count-n
returns-then-count-n c = let s = c.args in room-left s.count s.width s.n c.if-count-n.true

pub returns-else-count-n : goal.returns-else-count-n
returns-else-count-n c = let s = c.args in lt-leb s.count s.n c.if-count-n.false ∙ room-none s.count s.width s.n c.if-count-n.false
