use mathlib.Core.Path.{refl, ◌∙◌}
use Rattle.code.proofs.Answers.{refusal-ne}
use Rattle.gii_bch.specs.Quote.{bytes-refused, bytes-ten, bytes-done}
use Rattle.gii_bch.proofs.quote.quote_bytes.Goals as goal

pub returns-in-Err : goal.returns-in-Err
returns-in-Err c = rw c.number.ensures (bytes-refused _ _ _ _ _ refl c.in-Err.ensures refl _ (refusal-ne c.in-Err.e))

pub returns-then-list-ne24 : goal.returns-then-list-ne24
returns-then-list-ne24 c = rw c.number-then-list-ne24.ensures (bytes-ten _ _ _ _ _ refl c.in_default.ensures refl _ refl c.if-list-ne24.true)

pub returns : goal.returns
returns c = bytes-done _ _ _ _ _ refl c.in_default.ensures refl _ _ refl c.if-list-ne24.false c.store.ensures
