use mathlib.Core.Path.{refl}
use mathlib.Core.Logic.{inr}
use Rattle.tables.proofs.Read.{read}
use Rattle.tables.proofs.Computed.{from, logs-hold}
use Rattle.tables.proofs.logs12.Goals as goal

pub returns : goal.returns
unfolding from read
returns c = logs-hold 12 (inr (inr refl)) _ tt
