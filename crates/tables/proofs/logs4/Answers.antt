use mathlib.Core.Path.{refl}
use mathlib.Core.Logic.{inl}
use Rattle.tables.proofs.Read.{read}
use Rattle.tables.proofs.Computed.{from, logs-hold}
use Rattle.tables.proofs.logs4.Goals as goal

pub returns : goal.returns
unfolding from read
returns c = logs-hold 4 (inl refl) _ tt
