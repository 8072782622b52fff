use mathlib.Core.Path.{refl}
use mathlib.Core.Logic.{inl}
use Rattle.tables.proofs.Computed.{from, powers-hold}
use Rattle.tables.proofs.powers4.Goals as goal

pub returns : goal.returns
unfolding from
returns c = powers-hold 4 (inl refl) _ refl
