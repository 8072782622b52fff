use mathlib.Core.Path.{refl}
use mathlib.Core.Logic.{inl, inr}
use Rattle.tables.proofs.Computed.{from, powers-hold}
use Rattle.tables.proofs.powers8.Goals as goal

pub returns : goal.returns
unfolding from
returns c = powers-hold 8 (inr (inl refl)) _ refl
