use mathlib.Core.Path.{refl}
use mathlib.Core.Logic.{inr}
use Rattle.tables.proofs.Computed.{from, powers-hold}
use Rattle.tables.proofs.powers12.Goals as goal

pub returns : goal.returns
unfolding from
returns c = powers-hold 12 (inr (inr refl)) _ refl
