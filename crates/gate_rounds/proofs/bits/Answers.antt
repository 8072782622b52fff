use mathlib.Core.Path.{refl}
use lib.Dec.{lit≤}
use Rattle.cases.specs.Inhabited.{accepted-A, accepted-B}
use Rattle.gate_rounds.specs.Sheets.{accepted-8, accepted-short, twins-8, twins-A, twins-B, twins-short}
use Rattle.gate_rounds.proofs.bits.Goals as goal

pub altered_rooms-requires : goal.altered_rooms-requires
altered_rooms-requires c = (accepted-A, twins-A, refl, lit≤ tt, lit≤ tt)

pub altered_rooms-requires-2 : goal.altered_rooms-requires-2
altered_rooms-requires-2 c = (accepted-B, twins-B, refl, lit≤ tt, lit≤ tt)

pub altered_rooms-requires-3 : goal.altered_rooms-requires-3
altered_rooms-requires-3 c = (accepted-short, twins-short, refl, lit≤ tt, lit≤ tt)

pub altered_rooms-requires-4 : goal.altered_rooms-requires-4
altered_rooms-requires-4 c = (accepted-8, twins-8, refl, lit≤ tt, lit≤ tt)
