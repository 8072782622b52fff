use mathlib.Core.Path.{refl}
use lib.Dec.{lit<, lit≤}
use Rattle.cases.specs.Inhabited.{accepted-A}
use Rattle.gate_rounds.specs.Sheets.{accepted-8, accepted-short, accepted-two, apt-two, twins-8, twins-A, twins-short}
use Rattle.gate_rounds.proofs.flaws.Goals as goal

pub mended_rooms-requires : goal.mended_rooms-requires
mended_rooms-requires c = (accepted-A, twins-A.apt-a, lit< tt, lit< tt, refl, lit≤ tt, refl, lit≤ tt)

pub mended_rooms-requires-2 : goal.mended_rooms-requires-2
mended_rooms-requires-2 c = (accepted-two, apt-two, lit< tt, lit< tt, refl, lit≤ tt, refl, lit≤ tt)

pub mended_rooms-requires-3 : goal.mended_rooms-requires-3
mended_rooms-requires-3 c = (accepted-short, twins-short.apt-a, lit< tt, lit< tt, refl, lit≤ tt, refl, lit≤ tt)

pub mended_rooms-requires-4 : goal.mended_rooms-requires-4
mended_rooms-requires-4 c = (accepted-8, twins-8.apt-a, lit< tt, lit< tt, refl, lit≤ tt, refl, lit≤ tt)
