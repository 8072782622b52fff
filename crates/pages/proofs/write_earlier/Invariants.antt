use mathlib.Core.Path.{◌≡◌}
use lib.ListN.{length}
use Rattle.encode.specs.Carried.{room_bytes}
use Rattle.pages.specs.Filling.{Stage}
use Rattle.pages.proofs.write_earlier.Given as goal

abbrev pub invariant-loop-i : goal.invariant-loop-i
invariant-loop-i l = Stage l.p l.blocks l.list l.initial.pages l.pages l.i × (length l.t ≡ 3072) × (length l.acc ≡ room_bytes l.p) × (length l.b ≡ length l.initial.b)
