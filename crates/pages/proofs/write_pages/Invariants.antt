use mathlib.Core.Path.{◌≡◌}
use lib.ListN.{length}
use Rattle.encode.specs.Carried.{room_bytes}
use Rattle.pages.specs.Filling.{Passing}
use Rattle.pages.proofs.write_pages.Given as goal

abbrev pub invariant-loop-k : goal.invariant-loop-k
invariant-loop-k l = Passing l.p l.blocks l.list l.initial.pages l.pages l.to l.k × (length l.acc ≡ room_bytes l.p)
