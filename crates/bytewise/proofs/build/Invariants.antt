-- The loop: the first n rows are made.
use mathlib.Core.Path.{◌≡◌}
use lib.ListN.{length}
use Rattle.bytewise.specs.Bytes.{WideRows}
use Rattle.bytewise.proofs.build.Given as goal

abbrev pub invariant-loop-n : goal.invariant-loop-n
invariant-loop-n l = (length l.b ≡ 12288) × WideRows l.t l.b l.n
