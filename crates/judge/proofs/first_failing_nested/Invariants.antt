use mathlib.Core.Path.{◌≡◌}
use Prim.Native.Nat.{◌+◌}
use lib.ListN.{length}
use Rattle.code.specs.Layout.{words_of}
use Rattle.code.specs.Parameters.{nested_bytes}
use Rattle.judge.specs.Search.{Seeking}
use Rattle.judge.specs.Judged.{nested_fails_at}
use Rattle.judge.proofs.first_failing_nested.Given as goal

abbrev pub invariant-loop-l : goal.invariant-loop-l
invariant-loop-l l = Seeking (nested_fails_at l.p (words_of l.p l.page)) l.p.v l.l × (length l.t ≡ 3072) × (length l.acc ≡ nested_bytes l.p + 8)
