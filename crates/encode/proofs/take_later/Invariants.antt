use mathlib.Core.Path.{◌≡◌}
use Prim.Native.Nat.{◌*◌, ◌<◌}
use lib.ListN.{length, drop}
use Rattle.polynomial.specs.Digits.{value}
use Rattle.code.specs.Layout.{words_of}
use Rattle.encode.specs.Horner.{Sums}
use Rattle.encode.proofs.take_later.Given as goal

abbrev pub invariant-loop-k : goal.invariant-loop-k
invariant-loop-k l = (length l.a ≡ length l.initial.a) × (length l.b ≡ length l.initial.a) × (length l.c ≡ length l.initial.a) × (l.i < l.k) × Sums l.i (8 * length l.initial.a) (drop l.k (words_of l.p l.page)) (value 8 l.a) (value 8 l.b) (value 8 l.c)
