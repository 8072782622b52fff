-- Sub-words one after another.
use Rattle.std.specs.Prelude.{◌≡◌, ℕ, zero, suc, ◌+◌, ◌<◌, get_or}
use Rattle.std.proofs.Common.{sym, ◌∙◌, arith}
use Rattle.std.proofs.Math.Nat as Nat
use Rattle.code.specs.Lists.{range}

pub range_at : (k z i : ℕ) → i < z → get_or (range k z) i 0 ≡ k + i
unfolding range
range_at k zero i h = absurd (Nat.not-suc-le-zero h)
range_at k (suc z) zero h = sym (Nat.add-zero k)
range_at k (suc z) (suc i) h = range_at (suc k) z i (Nat.le_of_suc-le-suc h) ∙ omega arith
