-- A word's bytes as the library has them.
use Rattle.std.proofs.Common.{◌≡◌, ℕ, ◌%◌, ◌*◌, ◌/◌, ◌^◌, ◌<◌, ap, ◌∙◌, List, get_or}
use Rattle.std.proofs.Math.Nat.{div-div-eq-div-mul}
use Rattle.std.specs.Int.{w64, to_le_bytes}
use Rattle.polynomial.specs.Digits.{digits, digits-at}

pub bytes_are : (v : ℕ) → to_le_bytes w64 v ≡ digits 8 8 v
unfolding digits
bytes_are v = simp div-div-eq-div-mul

pub bytes_at : (v i : ℕ) → i < 8 → get_or (to_le_bytes w64 v) i 0 ≡ v / 2 ^ (8 * i) % 2 ^ 8
bytes_at v i h = ap (λ (l : List ℕ). get_or l i 0) (bytes_are v) ∙ digits-at 8 8 v i h
