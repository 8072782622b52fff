-- A product's bits.
use Rattle.std.specs.Prelude.{◌≡◌, ℕ, zero, suc, ◌+◌, ◌*◌, ◌/◌, ◌%◌, ◌^◌, ◌<◌}
use Rattle.std.proofs.Math.Nat as Nat
use Rattle.std.proofs.Common.{arith, pow_mono, pow_pos, shl_lt}
use Rattle.polynomial.specs.Bits.{half_lt}
use Rattle.polynomial.specs.Clmul.{clmul, clmul-step, clmul-zero-l}
use Rattle.polynomial.specs.Division.{xor_lt}
use Rattle.polynomial.specs.Xor.{odd-ind}

-- no more than both factors' together
pub clmul-lt : (j k a b : ℕ) → a < 2 ^ j → b < 2 ^ k → clmul a b < 2 ^ (j + k)
clmul-lt zero k a b h l =
    let z : a ≡ 0 = omega arith in
    rw (z, clmul-zero-l) (pow_pos (0 + k))
clmul-lt (suc j) k a b h l = step (clmul-lt j k (a / 2) b (half_lt a j h) l)
  where
    step : clmul (a / 2) b < 2 ^ (j + k) → clmul a b < 2 ^ (suc j + k)
    step i =
        let e : j + k + 1 ≡ suc j + k = omega arith in
        rw (clmul-step a b) (xor_lt (suc j + k) (a % 2 * b) (clmul (a / 2) b * 2)
        (odd-ind (λ (y : ℕ). y * b < 2 ^ (suc j + k)) (rw (Nat.zero-mul b) (pow_pos (suc j + k)))
        (rw (Nat.one-mul b) (Nat.lt_of_lt_of_le l (pow_mono (omega arith)))) a)
        (rw e at (shl_lt (j + k) 1 i)))
