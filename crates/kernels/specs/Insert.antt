-- A word added to a row at any place: it lies in two of the row's words.
use Rattle.std.specs.Prelude.{◌≡◌, List, ℕ, ◌+◌, ◌-◌, ◌*◌, ◌/◌, ◌%◌, ◌^◌, ◌<◌, length, get_or, set}
use Rattle.std.proofs.Common.{sym, ap, ◌∙◌, mul_assoc, mod-lt, lt_of_le_of_lt, arith, length-set, pow_pos, pow-add}
use Rattle.std.proofs.Math.Nat as Nat
use Rattle.std.specs.Int.Bits.{bit_xor}
use Rattle.polynomial.specs.Digits.{value}
use Rattle.polynomial.specs.Xor.{xor, xor_is, xor_comm, xor_assoc}
use Rattle.kernels.specs.Shift.{join, xor-shl}
use Rattle.kernels.specs.Value.{Bounded, set-xor}
use Rattle.kernels.specs.Word.{spill}

pub insert-law : (r : List ℕ) (u p : ℕ) → Bounded 64 r
    → Bounded 64 (set r (p / 64) (bit_xor (get_or r (p / 64) 0) (u * 2 ^ (p % 64) % 2 ^ 64))) → length r ≡ 13 → p < 768 → u < 2 ^ 64
    → value 64 (set (set r (p / 64) (bit_xor (get_or r (p / 64) 0) (u * 2 ^ (p % 64) % 2 ^ 64))) (p / 64 + 1)
    (bit_xor (get_or (set r (p / 64) (bit_xor (get_or r (p / 64) 0) (u * 2 ^ (p % 64) % 2 ^ 64))) (p / 64 + 1) 0) (u / 2 / 2 ^ (63 - p % 64))))
    ≡ xor (value 64 r) (u * 2 ^ p)
insert-law r u p hr hr' h hp hu =
    ap (λ (x : ℕ). value 64 (set r' (p / 64 + 1) x)) (xor_is (get_or r' (p / 64 + 1) 0) hi)
    ∙ set-xor 64 r' hr' (p / 64 + 1) hi (rw (length-set r (p / 64) (bit_xor (get_or r (p / 64) 0) lo)) (omega arith)) hi-lt
    ∙ ap (λ (x : ℕ). xor x (hi * 2 ^ (64 * (p / 64 + 1))))
    (ap (λ (x : ℕ). value 64 (set r (p / 64) x)) (xor_is (get_or r (p / 64) 0) lo)
    ∙ set-xor 64 r hr (p / 64) lo (omega arith) (mod-lt (u * 2 ^ (p % 64)) (pow_pos 64)))
    ∙ xor_assoc (value 64 r) (lo * 2 ^ (64 * (p / 64))) (hi * 2 ^ (64 * (p / 64 + 1)))
    ∙ ap (xor (value 64 r)) (xor_comm (lo * 2 ^ (64 * (p / 64))) (hi * 2 ^ (64 * (p / 64 + 1)))
    ∙ ap (λ (x : ℕ). xor x (lo * 2 ^ (64 * (p / 64)))) (up hi (p / 64))
    ∙ sym (xor-shl (64 * (p / 64)) (hi * 2 ^ 64) lo)
    ∙ ap (λ (x : ℕ). x * 2 ^ (64 * (p / 64)))
    (sym (join hi 64 lo (mod-lt (u * 2 ^ (p % 64)) (pow_pos 64))) ∙ spill u (p % 64) (omega arith))
    ∙ mul_assoc u (2 ^ (p % 64)) (2 ^ (64 * (p / 64)))
    ∙ ap (λ (x : ℕ). u * x) (sym (pow-add 2 (p % 64) (64 * (p / 64))) ∙ ap (λ (n : ℕ). 2 ^ n) at_p))
  where
    lo : ℕ
    lo = u * 2 ^ (p % 64) % 2 ^ 64

    hi : ℕ
    hi = u / 2 / 2 ^ (63 - p % 64)

    r' : List ℕ
    r' = set r (p / 64) (bit_xor (get_or r (p / 64) 0) lo)

    hi-lt : hi < 2 ^ 64
    hi-lt = lt_of_le_of_lt (Nat.le_trans (Nat.div-le_self (u / 2) (2 ^ (63 - p % 64))) (Nat.div-le_self u 2)) hu

    at_p : p % 64 + 64 * (p / 64) ≡ p
    at_p = omega arith

    up : (x q : ℕ) → x * 2 ^ (64 * (q + 1)) ≡ x * 2 ^ 64 * 2 ^ (64 * q)
    up x q =
        let f : 64 * (q + 1) ≡ 64 + 64 * q = omega arith in
        ap (λ (n : ℕ). x * 2 ^ n) f ∙ ap (λ (y : ℕ). x * y) (pow-add 2 64 (64 * q)) ∙ sym (mul_assoc x (2 ^ 64) (2 ^ (64 * q)))
