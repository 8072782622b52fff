-- The rule of a sub-word: its data in their places, and what the later sub-words add.
use Rattle.std.specs.Prelude.{◌≡◌, List, ℕ, suc, ◌+◌, ◌-◌, ◌*◌, ◌^◌, ◌≤◌, ◌<◌}
use Rattle.std.proofs.Common.{sym, ap, ap₂, ◌∙◌, arith, pow_mono, shl_lt}
use Rattle.std.proofs.Math.Nat as Nat
use Rattle.polynomial.specs.Xor.{xor, xor_zero_r}
use Rattle.code.specs.declared.Parameters.{Parameters}
use Rattle.code.specs.Code.{N, carried, check_bits, combine, level}
use Rattle.code.specs.Layout.{data_bits}
use Rattle.code.specs.Parameters.{Accepted, stored, sub_word_bytes}
use Rattle.code.proofs.Steps.{carried-zero, carried-suc}
use Rattle.layout.specs.Sizes.{bits-all, check-below}
use Rattle.encode.specs.Carried.{room_bytes}

-- the sub-words from v on are of level 0, and take nothing from the later ones
pub level-late : (p : Parameters) (i : ℕ) → p.v ≤ i → level p i ≡ 0
level-late p i h = omega arith

pub carried-late : (p : Parameters) (i : ℕ) (cs : List ℕ) → p.v ≤ i → carried (level p i) i cs ≡ 0
carried-late p i cs h = ap (λ (a : ℕ). carried a i cs) (level-late p i h) ∙ carried-zero i cs

pub carried-early : (p : Parameters) (i : ℕ) (cs : List ℕ) → i < p.v → carried (level p i) i cs ≡ combine (λ k. N k i) (suc i) cs
carried-early p i cs h =
    let e : p.v - i ≡ suc (p.v - i - 1) = omega arith in
    ap (λ (a : ℕ). carried a i cs) e ∙ carried-suc (p.v - i - 1) i cs

module _ (p : Parameters) (A : Accepted p) where
  -- data in their places lie below x^n
  pub placed-lt : (d i : ℕ) → d < 2 ^ data_bits p i → d * 2 ^ check_bits p i < 2 ^ stored p
  placed-lt d i h =
      let e : data_bits p i + check_bits p i ≡ stored p = omega (arith, check-below p A i) in
      rw (← e) (shl_lt (data_bits p i) (check_bits p i) h)

  -- and within a sub-word's bytes
  pub placed-room : (d i k : ℕ) → d < 2 ^ data_bits p i → sub_word_bytes p ≤ k → d * 2 ^ check_bits p i < 2 ^ (8 * k)
  placed-room d i k h l = Nat.lt_of_lt_of_le (placed-lt d i h) (pow_mono (omega (arith, bits-all p A)))

  pub rule-room : (d w i k : ℕ) → w ≡ check_bits p i → k ≡ room_bytes p → d < 2 ^ data_bits p i → d * 2 ^ w < 2 ^ (8 * k)
  rule-room d w i k e f h = rw e (placed-room d i k h (omega arith))

-- where the later sub-words are 0, the data alone
pub ruled-alone : (p : Parameters) (d w i : ℕ) → w ≡ check_bits p i → d * 2 ^ w ≡ xor (d * 2 ^ check_bits p i) 0
ruled-alone p d w i e = ap (λ (j : ℕ). d * 2 ^ j) e ∙ sym (xor_zero_r (d * 2 ^ check_bits p i))

pub ruled-early : (p : Parameters) (y x d w i : ℕ) (cs : List ℕ) → w ≡ check_bits p i → x ≡ d * 2 ^ w → i < p.v
    → y ≡ xor x (combine (λ k. N k i) (suc i) cs) → y ≡ xor (d * 2 ^ check_bits p i) (carried (level p i) i cs)
ruled-early p y x d w i cs e z l u = u ∙ ap₂ xor (z ∙ ap (λ (j : ℕ). d * 2 ^ j) e) (sym (carried-early p i cs l))
