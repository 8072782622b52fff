-- Bytes moved up in place while others are added, word by word from the lowest on.
--   Raised l₀ l b s c i    i bytes of l₀ are moved up by s with b added, which makes l, and c is carried on
use Rattle.std.specs.Prelude.{◌≡◌, refl, List, ◌++◌, ℕ, ◌+◌, ◌-◌, ◌*◌, ◌/◌, ◌%◌, ◌^◌, ◌≤◌, ◌<◌, length, take, drop}
use Rattle.std.proofs.Common.{sym, ap, ap₂, ◌∙◌, mod-lt, div-one, add_comm, arith, drop-drop, pow_pos, shr-shr}
use Rattle.std.specs.Int.Bits as Bits
use Rattle.std.specs.Int.Bits.{bit_xor}
use Rattle.std.proofs.lemmas.Nat.{shl-shr, mod-pow-add}
use Rattle.std.proofs.Math.Pow.{field, mod-mod-pow}
use Rattle.polynomial.specs.Digits.{digits, value}
use Rattle.polynomial.specs.Division.{xor_shr}
use Rattle.polynomial.specs.Xor.{xor, xor_is}
use Rattle.kernels.specs.Shift.{up-all}
use Rattle.kernels.specs.Value.{Bounded, drop-shr}
use Rattle.kernels.specs.Word.{word-up, word-up-lt}
use Rattle.kernels.specs.Write.{Written, put-drop, written-done, written_start, written-word}

pub xor_low : (a b k : ℕ) → xor a b % 2 ^ k ≡ xor (a % 2 ^ k) (b % 2 ^ k)
unfolding xor
xor_low a b k = Bits.xor_mod a b k

-- ---- x moved up by s: its word at place j, and what is carried into it
module _ (x s j : ℕ) (h : s ≤ 64) where
  above : x * 2 ^ s / 2 ^ j / 2 ^ s ≡ x / 2 ^ j
  above =
      shr-shr (x * 2 ^ s) j s ∙ ap (λ (n : ℕ). x * 2 ^ s / 2 ^ n) (add_comm j s) ∙ sym (shr-shr (x * 2 ^ s) s j)
      ∙ ap (λ (n : ℕ). n / 2 ^ j) (shl-shr x s)

  whole : (64 - s) + s ≡ 64
  whole = omega arith

  word-is : (w c : ℕ) → w ≡ x / 2 ^ j % 2 ^ 64 → c ≡ x * 2 ^ s / 2 ^ j % 2 ^ s → w * 2 ^ s % 2 ^ 64 + c ≡ x * 2 ^ s / 2 ^ j % 2 ^ 64
  word-is w c e f =
      let g : s + (64 - s) ≡ 64 = omega arith in
      ap₂ ◌+◌ (word-up w s h ∙ ap (λ (n : ℕ). n % 2 ^ (64 - s) * 2 ^ s) (e ∙ ap (λ (n : ℕ). x / 2 ^ j % 2 ^ n) (sym g))
      ∙ ap (λ (n : ℕ). n * 2 ^ s) (mod-mod-pow (x / 2 ^ j) s (64 - s))) f
      ∙ sym (ap (λ (n : ℕ). x * 2 ^ s / 2 ^ j % 2 ^ n) (sym whole) ∙ mod-pow-add (x * 2 ^ s / 2 ^ j) (64 - s) s
      ∙ ap (λ (n : ℕ). n % 2 ^ (64 - s) * 2 ^ s + x * 2 ^ s / 2 ^ j % 2 ^ s) above)

  carried-is : (w : ℕ) → w ≡ x / 2 ^ j % 2 ^ 64 → w / 2 ^ (64 - s) ≡ x * 2 ^ s / 2 ^ j / 2 ^ 64 % 2 ^ s
  carried-is w e =
      let g : s + (64 - s) ≡ 64 = omega arith in
      ap (λ (n : ℕ). n / 2 ^ (64 - s)) (e ∙ ap (λ (n : ℕ). x / 2 ^ j % 2 ^ n) (sym g)) ∙ field (x / 2 ^ j) s (64 - s)
      ∙ sym (ap (λ (n : ℕ). n % 2 ^ s) (ap (λ (n : ℕ). x * 2 ^ s / 2 ^ j / 2 ^ n) (sym g) ∙ sym (shr-shr (x * 2 ^ s / 2 ^ j) s (64 - s))
      ∙ ap (λ (n : ℕ). n / 2 ^ (64 - s)) above))

-- ---- the loop
pub record Raised (l₀ l : List ℕ) (b s c i : ℕ) : Type 0 where
  pub whole : i % 8 ≡ 0
  pub done : Written 8 l₀ l (xor (value 8 l₀ * 2 ^ s) b) i
  pub left : drop i l ≡ drop i l₀
  pub carry : c ≡ value 8 l₀ * 2 ^ s / 2 ^ (8 * i) % 2 ^ s

pub raised-start : (l : List ℕ) (b s : ℕ) → Raised l l b s 0 0
raised-start l b s = record {
  whole = refl;
  done = written_start 8 l (xor (value 8 l * 2 ^ s) b);
  left = refl;
  carry = sym (ap (λ (n : ℕ). n % 2 ^ s) (div-one (value 8 l * 2 ^ s)) ∙ up-all (value 8 l) s s (omega arith));
}

module _ (l₀ l : List ℕ) (b s c i : ℕ) (hs : s < 64) (r : Raised l₀ l b s c i) where
  pub raised-fits : (w : ℕ) → w * 2 ^ s % 2 ^ 64 + c < 2 ^ 64
  raised-fits w = word-up-lt w s c (omega arith) (rw r.carry (mod-lt (value 8 l₀ * 2 ^ s / 2 ^ (8 * i)) (pow_pos s)))

  pub raised-turn : (l' : List ℕ) (w x : ℕ) → Bounded 8 l₀ → Bounded 8 l → i + 8 ≤ length l → length l' ≡ length l
      → w ≡ value 8 l / 2 ^ (8 * i) % 2 ^ 64 → x ≡ b / 2 ^ (8 * i) % 2 ^ 64
      → l' ≡ take i l ++ digits 8 8 (bit_xor (w * 2 ^ s % 2 ^ 64 + c) x) ++ drop (i + 8) l → Raised l₀ l' b s (w / 2 / 2 ^ (63 - s)) (i + 8)
  raised-turn l' w x b₀ b₁ h k e f g = record {
    whole = omega (arith, r.whole);
    done = written-word l₀ l l' (xor (value 8 l₀ * 2 ^ s) b) i (bit_xor (w * 2 ^ s % 2 ^ 64 + c) x) h k g put r.done;
    left = put-drop l l' i _ h g ∙ next;
    carry = shr-shr w 1 (63 - s) ∙ ap (λ (n : ℕ). w / 2 ^ n) o ∙ carried-is (value 8 l₀) s (8 * i) (omega arith) w same
        ∙ ap (λ (n : ℕ). n % 2 ^ s) (shr-shr (value 8 l₀ * 2 ^ s) (8 * i) 64 ∙ ap (λ (n : ℕ). value 8 l₀ * 2 ^ s / 2 ^ n) j);
  }
    where
      o : 1 + (63 - s) ≡ 64 - s
      o = omega arith

      j : 8 * i + 64 ≡ 8 * (i + 8)
      j = omega arith

      same : w ≡ value 8 l₀ / 2 ^ (8 * i) % 2 ^ 64
      same = e ∙ ap (λ (n : ℕ). n % 2 ^ 64) (drop-shr 8 i l b₁ ∙ ap (value 8) r.left ∙ sym (drop-shr 8 i l₀ b₀))

      next : drop (i + 8) l ≡ drop (i + 8) l₀
      next = sym (drop-drop 8 i l) ∙ ap (drop 8) r.left ∙ drop-drop 8 i l₀

      put : bit_xor (w * 2 ^ s % 2 ^ 64 + c) x ≡ xor (value 8 l₀ * 2 ^ s) b / 2 ^ (8 * i) % 2 ^ 64
      put =
          xor_is (w * 2 ^ s % 2 ^ 64 + c) x ∙ ap₂ xor (word-is (value 8 l₀) s (8 * i) (omega arith) w c same r.carry) f
          ∙ sym (ap (λ (n : ℕ). n % 2 ^ 64) (xor_shr (value 8 l₀ * 2 ^ s) b (8 * i))
          ∙ xor_low (value 8 l₀ * 2 ^ s / 2 ^ (8 * i)) (b / 2 ^ (8 * i)) 64)

pub raised-done : (l₀ l : List ℕ) (b s c i : ℕ) → length l ≤ i → Raised l₀ l b s c i
    → value 8 l ≡ xor (value 8 l₀ * 2 ^ s) b % 2 ^ (8 * length l₀)
raised-done l₀ l b s c i h r = written-done 8 l₀ l (xor (value 8 l₀ * 2 ^ s) b) i (length l₀) h r.done.same r.done
