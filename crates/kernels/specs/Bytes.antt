-- Bits read out of bytes.
--   eight s at    the eight bytes at `at` as code adds them up, 0 past the end
use Rattle.std.specs.Prelude.{◌≡◌, refl, List, ℕ, ◌+◌, ◌-◌, ◌*◌, ◌/◌, ◌%◌, ◌^◌, ◌≤◌, ◌<◌, get_or, drop}
use Rattle.std.proofs.Common.{sym, ap, ap₂, ◌∙◌, add_assoc, arith, shr-shr}
use Rattle.std.proofs.Math.Pow.{low, mod-mod-pow}
use Rattle.polynomial.specs.Digits.{value, value-at}
use Rattle.kernels.specs.Value.{Bounded, digit_at, drop-shr, bounded-all}
use Rattle.kernels.specs.Word.{moved, mask, window}

abbrev pub eight : List ℕ → ℕ → ℕ
eight s at =
    get_or s at 0 + get_or s (at + 1) 0 * 256 + get_or s (at + 2) 0 * 65536 + get_or s (at + 3) 0 * 16777216 + get_or s (at + 4) 0 * 4294967296
    + get_or s (at + 5) 0 * 1099511627776 + get_or s (at + 6) 0 * 281474976710656 + get_or s (at + 7) 0 * 72057594037927936

module _ (s : List ℕ) (b : Bounded 8 s) where
  eight-sum : (at : ℕ) → value 8 (drop at s) ≡ value 8 (drop (at + 8) s) * 2 ^ 64 + eight s at
  eight-sum at =
      let e0 = digit_at 8 s at in
      let e1 = next 1 2 refl in
      let e2 = next 2 3 refl in
      let e3 = next 3 4 refl in
      let e4 = next 4 5 refl in
      let e5 = next 5 6 refl in
      let e6 = next 6 7 refl in
      let e7 = next 7 8 refl in
      omega arith
    where
      next : (i j : ℕ) → i + 1 ≡ j → value 8 (drop (at + i) s) ≡ value 8 (drop (at + j) s) * 256 + get_or s (at + i) 0
      next i j e =
          digit_at 8 s (at + i) ∙ ap (λ (n : ℕ). value 8 (drop n s) * 256 + get_or s (at + i) 0) (add_assoc at i 1 ∙ ap (λ (n : ℕ). at + n) e)

  eight-lt : (at : ℕ) → eight s at < 2 ^ 64
  eight-lt at =
      let h0 : get_or s at 0 < 256 = b at in
      let h1 : get_or s (at + 1) 0 < 256 = b (at + 1) in
      let h2 : get_or s (at + 2) 0 < 256 = b (at + 2) in
      let h3 : get_or s (at + 3) 0 < 256 = b (at + 3) in
      let h4 : get_or s (at + 4) 0 < 256 = b (at + 4) in
      let h5 : get_or s (at + 5) 0 < 256 = b (at + 5) in
      let h6 : get_or s (at + 6) 0 < 256 = b (at + 6) in
      let h7 : get_or s (at + 7) 0 < 256 = b (at + 7) in
      omega arith

  pub eight_is : (at : ℕ) → eight s at ≡ value 8 s / 2 ^ (8 * at) % 2 ^ 64
  eight_is at =
      sym (ap (λ (n : ℕ). n % 2 ^ 64) (drop-shr 8 at s b ∙ eight-sum at) ∙ low (value 8 (drop (at + 8) s)) 64 (eight-lt at))

  -- a byte by its place
  pub byte-is : (at : ℕ) → get_or s at 0 ≡ value 8 s / 2 ^ (8 * at) % 2 ^ 8
  byte-is at = sym (value-at 8 s (bounded-all 8 s b) at)

-- ---- 64 bits of x from place s of byte `at` on, out of a word and the c bits above
pub word-law : (x at s c : ℕ) → s < 64 → s ≤ c
    → x / 2 ^ (8 * at) % 2 ^ 64 / 2 ^ s + moved (x / 2 ^ (8 * (at + 8)) % 2 ^ c) (63 - s) ≡ x / 2 ^ (8 * at + s) % 2 ^ 64
word-law x at s c h k =
    ap (λ (n : ℕ). x / 2 ^ (8 * at) % 2 ^ 64 / 2 ^ s + moved (n % 2 ^ c) (63 - s))
    (ap (λ (n : ℕ). x / 2 ^ n) g ∙ sym (shr-shr x (8 * at) 64))
    ∙ window s h (x / 2 ^ (8 * at)) c k ∙ ap (λ (n : ℕ). n % 2 ^ 64) (shr-shr x (8 * at) s)
  where
    g : 8 * (at + 8) ≡ 8 * at + 64
    g = omega arith

-- the c bits of x from place `pos` on, out of a word and the byte above
pub bits-law : (x pos c : ℕ) → c ≤ 64
    → (x / 2 ^ (8 * (pos / 8)) % 2 ^ 64 / 2 ^ (pos % 8) + moved (x / 2 ^ (8 * (pos / 8 + 8)) % 2 ^ 8) (63 - pos % 8)) * 2 ^ (64 - c)
    % 2 ^ 64 / 2 ^ (64 - c)
    ≡ x / 2 ^ pos % 2 ^ c
bits-law x pos c h =
    mask _ c h
    ∙ ap (λ (n : ℕ). n % 2 ^ c)
    (word-law x (pos / 8) (pos % 8) 8 (omega arith) (omega arith) ∙ ap₂ (λ (m n : ℕ). x / 2 ^ m % 2 ^ n) f (sym e))
    ∙ mod-mod-pow (x / 2 ^ pos) (64 - c) c
  where
    e : (64 - c) + c ≡ 64
    e = omega arith

    f : 8 * (pos / 8) + pos % 8 ≡ pos
    f = omega arith
