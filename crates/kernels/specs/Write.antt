-- Digits written in place, from the lowest on.
--   Written w l₀ l y i    i digits of l₀, of w bits each, are written, which makes l: they are the lowest of y
use Rattle.std.specs.Prelude.{◌≡◌, refl, List, [], ◌∷◌, ◌++◌, ℕ, ◌+◌, ◌*◌, ◌/◌, ◌%◌, ◌^◌, ◌≤◌, ◌<◌, length, take, drop, set}
use Rattle.std.proofs.Common.{sym, ap, ap₂, ◌∙◌, zero-le, mod-lt, mul-zero, add_comm, mul-suc, add-one, arith, length-append, length-set, pow_pos, take_at, drop_at, length-take-le, take_all}
use Rattle.std.proofs.Math.Nat.{div-div-eq-div-mul, mod-one}
use Rattle.std.proofs.Math.Numerals.{towards_suc}
use Rattle.std.proofs.lemmas.Nat.{mod-pow-add}
use Rattle.std.proofs.lemmas.List.Edits.{sets, sets-eq}
use Rattle.polynomial.specs.Digits.{value, digits, length_digits, value-digits}
use Rattle.kernels.specs.Value.{take_more_set, value-append, value-nil}

-- ---- the eight bytes of a word
eight-digits : (v : ℕ)
    → v % 256 ∷ v / 256 % 256 ∷ v / 65536 % 256 ∷ v / 16777216 % 256 ∷ v / 4294967296 % 256 ∷ v / 1099511627776 % 256
    ∷ v / 281474976710656 % 256 ∷ v / 72057594037927936 % 256 ∷ []
    ≡ digits 8 8 v
unfolding digits
eight-digits v = simp div-div-eq-div-mul

pub put-law : (l : List ℕ) (at v : ℕ) → at + 8 ≤ length l
    → set
    (set (set (set (set (set (set (set l at (v % 256)) (at + 1) (v / 256 % 256)) (at + 2) (v / 65536 % 256)) (at + 3) (v / 16777216 % 256))
    (at + 4) (v / 4294967296 % 256)) (at + 5) (v / 1099511627776 % 256)) (at + 6) (v / 281474976710656 % 256))
    (at + 7) (v / 72057594037927936 % 256)
    ≡ take at l ++ digits 8 8 v ++ drop (at + 8) l
put-law l at v h = stores ∙ sets-eq eight l at h ∙ ap (λ (m : List ℕ). take at l ++ m ++ drop (at + 8) l) (eight-digits v)
  where
    eight : List ℕ
    eight =
        v % 256 ∷ v / 256 % 256 ∷ v / 65536 % 256 ∷ v / 16777216 % 256 ∷ v / 4294967296 % 256 ∷ v / 1099511627776 % 256
        ∷ v / 281474976710656 % 256 ∷ v / 72057594037927936 % 256 ∷ []

    stores : set (set
        (set (set (set (set (set (set l at (v % 256)) (at + 1) (v / 256 % 256)) (at + 2) (v / 65536 % 256)) (at + 3) (v / 16777216 % 256))
        (at + 4) (v / 4294967296 % 256)) (at + 5) (v / 1099511627776 % 256)) (at + 6) (v / 281474976710656 % 256))
        (at + 7) (v / 72057594037927936 % 256) ≡ sets l at eight
    stores = simp towards_suc

module _ (l l' : List ℕ) (at v : ℕ) (h : at + 8 ≤ length l) (e : l' ≡ take at l ++ digits 8 8 v ++ drop (at + 8) l) where
  reach : length (take at l ++ digits 8 8 v) ≡ at + 8
  reach = length-append (take at l) (digits 8 8 v) ∙ ap₂ ◌+◌ (length-take-le at l (omega arith)) (length_digits 8 8 v)

  pub put-take : v < 2 ^ 64 → value 8 (take (at + 8) l') ≡ v * 2 ^ (8 * at) + value 8 (take at l)
  put-take b =
      ap (value 8) (ap (take (at + 8)) e ∙ take_at (take at l ++ digits 8 8 v) (drop (at + 8) l) (at + 8) reach)
      ∙ value-append 8 (take at l) (digits 8 8 v)
      ∙ ap₂ (λ (x n : ℕ). x * 2 ^ (8 * n) + value 8 (take at l)) (value-digits 8 8 v b) (length-take-le at l (omega arith))

  pub put-drop : drop (at + 8) l' ≡ drop (at + 8) l
  put-drop = ap (drop (at + 8)) e ∙ drop_at (take at l ++ digits 8 8 v) (drop (at + 8) l) (at + 8) reach

-- ---- loops
pub record Written (w : ℕ) (l₀ l : List ℕ) (y i : ℕ) : Type 0 where
  pub within : i ≤ length l
  pub same : length l ≡ length l₀
  pub done : value w (take i l) ≡ y % 2 ^ (w * i)

pub written_start : (w : ℕ) (l : List ℕ) (y : ℕ) → Written w l l y 0
written_start w l y = record { within = zero-le; same = refl; done = value-nil w ∙ rw (mul-zero w) (sym (mod-one y)) }

pub written-done : (w : ℕ) (l₀ l : List ℕ) (y i n : ℕ) → length l ≤ i → length l ≡ n → Written w l₀ l y i → value w l ≡ y % 2 ^ (w * n)
written-done w l₀ l y i n h k p =
    let e : i ≡ n = omega arith in
    ap (value w) (sym (take_all i l h)) ∙ p.done ∙ ap (λ (m : ℕ). y % 2 ^ (w * m)) e

pub written-digit : (w : ℕ) (l₀ l : List ℕ) (y i v : ℕ) → i < length l → v ≡ y / 2 ^ (w * i) % 2 ^ w → Written w l₀ l y i
    → Written w l₀ (set l i v) y (i + 1)
written-digit w l₀ l y i v h e p = record {
  within = simp length-set (omega arith);
  same = length-set l i v ∙ p.same;
  done =
      take_more_set w l i v h ∙ ap₂ (λ (a b : ℕ). a * 2 ^ (w * i) + b) e p.done ∙ sym (mod-pow-add y w (w * i))
      ∙ ap (λ (n : ℕ). y % 2 ^ n) (add_comm w (w * i) ∙ sym (mul-suc w i) ∙ ap (λ (n : ℕ). w * n) (sym (add-one i)));
}

pub written-word : (l₀ l l' : List ℕ) (y i v : ℕ) → i + 8 ≤ length l → length l' ≡ length l
    → l' ≡ take i l ++ digits 8 8 v ++ drop (i + 8) l → v ≡ y / 2 ^ (8 * i) % 2 ^ 64 → Written 8 l₀ l y i → Written 8 l₀ l' y (i + 8)
written-word l₀ l l' y i v h k f e p = record {
  within = omega arith;
  same = k ∙ p.same;
  done =
      let j : 64 + 8 * i ≡ 8 * (i + 8) = omega arith in
      put-take l l' i v h f (rw e (mod-lt (y / 2 ^ (8 * i)) (pow_pos 64))) ∙ ap₂ (λ (a b : ℕ). a * 2 ^ (8 * i) + b) e p.done
      ∙ sym (mod-pow-add y 64 (8 * i)) ∙ ap (λ (n : ℕ). y % 2 ^ n) j;
}
