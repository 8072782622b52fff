-- The tests of numbers: what a program's comparisons show of them.
use Rattle.std.specs.Prelude.{◌≡◌, refl, Bool, true, false, not, ◌&&◌, ◌||◌, List, ℕ, zero, suc, ◌+◌, ◌-◌, ◌*◌, ◌/◌, ◌%◌, ◌^◌, ◌≤◌, ◌<◌, eqb, leb, ltb, length, get_or, take, drop}
use Rattle.std.proofs.Common.{sym, ap, ◌∙◌, zero-le, suc-le-suc, arith, lit≤, length-drop, pow_pos, pow_mono, shr-shr, take_all, lt-ltb, le-ltb, le-leb, eq-eqb, ne_eqb, ltb-true, ltb-false, leb-true, eqb-true}
use Rattle.std.proofs.Math.Nat as Nat
use Rattle.std.proofs.Math.Pow.{shr_mono, high}
use Rattle.std.proofs.lemmas.Bool.{lt-leb, not-true}
use Rattle.polynomial.specs.Digits.{value}
use Rattle.polynomial.specs.Division.{lt-of-shr}
use Rattle.kernels.specs.Value.{Bounded, value-lt, drop-shr, digit_at}
use Rattle.code.specs.declared.Parameters.{Parameters}
use Rattle.code.specs.Parameters.{Accepted, full}
use Rattle.layout.specs.Sizes.{stored-high}

-- two tests that pass together are one
pub same : (a b : Bool) → (a ≡ true → b ≡ true) → (b ≡ true → a ≡ true) → a ≡ b
same true b f g = sym (f refl)
same false true f g = g refl
same false false f g = refl

never : (b : Bool) → (b ≡ true → ⊥) → false ≡ b
never true h = absurd (h refl)
never false h = refl

-- ---- the width and the count: a number from 1 to m
pub between-zero : (m x : ℕ) → x ≡ 0 → false ≡ not (eqb x 0 || ltb m x)
between-zero m x e = simp (eq-eqb x 0 e)

pub between-above : (m x : ℕ) → (x ≡ 0 → ⊥) → leb x m ≡ not (eqb x 0 || ltb m x)
between-above m x h =
    sym (simp (ne_eqb x 0 h) (same _ _ (λ t. le-leb x m (ltb-false m x (not-true _ t))) (λ t. rw (le-ltb m x (leb-true x m t)) refl)))

pub between : (m x : ℕ) → (leb 1 x && leb x m) ≡ not (eqb x 0 || ltb m x)
between m zero = between-zero m 0 refl
between m (suc x) = ap (λ (t : Bool). t && leb (suc x) m) (le-leb 1 (suc x) (suc-le-suc zero-le)) ∙ between-above m (suc x) (Nat.suc-ne-zero x)

-- ---- a number of L bits
pub below-pow : (u L : ℕ) → 1 ≤ L → ltb (u / 2 ^ (L - 1)) 2 ≡ ltb u (2 ^ L)
below-pow u L h =
    let e : 2 * 2 ^ (L - 1) ≡ 2 ^ L = sym (Nat.pow-succ' 2 (L - 1)) ∙ ap (λ (k : ℕ). 2 ^ k) one in
    same _ _ (λ t. lt-ltb u (2 ^ L) (rw e at ((Nat.div-lt_iff_lt-mul {x = u} {y = 2} (pow_pos (L - 1))).0 (ltb-true (u / 2 ^ (L - 1)) 2 t))))
    (λ t. lt-ltb (u / 2 ^ (L - 1)) 2 ((Nat.div-lt_iff_lt-mul {x = u} {y = 2} (pow_pos (L - 1))).1 (rw e (ltb-true u (2 ^ L) t))))
  where
    one : suc (L - 1) ≡ L
    one = omega arith

-- ---- the count
module _ (p : Parameters) (A : Accepted p) where
  pub full-lt : full p < 2 ^ 64
  full-lt = Nat.lt_of_lt_of_le (stored-high p A) (lit≤ tt)

pub room-none : (k L n : ℕ) → n < k → false ≡ leb (k + L) n
room-none k L n h = sym (lt-leb (k + L) n (omega arith))

pub room-left : (k L n : ℕ) → k ≤ n → leb L (n - k) ≡ leb (k + L) n
room-left k L n h =
    same _ _ (λ t. le-leb (k + L) n (omega (arith, leb-true L (n - k) t))) (λ t. le-leb L (n - k) (omega (arith, leb-true (k + L) n t)))

-- ---- a number in words: no bit at w or above
module _ (l : List ℕ) (b : Bounded 64 l) (w : ℕ) where
  -- the lowest word that can have one, and the words above it
  abbrev word : ℕ
  word = get_or l (w / 64) 0

  abbrev rest : ℕ
  rest = value 64 (drop (w / 64 + 1) l)

  above : value 64 l / 2 ^ w ≡ (rest * 2 ^ 64 + word) / 2 ^ (w % 64)
  above =
      let e : 64 * (w / 64) + w % 64 ≡ w = omega arith in
      ap (λ (k : ℕ). value 64 l / 2 ^ k) (sym e) ∙ sym (shr-shr (value 64 l) (64 * (w / 64)) (w % 64))
      ∙ ap (λ (x : ℕ). x / 2 ^ (w % 64)) (drop-shr 64 (w / 64) l b ∙ digit_at 64 l (w / 64))

  above_zero : ltb (value 64 l) (2 ^ w) ≡ true → (rest * 2 ^ 64 + word) / 2 ^ (w % 64) ≡ 0
  above_zero t = sym above ∙ Nat.div-eq_of_lt (ltb-true (value 64 l) (2 ^ w) t)

  pub words-short : length l ≤ w / 64 → true ≡ ltb (value 64 l) (2 ^ w)
  words-short h =
      sym (lt-ltb (value 64 l) (2 ^ w) (Nat.lt_of_lt_of_le (value-lt 64 l b) (pow_mono {i = 64 * length l} {j = w} (omega arith))))

  pub words-bit : (word / 2 ^ (w % 64) ≡ 0 → ⊥) → false ≡ ltb (value 64 l) (2 ^ w)
  words-bit n =
      never (ltb (value 64 l) (2 ^ w)) (λ t. n (Nat.le_antisymm
      (rw (above_zero t) at (shr_mono {a = word} {b = rest * 2 ^ 64 + word} (w % 64) (Nat.le-add_left word (rest * 2 ^ 64)))) zero-le))

  pub words-rest : word / 2 ^ (w % 64) ≡ 0
      → eqb (value 64 (take (length l - (w / 64 + 1)) (drop (w / 64 + 1) l))) 0 ≡ ltb (value 64 l) (2 ^ w)
  words-rest z =
      ap (λ (x : List ℕ). eqb (value 64 x) 0)
      (take_all (length l - (w / 64 + 1)) (drop (w / 64 + 1) l) (Nat.le_of_eq (length-drop (w / 64 + 1) l)))
      ∙ same (eqb rest 0) (ltb (value 64 l) (2 ^ w))
      (λ t. lt-ltb (value 64 l) (2 ^ w) (lt-of-shr w (above ∙ rw (eqb-true rest 0 t, Nat.zero-mul, Nat.zero-add) z)))
      (λ t. eq-eqb rest 0 (sym (high rest 64 (b (w / 64)))
      ∙ Nat.div-eq_of_lt (Nat.lt_of_lt_of_le (lt-of-shr (w % 64) (above_zero t)) (pow_mono {i = w % 64} {j = 64} (omega arith)))))
