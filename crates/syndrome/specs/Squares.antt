-- All syndromes from those of odd number: a square at every second place.
use Rattle.std.specs.Prelude.{◌≡◌, List, map, ℕ, suc, ◌+◌, ◌-◌, ◌*◌, ◌/◌, ◌%◌, ◌^◌, ◌≤◌, ◌<◌, length}
use Rattle.std.proofs.Common.{sym, ap, ap₂, ◌∙◌, arith, pow-add, pow_pos, pow_mono, ext_get_or, lit≤}
use Rattle.std.proofs.Math.Nat as Nat
use Rattle.std.proofs.lemmas.List.{length-map}
use Rattle.polynomial.specs.Clmul.{clmul, clmul-pow}
use Rattle.polynomial.specs.Division.{rem, rem-clmul-l, rem-clmul-r, rem-multiple, rem-xor, Deg, deg-mul, lt-of-shr, xor_shr, lt-of-deg}
use Rattle.polynomial.specs.Xor.{xor, xor_zero_r, xor_self}
use Rattle.field.specs.Elements.{times, times-eq}
use Rattle.field.specs.Fields.{Known, field_polynomial, polynomial-degree}
use Rattle.field.specs.Odd.{from_odd, from_odd-even, from_odd-odd}
use Rattle.code.specs.Lists.{range}
use Rattle.code.proofs.Pages.{length-range}
use Rattle.code.proofs.Placement.{get_or-map-range}
use Rattle.code.specs.Filled.{Filled}

-- ---- a number modulo the field polynomial
module _ (q : ℕ) (known : Known q) where
  abbrev P : ℕ
  P = field_polynomial q

  raised : (k : ℕ) → q ≤ k → Deg (P * 2 ^ (k - q)) k
  raised k h =
      let s : ℕ = k - q in
      let w : s + q ≡ k = omega arith in
      rw (← clmul-pow s P) (rw w at (deg-mul s q (2 ^ s) P (Nat.div_self (pow_pos s)) (polynomial-degree q known)))

  -- 32 bits hold it
  pub raised-fits : (k : ℕ) → q ≤ k → k < 16 → P * 2 ^ (k - q) < 2 ^ 32
  raised-fits k h b = Nat.lt_of_lt_of_le (lt-of-deg k (raised k h)) (pow_mono {i = suc k} {j = 32} (Nat.le_trans b (lit≤ {m = 16} {n = 32} tt)))

  pub taken-off : (y k r : ℕ) → q ≤ k → y < 2 ^ (k + 1) → (y / 2 ^ k ≡ 0 → ⊥) → r ≡ xor y (P * 2 ^ (k - q)) → (rem P q r ≡ rem P q y) × (r < 2 ^ k)
  taken-off y k r h b n e =
      let s : ℕ = k - q in
      let m : P * 2 ^ s ≡ clmul (2 ^ s) P = sym (clmul-pow s P) in
      let one : y / 2 ^ k ≡ 1 = omega (arith, Nat.pos_of_ne-zero n, (Nat.div-lt_iff_lt-mul {x = y} {y = 2} (pow_pos k)).1 (rw (pow-add 2 k 1, Nat.mul_comm (2 ^ k) 2) at b)) in (
        ap (rem P q) (e ∙ ap (xor y) m) ∙ rem-xor P q (polynomial-degree q known) y (clmul (2 ^ s) P)
            ∙ ap (xor (rem P q y)) (rem-multiple P q (polynomial-degree q known) (2 ^ s)) ∙ xor_zero_r (rem P q y),
        rw e (lt-of-shr k (xor_shr y (P * 2 ^ s) k ∙ rw (one, raised k h) (xor_self 1))),
      )

  -- and its square by that
  pub square-reduced : (x y : ℕ) → y ≡ rem P q x → times q y y ≡ times q x x
  square-reduced x y e =
      let d = polynomial-degree q known in
      ap₂ (times q) e e ∙ times-eq q (rem P q x) (rem P q x) ∙ rem-clmul-l P q d x (rem P q x) ∙ rem-clmul-r P q d x x ∙ sym (times-eq q x x)

-- ---- number j of all syndromes
module _ (q : ℕ) (O : ℕ → ℕ) (j : ℕ) where
  pub next-odd : j % 2 ≡ 0 → O (j / 2) ≡ from_odd q O (1 + j)
  next-odd e =
      let h : (1 + j) / 2 ≡ j / 2 = omega arith in
      sym (from_odd-odd q O (1 + j) (omega arith) ∙ ap O h)

  pub next-even : (s x : ℕ) → (j % 2 ≡ 0 → ⊥) → s ≡ from_odd q O (1 + j / 2) → x ≡ times q s s → x ≡ from_odd q O (1 + j)
  next-even s x n e w =
      let h : (1 + j) / 2 ≡ 1 + j / 2 = omega (arith, Nat.pos_of_ne-zero n) in
      w ∙ ap₂ (times q) e e ∙ sym (from_odd-even q O (1 + j) (omega (arith, Nat.pos_of_ne-zero n)) ∙ ap (λ (i : ℕ). times q (from_odd q O i) (from_odd q O i)) h)

-- a list filled with them
pub all-filled : (f : ℕ → ℕ) (k : ℕ) (l : List ℕ) → Filled (λ j. f (1 + j)) k l → length l ≡ k → l ≡ map f (range 1 k)
all-filled f k l F e =
    ext_get_or 0 l (map f (range 1 k)) (e ∙ sym (length-map (range 1 k) f ∙ length-range 1 k))
    (λ i h. let b : i < k = rw e at h in F.is i b ∙ sym (get_or-map-range f 1 k i b))
