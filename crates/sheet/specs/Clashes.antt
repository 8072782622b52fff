-- The search for a clash, number by number.
--   hits n d j            d × j is a multiple of n
--   any_from P i k         some of i, i + 1, .., k of them, pass the test P
--   Searching P last j    a search of 1 to last for one that passes P has come to j
use Rattle.std.specs.Prelude.{◌≡◌, refl, Bool, true, false, ℕ, zero, suc, ◌+◌, ◌-◌, ◌*◌, ◌%◌, ◌≤◌, ◌<◌, eqb}
use Rattle.std.proofs.Common.{sym, ap, ◌∙◌, arith, ne_eqb}
use Rattle.std.proofs.Math.Nat as Nat
use Rattle.code.specs.Lists.{range, any}
use Rattle.code.specs.Parameters.{len, strength, clashes}
use Rattle.code.specs.declared.Parameters.{Parameters}

abbrev pub hits : ℕ → ℕ → ℕ → Bool
hits n d j = eqb (d * j % n) 0

unfoldable pub any_from : (ℕ → Bool) → ℕ → ℕ → Bool
unfolding any range
any_from P i k = any P (range i k)

pub any_none : (P : ℕ → Bool) (i : ℕ) → any_from P i 0 ≡ false
unfolding any_from
any_none P i = refl

pub any_here : (P : ℕ → Bool) (i k : ℕ) → 0 < k → P i ≡ true → any_from P i k ≡ true
unfolding any_from any range
any_here P i zero h e = absurd (Nat.not-suc-le-zero h)
any_here P i (suc k) h e = rw e refl

pub any-later : (P : ℕ → Bool) (i k : ℕ) → 0 < k → P i ≡ false → any_from P i k ≡ any_from P (i + 1) (k - 1)
unfolding any_from any range
any-later P i zero h e = absurd (Nat.not-suc-le-zero h)
any-later P i (suc k) h e =
    let a : suc i ≡ i + 1 = omega arith in
    let b : k ≡ suc k - 1 = omega arith in
    rw e (ap (λ (j : ℕ). any P (range j k)) a ∙ ap (λ (j : ℕ). any P (range (i + 1) j)) b)

pub clashes-eq : (p : Parameters) → clashes p ≡ any_from (λ d. any_from (hits (len p) d) 1 (2 * strength p p.v)) 1 (p.m - 1)
unfolding clashes any_from
clashes-eq p = refl

-- ---- a search from 1 on that has reached j
pub record Searching (P : ℕ → Bool) (last j : ℕ) : Type 0 where
  pub low : 1 ≤ j
  pub high : j ≤ last + 1
  pub same : any_from P 1 last ≡ any_from P j (last + 1 - j)

pub search-start : (P : ℕ → Bool) (last : ℕ) → Searching P last 1
search-start P last =
    let e : last ≡ last + 1 - 1 = omega arith in
    record { low = omega arith; high = omega arith; same = ap (any_from P 1) e }

pub search-found : (P : ℕ → Bool) (last j : ℕ) → Searching P last j → j ≤ last → P j ≡ true → true ≡ any_from P 1 last
search-found P last j s h e = sym (s.same ∙ any_here P j (last + 1 - j) (omega arith) e)

pub search-next : (P : ℕ → Bool) (last j : ℕ) → Searching P last j → j ≤ last → P j ≡ false → Searching P last (j + 1)
search-next P last j s h e =
    let a : last + 1 - j - 1 ≡ last + 1 - (j + 1) = omega arith in
    record {
      low = omega arith;
      high = omega arith;
      same = s.same ∙ any-later P j (last + 1 - j) (omega arith) e ∙ ap (any_from P (j + 1)) a;
    }

pub search-done : (P : ℕ → Bool) (last j : ℕ) → Searching P last j → last < j → false ≡ any_from P 1 last
search-done P last j s h =
    let a : last + 1 - j ≡ 0 = omega (arith, s.high) in
    sym (s.same ∙ ap (any_from P j) a ∙ any_none P j)

-- none passes
pub none_from : (P : ℕ → Bool) (i k : ℕ) → ((j : ℕ) → i ≤ j → j < i + k → P j ≡ false) → any_from P i k ≡ false
none_from P i zero h = any_none P i
none_from P i (suc k) h =
    let a : suc k - 1 ≡ k = omega arith in
    any-later P i (suc k) (omega arith) (h i (Nat.le_refl i) (omega arith)) ∙ ap (any_from P (i + 1)) a
    ∙ none_from P (i + 1) k (λ j l m. h j (omega arith) (omega arith))

-- no product up to d × last comes to n
pub small-none : (d n last : ℕ) → 1 ≤ d → d * last < n → false ≡ any_from (hits n d) 1 last
small-none d n last h l = sym (none_from (hits n d) 1 last (λ j a b. ne_eqb _ _ (λ e. miss j a b (sym (Nat.mod-eq_of_lt (below j b)) ∙ e))))
  where
    below : (j : ℕ) → j < 1 + last → d * j < n
    below j b = Nat.lt_of_le_of_lt (Nat.mul-le-mul (Nat.le_refl d) (omega arith)) l

    miss : (j : ℕ) → 1 ≤ j → j < 1 + last → d * j ≡ 0 → ⊥
    miss j a b e =
        let k : 1 * 1 ≤ d * j = Nat.mul-le-mul h a in
        omega arith

-- ---- d × j modulo n by sums
pub first-multiple : (d n : ℕ) → d < n → d ≡ d * 1 % n
first-multiple d n h = sym (ap (λ (y : ℕ). y % n) (Nat.mul-one d) ∙ Nat.mod-eq_of_lt h)

pub next_multiple : (d n j x y : ℕ) → x ≡ d * j % n → y ≡ (x + d) % n → y ≡ d * (j + 1) % n
next_multiple d n j x y e f =
    let s : d * (j + 1) ≡ d * j + d = omega arith in
    f ∙ ap (λ (z : ℕ). (z + d) % n) e ∙ Nat.mod-add-mod (d * j) n d ∙ ap (λ (z : ℕ). z % n) (sym s)

-- ---- the test of one d, as the program makes it
abbrev pub clash_test : Parameters → ℕ → Bool
clash_test p d = any_from (hits (len p) d) 1 (2 * strength p p.v)

pub test-is : (p : Parameters) (n t d : ℕ) → n ≡ len p → t ≡ strength p p.v → any_from (hits n d) 1 (2 * t) ≡ clash_test p d
test-is p n t d e f = ap (λ (k : ℕ). any_from (hits k d) 1 (2 * t)) e ∙ ap (λ (k : ℕ). any_from (hits (len p) d) 1 (2 * k)) f
