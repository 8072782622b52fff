-- The exponents of a generator's roots: the values of j × 2^s modulo n = 2^q - 1.
use Rattle.std.specs.Prelude.{◌≡◌, refl, ◌⊎◌, List, [], ◌∷◌, ◌++◌, ℕ, zero, suc, ◌+◌, ◌*◌, ◌/◌, ◌%◌, ◌^◌, ◌≤◌, ◌<◌, length}
use Rattle.std.proofs.Common.{sym, ap, ◌∙◌, inl, inr, zero-le, suc-le-suc, le_refl, not-suc-le-zero, le_of_suc-le-suc, eq-or-lt_of_le, div-add-mod', arith}
use Rattle.std.proofs.Math.Nat.{add-mul-mod_self_right}
use Rattle.generator.specs.Distinct.{Mem, Once, mem-left, mem-right, mem-join, distinct}
use Rattle.generator.specs.Distinct.{distinct-mem, mem-distinct, once_join}

-- ---- products modulo n
pub mod-mul-l : (a b n : ℕ) → (a % n) * b % n ≡ a * b % n
mod-mul-l a b n =
    sym (ap (λ (x : ℕ). x * b % n) (sym (div-add-mod' a n)) ∙ ap (λ (x : ℕ). x % n) e ∙ add-mul-mod_self_right ((a % n) * b) (a / n * b) n)
  where
    e : (a / n * n + a % n) * b ≡ (a % n) * b + a / n * b * n
    e = omega arith

-- the values j * 2^s mod n for s < q
unfoldable pub row : ℕ → ℕ → ℕ → List ℕ
row n j zero = []
row n j (suc s) = j * 2 ^ s % n ∷ row n j s

pub row_zero : (n j : ℕ) → row n j zero ≡ []
unfolding row
row_zero n j = refl

pub row-suc : (n j s : ℕ) → row n j (suc s) ≡ j * 2 ^ s % n ∷ row n j s
unfolding row
row-suc n j s = refl

-- those for j from 1 to m
unfoldable pub values : ℕ → ℕ → ℕ → List ℕ
unfolding row
values n q zero = []
values n q (suc m) = row n (suc m) q ++ values n q m

pub values-zero : (n q : ℕ) → values n q zero ≡ []
unfolding values
values-zero n q = refl

pub values-suc : (n q m : ℕ) → values n q (suc m) ≡ row n (suc m) q ++ values n q m
unfolding values
values-suc n q m = refl

pub length-row : (n j q : ℕ) → length (row n j q) ≡ q
unfolding row
length-row n j zero = refl
length-row n j (suc q) = ap suc (length-row n j q)

pub row-mem : (n j q s : ℕ) → s < q → Mem (j * 2 ^ s % n) (row n j q)
row-mem n j zero s h = absurd (not-suc-le-zero h)
row-mem n j (suc q) s h = rw (row-suc n j q) (go (λ l. row-mem n j q s l) (eq-or-lt_of_le (le_of_suc-le-suc h)))
  where
    go : (s < q → Mem (j * 2 ^ s % n) (row n j q)) → (s ≡ q) ⊎ (s < q) → Mem (j * 2 ^ s % n) (j * 2 ^ q % n ∷ row n j q)
    go ih (inl e) = inl (ap (λ (x : ℕ). j * 2 ^ x % n) e)
    go ih (inr l) = inr (ih l)

-- what is true of each j * 2^s mod n is true of every member
pub row-ind : (P : ℕ → Type 0) (n j q : ℕ) → ((s : ℕ) → s < q → P (j * 2 ^ s % n)) → (a : ℕ) → Mem a (row n j q) → P a
row-ind P n j zero f a m = absurd (rw (row_zero n j) at m)
row-ind P n j (suc q) f a m = go (λ k. row-ind P n j q (λ s l. f s (omega arith)) a k) (rw (row-suc n j q) at m)
  where
    go : (Mem a (row n j q) → P a) → (a ≡ j * 2 ^ q % n) ⊎ Mem a (row n j q) → P a
    go ih (inl e) = rw e (f q (le_refl (suc q)))
    go ih (inr k) = ih k

pub values-mem : (n q m j s : ℕ) → 0 < j → j ≤ m → s < q → Mem (j * 2 ^ s % n) (values n q m)
values-mem n q zero j s p h l = absurd (not-suc-le-zero {n = 0} (omega arith))
values-mem n q (suc m) j s p h l = rw (values-suc n q m) (go (λ k. values-mem n q m j s p (le_of_suc-le-suc k) l) (eq-or-lt_of_le h))
  where
    go : (j < suc m → Mem (j * 2 ^ s % n) (values n q m)) → (j ≡ suc m) ⊎ (j < suc m)
        → Mem (j * 2 ^ s % n) (row n (suc m) q ++ values n q m)
    go ih (inl e) = mem-left (j * 2 ^ s % n) (row n (suc m) q) (values n q m) (rw e (row-mem n (suc m) q s l))
    go ih (inr k) = mem-right (j * 2 ^ s % n) (row n (suc m) q) (values n q m) (ih k)

pub values-ind : (P : ℕ → Type 0) (n q m : ℕ) → ((j s : ℕ) → 0 < j → j ≤ m → s < q → P (j * 2 ^ s % n)) → (a : ℕ)
    → Mem a (values n q m) → P a
values-ind P n q zero f a m = absurd (rw (values-zero n q) at m)
values-ind P n q (suc k) f a m =
    mem-join P (row n (suc k) q) (values n q k) (row-ind P n (suc k) q (λ s l. f (suc k) s (suc-le-suc zero-le) (le_refl (suc k)) l))
    (values-ind P n q k (λ j s p h l. f j s p (omega arith) l)) a (rw (values-suc n q k) at m)

-- ---- sets of exponents that are closed under doubling
pub record Orbit (n : ℕ) (E : List ℕ) : Type 0 where
  pub once : Once E
  pub below : (e : ℕ) → Mem e E → e < n
  pub twice : (e : ℕ) → Mem e E → Mem (e * 2 % n) E

abbrev pub last_root : ℕ → ℕ
last_root t = 2 * t

unfoldable pub coset : ℕ → ℕ → ℕ → List ℕ
unfolding distinct row
coset n q j = distinct (row n j q)

unfoldable pub exponents : ℕ → ℕ → ℕ → List ℕ
unfolding distinct values
exponents n q t = distinct (values n q (last_root t))

pub coset-mem : (n q j s : ℕ) → s < q → Mem (j * 2 ^ s % n) (coset n q j)
unfolding coset
coset-mem n q j s l = mem-distinct (j * 2 ^ s % n) (row n j q) (row-mem n j q s l)

pub coset-ind : (P : ℕ → Type 0) (n q j : ℕ) → ((s : ℕ) → s < q → P (j * 2 ^ s % n)) → (a : ℕ) → Mem a (coset n q j) → P a
unfolding coset
coset-ind P n q j f a m = row-ind P n j q f a (distinct-mem (row n j q) a m)

pub exponents-mem : (n q t j s : ℕ) → 0 < j → j ≤ last_root t → s < q → Mem (j * 2 ^ s % n) (exponents n q t)
unfolding exponents
exponents-mem n q t j s p h l = mem-distinct (j * 2 ^ s % n) (values n q (last_root t)) (values-mem n q (last_root t) j s p h l)

pub exponents-ind : (P : ℕ → Type 0) (n q t : ℕ) → ((j s : ℕ) → 0 < j → j ≤ last_root t → s < q → P (j * 2 ^ s % n)) → (a : ℕ)
    → Mem a (exponents n q t) → P a
unfolding exponents
exponents-ind P n q t f a m = values-ind P n q (last_root t) f a (distinct-mem (values n q (last_root t)) a m)

pub orbit-join : (n : ℕ) (E D : List ℕ) → Orbit n E → Orbit n D → ((a : ℕ) → Mem a E → Mem a D → ⊥) → Orbit n (E ++ D)
orbit-join n E D o p d = record {
  once = once_join E D o.once p.once d;
  below = mem-join (λ a. a < n) E D o.below p.below;
  twice = mem-join (λ a. Mem (a * 2 % n) (E ++ D)) E D (λ a m. mem-left (a * 2 % n) E D (o.twice a m))
      (λ a m. mem-right (a * 2 % n) E D (p.twice a m));
}

-- 1 to m
abbrev pub upto : ℕ → List ℕ
upto zero = []
upto (suc m) = suc m ∷ upto m

pub length-upto : (m : ℕ) → length (upto m) ≡ m
length-upto zero = refl
length-upto (suc m) = ap suc (length-upto m)

pub upto-mem : (m a : ℕ) → 0 < a → a ≤ m → Mem a (upto m)
upto-mem zero a p h = absurd (not-suc-le-zero {n = 0} (omega arith))
upto-mem (suc m) a p h = go (λ k. upto-mem m a p (le_of_suc-le-suc k)) (eq-or-lt_of_le h)
  where
    go : (a < suc m → Mem a (upto m)) → (a ≡ suc m) ⊎ (a < suc m) → Mem a (upto (suc m))
    go ih (inl e) = inl e
    go ih (inr k) = inr (ih k)
