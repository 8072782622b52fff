-- Laws of chains of refusals: what a link shows that refuses, and what one shows that does not.
use Rattle.std.specs.Prelude.{◌≡◌, refl, ◌⊎◌, Bool, true, false, not, ◌||◌, ℕ, zero, suc, ◌≤◌, ◌<◌, T, eqb}
use Rattle.std.proofs.Common.{sym, ◌∙◌, inl, inr, zero-le, arith, eqb→eq}
use Rattle.std.proofs.Math.Nat as Nat
use Rattle.std.proofs.Math.Dec.{eqb_refl}
use Rattle.code.specs.Lists.{◌when◌, ◌or_else◌, last_refusal}
use Rattle.code.specs.Refusals.{not_exact}

-- ---- tests
pub none : (k : ℕ) (b : Bool) (r : ℕ) → ((suc k when not b) or_else r) ≡ 0 → T b × (r ≡ 0)
none k true r e = (tt, e)
none k false r e = absurd (Nat.suc-ne-zero k e)

pub last : (k : ℕ) (b : Bool) → (suc k when b) ≡ 0 → T (not b)
last k true e = absurd (Nat.suc-ne-zero k e)
last k false e = tt

pub unless : (k : ℕ) (b : Bool) → (suc k when not b) ≡ 0 → T b
unless k true e = tt
unless k false e = absurd (Nat.suc-ne-zero k e)

pub either : (a b : Bool) → T (a || b) → T a ⊎ T b
either true b t = inl tt
either false b t = inr t

pub left : (a b : Bool) → T a → T (a || b)
left true b t = tt
left false b t = absurd t

pub right : (a b : Bool) → T b → T (a || b)
right true b t = tt
right false b t = t

pub neither : (a b : Bool) → T (not (a || b)) → T (not a) × T (not b)
neither true b t = absurd t
neither false b t = (tt, t)

pub true-false : true ≡ false → ⊥
true-false e = let z : ◌≡◌ {A = ℕ} 0 1 = cc in Nat.suc-ne-zero 0 (sym z)

-- tests that pass together are the same
pub both_ways : (a b : Bool) → (T a → T b) → (T b → T a) → a ≡ b
both_ways true true f g = refl
both_ways true false f g = absurd (f tt)
both_ways false true f g = absurd (g tt)
both_ways false false f g = refl

pub nonzero : (x : ℕ) → T (not (eqb x 0)) → 0 < x
nonzero zero t = absurd t
nonzero (suc x) t = omega arith

pub when-none : (k : ℕ) (b : Bool) → (suc k when b) ≡ 0 → b ≡ false
when-none k true e = absurd (Nat.suc-ne-zero k e)
when-none k false e = refl

pub given : (k : ℕ) (b : Bool) → (suc k when b) ≡ suc k → T b
given k true e = tt
given k false e = absurd (Nat.suc-ne-zero k (sym e))

-- ---- links
-- a chain's number, above the first link's, comes from behind it
pub past : (k : ℕ) (b : Bool) (r n : ℕ) → suc k < n → ((suc k when b) or_else r) ≡ n → ((suc k when b) ≡ 0) × (r ≡ n)
past k true r n h e = absurd (Nat.lt_irrefl n (rw e at h))
past k false r n h e = (refl, e)

pub or-first : (r s : ℕ) → 0 < r → (r or_else s) ≡ r
or-first zero s h = absurd (Nat.not-suc-le-zero h)
or-first (suc r) s h = refl

pub or-second : (r s : ℕ) → r ≡ 0 → (r or_else s) ≡ s
or-second zero s e = refl
or-second (suc r) s e = absurd (Nat.suc-ne-zero r e)

pub off : (c : ℕ) (b : Bool) → T b → (c when not b) ≡ 0
off c true t = refl
off c false t = absurd t

pub off' : (c : ℕ) (b : Bool) → T (not b) → (c when b) ≡ 0
off' c true t = absurd t
off' c false t = refl

pub on : (c : ℕ) (b : Bool) → T b → (c when b) ≡ c
on c true t = refl
on c false t = absurd t

pub or-zero : (r s : ℕ) → r ≡ 0 → s ≡ 0 → (r or_else s) ≡ 0
or-zero zero s e f = f
or-zero (suc r) s e f = e

pub or-none : (r s : ℕ) → (r or_else s) ≡ 0 → (r ≡ 0) × (s ≡ 0)
or-none zero s e = (refl, e)
or-none (suc r) s e = absurd (Nat.suc-ne-zero r e)

pub exact_none : (c k exact : ℕ) → k ≡ exact → (c when not_exact k exact) ≡ 0
exact_none c k exact e = off c (eqb k exact) (rw e (eqb_refl exact))

pub when-le : (c : ℕ) (b : Bool) → c ≤ last_refusal → (c when b) ≤ last_refusal
when-le c true h = h
when-le c false h = zero-le

pub or-le : (r s : ℕ) → r ≤ last_refusal → s ≤ last_refusal → (r or_else s) ≤ last_refusal
or-le zero s h k = k
or-le (suc r) s h k = h

-- 16 is no call's number
abbrev pub other : ℕ → Type 0
other k = T (not (eqb k 16))

pub when-other : (c : ℕ) (b : Bool) → other c → other (c when b)
when-other c true h = h
when-other c false h = tt

pub or-other : (r s : ℕ) → other r → other s → other (r or_else s)
or-other zero s h k = k
or-other (suc r) s h k = h

pub or_assoc : (r s t : ℕ) → ((r or_else s) or_else t) ≡ (r or_else s or_else t)
or_assoc zero s t = refl
or_assoc (suc r) s t = refl

pub when-or : (c : ℕ) (a b : Bool) → ((suc c when a) or_else (suc c when b)) ≡ (suc c when (a || b))
when-or c true b = refl
when-or c false b = refl

-- a length that is not refused is exact
pub exact-of : (c k exact : ℕ) → (suc c when not_exact k exact) ≡ 0 → k ≡ exact
exact-of c k exact z = eqb→eq k exact (unless c (eqb k exact) z)

-- a number that is not 0, found at the first link, is the chain's
pub first_of : (k r s : ℕ) → k ≡ r → (k ≡ 0 → ⊥) → k ≡ (r or_else s)
first_of k r s e h = e ∙ sym (or-first r s (Nat.pos_of_ne-zero (λ z. h (e ∙ z))))

pub or-last : (r : ℕ) → (r or_else 0) ≡ r
or-last zero = refl
or-last (suc r) = refl
