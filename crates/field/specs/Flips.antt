-- Places of a word, as rising lists.
--   Rising k n R      R rises, from k on, below n
--   passing P k z     of the places k, k + 1, .., z of them, those that pass the test P
--   ones z e          the places below z at which the word e has ones
--   flips R           the word whose ones stand at the places R
use Rattle.std.specs.Prelude.{◌≡◌, refl, Bool, true, false, cond, ◌⊎◌, List, [], ◌∷◌, ◌++◌, ℕ, zero, suc, ◌+◌, ◌*◌, ◌/◌, ◌%◌, ◌^◌, ◌≤◌, ◌<◌, T, eqb, length, get_or, take}
use Rattle.std.proofs.Common.{sym, ap, ap₂, ◌∙◌, inl, inr, zero-le, add-one, arith, lit<, pow_pos, shr-shr, take-suc}
use Rattle.std.proofs.Math.Nat as Nat
use Rattle.std.proofs.Math.Arith.{bin_ind}
use Rattle.std.proofs.Math.Pow.{pow-lt}
use Rattle.polynomial.specs.Bits.{coefficient}
use Rattle.polynomial.specs.Coefficients.{beyond, coefficient-xor, pow-bit, pow-bits}
use Rattle.polynomial.specs.Clmul.{clmul-pow, clmul-xor-r, split-bit}
use Rattle.polynomial.specs.Division.{xor_lt}
use Rattle.polynomial.specs.Sums.{All}
use Rattle.polynomial.specs.Xor.{xor, bit-ind, dbl-half, dbl-odd, xor-half, xor-odd, xor_zero_l, xors}
use Rattle.field.specs.Bch.{weight, weight-eq, weight-zero}

abbrev pub Rising : ℕ → ℕ → List ℕ → Type 0
Rising k n [] = Unit {0}
Rising k n (i ∷ R) = (k ≤ i) × (i < n) × Rising (suc i) n R

abbrev put : Bool → ℕ → List ℕ → List ℕ
put b k R = cond b (k ∷ R) R

unfoldable pub passing : (ℕ → Bool) → ℕ → ℕ → List ℕ
passing P k zero = []
passing P k (suc z) = put (P k) k (passing P (suc k) z)

abbrev one : ℕ → ℕ → Bool
one e k = eqb (coefficient e k) 1

unfoldable pub ones : ℕ → ℕ → List ℕ
unfolding passing
ones z e = passing (one e) 0 z

unfoldable pub flips : List ℕ → ℕ
unfolding xor
flips [] = 0
flips (k ∷ R) = xor (2 ^ k) (flips R)

-- ---- the defining equations
pub passing-zero : (P : ℕ → Bool) (k : ℕ) → passing P k zero ≡ []
unfolding passing
passing-zero P k = refl

pub passing-suc : (P : ℕ → Bool) (k z : ℕ) → passing P k (suc z) ≡ put (P k) k (passing P (suc k) z)
unfolding passing
passing-suc P k z = refl

ones-eq : (z e : ℕ) → ones z e ≡ passing (one e) 0 z
unfolding ones
ones-eq z e = refl

pub flips-nil : flips [] ≡ 0
unfolding flips
flips-nil = refl

pub flips-cons : (k : ℕ) (R : List ℕ) → flips (k ∷ R) ≡ xor (2 ^ k) (flips R)
unfolding flips
flips-cons k R = refl

-- ---- what passes
pub rising-up : (k n : ℕ) (R : List ℕ) → Rising (suc k) n R → Rising k n R
rising-up k n [] r = tt
rising-up k n (i ∷ R) r = (Nat.le_of_suc-le r.0, r.1, r.2)

module _ (P : ℕ → Bool) where
  pub passing-rising : (k z n : ℕ) → k + z ≡ n → Rising k n (passing P k z)
  passing-rising k zero n h = rw (passing-zero P k) tt
  passing-rising k (suc z) n h = rw (passing-suc P k z) (go (P k) (passing-rising (suc k) z n (omega arith)))
    where
      go : (b : Bool) → Rising (suc k) n (passing P (suc k) z) → Rising k n (put b k (passing P (suc k) z))
      go true r = (Nat.le_refl k, omega arith, r)
      go false r = rising-up k n (passing P (suc k) z) r

  pub passing-all : (k z : ℕ) → All (λ i. T (P i)) (passing P k z)
  passing-all k zero = rw (passing-zero P k) tt
  passing-all k (suc z) = rw (passing-suc P k z) (go (P k) refl (passing-all (suc k) z))
    where
      go : (b : Bool) → P k ≡ b → All (λ i. T (P i)) (passing P (suc k) z) → All (λ i. T (P i)) (put b k (passing P (suc k) z))
      go true e a = (rw e tt, a)
      go false e a = a

  -- places that all pass are among those that pass, and are these where there are as many
  abbrev Covers : List ℕ → List ℕ → Type 0
  Covers Q R = (length R ≤ length Q) × (length Q ≤ length R → Q ≡ R)

  more : (b : Bool) (k : ℕ) (Q R : List ℕ) → Covers Q R → Covers (put b k Q) R
  more true k Q R c = (Nat.le_step c.0, λ h. absurd (Nat.lt_irrefl (length Q) (omega (arith, c.0))))
  more false k Q R c = c

  pub covers : (k z n : ℕ) (R : List ℕ) → k + z ≡ n → Rising k n R → All (λ i. T (P i)) R → Covers (passing P k z) R
  covers k zero n [] e r a = rw (passing-zero P k) (zero-le, λ h. refl)
  covers k zero n (i ∷ R) e r a = absurd (Nat.lt_irrefl k (omega arith))
  covers k (suc z) n [] e r a = rw (passing-suc P k z) (more (P k) k (passing P (suc k) z) [] (covers (suc k) z n [] (omega arith) tt tt))
  covers k (suc z) n (i ∷ R) e r a =
      rw (passing-suc P k z) (go (Nat.eq-or-lt_of_le r.0) (covers (suc k) z n R (omega arith)) (covers (suc k) z n (i ∷ R) (omega arith)))
    where
      at : (b : Bool) (Q : List ℕ) → T b → Covers Q R → Covers (put b k Q) (k ∷ R)
      at true Q t c = (omega (arith, c.0), λ h. ap (λ (l : List ℕ). k ∷ l) (c.1 (omega arith)))
      at false Q t c = absurd t

      go : (k ≡ i) ⊎ (k < i) → (Rising (suc k) n R → All (λ i. T (P i)) R → Covers (passing P (suc k) z) R)
          → (Rising (suc k) n (i ∷ R) → All (λ i. T (P i)) (i ∷ R) → Covers (passing P (suc k) z) (i ∷ R)) → Covers (put (P k) k (passing P (suc k) z)) (i ∷ R)
      go (inl w) f g = rw (← w) (at (P k) (passing P (suc k) z) (rw w a.0) (f (rw w r.2) a.1))
      go (inr w) f g = more (P k) k (passing P (suc k) z) (i ∷ R) (g (w, r.1, r.2) a)

-- one place more
pub passing-last : (P : ℕ → Bool) (j z : ℕ) → passing P j (suc z) ≡ passing P j z ++ cond (P (j + z)) ((j + z) ∷ []) []
passing-last P j zero =
    passing-suc P j zero ∙ ap (λ (l : List ℕ). cond (P j) (j ∷ l) l) (passing-zero P (suc j))
    ∙ sym (ap (λ (l : List ℕ). l ++ cond (P (j + 0)) ((j + 0) ∷ []) []) (passing-zero P j) ∙ ap (λ (i : ℕ). cond (P i) (i ∷ []) []) (Nat.add-zero j))
passing-last P j (suc z) =
    passing-suc P j (suc z) ∙ ap (λ (l : List ℕ). cond (P j) (j ∷ l) l) (passing-last P (suc j) z ∙ ap (λ (i : ℕ). passing P (suc j) z ++ cond (P i) (i ∷ []) []) (Nat.suc-add j z ∙ sym (Nat.add-suc j z)))
    ∙ out (P j) (passing P (suc j) z) (cond (P (j + suc z)) ((j + suc z) ∷ []) []) ∙ sym (ap (λ (l : List ℕ). l ++ cond (P (j + suc z)) ((j + suc z) ∷ []) []) (passing-suc P j z))
  where
    out : (b : Bool) (l m : List ℕ) → cond b (j ∷ (l ++ m)) (l ++ m) ≡ cond b (j ∷ l) l ++ m
    out true l m = refl
    out false l m = refl

-- ---- a word by its ones
length-put : (b k : ℕ) (R : List ℕ) → b < 2 → length (put (eqb b 1) k R) ≡ b + length R
length-put b k R h = bit-ind (λ (b : ℕ). length (put (eqb b 1) k R) ≡ b + length R) (omega arith) (omega arith) b h

flips-put : (b k : ℕ) (R : List ℕ) → b < 2 → flips (put (eqb b 1) k R) ≡ xor (b * 2 ^ k) (flips R)
flips-put b k R h =
    bit-ind (λ (b : ℕ). flips (put (eqb b 1) k R) ≡ xor (b * 2 ^ k) (flips R)) (sym (rw (Nat.zero-mul (2 ^ k)) (xor_zero_l (flips R))))
    (flips-cons k R ∙ rw (Nat.one-mul (2 ^ k)) refl) b h

shifted : (k a b : ℕ) → xor (a * 2 ^ k) (b * 2 ^ k) ≡ xor a b * 2 ^ k
shifted k a b = simp (← clmul-pow, clmul-xor-r)

module _ (e : ℕ) where
  next : (k : ℕ) → e / 2 ^ suc k ≡ e / 2 ^ k / 2
  next k = sym (shr-shr e k 1 ∙ ap (λ (y : ℕ). e / 2 ^ y) (add-one k))

  length_from : (k z : ℕ) → e < 2 ^ (k + z) → length (passing (one e) k z) ≡ weight (e / 2 ^ k)
  length_from k zero h = ap length (passing-zero (one e) k) ∙ sym (ap weight (Nat.div-eq_of_lt (rw (Nat.add-zero k) at h)) ∙ weight-zero)
  length_from k (suc z) h =
      ap length (passing-suc (one e) k z) ∙ length-put (coefficient e k) k (passing (one e) (suc k) z) (Nat.mod-lt (e / 2 ^ k) (lit< tt))
      ∙ ap (λ (y : ℕ). coefficient e k + y) (length_from (suc k) z (rw (Nat.suc-add k z, ← Nat.add-suc k z) h) ∙ ap weight (next k)) ∙ sym (weight-eq (e / 2 ^ k))

  flips-from : (k z : ℕ) → e < 2 ^ (k + z) → flips (passing (one e) k z) ≡ e / 2 ^ k * 2 ^ k
  flips-from k zero h =
      ap flips (passing-zero (one e) k) ∙ flips-nil ∙ sym (ap (λ (y : ℕ). y * 2 ^ k) (Nat.div-eq_of_lt (rw (Nat.add-zero k) at h)) ∙ Nat.zero-mul (2 ^ k))
  flips-from k (suc z) h =
      ap flips (passing-suc (one e) k z) ∙ flips-put (coefficient e k) k (passing (one e) (suc k) z) (Nat.mod-lt (e / 2 ^ k) (lit< tt))
      ∙ ap (xor (coefficient e k * 2 ^ k)) (flips-from (suc k) z (rw (Nat.suc-add k z, ← Nat.add-suc k z) h) ∙ rw (next k, Nat.pow-suc 2 k) (up (e / 2 ^ k / 2) (2 ^ k)))
      ∙ shifted k (coefficient e k) (e / 2 ^ k / 2 * 2) ∙ ap (λ (y : ℕ). y * 2 ^ k) (split-bit (e / 2 ^ k))
    where
      up : (a b : ℕ) → a * (b * 2) ≡ a * 2 * b
      up a b = rw (Nat.mul_comm b 2) (sym (Nat.mul_assoc a 2 b))

module _ (z e : ℕ) where
  pub ones-rising : Rising 0 z (ones z e)
  ones-rising = rw (ones-eq z e) (passing-rising (one e) 0 z z (Nat.zero-add z))

  module _ (h : e < 2 ^ z) where
    pub length-ones : length (ones z e) ≡ weight e
    length-ones = ap length (ones-eq z e) ∙ length_from e 0 z (rw (Nat.zero-add z) h) ∙ ap weight (Nat.div-one e)

    pub flips-ones : flips (ones z e) ≡ e
    flips-ones = ap flips (ones-eq z e) ∙ flips-from e 0 z (rw (Nat.zero-add z) h) ∙ rw (Nat.div-one e) (Nat.mul-one e)

pub flips-lt : (k n : ℕ) (R : List ℕ) → Rising k n R → flips R < 2 ^ n
flips-lt k n [] r = rw flips-nil (pow_pos n)
flips-lt k n (i ∷ R) r = rw (flips-cons i R) (xor_lt n (2 ^ i) (flips R) (pow-lt r.1) (flips-lt (suc i) n R r.2))

-- ---- weights of sums
pub weight-xor : (a b : ℕ) → weight (xor a b) ≤ weight a + weight b
weight-xor a =
    bin_ind (λ (n : ℕ). (b : ℕ) → weight (xor n b) ≤ weight n + weight b) (λ b. rw (xor_zero_l b) (omega arith))
    (λ n ih b. omega (arith, weight-eq (xor n b), rw (← xor-half n b) at (ih (b / 2)), xor-odd n b, weight-eq n, weight-eq b)) a

pub weight-pow : (k : ℕ) → weight (2 ^ k) ≡ 1
weight-pow zero = weight-eq 1 ∙ ap (λ (y : ℕ). 1 + y) weight-zero
weight-pow (suc k) =
    ap weight (Nat.pow-suc 2 k) ∙ weight-eq (2 ^ k * 2) ∙ ap₂ (λ (a b : ℕ). a + weight b) (dbl-odd (2 ^ k)) (dbl-half (2 ^ k))
    ∙ Nat.zero-add (weight (2 ^ k)) ∙ weight-pow k

pub weight-flips : (R : List ℕ) → weight (flips R) ≤ length R
weight-flips [] = rw (flips-nil, weight-zero) zero-le
weight-flips (k ∷ R) = rw (flips-cons k R) (omega (arith, weight-xor (2 ^ k) (flips R), weight-pow k, weight-flips R))

-- ---- one more place
pub flips-last : (l : List ℕ) (k : ℕ) → flips (l ++ (k ∷ [])) ≡ xor (flips l) (2 ^ k)
flips-last [] k = flips-cons k [] ∙ rw flips-nil (simp xors)
flips-last (i ∷ l) k = flips-cons i (l ++ (k ∷ [])) ∙ rw (flips-last l k, flips-cons i l) (simp xors)

pub flips-take : (l : List ℕ) (j : ℕ) → j < length l → flips (take (suc j) l) ≡ xor (flips (take j l)) (2 ^ get_or l j 0)
flips-take l j h = ap flips (take-suc l j 0 h) ∙ flips-last (take j l) (get_or l j 0)

pub ones-zero : (e : ℕ) → ones 0 e ≡ []
ones-zero e = ones-eq 0 e ∙ passing-zero (one e) 0

pub ones-suc : (k e b : ℕ) → b < 2 → b ≡ coefficient e k → ones (suc k) e ≡ ones k e ++ put (eqb b 1) k []
ones-suc k e b h w =
    ones-eq (suc k) e ∙ passing-last (one e) 0 k
    ∙ ap₂ (λ (l : List ℕ) (i : ℕ). l ++ cond (one e i) (i ∷ []) []) (sym (ones-eq k e)) (Nat.zero-add k)
    ∙ ap (λ (b : ℕ). ones k e ++ put (eqb b 1) k []) (sym w)

-- ---- rising places by the word of their flips
module _ (n : ℕ) where
  flips-below : (k i : ℕ) (R : List ℕ) → Rising k n R → i < k → coefficient (flips R) i ≡ 0
  flips-below k i [] r h = ap (λ (e : ℕ). coefficient e i) flips-nil ∙ beyond 0 0 i (lit< tt) zero-le
  flips-below k i (j ∷ R) r h =
      ap (λ (e : ℕ). coefficient e i) (flips-cons j R) ∙ coefficient-xor (2 ^ j) (flips R) i
      ∙ ap₂ (λ (a b : ℕ). (a + b) % 2) (pow-bits j i (λ e. Nat.lt_irrefl i (omega (arith, r.0)))) (flips-below (suc j) i R r.2 (omega (arith, r.0)))

  -- places that rise from above j, with ones at a word's places, have them with x^j added
  above : (j e k : ℕ) (Q : List ℕ) → j < k → Rising k n Q → All (λ i. coefficient e i ≡ 1) Q → All (λ i. coefficient (xor (2 ^ j) e) i ≡ 1) Q
  above j e k [] h q a = tt
  above j e k (i ∷ Q) h q a = (
    coefficient-xor (2 ^ j) e i ∙ ap₂ (λ (a b : ℕ). (a + b) % 2) (pow-bits j i (λ d. Nat.lt_irrefl j (omega (arith, q.0)))) a.0,
    above j e (suc i) Q (omega (arith, q.0)) q.2 a.1,
  )

  flips-at : (k : ℕ) (R : List ℕ) → Rising k n R → All (λ i. coefficient (flips R) i ≡ 1) R
  unfolding flips xor
  flips-at k [] r = tt
  flips-at k (j ∷ R) r =
      rw (flips-cons j R) (
        coefficient-xor (2 ^ j) (flips R) j
            ∙ ap₂ (λ (a b : ℕ). (a + b) % 2) (pow-bit j) (flips-below (suc j) j R r.2 (Nat.le_refl (suc j))),
        above j (flips R) (suc j) R (Nat.le_refl (suc j)) r.2 (flips-at (suc j) R r.2),
      )

  all_ones : (e : ℕ) (R : List ℕ) → All (λ i. coefficient e i ≡ 1) R → All (λ i. T (one e i)) R
  all_ones e [] a = tt
  all_ones e (i ∷ R) a = (rw a.0 tt, all_ones e R a.1)

  pub ones-flips : (R : List ℕ) → Rising 0 n R → ones n (flips R) ≡ R
  ones-flips R r =
      ones-eq n (flips R) ∙ (covers (one (flips R)) 0 n n R (Nat.zero-add n) r (all_ones (flips R) R (flips-at 0 R r))).1
      (Nat.le_trans (Nat.le_of_eq (ap length (sym (ones-eq n (flips R))) ∙ length-ones n (flips R) (flips-lt 0 n R r))) (weight-flips R))

  pub flips-inj : (R Q : List ℕ) → Rising 0 n R → Rising 0 n Q → flips R ≡ flips Q → R ≡ Q
  flips-inj R Q r q e = sym (ones-flips R r) ∙ ap (ones n) e ∙ ones-flips Q q
