-- The places of a word's ones, put down one by one.
--   Places n c l         the first c entries of l are below n
--   PutDown e k c l      the first c entries of l are the places below k at which the word e has ones
use Rattle.std.specs.Prelude.{◌≡◌, cond, List, [], ◌∷◌, ◌++◌, ℕ, zero, suc, ◌+◌, ◌/◌, ◌%◌, ◌^◌, ◌≤◌, ◌<◌, eqb, length, get_or, set, take}
use Rattle.std.proofs.Common.{sym, ap, ap₂, ◌∙◌, append-nil, zero-le, add-one, arith, length-set, get_or-set_same, length-take-le, take-suc, get_or-take}
use Rattle.std.proofs.Math.Nat as Nat
use Rattle.std.proofs.lemmas.List.{take-set-le}
use Rattle.polynomial.specs.Bits.{coefficient}
use Rattle.polynomial.specs.Digits.{value, value-coefficient}
use Rattle.polynomial.specs.Sums.{at_all}
use Rattle.polynomial.specs.Xor.{bit-ind}
use Rattle.field.specs.Flips.{Rising, flips, flips-ones, ones, ones-rising, ones-suc, ones-zero}

pub record Places (n c : ℕ) (l : List ℕ) : Type 0 where
  pub below : (i : ℕ) → i < c → get_or l i 0 < n

pub places_same : {n : ℕ} {l m : List ℕ} → l ≡ m → Places n (length l) l → Places n (length m) m
places_same {n} e P = rw e at P

pub places-take : {n c : ℕ} {l : List ℕ} → Places n c l → c ≤ length l → Places n (length (take c l)) (take c l)
places-take {n} {c} {l} P h = record {
  below = λ i b. let k : i < c = rw (length-take-le c l h) at b in rw (get_or-take c l i 0 k) (P.below i k);
}

pub rising-at : (k n : ℕ) (R : List ℕ) → Rising k n R → (i : ℕ) → i < length R → get_or R i 0 < n
rising-at k n [] r i h = absurd (Nat.not-suc-le-zero h)
rising-at k n (j ∷ R) r zero h = r.1
rising-at k n (j ∷ R) r (suc i) h = rising-at (suc j) n R r.2 i (Nat.le_of_suc-le-suc h)

-- a coefficient in its word
pub bit_at : (l : List ℕ) → ((i : ℕ) → get_or l i 0 < 2 ^ 64) → (k : ℕ) → get_or l (k / 64) 0 / 2 ^ (k % 64) % 2 ≡ coefficient (value 64 l) k
bit_at l h k = sym (value-coefficient 64 (omega arith) l (at_all (λ d. d < 2 ^ 64) l (λ i b. h i)) k)

-- ---- one place more
pub record PutDown (e k c : ℕ) (l : List ℕ) : Type 0 where
  pub few : c ≤ k
  pub are : take c l ≡ ones k e

pub put_first : (e : ℕ) (l : List ℕ) → PutDown e 0 0 l
put_first e l = record { few = zero-le; are = sym (ones-zero e) }

pub put_next : (e k c b : ℕ) (l : List ℕ) → PutDown e k c l → c < length l → b < 2 → b ≡ coefficient e k → PutDown e (k + 1) (c + b) (set l c k)
put_next e k c b l P h s w = record { few = omega (arith, P.few); are = rw (add-one k) (go b s (ones-suc k e b s w)) }
  where
    stays : take c (set l c k) ≡ ones k e
    stays = take-set-le c l c k (Nat.le_refl c) ∙ P.are

    more : take (suc c) (set l c k) ≡ ones k e ++ (k ∷ [])
    more =
        take-suc (set l c k) c 0 (rw (length-set l c k) h)
        ∙ ap₂ (λ (m : List ℕ) (i : ℕ). m ++ (i ∷ [])) stays (get_or-set_same l c k 0 h)

    go : (b : ℕ) → b < 2 → ones (suc k) e ≡ ones k e ++ cond (eqb b 1) (k ∷ []) [] → take (c + b) (set l c k) ≡ ones (suc k) e
    go b s =
        bit-ind (λ (b : ℕ). ones (suc k) e ≡ ones k e ++ cond (eqb b 1) (k ∷ []) [] → take (c + b) (set l c k) ≡ ones (suc k) e)
        (λ w. rw (Nat.add-zero c) (stays ∙ sym (w ∙ append-nil (ones k e)))) (λ w. rw (add-one c) (more ∙ sym w)) b s

-- ---- all places
module _ (e w c : ℕ) (l : List ℕ) (P : PutDown e w c l) (h : w ≤ length l) where
  pub put-length : length (take c l) ≡ c
  put-length = length-take-le c l (Nat.le_trans P.few h)

  pub put-below : (n : ℕ) → w ≤ n → Places n c (take c l)
  put-below n m = record {
    below = λ i b. Nat.lt_of_lt_of_le (rw P.are (rising-at 0 w (ones w e) (ones-rising w e) i (rw (← P.are, put-length) b))) m;
  }

  pub put-flips : e < 2 ^ w → flips (take c l) ≡ e
  put-flips b = ap flips P.are ∙ flips-ones w e b
