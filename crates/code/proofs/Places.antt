-- The number of pairs of a word and a place at which two pages differ is the weight of their sum.
use Rattle.std.specs.Prelude.{◌≡◌, refl, ◌≢◌, ◌⊎◌, Bool, not, cond, List, [], ◌∷◌, ℕ, zero, suc, ◌+◌, ◌/◌, ◌%◌, ◌^◌, ◌≤◌, ◌<◌, eqb, length, get_or}
use Rattle.std.proofs.Common.{sym, ap, ap₂, ◌∙◌, inl, inr, zero-le, suc-le-suc, arith, pow_mono}
use Rattle.std.proofs.Math.Nat as Nat
use Rattle.std.proofs.Math.Arith.{lt-one}
use Rattle.polynomial.specs.Bits.{coefficient, half_lt}
use Rattle.polynomial.specs.Coefficients.{coefficient-xor}
use Rattle.polynomial.specs.Division.{shr-half, xor_lt}
use Rattle.polynomial.specs.Sums.{All, add}
use Rattle.polynomial.specs.Xor.{bit-ind, xor}
use Rattle.field.specs.Bch.{weight, weight-eq, weight-zero}
use Rattle.field.specs.Field.{Field2}
use Rattle.code.specs.declared.Parameters.{Parameters}
use Rattle.code.specs.Code.{distance}
use Rattle.code.proofs.Distance.{Passing, distance-member, page_weight}
use Rattle.code.specs.Lists.{add_below, count_below}
use Rattle.code.specs.Parameters.{len}
use Rattle.code.proofs.Values.{Lawful}

-- ---- sums below n
pub add_below-zero : (f : ℕ → ℕ) → add_below 0 f ≡ 0
unfolding add_below
add_below-zero f = refl

pub add_below-suc : (n : ℕ) (f : ℕ → ℕ) → add_below (suc n) f ≡ add_below n f + f n
unfolding add_below
add_below-suc n f = refl

pub count_below-eq : (n : ℕ) (P : ℕ → Bool) → count_below n P ≡ add_below n (λ k. cond (P k) 1 0)
unfolding count_below
count_below-eq n P = refl

pub add_below-ext : (n : ℕ) (f g : ℕ → ℕ) → ((k : ℕ) → k < n → f k ≡ g k) → add_below n f ≡ add_below n g
add_below-ext zero f g h = add_below-zero f ∙ sym (add_below-zero g)
add_below-ext (suc n) f g h =
    add_below-suc n f ∙ ap₂ ◌+◌ (add_below-ext n f g (λ k l. h k (Nat.le_step l))) (h n (Nat.le_refl (suc n))) ∙ sym (add_below-suc n g)

pub count_below-ext : (n : ℕ) (P Q : ℕ → Bool) → ((k : ℕ) → k < n → P k ≡ Q k) → count_below n P ≡ count_below n Q
count_below-ext n P Q h =
    count_below-eq n P ∙ add_below-ext n (λ k. cond (P k) 1 0) (λ k. cond (Q k) 1 0) (λ k l. ap (λ (b : Bool). cond b 1 0) (h k l))
    ∙ sym (count_below-eq n Q)

pub add_below-none : (n : ℕ) (f : ℕ → ℕ) → ((k : ℕ) → k < n → f k ≡ 0) → add_below n f ≡ 0
add_below-none zero f h = add_below-zero f
add_below-none (suc n) f h = add_below-suc n f ∙ ap₂ ◌+◌ (add_below-none n f (λ k l. h k (Nat.le_step l))) (h n (Nat.le_refl (suc n)))

-- one term alone
pub add_below-single : (n i : ℕ) (f : ℕ → ℕ) → i < n → ((j : ℕ) → j < n → j ≢ i → f j ≡ 0) → add_below n f ≡ f i
add_below-single zero i f h o = absurd (Nat.not-suc-le-zero h)
add_below-single (suc n) i f h o =
    add_below-suc n f ∙ go (Nat.eq-or-lt_of_le (Nat.le_of_suc-le-suc h)) (λ l. add_below-single n i f l (λ j k d. o j (Nat.le_step k) d))
  where
    go : (i ≡ n) ⊎ (i < n) → (i < n → add_below n f ≡ f i) → add_below n f + f n ≡ f i
    go (inl e) ih =
        ap₂ ◌+◌ (add_below-none n f (λ k l. o k (Nat.le_step l) (λ d. Nat.lt_irrefl n (rw (d ∙ e) at l)))) (ap f (sym e)) ∙ Nat.zero-add (f i)
    go (inr l) ih = ap₂ ◌+◌ (ih l) (o n (Nat.le_refl (suc n)) (λ d. Nat.lt_irrefl n (rw (sym d) at l))) ∙ Nat.add-zero (f i)

pub add_below-front : (n : ℕ) (f : ℕ → ℕ) → add_below (suc n) f ≡ f 0 + add_below n (λ k. f (suc k))
add_below-front zero f = add_below-suc 0 f ∙ rw (add_below-zero f, add_below-zero (λ k. f (suc k))) (omega arith)
add_below-front (suc n) f =
    add_below-suc (suc n) f ∙ ap (λ (y : ℕ). y + f (suc n)) (add_below-front n f)
    ∙ Nat.add_assoc (f 0) (add_below n (λ k. f (suc k))) (f (suc n)) ∙ ap (λ (y : ℕ). f 0 + y) (sym (add_below-suc n (λ k. f (suc k))))

-- ---- one word
pub ones-weight : (n e : ℕ) → e < 2 ^ n → add_below n (λ k. coefficient e k) ≡ weight e
ones-weight zero e h = add_below-zero (λ k. coefficient e k) ∙ sym (rw (lt-one h) weight-zero)
ones-weight (suc n) e h =
    add_below-front n (λ k. coefficient e k)
    ∙ ap₂ ◌+◌ (ap (λ (y : ℕ). y % 2) (Nat.div-one e)) (add_below-ext n (λ k. coefficient e (suc k)) (λ k. coefficient (e / 2) k)
    (λ k l. ap (λ (y : ℕ). y % 2) (shr-half e k)) ∙ ones-weight n (e / 2) (half_lt e n h))
    ∙ sym (weight-eq e)

unequal : (a b : ℕ) → a < 2 → b < 2 → cond (not (eqb a b)) 1 0 ≡ (a + b) % 2
unequal a b h l =
    bit-ind (λ (a : ℕ). cond (not (eqb a b)) 1 0 ≡ (a + b) % 2) (bit-ind (λ (b : ℕ). cond (not (eqb 0 b)) 1 0 ≡ (0 + b) % 2) refl refl b l)
    (bit-ind (λ (b : ℕ). cond (not (eqb 1 b)) 1 0 ≡ (1 + b) % 2) refl refl b l) a h

pub words-differ : (n c d : ℕ) → c < 2 ^ n → d < 2 ^ n → count_below n (λ k. not (eqb (coefficient c k) (coefficient d k))) ≡ weight (xor c d)
words-differ n c d h l =
    count_below-eq n (λ k. not (eqb (coefficient c k) (coefficient d k)))
    ∙ add_below-ext n (λ k. cond (not (eqb (coefficient c k) (coefficient d k))) 1 0) (λ k. coefficient (xor c d) k)
    (λ k b. unequal (coefficient c k) (coefficient d k) (Nat.mod-lt (c / 2 ^ k) (suc-le-suc zero-le))
    (Nat.mod-lt (d / 2 ^ k) (suc-le-suc zero-le)) ∙ sym (coefficient-xor c d k))
    ∙ ones-weight n (xor c d) (xor_lt n c d h l)

-- ---- all words
abbrev pub differing : ℕ → List ℕ → List ℕ → ℕ → ℕ
differing n cs ds i = count_below n (λ k. not (eqb (coefficient (get_or cs i 0) k) (coefficient (get_or ds i 0) k)))

pub pages-differ : (n : ℕ) (cs ds : List ℕ) → length cs ≡ length ds → All (λ c. c < 2 ^ n) cs → All (λ c. c < 2 ^ n) ds
    → add_below (length cs) (differing n cs ds) ≡ page_weight (add cs ds)
pages-differ n [] [] e a b = add_below-zero (differing n [] [])
pages-differ n [] (d ∷ ds) e a b = absurd (Nat.suc-ne-zero (length ds) (sym e))
pages-differ n (c ∷ cs) [] e a b = absurd (Nat.suc-ne-zero (length cs) e)
pages-differ n (c ∷ cs) (d ∷ ds) e a b =
    add_below-front (length cs) (differing n (c ∷ cs) (d ∷ ds))
    ∙ ap₂ ◌+◌ (words-differ n c d a.0 b.0) (pages-differ n cs ds (Nat.suc_inj e) a.1 b.1)

pub all-higher : (z n : ℕ) (cs : List ℕ) → z ≤ n → All (λ c. c < 2 ^ z) cs → All (λ c. c < 2 ^ n) cs
all-higher z n [] h a = tt
all-higher z n (c ∷ cs) h a = (Nat.lt_of_lt_of_le a.0 (pow_mono h), all-higher z n cs h a.1)

-- two pages of the code that differ, both within z places, do so in at least the distance of these places
pub distance-places : (F : Field2) (α : F.K) (C : Parameters) → Lawful F α C → (z : ℕ) → z ≤ len C → (cs ds : List ℕ)
    → length cs ≡ C.m → length ds ≡ C.m → All (λ c. c < 2 ^ z) cs → All (λ c. c < 2 ^ z) ds → Passing C cs → Passing C ds → cs ≢ ds
    → distance C ≤ add_below C.m (differing z cs ds)
distance-places F α C L z l cs ds e f a b M M' h =
    Nat.le_trans
    (distance-member F α C L cs ds (e ∙ sym f) (Nat.le_of_eq e) (all-higher z (len C) cs l a) (all-higher z (len C) ds l b) M M' h)
    (Nat.le_of_eq (sym (pages-differ z cs ds (e ∙ sym f) a b) ∙ ap (λ (k : ℕ). add_below k (differing z cs ds)) e))
