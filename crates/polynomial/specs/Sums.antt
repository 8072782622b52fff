-- Lists: a property of every element, and sums element by element.
--   All P l    every element of l has P
--   add a b    the lists' numbers added as polynomials, place by place; the longer list's tail is kept
use Rattle.std.specs.Prelude.{◌≡◌, refl, List, [], ◌∷◌, ◌++◌, ℕ, zero, suc, ◌<◌, length, get_or, take, drop}
use Rattle.std.proofs.Common.{sym, ap, suc-le-suc, arith}
use Rattle.std.proofs.Math.Nat as Nat
use Rattle.polynomial.specs.Xor.{xor, xor_self}

abbrev pub All : {A : Type 0} → (A → Type 0) → List A → Type 0
All P [] = Unit {0}
All P (x ∷ l) = P x × All P l

abbrev pub add : List ℕ → List ℕ → List ℕ
add [] b = b
add (x ∷ a) [] = x ∷ a
add (x ∷ a) (y ∷ b) = xor x y ∷ add a b

-- ---- All
pub all_append : (P : ℕ → Type 0) (a b : List ℕ) → All P a → All P b → All P (a ++ b)
all_append P [] b h k = k
all_append P (x ∷ a) b h k = (h.0, all_append P a b h.1 k)

pub all_take : (P : ℕ → Type 0) (k : ℕ) (l : List ℕ) → All P l → All P (take k l)
all_take P zero l h = tt
all_take P (suc k) [] h = tt
all_take P (suc k) (x ∷ l) h = (h.0, all_take P k l h.1)

pub all_drop : (P : ℕ → Type 0) (k : ℕ) (l : List ℕ) → All P l → All P (drop k l)
all_drop P zero l h = h
all_drop P (suc k) [] h = tt
all_drop P (suc k) (x ∷ l) h = all_drop P k l h.1

-- by index, and back
pub all-at : (P : ℕ → Type 0) (l : List ℕ) → All P l → (i : ℕ) → i < length l → P (get_or l i 0)
all-at P [] h i b = absurd (Nat.not-suc-le-zero b)
all-at P (x ∷ l) h zero b = h.0
all-at P (x ∷ l) h (suc i) b = all-at P l h.1 i (Nat.le_of_suc-le-suc b)

pub at_all : (P : ℕ → Type 0) (l : List ℕ) → ((i : ℕ) → i < length l → P (get_or l i 0)) → All P l
at_all P [] h = tt
at_all P (x ∷ l) h = (h 0 (omega arith), at_all P l (λ i b. h (suc i) (suc-le-suc b)))

-- ---- sums
pub add-nil : (a : List ℕ) → add a [] ≡ a
add-nil [] = refl
add-nil (x ∷ a) = refl

pub length-add : (a b : List ℕ) → length a ≡ length b → length (add a b) ≡ length a
length-add [] b e = sym e
length-add (x ∷ a) [] e = refl
length-add (x ∷ a) (y ∷ b) e = ap suc (length-add a b (Nat.suc_inj e))

pub add_at : (a b : List ℕ) (i : ℕ) → length a ≡ length b → get_or (add a b) i 0 ≡ xor (get_or a i 0) (get_or b i 0)
add_at [] [] i e = sym (xor_self 0)
add_at [] (y ∷ b) i e = absurd (Nat.suc-ne-zero (length b) (sym e))
add_at (x ∷ a) [] i e = absurd (Nat.suc-ne-zero (length a) e)
add_at (x ∷ a) (y ∷ b) zero e = refl
add_at (x ∷ a) (y ∷ b) (suc i) e = add_at a b i (Nat.suc_inj e)

pub add-append : (a b c d : List ℕ) → length a ≡ length b → add (a ++ c) (b ++ d) ≡ add a b ++ add c d
add-append [] [] c d e = refl
add-append [] (y ∷ b) c d e = absurd (Nat.suc-ne-zero (length b) (sym e))
add-append (x ∷ a) [] c d e = absurd (Nat.suc-ne-zero (length a) e)
add-append (x ∷ a) (y ∷ b) c d e = ap (λ (l : List ℕ). xor x y ∷ l) (add-append a b c d (Nat.suc_inj e))
