-- Lists of 16-bit numbers as bytes.
--   numbers_in k        how many numbers k bytes hold; 0 where k is odd or more than 256
--   first_numbers k b   the first k numbers of the bytes b
--   Stored xs i l      the first i of the numbers xs stand in the bytes l
use Rattle.std.specs.Prelude.{◌≡◌, Bool, true, false, cond, List, [], ◌∷◌, ◌++◌, map, ◌⊎◌, ℕ, zero, suc, ◌+◌, ◌*◌, ◌/◌, ◌%◌, ◌≤◌, ◌<◌, eqb, leb, length, get_or, take, drop, set}
use Rattle.std.proofs.Math.Path.{refl}
use Rattle.std.proofs.Common.{sym, ap, ap₂, ◌∙◌, append_assoc, append-nil, inl, inr, zero-le, add-one, arith, length-append, drop-cons, take_all, take_at, length-take-le}
use Rattle.std.proofs.Math.Nat as Nat
use Rattle.std.proofs.Math.Decide.{ℕ_discrete}
use Rattle.std.proofs.lemmas.List.Edits.{sets-eq}
use borrow.Author.Tests.{le-leb, lt-leb, leb-true, eq-eqb, ne_eqb, eqb-true}
use Rattle.polynomial.specs.Digits.{digits, length_digits, value}
use Rattle.code.specs.Calls.{as_bytes, as_numbers, number_at}
use Rattle.code.specs.Lists.{range}

-- ---- how many there are
unfoldable pub numbers_in : ℕ → ℕ
numbers_in k = cond (leb k 256) (cond (eqb (k % 2) 0) (k / 2) 0) 0

module _ (k : ℕ) where
  pub numbers-long : 256 < k → 0 ≡ numbers_in k
  unfolding numbers_in
  numbers-long h = rw (lt-leb k 256 h) refl

  pub numbers-odd : k ≤ 256 → (k % 2 ≡ 0 → ⊥) → 0 ≡ numbers_in k
  unfolding numbers_in
  numbers-odd h f = rw (le-leb k 256 h, ne_eqb (k % 2) 0 f) refl

  pub numbers-half : k ≤ 256 → k % 2 ≡ 0 → k / 2 ≡ numbers_in k
  unfolding numbers_in
  numbers-half h f = rw (le-leb k 256 h, eq-eqb (k % 2) 0 f) refl

  by_tests : (b c : Bool) → leb k 256 ≡ b → eqb (k % 2) 0 ≡ c
      → (cond b (cond c (k / 2) 0) 0 ≡ 0) ⊎ ((k ≤ 256) × (k ≡ 2 * cond b (cond c (k / 2) 0) 0))
  by_tests false c d e = inl refl
  by_tests true false d e = inl refl
  by_tests true true d e = inr (leb-true k 256 d, omega (arith, eqb-true (k % 2) 0 e))

  by_cases : (numbers_in k ≡ 0) ⊎ ((k ≤ 256) × (k ≡ 2 * numbers_in k))
  unfolding numbers_in
  by_cases = by_tests (leb k 256) (eqb (k % 2) 0) refl refl

  pub numbers-most : numbers_in k ≤ 128
  numbers-most = go by_cases
    where
      go : (numbers_in k ≡ 0) ⊎ ((k ≤ 256) × (k ≡ 2 * numbers_in k)) → numbers_in k ≤ 128
      go (inl z) = omega arith
      go (inr h) = omega arith

  pub numbers_fit : 2 * numbers_in k ≤ k
  numbers_fit = go by_cases
    where
      go : (numbers_in k ≡ 0) ⊎ ((k ≤ 256) × (k ≡ 2 * numbers_in k)) → 2 * numbers_in k ≤ k
      go (inl z) = omega arith
      go (inr h) = omega arith

  -- the numbers are e exactly where the bytes are 2 e
  module _ (e : ℕ) (low : 0 < e) (high : e ≤ 128) where
    pub numbers-bytes : numbers_in k ≡ e → k ≡ 2 * e
    numbers-bytes f = go by_cases
      where
        go : (numbers_in k ≡ 0) ⊎ ((k ≤ 256) × (k ≡ 2 * numbers_in k)) → k ≡ 2 * e
        go (inl z) = omega arith
        go (inr h) = omega arith

    bytes-numbers : k ≡ 2 * e → numbers_in k ≡ e
    bytes-numbers f = sym (numbers-half (omega arith) (omega arith)) ∙ omega arith

    pub numbers-exact : eqb (numbers_in k) e ≡ eqb k (2 * e)
    numbers-exact = go (ℕ_discrete k (2 * e))
      where
        go : Dec (k ≡ 2 * e) → eqb (numbers_in k) e ≡ eqb k (2 * e)
        go (yes f) = eq-eqb (numbers_in k) e (bytes-numbers f) ∙ sym (eq-eqb k (2 * e) f)
        go (no f) = ne_eqb (numbers_in k) e (λ h. f (numbers-bytes h)) ∙ sym (ne_eqb k (2 * e) f)

-- a list that begins with k elements has so many
pub front-room : (xs ys : List ℕ) (k : ℕ) → length xs ≡ k → k ≤ length (xs ++ ys)
front-room xs ys k e = omega (arith, length-append xs ys)

-- ---- a number's two bytes
two_digits : (x : ℕ) → x % 256 ∷ x / 256 % 256 ∷ [] ≡ digits 8 2 x
unfolding digits
two_digits x = refl

pub put-law : (l : List ℕ) (at x : ℕ) → at + 2 ≤ length l
    → set (set l at (x % 256)) (at + 1) (x / 256 % 256) ≡ take at l ++ digits 8 2 x ++ drop (at + 2) l
put-law l at x h =
    ap (λ (k : ℕ). set (set l at (x % 256)) k (x / 256 % 256)) (add-one at) ∙ sets-eq (x % 256 ∷ x / 256 % 256 ∷ []) l at h
    ∙ ap (λ (d : List ℕ). take at l ++ d ++ drop (at + 2) l) (two_digits x)

-- ---- number by number
bytes-nil : as_bytes [] ≡ []
unfolding as_bytes
bytes-nil = refl

bytes-cons : (x : ℕ) (l : List ℕ) → as_bytes (x ∷ l) ≡ digits 8 2 x ++ as_bytes l
unfolding as_bytes
bytes-cons x l = refl

bytes_next : (xs : List ℕ) (i : ℕ) → i < length xs → as_bytes (take (suc i) xs) ≡ as_bytes (take i xs) ++ digits 8 2 (get_or xs i 0)
bytes_next [] i h = absurd (Nat.not-suc-le-zero h)
bytes_next (x ∷ xs) zero h =
    bytes-cons x [] ∙ ap (λ (l : List ℕ). digits 8 2 x ++ l) bytes-nil ∙ append-nil (digits 8 2 x)
    ∙ ap (λ (l : List ℕ). l ++ digits 8 2 x) (sym bytes-nil)
bytes_next (x ∷ xs) (suc i) h =
    bytes-cons x (take (suc i) xs) ∙ ap (λ (l : List ℕ). digits 8 2 x ++ l) (bytes_next xs i (Nat.le_of_suc-le-suc h))
    ∙ sym (append_assoc (digits 8 2 x) (as_bytes (take i xs)) (digits 8 2 (get_or xs i 0)))
    ∙ ap (λ (l : List ℕ). l ++ digits 8 2 (get_or xs i 0)) (sym (bytes-cons x (take i xs)))

pub record Stored (xs : List ℕ) (i : ℕ) (l : List ℕ) : Type 0 where
  pub exact : length l ≡ 2 * length xs
  pub high : i ≤ length xs
  pub front : take (2 * i) l ≡ as_bytes (take i xs)

pub stored-start : (xs l : List ℕ) → length l ≡ 2 * length xs → Stored xs 0 l
stored-start xs l e = record { exact = e; high = zero-le; front = sym bytes-nil }

pub stored_next : (xs l l' : List ℕ) (i : ℕ) → Stored xs i l → i < length xs → length l' ≡ length l
    → l' ≡ take (2 * i) l ++ digits 8 2 (get_or xs i 0) ++ drop (2 * i + 2) l → Stored xs (i + 1) l'
stored_next xs l l' i s h k e = record { exact = k ∙ s.exact; high = omega arith; front = front }
  where
    two : 2 * (i + 1) ≡ 2 * i + 2
    two = omega arith

    reach : length (take (2 * i) l ++ digits 8 2 (get_or xs i 0)) ≡ 2 * i + 2
    reach =
        length-append (take (2 * i) l) (digits 8 2 (get_or xs i 0))
        ∙ ap₂ ◌+◌ (length-take-le (2 * i) l (omega (arith, s.exact))) (length_digits 8 2 (get_or xs i 0))

    front : take (2 * (i + 1)) l' ≡ as_bytes (take (i + 1) xs)
    front =
        ap₂ take two e ∙ take_at (take (2 * i) l ++ digits 8 2 (get_or xs i 0)) (drop (2 * i + 2) l) (2 * i + 2) reach
        ∙ ap (λ (d : List ℕ). d ++ digits 8 2 (get_or xs i 0)) s.front ∙ sym (bytes_next xs i h)
        ∙ ap (λ (n : ℕ). as_bytes (take n xs)) (sym (add-one i))

pub stored-all : (xs l : List ℕ) (i : ℕ) → Stored xs i l → length xs ≤ i → l ≡ as_bytes xs
stored-all xs l i s h = sym (take_all (2 * i) l (omega (arith, s.exact))) ∙ s.front ∙ ap as_bytes (take_all i xs h)

-- ---- read back
abbrev pub first_numbers : ℕ → List ℕ → List ℕ
first_numbers k bytes = map (number_at bytes) (range 0 k)

pub number-law : (l : List ℕ) (k : ℕ) → 2 * k + 2 ≤ length l → get_or l (2 * k + 1) 0 * 256 + get_or l (2 * k) 0 ≡ number_at l k
unfolding value
number-law l k h =
    rw (drop-cons l (2 * k) 0 (omega arith), drop-cons l (suc (2 * k)) 0 (omega arith), add-one (2 * k)) (omega arith)

pub numbers-all : (b : List ℕ) (e : ℕ) → e ≤ 128 → length b ≡ 2 * e → first_numbers (numbers_in (length b)) b ≡ as_numbers b
unfolding as_numbers
numbers-all b e high f = ap (λ (k : ℕ). first_numbers k b) (sym (numbers-half (length b) (omega arith) (omega arith)))
