-- Runs of bytes cut and joined.
--   Small ks xs    one number for each size, each of at most that many bytes
use Rattle.std.specs.Prelude.{◌≡◌, refl, List, [], ◌∷◌, ◌++◌, ℕ, zero, suc, ◌+◌, ◌*◌, ◌^◌, ◌≤◌, ◌<◌, length, get_or, take, drop}
use Rattle.std.proofs.Common.{sym, ap, ap₂, ◌∙◌, arith, length-append, length-take, length-drop, take-append-drop, take_at, drop_at, drop-drop}
use Rattle.std.proofs.Math.Nat as Nat
use Rattle.polynomial.specs.Digits.{digits, digits_lt, digits_value, digits-xor, length_digits, value, value-digits}
use Rattle.polynomial.specs.Division.{xor_lt}
use Rattle.polynomial.specs.Sums.{add, add-append, all_append, all_drop, all_take}
use Rattle.code.specs.Layout.{Bytes}
use Rattle.code.specs.Lists.{join, split, sum}

-- ---- numbers that fit runs of bytes, one for each size
abbrev pub Small : List ℕ → List ℕ → Type 0
Small [] [] = Unit {0}
Small [] (x ∷ xs) = ⊥
Small (k ∷ ks) [] = ⊥
Small (k ∷ ks) (x ∷ xs) = x < 2 ^ (8 * k) × Small ks xs

pub small-add : (ks xs ys : List ℕ) → Small ks xs → Small ks ys → Small ks (add xs ys)
small-add [] [] [] h j = tt
small-add [] [] (y ∷ ys) h j = absurd j
small-add [] (x ∷ xs) ys h j = absurd h
small-add (k ∷ ks) [] ys h j = absurd h
small-add (k ∷ ks) (x ∷ xs) [] h j = absurd j
small-add (k ∷ ks) (x ∷ xs) (y ∷ ys) h j = (xor_lt (8 * k) x y h.0 j.0, small-add ks xs ys h.1 j.1)

pub length-split : (ks bs : List ℕ) → length (split ks bs) ≡ length ks
unfolding split
length-split [] bs = refl
length-split (k ∷ ks) bs = ap suc (length-split ks (drop k bs))

pub length-join : (ks xs : List ℕ) → length xs ≡ length ks → length (join ks xs) ≡ sum ks
unfolding join sum
length-join [] xs e = refl
length-join (k ∷ ks) [] e = absurd (Nat.suc-ne-zero (length ks) (sym e))
length-join (k ∷ ks) (x ∷ xs) e =
    length-append (digits 8 k x) (join ks xs) ∙ ap₂ ◌+◌ (length_digits 8 k x) (length-join ks xs (Nat.suc_inj e))

-- the number of run i
pub split_at : (ks bs : List ℕ) (i : ℕ) → i < length ks → get_or (split ks bs) i 0 ≡ value 8 (take (get_or ks i 0) (drop (sum (take i ks)) bs))
unfolding split sum
split_at [] bs i h = absurd (Nat.not-suc-le-zero h)
split_at (k ∷ ks) bs zero h = refl
split_at (k ∷ ks) bs (suc i) h =
    split_at ks (drop k bs) i (Nat.le_of_suc-le-suc h)
    ∙ ap (λ (l : List ℕ). value 8 (take (get_or ks i 0) l)) (drop-drop (sum (take i ks)) k bs)

pub bytes-join : (ks xs : List ℕ) → Bytes (join ks xs)
unfolding join
bytes-join [] xs = tt
bytes-join (k ∷ ks) [] = tt
bytes-join (k ∷ ks) (x ∷ xs) = all_append (λ b. b < 256) (digits 8 k x) (join ks xs) (digits_lt 8 k x) (bytes-join ks xs)

pub split-join : (ks xs : List ℕ) → Small ks xs → split ks (join ks xs) ≡ xs
unfolding split join
split-join [] [] h = refl
split-join [] (x ∷ xs) h = absurd h
split-join (k ∷ ks) [] h = absurd h
split-join (k ∷ ks) (x ∷ xs) h =
    ap₂ ◌∷◌ (ap (value 8) (take_at (digits 8 k x) (join ks xs) k (length_digits 8 k x)) ∙ value-digits 8 k x h.0)
    (ap (split ks) (drop_at (digits 8 k x) (join ks xs) k (length_digits 8 k x)) ∙ split-join ks xs h.1)

run : (k : ℕ) (bs : List ℕ) → Bytes bs → k ≤ length bs → digits 8 k (value 8 (take k bs)) ≡ take k bs
run k bs h l =
    let e : length (take k bs) ≡ k = rw (length-take k bs) (Nat.min-eq_left l) in
    rw e at (digits_value 8 (take k bs) (all_take (λ b. b < 256) k bs h))

pub join-split : (ks bs : List ℕ) → Bytes bs → length bs ≡ sum ks → join ks (split ks bs) ≡ bs
unfolding split join sum
join-split [] [] h e = refl
join-split [] (b ∷ bs) h e = absurd (Nat.suc-ne-zero (length bs) e)
join-split (k ∷ ks) bs h e =
    ap₂ ◌++◌ (run k bs h (omega arith)) (join-split ks (drop k bs) (all_drop (λ b. b < 256) k bs h) (length-drop k bs ∙ omega arith))
    ∙ take-append-drop k bs

pub join-add : (ks xs ys : List ℕ) → Small ks xs → Small ks ys → join ks (add xs ys) ≡ add (join ks xs) (join ks ys)
unfolding join
join-add [] [] [] h j = refl
join-add [] [] (y ∷ ys) h j = absurd j
join-add [] (x ∷ xs) ys h j = absurd h
join-add (k ∷ ks) [] ys h j = absurd h
join-add (k ∷ ks) (x ∷ xs) [] h j = absurd j
join-add (k ∷ ks) (x ∷ xs) (y ∷ ys) h j =
    ap₂ ◌++◌ (digits-xor 8 k x y) (join-add ks xs ys h.1 j.1)
    ∙ sym (add-append (digits 8 k x) (digits 8 k y) (join ks xs) (join ks ys) (length_digits 8 k x ∙ sym (length_digits 8 k y)))
