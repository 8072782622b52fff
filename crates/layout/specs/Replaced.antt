-- A run of a list replaced: what a function leaves that was lent a part.
--   replaced x a y    x with y in the place of the elements from a on, as many as y has
use Rattle.std.specs.Prelude.{◌≡◌, refl, List, ◌++◌, ℕ, ◌+◌, ◌-◌, ◌^◌, ◌≤◌, ◌<◌, length, get_or, take, drop}
use Rattle.std.proofs.Common.{sym, ap, ap₂, ◌∙◌, arith, length-append, length-take, length-drop, take-append-drop, take_at, drop_at, drop-drop, get_or-append-add}
use Rattle.std.proofs.Math.Nat as Nat
use Rattle.std.proofs.Math.Decide.{dec_lt}
use Rattle.std.proofs.Math.ListN.{get_or-append, get_or-eq_default}
use Rattle.std.proofs.lemmas.List.{drop-append-le, take-append-le}
use Rattle.std.proofs.Math.Seq.{drop-append-add}

abbrev pub replaced : List ℕ → ℕ → List ℕ → List ℕ
replaced x a y = take a x ++ (y ++ drop (length y) (drop a x))

module _ (x : List ℕ) (a : ℕ) (y : List ℕ) (room : a + length y ≤ length x) where
  front_length : length (take a x) ≡ a
  front_length = length-take a x ∙ Nat.min-eq_left (omega arith)

  pub replaced-length : length (replaced x a y) ≡ length x
  replaced-length =
      length-append (take a x) (y ++ drop (length y) (drop a x))
      ∙ ap₂ ◌+◌ front_length (length-append y (drop (length y) (drop a x))
      ∙ ap (λ (k : ℕ). length y + k) (length-drop (length y) (drop a x) ∙ ap (λ (k : ℕ). k - length y) (length-drop a x)))
      ∙ omega arith

  pub replaced-part : take (length y) (drop a (replaced x a y)) ≡ y
  replaced-part =
      ap (take (length y)) (drop_at (take a x) (y ++ drop (length y) (drop a x)) a front_length)
      ∙ take_at y (drop (length y) (drop a x)) (length y) refl

  -- what lies before is kept
  fore : (b l : ℕ) (rest : List ℕ) → b + l ≤ a → take l (drop b (take a x ++ rest)) ≡ take l (drop b (take a x))
  fore b l rest h =
      ap (take l) (drop-append-le b (take a x) rest (rw front_length (omega arith)))
      ∙ take-append-le l (drop b (take a x)) rest (rw (length-drop b (take a x), front_length) (omega arith))

  pub replaced-before : (b l : ℕ) → b + l ≤ a → take l (drop b (replaced x a y)) ≡ take l (drop b x)
  replaced-before b l h =
      fore b l (y ++ drop (length y) (drop a x)) h ∙ sym (fore b l (drop a x) h)
      ∙ ap (λ (z : List ℕ). take l (drop b z)) (take-append-drop a x)

  -- and what lies behind
  pub replaced-after : (b : ℕ) → a + length y ≤ b → drop b (replaced x a y) ≡ drop b x
  replaced-after b h =
      let c = b - a - length y in
      let e : b ≡ length (take a x) + (length y + c) = omega (arith, front_length) in
      let f : a + (length y + c) ≡ b = omega arith in
      ap (λ (k : ℕ). drop k (replaced x a y)) e ∙ drop-append-add (take a x) (y ++ drop (length y) (drop a x)) (length y + c)
      ∙ drop-append-add y (drop (length y) (drop a x)) c
      ∙ drop-drop c (length y) (drop a x) ∙ drop-drop (length y + c) a x ∙ ap (λ (k : ℕ). drop k x) f

-- ---- as the prover states it: the part lent from a on, of size k, came back as y
pub put_is : (x y z : List ℕ) (at size o : ℕ) → at ≡ o → y ≡ z → length z ≡ size
    → take at x ++ (y ++ drop (at + size - at) (drop at x)) ≡ replaced x o z
put_is x y z at size o e f l =
    let s : at + size - at ≡ length z = omega arith in
    ap₂ (λ (i : ℕ) (w : List ℕ). take i x ++ (w ++ drop (at + size - at) (drop i x))) e f
    ∙ ap (λ (k : ℕ). take o x ++ (z ++ drop k (drop o x))) s

pub middle-bytes : (x y t : List ℕ) → ((i : ℕ) → get_or (x ++ (y ++ t)) i 0 < 2 ^ 8) → (j : ℕ) → get_or y j 0 < 2 ^ 8
middle-bytes x y t h j = go (dec_lt j (length y))
  where
    go : Dec (j < length y) → get_or y j 0 < 2 ^ 8
    go (yes l) = rw (get_or-append-add x (y ++ t) j 0 ∙ get_or-append y t 0 j l) at (h (length x + j))
    go (no n) = rw (get_or-eq_default y 0 (Nat.le_of_suc-le-suc (Nat.lt_of_not-le (λ k. n k)))) (omega arith)

pub part_length : (x : List ℕ) (at size : ℕ) → at + size ≤ length x → length (take (at + size - at) (drop at x)) ≡ size
part_length x at size h =
    let s : at + size - at ≡ size = omega arith in
    length-take (at + size - at) (drop at x) ∙ Nat.min-eq_left (rw (length-drop at x) (omega arith)) ∙ s
