-- A program's output, byte 0 and a page or one byte, the refusal's number, in an array of 4,097 bytes.
--   Answered f room got count bytes    what f gives of any input whose first bytes, as many as the room has, are the first `got` of the room
use Rattle.std.specs.Prelude.{◌≡◌, refl, List, [], ◌∷◌, ◌++◌, ℕ, zero, suc, ◌+◌, ◌-◌, ◌≤◌, ◌<◌, length, take, drop, replicate}
use Rattle.std.proofs.Common.{sym, ap, ◌∙◌, arith, length-append, length-take, take_all}
use Rattle.std.proofs.Math.Nat as Nat
use Rattle.std.proofs.Math.Decide.{dec_lt}
use Rattle.std.proofs.lemmas.List.{length-replicate}
use Rattle.code.specs.Calls.{outcome}
use Rattle.code.specs.Writer.{Puts, output_of}

-- ---- n + 1 zeros
drop-replicate : (k n : ℕ) → drop {A = ℕ} k (replicate n 0) ≡ replicate (n - k) 0
drop-replicate zero n = let e : n ≡ n - 0 = omega arith in ap (λ (i : ℕ). replicate i 0) e
drop-replicate (suc k) zero = let e : 0 ≡ 0 - suc k = omega arith in ap (λ (i : ℕ). replicate i 0) e
drop-replicate (suc k) (suc n) = let e : n - k ≡ suc n - suc k = omega arith in drop-replicate k n ∙ ap (λ (i : ℕ). replicate i 0) e

-- with x from place 1 on
pub room-filled : (n k : ℕ) (zeros x : List ℕ) → zeros ≡ replicate (suc n) 0 → k ≡ length x
    → take 1 zeros ++ (x ++ drop k (drop 1 zeros)) ≡ (0 ∷ x) ++ replicate (suc n - length (0 ∷ x)) 0
room-filled n k zeros x z e =
    let f : n - k ≡ suc n - length (0 ∷ x) = omega arith in
    ap (λ (l : List ℕ). take 1 l ++ (x ++ drop k (drop 1 l))) z
    ∙ ap (λ (l : List ℕ). 0 ∷ (x ++ l)) (drop-replicate k n ∙ ap (λ (i : ℕ). replicate i 0) f)

pub room-length : (n k : ℕ) (zeros : List ℕ) → zeros ≡ replicate (suc n) 0 → k ≤ n → length (take k (drop 1 zeros)) ≡ k
room-length n k zeros z h =
    length-take k (drop 1 zeros) ∙ Nat.min-eq_left (rw z (rw (length-replicate {A = ℕ} n 0) h))

-- ---- the output of a refusal r, 0 for none, and a page x
module _ (o : List ℕ) (r : ℕ) (x : List ℕ) (is : o ≡ output_of r x) where
  pub output-refused : (k : ℕ) → k ≡ r → 0 < k → o ≡ k ∷ []
  output-refused k e h = is ∙ ap (λ (r : ℕ). output_of r x) (sym e) ∙ go k h
    where
      go : (k : ℕ) → 0 < k → output_of k x ≡ k ∷ []
      go zero h = absurd (Nat.not-suc-le-zero h)
      go (suc k) h = refl

  pub output-done : r ≡ 0 → o ≡ 0 ∷ x
  output-done e = is ∙ ap (λ (r : ℕ). output_of r x) e

  puts-by : (out : List ℕ) (count : ℕ) (bytes : List ℕ) → o ≡ out → count ≡ length out → bytes ≡ out ++ replicate (4097 - length out) 0
      → Puts o count bytes
  puts-by out count bytes e f g =
      record { counted = f ∙ sym (ap length e); output = g ∙ sym (ap (λ (l : List ℕ). l ++ replicate (4097 - length l) 0) e) }

  pub puts-refused : (k count : ℕ) (bytes : List ℕ) → k ≡ r → 0 < k → count ≡ 1 → bytes ≡ k ∷ replicate 4096 0 → Puts o count bytes
  puts-refused k count bytes e h f g = puts-by (k ∷ []) count bytes (output-refused k e h) f g

  pub puts-done : (count : ℕ) (bytes : List ℕ) → r ≡ 0 → count ≡ suc (length x) → bytes ≡ (0 ∷ x) ++ replicate (4097 - length (0 ∷ x)) 0
      → Puts o count bytes
  puts-done count bytes e f g = puts-by (0 ∷ x) count bytes (output-done e) f g

-- ---- the bytes written stand at the front of the array
puts-fits : (out : List ℕ) (count : ℕ) (bytes : List ℕ) → Puts out count bytes → (count ≤ length bytes) × (count ≡ length (take count bytes))
puts-fits out count bytes w =
    let e : length bytes ≡ length out + (4097 - length out) =
    ap length w.output ∙ length-append out (replicate (4097 - length out) 0)
    ∙ ap (λ (k : ℕ). length out + k) (length-replicate (4097 - length out) 0) in
    let h : count ≤ length bytes = omega (arith, w.counted) in
    (h, sym (length-take count bytes ∙ Nat.min-eq_left h))

-- ---- what lies beyond the first k bytes does not matter to f where it does not for inputs of k bytes and more
module _ (f : List ℕ → List ℕ) where
  pub beyond-by : (k : ℕ) (input : List ℕ) → (k ≤ length input → length (take k input) ≡ k → f (take k input) ≡ f input) → f (take k input) ≡ f input
  beyond-by k input h = go (dec_lt k (length input))
    where
      go : Dec (k < length input) → f (take k input) ≡ f input
      go (no n) = ap f (take_all k input (Nat.le_of_suc-le-suc (Nat.lt_of_not-le (λ b. n b))))
      go (yes l) = h (Nat.le_of_suc-le l) (length-take k input ∙ Nat.min-eq_left (Nat.le_of_suc-le l))

  -- ---- a room of which `got` bytes were read
  pub record Answered (room : List ℕ) (got count : ℕ) (bytes : List ℕ) : Type 0 where
    pub fits : (count ≤ length bytes) × (count ≡ length (take count bytes))
    pub answers : (input : List ℕ) → take (length room) input ≡ take got room → Puts (f input) count bytes

  pub answered : (room : List ℕ) (got count : ℕ) (bytes : List ℕ) → ((input : List ℕ) → f (take (length room) input) ≡ f input)
      → Puts (f (take got room)) count bytes → Answered room got count bytes
  answered room got count bytes h w = record {
    fits = puts-fits (f (take got room)) count bytes w;
    answers = λ input e. (let same : f (take got room) ≡ f input = ap f (sym e) ∙ h input in rw (← same) w);
  }
