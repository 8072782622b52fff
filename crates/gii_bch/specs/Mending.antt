-- One sub-word mended, with the list of places as bytes.
use Rattle.std.specs.Prelude.{◌≡◌, List, [], ◌∷◌, ℕ, ◌*◌, length}
use Rattle.std.proofs.Common.{sym, ap, ◌∙◌, zero-le}
use Rattle.std.proofs.Math.Nat as Nat
use Rattle.code.specs.Answers.{Outcome, answer_number}
use Rattle.code.specs.declared.Parameters.{Parameters}
use Rattle.code.specs.Calls.{Mended, MendedC, as_bytes, leaves, places_of}
use Rattle.code.proofs.Chains.{or-none}
use Rattle.code.specs.Layout.{flipped, mending, place_list}
use Rattle.code.specs.Lists.{◌or_else◌, ◌when◌}
use Rattle.code.proofs.Mend.{mend-chain, mend-le, word-mendable}
use Rattle.code.specs.Parameters.{Accepted, strength}
use Rattle.code.specs.Refusals.{mend_refusal, nowhere, word_refusal}
use Rattle.numbers.specs.List.{numbers_in, numbers-bytes}
use Rattle.gii_bch.specs.Syndromes.{Many, leaves_alike, level-many, list-alike}

places-many : (p : Parameters) → Accepted p → Many (strength p 0)
places-many p A = level-many p A 0 zero-le

-- the refusal by the length of the list is the refusal by the length of its bytes
mend-alike : (p : Parameters) (x : List ℕ) (i k : ℕ) → mend_refusal 1 p x i (numbers_in k) ≡ mend_refusal 2 p x i k
mend-alike p x i k =
    mend-chain 1 p x i (numbers_in k)
    ∙ ap (λ (r : ℕ). r or_else 15 when nowhere (mending p x i)) (list-alike p x i p.m (strength p 0) (places-many p) k)
    ∙ sym (mend-chain 2 p x i k)

-- ---- the call on numbers took xs, of the length that the bytes `old` fix, to ys; r is its answer's number
module _ (p : Parameters) (x after : List ℕ) (i : ℕ) (old xs ys : List ℕ) (n counted : ℕ) (o : Outcome) (r : ℕ)
    (l : length xs ≡ numbers_in (length old)) (m : Mended p x after i xs ys n counted o) (f : r ≡ answer_number o) where
  same : mend_refusal 1 p x i (length xs) ≡ mend_refusal 2 p x i (length old)
  same = ap (mend_refusal 1 p x i) l ∙ mend-alike p x i (length old)

  number : r ≡ mend_refusal 1 p x i (length xs)
  number = f ∙ m.0.number

  -- the bytes' length, where nothing is refused
  pub mend-room : length ys ≡ length xs → r ≡ 0 → length old ≡ 2 * length ys
  mend-room j z =
      let a = or-none (word_refusal p x i p.m (length xs) (1 * strength p 0)) _ (sym (mend-chain 1 p x i (length xs)) ∙ sym number ∙ z) in
      let u = word-mendable 1 p x i (length xs) a.0 in
      let w = places-many p u.0 in
      let g : length xs ≡ strength p 0 = u.1.room ∙ Nat.one-mul (strength p 0) in
      numbers-bytes (length old) (strength p 0) w.low w.high (sym l ∙ g) ∙ ap (λ (k : ℕ). 2 * k) (sym (j ∙ g))

  pub mend-made : (listed : List ℕ) → listed ≡ leaves r (as_bytes ys) old → MendedC p x after i old listed n counted r
  mend-made listed g = (
    record {
      answers = number ∙ same;
      small = mend-le 2 p x i (length old);
      buffer = m.0.buffer ∙ ap (λ (k : ℕ). leaves k (flipped p x i (places_of p x i)) x) same;
    },
    record {
      answers = number ∙ same;
      small = mend-le 2 p x i (length old);
      buffer = g ∙ leaves_alike r ys list xs old (m.1.buffer ∙ ap (λ (k : ℕ). leaves k list xs) (sym number))
          ∙ ap (λ (k : ℕ). leaves k (as_bytes list) old) (number ∙ same);
    },
    record {
      answers = number ∙ same;
      small = mend-le 2 p x i (length old);
      buffer = m.2.buffer ∙ ap (λ (k : ℕ). leaves k (length (places_of p x i) ∷ []) (n ∷ [])) same;
    },
  )
    where
      list : List ℕ
      list = place_list (strength p 0) (places_of p x i)
