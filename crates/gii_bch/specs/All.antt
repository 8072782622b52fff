-- All syndromes of a word from its odd ones, as bytes.
--   given b     the numbers that the bytes b hold, none where these are odd or too many
use Rattle.std.specs.Prelude.{◌≡◌, refl, Bool, not, List, ◌⊎◌, ℕ, zero, suc, ◌*◌, ◌<◌, eqb, length}
use Rattle.std.proofs.Common.{sym, ap, ap₂, ◌∙◌, inl, inr}
use Rattle.std.proofs.Math.Nat as Nat
use Rattle.code.specs.Answers.{Outcome, answer_number}
use Rattle.code.specs.declared.Parameters.{Parameters}
use Rattle.code.specs.Calls.{AllMade, AllMadeC, as_bytes, as_numbers, leaves, number_at}
use Rattle.code.specs.Code.{all_syndromes}
use Rattle.code.specs.Lists.{◌or_else◌, ◌when◌}
use Rattle.code.proofs.Odd.{all-le, all-open, all-zero}
use Rattle.code.specs.Parameters.{strength}
use Rattle.code.specs.Refusals.{all_refusal, open_refusal}
use Rattle.code.proofs.Refused.{open-zero}
use Rattle.code.proofs.Filled.{map-length}
use Rattle.numbers.specs.List.{first_numbers, numbers_in, numbers-all, numbers-bytes, numbers-exact}
use Rattle.gii_bch.specs.Syndromes.{double-many, leaves_alike, level-many}

abbrev pub given : List ℕ → List ℕ
given b = first_numbers (numbers_in (length b)) b

-- the refusal by the lengths of the lists is the refusal by the lengths of their bytes
all_alike : (p : Parameters) (level k l : ℕ) → all_refusal 1 p level (numbers_in k) (numbers_in l) ≡ all_refusal 2 p level k l
unfolding all_refusal
all_alike p level k l = go (Nat.eq-zero-or-pos (open_refusal p level))
  where
    t : ℕ
    t = strength p level

    go : (open_refusal p level ≡ 0) ⊎ (0 < open_refusal p level) → all_refusal 1 p level (numbers_in k) (numbers_in l) ≡ all_refusal 2 p level k l
    go (inl z) =
        let o = open-zero p level z in
        let m = level-many p o.0 level o.1 in
        let d = double-many p o.0 level o.1 in
        ap₂ (λ (a b : Bool). open_refusal p level or_else 10 when not a or_else 10 when not b)
        (ap (eqb (numbers_in k)) (Nat.one-mul t) ∙ numbers-exact k t m.low m.high)
        (ap (eqb (numbers_in l)) (Nat.one-mul (2 * t)) ∙ numbers-exact l (2 * t) d.low d.high)
    go (inr h) =
        let f : open_refusal p level ≡ 0 → ⊥ = λ z. Nat.lt_irrefl 0 (rw z at h) in
        sym (all-open 1 p level (numbers_in k) (numbers_in l) (open_refusal p level) refl f) ∙ all-open 2 p level k l (open_refusal p level) refl f

leaves-same : (r : ℕ) (xs ys old : List ℕ) → (r ≡ 0 → xs ≡ ys) → leaves r xs old ≡ leaves r ys old
leaves-same zero xs ys old e = e refl
leaves-same (suc r) xs ys old e = refl

-- ---- the call on the numbers of the bytes `odd` took xs, of the length that the bytes `old` fix, to ys; n is its answer's number
module _ (p : Parameters) (level : ℕ) (odd old xs ys : List ℕ) (o : Outcome) (n : ℕ)
    (l : length xs ≡ numbers_in (length old)) (m : AllMade p level (given odd) xs ys o) (f : n ≡ answer_number o) where
  number : n ≡ all_refusal 1 p level (length (given odd)) (length xs)
  number = f ∙ m.number

  refusal : n ≡ all_refusal 2 p level (length odd) (length old)
  refusal =
      number ∙ ap₂ (all_refusal 1 p level) (map-length (number_at odd) (numbers_in (length odd)) (given odd) refl) l
      ∙ all_alike p level (length odd) (length old)

  -- the bytes' length, where nothing is refused
  pub all_room : length ys ≡ length xs → n ≡ 0 → length old ≡ 2 * length ys
  all_room j z =
      let u = all-zero 1 p level (length (given odd)) (length xs) (sym number ∙ z) in
      let d = double-many p u.0 level u.1 in
      let g : length xs ≡ 2 * strength p level = u.3 ∙ Nat.one-mul (2 * strength p level) in
      numbers-bytes (length old) (2 * strength p level) d.low d.high (sym l ∙ g) ∙ ap (λ (k : ℕ). 2 * k) (sym (j ∙ g))

  -- the numbers are all that the bytes hold, where nothing is refused
  whole : n ≡ 0 → given odd ≡ as_numbers odd
  whole z =
      let u = all-zero 2 p level (length odd) (length old) (sym refusal ∙ z) in
      numbers-all odd (strength p level) (level-many p u.0 level u.1).high u.2

  pub all_made : (after : List ℕ) → after ≡ leaves n (as_bytes ys) old → AllMadeC p level odd old after n
  all_made after g = record {
    answers = refusal;
    small = all-le 2 p level (length odd) (length old);
    buffer = g ∙ leaves_alike n ys
        (all_syndromes p (given odd)) xs old (m.buffer ∙ ap (λ (r : ℕ). leaves r (all_syndromes p (given odd)) xs) (sym number))
        ∙ leaves-same n (as_bytes (all_syndromes p (given odd))) (as_bytes (all_syndromes p (as_numbers odd))) old
        (λ z. ap (λ (s : List ℕ). as_bytes (all_syndromes p s)) (whole z))
        ∙ ap (λ (r : ℕ). leaves r (as_bytes (all_syndromes p (as_numbers odd))) old) refusal;
  }
