-- The odd syndromes of a word, as numbers and as bytes: of nested word i where `nested` is true, else of sub-word i.
--   word_count nested p      how many such words there are
--   level_at nested p i      the level whose strength counts
--   list_of nested p x i     the odd syndromes of word i of the page x
--   ListMade, ListMadeC     the promises of the calls, on a list of numbers and on bytes
--   Many e                  e is a number of syndromes
use Rattle.std.specs.Prelude.{◌≡◌, Bool, true, false, List, ◌⊎◌, ℕ, zero, suc, ◌-◌, ◌*◌, ◌^◌, ◌≤◌, ◌<◌, length, get_or}
use Rattle.std.proofs.Math.Path.{refl, sym, ap}
use Rattle.std.proofs.Common.{◌∙◌, inl, inr, zero-le, arith}
use Rattle.std.proofs.Math.Bool.{not}
use Rattle.std.proofs.Math.Nat as Nat
use Rattle.std.proofs.Math.Dec.{leb}
use Rattle.code.specs.Answers.{Outcome, answer_number}
use Rattle.code.specs.declared.Parameters.{Parameters}
use Rattle.code.specs.Accepted.{Rules}
use Rattle.code.proofs.Accepted.{accepted, rising}
use Rattle.code.specs.Calls.{Made, MadeC, as_bytes, leaves, nested_syndrome_list, syndrome_list}
use Rattle.code.specs.Lists.{◌when◌, ◌or_else◌}
use Rattle.code.specs.Parameters.{Accepted, strength}
use Rattle.code.specs.Refusals.{page_refusal, word_refusal}
use Rattle.code.proofs.Refused.{word-le}
use Rattle.refusal.specs.Indexed.{word-page, word-zero}
use Rattle.refusal.specs.Judging.{page-zero}
use Rattle.numbers.specs.List.{numbers_in, numbers-bytes, numbers-exact}

abbrev pub word_count : Bool → Parameters → ℕ
word_count true p = p.v
word_count false p = p.m

abbrev pub level_at : Bool → Parameters → ℕ → ℕ
level_at true p i = p.v - i
level_at false p i = 0

abbrev pub list_of : Bool → Parameters → List ℕ → ℕ → List ℕ
list_of true p x i = nested_syndrome_list p x i
list_of false p x i = syndrome_list p x i

abbrev list_refusal : ℕ → Bool → Parameters → List ℕ → ℕ → ℕ → ℕ
list_refusal size nested p x i out = word_refusal p x i (word_count nested p) out (size * strength p (level_at nested p i))

abbrev pub ListMade : Bool → Parameters → List ℕ → ℕ → List ℕ → List ℕ → Outcome → Type 0
ListMade nested p x i out after r = Made (list_refusal 1 nested p x i (length out)) (list_of nested p x i) out after r

abbrev pub ListMadeC : Bool → Parameters → List ℕ → ℕ → List ℕ → List ℕ → ℕ → Type 0
ListMadeC nested p x i out after n = MadeC (list_refusal 2 nested p x i (length out)) (as_bytes (list_of nested p x i)) out after n

-- ---- how many there are
pub record Many (e : ℕ) : Type 0 where
  pub low : 0 < e
  pub high : e ≤ 128

-- all syndromes of a word, and the odd ones
pub double-many : (p : Parameters) → Accepted p → (a : ℕ) → a ≤ p.v → Many (2 * strength p a)
double-many p A a h =
    let R : Rules p = accepted p A in
    record {
      low = omega (arith, R.t-low, rising p R 0 a zero-le h);
      high = omega (arith, R.high, rising p R a p.v h (Nat.le_refl p.v));
    }

pub level-many : (p : Parameters) → Accepted p → (a : ℕ) → a ≤ p.v → Many (strength p a)
level-many p A a h = let d = double-many p A a h in record { low = omega (arith, d.low); high = omega (arith, d.high) }

level-le : (nested : Bool) (p : Parameters) (i : ℕ) → level_at nested p i ≤ p.v
level-le true p i = Nat.sub-le p.v i
level-le false p i = zero-le

-- ---- the refusal of e numbers by the length of a list is the refusal by the length of its bytes
module _ (p : Parameters) (x : List ℕ) (i words e : ℕ) (E : Accepted p → Many e) where
  pub list-alike : (k : ℕ) → word_refusal p x i words (numbers_in k) (1 * e) ≡ word_refusal p x i words k (2 * e)
  unfolding word_refusal
  list-alike k = go (Nat.eq-zero-or-pos (page_refusal p x))
    where
      go : (page_refusal p x ≡ 0) ⊎ (0 < page_refusal p x)
          → word_refusal p x i words (numbers_in k) (1 * e) ≡ word_refusal p x i words k (2 * e)
      go (inl z) =
          let m = E (page-zero p x z).accepted in
          ap (λ (n : ℕ). word_refusal p x i words (numbers_in k) n) (Nat.one-mul e)
          ∙ ap (λ (b : Bool). page_refusal p x or_else 9 when leb words i or_else 10 when not b) (numbers-exact k e m.low m.high)
      go (inr h) =
          let f : page_refusal p x ≡ 0 → ⊥ = λ z. Nat.lt_irrefl 0 (rw z at h) in
          sym (word-page p x i words (numbers_in k) (1 * e) (page_refusal p x) refl f)
          ∙ word-page p x i words k (2 * e) (page_refusal p x) refl f

pub leaves_alike : (r : ℕ) (xs ys zs old : List ℕ) → xs ≡ leaves r ys zs → leaves r (as_bytes xs) old ≡ leaves r (as_bytes ys) old
leaves_alike zero xs ys zs old e = ap as_bytes e
leaves_alike (suc r) xs ys zs old e = refl

-- ---- the call on numbers took xs, of the length that the bytes `old` fix, to ys; n is its answer's number
module _ (nested : Bool) (p : Parameters) (x : List ℕ) (i : ℕ) (old xs ys : List ℕ) (o : Outcome) (n : ℕ)
    (l : length xs ≡ numbers_in (length old)) (m : ListMade nested p x i xs ys o) (f : n ≡ answer_number o) where
  abbrev e : ℕ
  e = strength p (level_at nested p i)

  E : Accepted p → Many e
  E A = level-many p A (level_at nested p i) (level-le nested p i)

  refusal : n ≡ list_refusal 2 nested p x i (length old)
  refusal =
      f ∙ m.number ∙ ap (λ (k : ℕ). word_refusal p x i (word_count nested p) k (1 * e)) l
      ∙ list-alike p x i (word_count nested p) e E (length old)

  -- the bytes' length, where nothing is refused
  pub list-room : ((k : ℕ) → get_or x k 0 < 2 ^ 8) → length ys ≡ length xs → n ≡ 0 → length old ≡ 2 * length ys
  list-room b j z =
      let u = word-zero p x i (word_count nested p) (length xs) (1 * e) b (sym m.number ∙ sym f ∙ z) in
      let w = E u.accepted in
      let g : length xs ≡ e = u.list ∙ Nat.one-mul e in
      numbers-bytes (length old) e w.low w.high (sym l ∙ g) ∙ ap (λ (k : ℕ). 2 * k) (sym (j ∙ g))

  pub list-made : (after : List ℕ) → after ≡ leaves n (as_bytes ys) old → ListMadeC nested p x i old after n
  list-made after g = record {
    answers = refusal;
    small = word-le p x i (word_count nested p) (length old) (2 * e);
    buffer = g ∙ leaves_alike n ys
        (list_of nested p x i) xs old (m.buffer ∙ ap (λ (r : ℕ). leaves r (list_of nested p x i) xs) (sym (f ∙ m.number)))
        ∙ ap (λ (r : ℕ). leaves r (as_bytes (list_of nested p x i)) old) refusal;
  }
