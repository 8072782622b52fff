-- Rows of 13 words, out of tables of generators; lists that a loop fills from the front.
--   row g           the 13 words of the polynomial g
--   Filled f k l    the first k places of l hold f 0 to f (k - 1), and the rest 0
--   Row t s w r     the first w of the 13 words of r are those of t from place s on, and the rest is 0
use Rattle.std.specs.Prelude.{◌≡◌, refl, Bool, true, false, List, ℕ, suc, ◌+◌, ◌*◌, ◌/◌, ◌%◌, ◌^◌, ◌≤◌, ◌<◌, ltb, length, get_or, set, replicate}
use Rattle.std.proofs.Common.{sym, ap, ◌∙◌, arith, length-set, pow_mono, ext_get_or, get_or-set_other, ltb-true, ltb-false}
use Rattle.std.proofs.Math.Nat as Nat
use Rattle.polynomial.specs.Digits.{digits, digits-at, length_digits}
use Rattle.field.specs.Fields.{field_of}
use Rattle.code.proofs.Pages.{zeros-at}
use Rattle.code.proofs.Placement.{first_more}
use Rattle.generator.specs.Generator.{generator}
use Rattle.tables.specs.Generators.{Generators}

abbrev pub row : ℕ → List ℕ
row g = digits 64 13 g

pub row_zero : row 0 ≡ replicate 13 0
unfolding digits
row_zero = refl

-- ---- place by place
pub record Filled (f : ℕ → ℕ) (k : ℕ) (l : List ℕ) : Type 0 where
  pub first : (a : ℕ) → a < k → get_or l a 0 ≡ f a
  pub rest : (a : ℕ) → k ≤ a → get_or l a 0 ≡ 0

module _ (f : ℕ → ℕ) where
  pub filled-start : (n : ℕ) → Filled f 0 (replicate n 0)
  filled-start n = record { first = λ a h. absurd (Nat.not-suc-le-zero h); rest = λ a h. zeros-at n a }

  pub filled_next : (k d : ℕ) (l : List ℕ) → k < length l → Filled f k l → d ≡ f k → Filled f (k + 1) (set l k d)
  filled_next k d l h c e = record {
    first = first_more f k d l h c.first e;
    rest = λ a b. get_or-set_other l k a d 0 (λ g. omega arith) ∙ c.rest a (omega arith);
  }

-- ---- a row of a table
pub record Row (t : List ℕ) (s w : ℕ) (r : List ℕ) : Type 0 where
  pub length-is : length r ≡ 13
  pub words : Filled (λ j. get_or t (s + j) 0) w r

module _ (t : List ℕ) (s : ℕ) where
  pub row-start : Row t s 0 (replicate 13 0)
  row-start = record { length-is = refl; words = filled-start (λ j. get_or t (s + j) 0) 13 }

  pub row_next : (j : ℕ) (r : List ℕ) → j < 13 → Row t s j r → Row t s (j + 1) (set r j (get_or t (s + j) 0))
  row_next j r h p = record {
    length-is = length-set r j (get_or t (s + j) 0) ∙ p.length-is;
    words = filled_next (λ j. get_or t (s + j) 0) j (get_or t (s + j) 0) r (omega (arith, p.length-is)) p.words refl;
  }

-- row k of a table of generators
module _ (q w i n k : ℕ) (t r : List ℕ) (h : k < n) (G : Generators q w i n t) (R : Row t (w * k) w r) where
  word-is : (j : ℕ) (c : Bool) → ltb j w ≡ c → get_or r j 0 ≡ generator (field_of q) (suc (i + k)) / 2 ^ (64 * j) % 2 ^ 64
  word-is j true e = let l : j < w = ltb-true j w e in R.words.first j l ∙ G.word k j h l
  word-is j false e =
      let l : w ≤ j = ltb-false j w e in
      R.words.rest j l
      ∙ sym (ap (λ (x : ℕ). x % 2 ^ 64) (Nat.div-eq_of_lt (Nat.lt_of_lt_of_le (G.fits k h) (pow_mono (Nat.mul-le-mul_left 64 l)))))

  row-at : r ≡ row (generator (field_of q) (suc (i + k)))
  row-at =
      ext_get_or 0 r (row (generator (field_of q) (suc (i + k)))) (R.length-is ∙ sym (length_digits 64 13 _))
      (λ j l. word-is j (ltb j w) refl ∙ sym (digits-at 64 13 (generator (field_of q) (suc (i + k))) j (rw R.length-is at l)))

  pub row_is : (x s : ℕ) → x ≡ q → s ≡ suc (i + k) → r ≡ row (generator (field_of x) s)
  row_is x s e f = rw (e, f) row-at
