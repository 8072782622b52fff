-- What the operations on elements answer.
--   zero_of q, one_of q, alpha_of q    zero, one and α of the field of q, as numbers
--   refusal f a b                   the refusal on the operands a and b: 1 where f is no field, 8 where one has a bit at or above q, else 0
--   computed r x                    the answer by the refusal r: the element x where there is none
--   computed_values                 the values of an answer
--   Gives refusal x r               what the calls promise of their answer r
use Rattle.std.specs.Prelude.{◌≡◌, refl, Bool, true, false, ◌&&◌, cond, Result, Ok, Err, List, [], ◌∷◌, ℕ, zero, suc, ◌^◌, ◌<◌, ltb}
use Rattle.std.proofs.Common.{sym, ◌∙◌, ltb-true, lt-ltb}
use Rattle.std.proofs.Math.Nat as Nat
use Rattle.field.specs.Fields.{field_of}
use Rattle.element.specs.declared.Element.{Element}
use Rattle.element.specs.declared.Field.{Field}
use Rattle.element.specs.declared.FieldError.{FieldError}
use Rattle.element.specs.Fields.{Sized, answer_number, error_number, is_field, field-sized, size-least}

-- ---- the field's zero, one and α
abbrev pub zero_of : ℕ → ℕ
zero_of q = (field_of q).num (field_of q).field.𝟘

abbrev pub one_of : ℕ → ℕ
one_of q = (field_of q).num (field_of q).field.𝟙

abbrev pub alpha_of : ℕ → ℕ
alpha_of q = (field_of q).num (field_of q).α

-- ---- refusals
unfoldable pub refusal : Field → ℕ → ℕ → ℕ
unfolding is_field
refusal f a b = cond (is_field f) (cond (ltb a (2 ^ f.q) && ltb b (2 ^ f.q)) 0 8) 1

pub refusal-by : (f : Field) (a b : ℕ) (i x y : Bool) → is_field f ≡ i → ltb a (2 ^ f.q) ≡ x → ltb b (2 ^ f.q) ≡ y
    → refusal f a b ≡ cond i (cond (x && y) 0 8) 1
unfolding refusal
refusal-by f a b i x y ei ex ey = rw (ei, ex, ey) refl

pub record Clear (f : Field) (a b : ℕ) : Type 0 where
  pub sized : Sized f
  pub left : a < 2 ^ f.q
  pub right : b < 2 ^ f.q

pub clear : (f : Field) (a b : ℕ) → refusal f a b ≡ 0 → Clear f a b
clear f a b = go (is_field f) (ltb a (2 ^ f.q)) (ltb b (2 ^ f.q)) refl refl refl
  where
    go : (i x y : Bool) → is_field f ≡ i → ltb a (2 ^ f.q) ≡ x → ltb b (2 ^ f.q) ≡ y → refusal f a b ≡ 0 → Clear f a b
    go false x y ei ex ey r = absurd (Nat.suc-ne-zero 0 (sym (refusal-by f a b false x y ei ex ey) ∙ r))
    go true false y ei ex ey r = absurd (Nat.suc-ne-zero 7 (sym (refusal-by f a b true false y ei ex ey) ∙ r))
    go true true false ei ex ey r = absurd (Nat.suc-ne-zero 7 (sym (refusal-by f a b true true false ei ex ey) ∙ r))
    go true true true ei ex ey r = record { sized = field-sized f ei; left = ltb-true a (2 ^ f.q) ex; right = ltb-true b (2 ^ f.q) ey }

-- numbers below 16 are elements of every field
pub refusal-small : (f : Field) (a b : ℕ) → a < 16 → b < 16 → refusal f a b ≡ cond (is_field f) 0 1
refusal-small f a b ha hb = go (is_field f) refl
  where
    small : (x : ℕ) → x < 16 → is_field f ≡ true → ltb x (2 ^ f.q) ≡ true
    small x h e = lt-ltb x (2 ^ f.q) (Nat.lt_of_lt_of_le h (size-least f.q (field-sized f e).known))

    go : (i : Bool) → is_field f ≡ i → refusal f a b ≡ cond i 0 1
    go true e = refusal-by f a b true true true e (small a ha e) (small b hb e)
    go false e = refusal-by f a b false (ltb a (2 ^ f.q)) (ltb b (2 ^ f.q)) e refl refl

-- ---- answers
abbrev pub computed : ℕ → ℕ → Result Element FieldError
computed zero x = Ok (record { 0 = x })
computed (suc zero) x = Err FieldError.NoField
computed (suc (suc k)) x = Err FieldError.NoElement

abbrev pub computed_values : Result Element FieldError → List ℕ
computed_values (Ok e) = e.0 ∷ []
computed_values (Err e) = []

abbrev pub values_by : ℕ → ℕ → List ℕ
values_by zero x = x ∷ []
values_by (suc k) x = []

pub record Gives (refusal x : ℕ) (r : Result Element FieldError) : Type 0 where
  pub answers : r ≡ computed refusal x
  pub number : answer_number r ≡ refusal
  pub values : computed_values r ≡ values_by refusal x

pub gives-refused : (r x : ℕ) (e : FieldError) → error_number e ≡ r → Gives r x (Err e)
gives-refused r x FieldError.NoField h = rw (← h) (record { answers = refl; number = refl; values = refl })
gives-refused r x FieldError.NoElement h = rw (← h) (record { answers = refl; number = refl; values = refl })

pub gives-element : (r x y : ℕ) → r ≡ 0 → y ≡ x → Gives r x (Ok (record { 0 = y }))
gives-element r x y e w = rw (e, w) (record { answers = refl; number = refl; values = refl })
