-- The table from q to its field.
--   known q           q is 4, 8 or 12
--   field_at q         the table's entry: field polynomial, size 2^q and order 2^q - 1
--   field_refusal q    the requirement's refusal of q: 1 where no field has it, else 0
--   error_number e     the requirement's number of an error; answer_number r: of an answer, 0 where there is none
--   made q            what making the field of q answers; made_values are the values of an answer
--   MadeOf q r        what making promises of its answer r
--   is_field f         the numbers of f are those of a field of the table
--   Sized f           so they are, as facts
use Rattle.std.specs.Prelude.{◌≡◌, refl, Bool, true, false, ◌&&◌, ◌||◌, cond, Result, Ok, Err, List, [], ◌∷◌, ℕ, ◌-◌, ◌^◌, ◌≤◌, eqb}
use Rattle.std.proofs.Common.{sym, ◌∙◌, inl, inr, lit≤, pow_mono, ne_eqb, eqb-true}
use Rattle.std.proofs.Math.Path.{ap}
use Rattle.std.proofs.lemmas.Bool.{false≢true}
use Rattle.std.proofs.Math.Nat as Nat
use Rattle.field.specs.Fields.{Known, field_polynomial, by-known}
use Rattle.element.specs.declared.Field.{Field}
use Rattle.element.specs.declared.FieldError.{FieldError}

abbrev pub known : ℕ → Bool
known q = eqb q 4 || eqb q 8 || eqb q 12

abbrev pub field_at : ℕ → Field
field_at q = record { q = q; polynomial = field_polynomial q; size = 2 ^ q; order = 2 ^ q - 1 }

abbrev pub field_refusal : ℕ → ℕ
field_refusal q = cond (known q) 0 1

abbrev pub error_number : FieldError → ℕ
error_number FieldError.NoField = 1
error_number FieldError.NoElement = 8

abbrev pub answer_number : {A : Type 0} → Result A FieldError → ℕ
answer_number (Ok x) = 0
answer_number (Err e) = error_number e

abbrev pub made_by : Bool → Field → Result Field FieldError
made_by true f = Ok f
made_by false f = Err FieldError.NoField

unfoldable pub made : ℕ → Result Field FieldError
unfolding field_polynomial
made q = made_by (known q) (field_at q)

abbrev pub made_values : Result Field FieldError → List ℕ
made_values (Ok f) = f.q ∷ f.polynomial ∷ f.size ∷ f.order ∷ []
made_values (Err e) = []

pub record MadeOf (q : ℕ) (r : Result Field FieldError) : Type 0 where
  pub answers : r ≡ made q
  pub number : answer_number r ≡ field_refusal q
  pub values : made_values r ≡ cond (known q) (q ∷ field_polynomial q ∷ (2 ^ q) ∷ (2 ^ q - 1) ∷ []) []

-- ---- by the tests of q
pub made_by_lem : (q k : ℕ) (b : Bool) → q ≡ k → known k ≡ b → MadeOf q (made_by b (field_at k))
unfolding made
made_by_lem q k true e t = rw e (record { answers = rw t refl; number = rw t refl; values = rw t refl })
made_by_lem q k false e t = rw e (record { answers = rw t refl; number = rw t refl; values = rw t refl })

pub unknown : (q : ℕ) → (q ≡ 4 → ⊥) → (q ≡ 8 → ⊥) → (q ≡ 12 → ⊥) → known q ≡ false
unknown q a b c = simp (ne_eqb q 4 a, ne_eqb q 8 b, ne_eqb q 12 c)

-- the last of the three
pub known-last : (q : ℕ) → Known q → (q ≡ 4 → ⊥) → (q ≡ 8 → ⊥) → q ≡ 12
known-last = by-known (λ q. (q ≡ 4 → ⊥) → (q ≡ 8 → ⊥) → q ≡ 12) (λ a b. absurd (a refl)) (λ a b. absurd (b refl)) (λ a b. refl)

-- ---- from the answer
module _ (q : ℕ) (r : Result Field FieldError) (h : MadeOf q r) where
  answer : (b : Bool) → known q ≡ b → r ≡ made_by b (field_at q)
  unfolding made
  answer b t = h.answers ∙ ap (λ (b : Bool). made_by b (field_at q)) t

  pub made-known : (f : Field) → r ≡ Ok f → known q ≡ true
  made-known f w = go (known q) refl
    where
      go : (b : Bool) → known q ≡ b → b ≡ true
      go true t = refl
      go false t = let a = answer false t in let z : ◌≡◌ {A = ℕ} 0 1 = cc in absurd (Nat.suc-ne-zero 0 (sym z))

  pub made-field : (f : Field) → r ≡ Ok f → f ≡ field_at q
  made-field f w = let a = answer true (made-known f w) in cc

  pub made_none : (e : FieldError) → r ≡ Err e → known q ≡ false
  made_none e w = go (known q) refl
    where
      go : (b : Bool) → known q ≡ b → b ≡ false
      go true t = let a = answer true t in let z : ◌≡◌ {A = ℕ} 0 1 = cc in absurd (Nat.suc-ne-zero 0 (sym z))
      go false t = refl

-- ---- known q is Known q
pub known_is : (q : ℕ) → known q ≡ true → Known q
known_is q t = from (eqb q 4) (eqb q 8) (eqb q 12) (eqb-true q 4) (eqb-true q 8) (eqb-true q 12) t
  where
    from : (a b c : Bool) → (a ≡ true → q ≡ 4) → (b ≡ true → q ≡ 8) → (c ≡ true → q ≡ 12) → a || b || c ≡ true → Known q
    from true b c f g h t = inl (f refl)
    from false true c f g h t = inr (inl (g refl))
    from false false c f g h t = inr (inr (h t))

-- ---- the numbers of a field
exponent-range : (q : ℕ) → Known q → (4 ≤ q) × (q ≤ 12)
exponent-range = by-known (λ q. (4 ≤ q) × (q ≤ 12)) (lit≤ tt, lit≤ tt) (lit≤ tt, lit≤ tt) (lit≤ tt, lit≤ tt)

pub size-least : (q : ℕ) → Known q → 16 ≤ 2 ^ q
size-least q h = pow_mono {i = 4} (exponent-range q h).0

pub size-most : (q : ℕ) → Known q → 2 ^ q ≤ 4096
size-most q h = pow_mono {j = 12} (exponent-range q h).1

pub record Sized (f : Field) : Type 0 where
  pub known : Known f.q
  pub size : f.size ≡ 2 ^ f.q
  pub order : f.order ≡ 2 ^ f.q - 1

pub field-at : (q : ℕ) (f : Field) → Known q → f ≡ field_at q → Sized f
field-at q f h e = rw e (record { known = h; size = refl; order = refl })

-- ---- the test of a field, against the entry of its q
abbrev pub agrees : Field → Field → Bool
agrees f e = eqb f.polynomial e.polynomial && eqb f.size e.size && eqb f.order e.order

unfoldable pub is_field : Field → Bool
unfolding field_polynomial
is_field f = known f.q && agrees f (field_at f.q)

pub is_field-by : (f : Field) (b : Bool) → known f.q ≡ b → is_field f ≡ b && agrees f (field_at f.q)
unfolding is_field
is_field-by f b t = ap (λ (b : Bool). b && agrees f (field_at f.q)) t

and-true : (a b : Bool) → a && b ≡ true → (a ≡ true) × (b ≡ true)
and-true true b t = (refl, t)
and-true false b t = absurd (false≢true t)

pub field-sized : (f : Field) → is_field f ≡ true → Sized f
unfolding is_field
field-sized f t =
    let a = and-true (known f.q) (agrees f (field_at f.q)) t in
    let b = and-true (eqb f.polynomial (field_polynomial f.q) && eqb f.size (2 ^ f.q)) (eqb f.order (2 ^ f.q - 1)) a.1 in
    let c = and-true (eqb f.polynomial (field_polynomial f.q)) (eqb f.size (2 ^ f.q)) b.0 in
    record {
      known = known_is f.q a.0;
      size = eqb-true f.size (2 ^ f.q) c.1;
      order = eqb-true f.order (2 ^ f.q - 1) b.1;
    }
