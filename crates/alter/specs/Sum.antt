-- A page with another added, unless the sum is blank.
--   unless_blank b        done or, where b is true, 13
--   Added p x u after o  u is added to x, unless the sum is blank
use Rattle.std.specs.Prelude.{Ok, Err, ◌≡◌, refl, ◌≢◌, Bool, true, false, cond, List, ℕ, ◌+◌, ◌*◌, ◌%◌, ◌^◌, ◌<◌, length, get_or}
use Rattle.std.proofs.Common.{sym, ap, ap₂, ◌∙◌}
use Rattle.std.proofs.Math.Nat as Nat
use Rattle.polynomial.specs.Digits.{digits, digits_value, value}
use Rattle.polynomial.specs.Sums.{add, at_all}
use Rattle.kernels.specs.Value.{value-lt}
use Rattle.code.specs.declared.Refusal.{Refusal}
use Rattle.code.specs.Answers.{Outcome}
use Rattle.code.specs.declared.Parameters.{Parameters}
use Rattle.code.specs.Alter.{Alterable}
use Rattle.code.proofs.Alter.{altered-eq, by_eqb, by-neqb}
use Rattle.code.specs.Calls.{Altered}
use Rattle.code.specs.Code.{check_bits}
use Rattle.code.specs.Layout.{altered, blank, coefficient_of, one_bit, page_of}
use Rattle.code.specs.Parameters.{Accepted}
use Rattle.refusal.specs.Altering.{alter-done, would-blank}

abbrev pub unless_blank : Bool → Outcome
unless_blank true = Err Refusal.Blank
unless_blank false = Ok tt

pub record Added (p : Parameters) (x u after : List ℕ) (o : Outcome) : Type 0 where
  pub answers : o ≡ unless_blank (blank p (add x u))
  pub buffer : after ≡ cond (blank p (add x u)) x (add x u)

abbrev Bounded8 : List ℕ → Type 0
Bounded8 l = (i : ℕ) → get_or l i 0 < 2 ^ 8

-- a number that is not moved up, and not cut
pub no_shift : (v n : ℕ) → v < 2 ^ n → v * 2 ^ 0 % 2 ^ n ≡ v
no_shift v n h = ap (λ (d : ℕ). d % 2 ^ n) (Nat.mul-one v) ∙ Nat.mod-eq_of_lt h

-- bytes copied
pub copied : (y z : List ℕ) (n : ℕ) → Bounded8 y → Bounded8 z → length z ≡ length y → n ≡ length y
    → value 8 z ≡ value 8 y * 2 ^ 0 % 2 ^ (8 * n) → z ≡ y
copied y z n b c e l v =
    sym (digits_value 8 z (at_all (λ d. d < 2 ^ 8) z (λ i h. c i)))
    ∙ ap₂ (digits 8) e (v ∙ no_shift (value 8 y) (8 * n) (rw l (value-lt 8 y b)))
    ∙ digits_value 8 y (at_all (λ d. d < 2 ^ 8) y (λ i h. b i))

pub added-blank : (p : Parameters) (x u y : List ℕ) → y ≡ add x u → true ≡ blank p y → Added p x u x (Err Refusal.Blank)
added-blank p x u y e b =
    let t : blank p (add x u) ≡ true = ap (blank p) (sym e) ∙ sym b in
    record { answers = sym (ap unless_blank t); buffer = sym (ap (λ (c : Bool). cond c x (add x u)) t) }

pub added-done : (p : Parameters) (x u y z : List ℕ) → y ≡ add x u → false ≡ blank p y → z ≡ y → Added p x u z (Ok tt)
added-done p x u y z e b f =
    let t : blank p (add x u) ≡ false = ap (blank p) (sym e) ∙ sym b in
    record { answers = sym (ap unless_blank t); buffer = f ∙ e ∙ sym (ap (λ (c : Bool). cond c x (add x u)) t) }

-- ---- the promises of the call
module _ (p : Parameters) (A : Accepted p) (x : List ℕ) (i r b : ℕ) (s : Alterable p x i r b) where
  by-test : (after : List ℕ) (o : Outcome) → (c : Bool) → c ≡ blank p (altered p x i r b) → o ≡ unless_blank c
      → after ≡ cond c x (altered p x i r b) → Altered p x i r b after o
  by-test after o true e a f = rw (a, f) (would-blank p x i r b A s e)
  by-test after o false e a f = rw a (alter-done p x i r b A s after e f)

  -- an equal value
  pub kept-altered : (o : Outcome) → coefficient_of p x i (check_bits p i + r) ≡ b → o ≡ unless_blank (blank p x) → Altered p x i r b x o
  kept-altered o e a =
      let y : altered p x i r b ≡ x = altered-eq p x i r b ∙ by_eqb (coefficient_of p x i (check_bits p i + r)) b x (add x (page_of p (one_bit p i r))) e in
      by-test x o (blank p x) (ap (blank p) (sym y)) a (sym (either (blank p x)) ∙ ap (cond (blank p x) x) (sym y))
    where
      either : (c : Bool) → cond c x x ≡ x
      either true = refl
      either false = refl

  -- another
  pub added-altered : (after : List ℕ) (o : Outcome) → coefficient_of p x i (check_bits p i + r) ≢ b → Added p x (page_of p (one_bit p i r)) after o
      → Altered p x i r b after o
  added-altered after o n M =
      let y : altered p x i r b ≡ add x (page_of p (one_bit p i r)) =
      altered-eq p x i r b ∙ by-neqb (coefficient_of p x i (check_bits p i + r)) b x (add x (page_of p (one_bit p i r))) n in
      by-test after o (blank p (altered p x i r b)) refl (M.answers ∙ ap (λ (z : List ℕ). unless_blank (blank p z)) (sym y))
      (M.buffer ∙ ap (λ (z : List ℕ). cond (blank p z) x z) (sym y))
