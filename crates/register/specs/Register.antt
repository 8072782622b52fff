-- The declared register as the definitions' value, and what opening and feeding promise.
--   value_of r             the register r, field by field; fed_of f likewise what a call hands back
--   refused_with e r       the register r beside the refusal e
--   OpenedAs p level f    f is what opening at a level hands back
--   FedAs p L r u f       f is what feeding u as L coefficients to r hands back
use Rattle.std.specs.Prelude.{Ok, Err, ◌≡◌, refl, List, [], ℕ, ◌+◌, ◌*◌, ◌^◌, ◌≤◌}
use Rattle.std.proofs.Common.{sym, ap, ◌∙◌}
use Rattle.polynomial.specs.Digits.{digits, value}
use Rattle.polynomial.specs.Xor.{xor}
use Rattle.code.specs.declared.Refusal.{Refusal}
use Rattle.code.specs.declared.Parameters.{Parameters}
use Rattle.code.proofs.Answers.{fed-refused}
use Rattle.code.specs.Calls.{advanced, empty, fed, fed_by, opened, outcome_values}
use Rattle.code.specs.Answers.{answer_number, refusal_number}
use Rattle.code.specs.Code.{remainder}
use Rattle.code.specs.Lists.{last_refusal}
use Rattle.code.specs.Refusals.{feed_refusal, open_refusal}
use Rattle.code.specs.Register as Value
use Rattle.refusal.specs.Feeding.{feed-le}
use Rattle.register.specs.declared.Fed.{Fed}
use Rattle.register.specs.declared.Register.{Register}
use Rattle.code.proofs.Refused.{open-le}

abbrev pub value_of : Register → Value.Register
value_of r = record { level = r.level; count = r.count; remainder = r.remainder }

abbrev pub fed_of : Fed → Value.Fed
fed_of f = record { outcome = f.outcome; register = value_of f.register }

abbrev pub refused_with : Refusal → Register → Fed
refused_with e r = record { outcome = Err e; register = r }

-- the number and the values are those of the outcome; the register's own stand in `answers`
pub record OpenedAs (p : Parameters) (level : ℕ) (f : Fed) : Type 0 where
  pub answers : fed_of f ≡ opened p level
  pub number : answer_number f.outcome ≡ open_refusal p level
  pub values : outcome_values f.outcome ≡ []
  pub small : open_refusal p level ≤ last_refusal

pub record FedAs (p : Parameters) (L : ℕ) (r : Register) (u : ℕ) (f : Fed) : Type 0 where
  pub answers : fed_of f ≡ fed p L (value_of r) u
  pub number : answer_number f.outcome ≡ feed_refusal p L (value_of r) u
  pub values : outcome_values f.outcome ≡ []
  pub small : feed_refusal p L (value_of r) u ≤ last_refusal

-- ---- the defining equations
opened-eq : (p : Parameters) (level : ℕ) → opened p level ≡ fed_by (open_refusal p level) (empty level) (empty 0)
unfolding opened
opened-eq p level = refl

fed-eq : (p : Parameters) (L : ℕ) (r : Value.Register) (u : ℕ) → fed p L r u ≡ fed_by (feed_refusal p L r u) (advanced p L r u) r
unfolding fed
fed-eq p L r u = refl

advanced-eq : (p : Parameters) (L : ℕ) (r : Value.Register) (u : ℕ)
    → advanced p L r u ≡ record {
      level = r.level;
      count = r.count + L;
      remainder = digits 64 12 (remainder p r.level (xor (value 64 r.remainder * 2 ^ L) u));
    }
unfolding advanced
advanced-eq p L r u = refl

-- ---- beside a refusal, and beside none
by-done : (next old : Value.Register) (refusal : ℕ) → refusal ≡ 0 → record { outcome = Ok tt; register = next } ≡ fed_by refusal next old
by-done next old refusal z = sym (ap (λ (n : ℕ). fed_by n next old) z)

module _ (p : Parameters) (level : ℕ) (r : Register) where
  pub opened-refused : (e : Refusal) (f : Fed) → f ≡ refused_with e r → refusal_number e ≡ open_refusal p level → value_of r ≡ empty 0 → OpenedAs p level f
  opened-refused e f is h i =
      rw is (record {
        answers = ap (λ (x : Value.Register). record { outcome = Err e; register = x }) i
            ∙ sym (fed-refused e (open_refusal p level) (empty level) (empty 0) h) ∙ sym (opened-eq p level);
        number = h;
        values = refl;
        small = open-le p level;
      })

  pub opened-done : open_refusal p level ≡ 0 → value_of r ≡ empty level → OpenedAs p level (record { outcome = Ok tt; register = r })
  opened-done z i = record {
    answers = ap (λ (x : Value.Register). record { outcome = Ok tt; register = x }) i
        ∙ by-done (empty level) (empty 0) (open_refusal p level) z ∙ sym (opened-eq p level);
    number = sym z;
    values = refl;
    small = open-le p level;
  }

module _ (p : Parameters) (L : ℕ) (r : Register) (u : ℕ) where
  pub feeding-refused : (e : Refusal) (f : Fed) → f ≡ refused_with e r → refusal_number e ≡ feed_refusal p L (value_of r) u → FedAs p L r u f
  feeding-refused e f is h =
      rw is (record {
        answers =
            sym (fed-refused e (feed_refusal p L (value_of r) u) (advanced p L (value_of r) u) (value_of r) h) ∙ sym (fed-eq p L (value_of r) u);
        number = h;
        values = refl;
        small = feed-le p L (value_of r) u;
      })

  pub feeding-done : (g : List ℕ) → feed_refusal p L (value_of r) u ≡ 0
      → g ≡ digits 64 12 (remainder p r.level (xor (value 64 r.remainder * 2 ^ L) u))
      → FedAs p L r u (record { outcome = Ok tt; register = record { level = r.level; count = r.count + L; remainder = g } })
  feeding-done g z i = record {
    answers =
        ap (λ (x : List ℕ). record { outcome = Ok tt; register = record { level = r.level; count = r.count + L; remainder = x } })
        i
        ∙ ap (λ (x : Value.Register). record { outcome = Ok tt; register = x }) (sym (advanced-eq p L (value_of r) u))
        ∙ by-done (advanced p L (value_of r) u) (value_of r) (feed_refusal p L (value_of r) u) z ∙ sym (fed-eq p L (value_of r) u);
    number = sym z;
    values = refl;
    small = feed-le p L (value_of r) u;
  }
