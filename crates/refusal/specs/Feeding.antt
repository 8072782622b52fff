-- The register's chains of refusals, link by link.
--   numbers_refusal p L a k u    the refusal of u as L coefficients after k at level a, by these numbers alone: 5, 8, 11, 12, or 0
--   NumbersFit p L a k          what is known where there is none
--   bits_refusal p r             the refusal of a register with a bit at or above its level's degree: 12, or 0
use Rattle.std.specs.Prelude.{◌≡◌, refl, true, false, not, ℕ, ◌+◌, ◌^◌, ◌≤◌, ◌<◌}
use Rattle.std.proofs.Common.{sym, ◌∙◌, lit≤}
use Rattle.std.proofs.Math.Path.{ap}
use Rattle.std.proofs.Math.Nat as Nat
use Rattle.std.proofs.Math.Dec.{leb, ltb, nltb→le}
use borrow.Author.Tests.{lt-ltb, le-ltb, le-leb, lt-leb, ltb-true, ltb-false, leb-true, leb-false, not-true, not-false}
use Rattle.polynomial.specs.Digits.{value}
use Rattle.code.specs.declared.Parameters.{Parameters}
use Rattle.code.proofs.Chains.{first_of, last, or_assoc, or-first, or-le, or-none, or-second, when-le, when-none, when-or}
use Rattle.code.specs.Code.{degree}
use Rattle.code.specs.Lists.{◌when◌, ◌or_else◌, last_refusal}
use Rattle.code.specs.Parameters.{Accepted, full, sheet_refusal}
use Rattle.code.specs.Refusals.{bad_width, feed_refusal}
use Rattle.code.specs.Refused.{Width}
use Rattle.code.proofs.Refused.{sheet-le, width_of}
use Rattle.code.specs.Register.{Register}

unfoldable pub numbers_refusal : Parameters → ℕ → ℕ → ℕ → ℕ → ℕ
numbers_refusal p L a k u = 5 when bad_width L or_else 8 when leb (2 ^ L) u or_else 11 when ltb (full p) (k + L) or_else 12 when ltb p.v a

abbrev bits_refusal : Parameters → Register → ℕ
bits_refusal p r = 12 when leb (2 ^ degree p r.level) (value 64 r.remainder)

pub record NumbersFit (p : Parameters) (L a k : ℕ) : Type 0 where
  pub width : Width L
  pub room : k + L ≤ full p
  pub level : a ≤ p.v

-- ---- chains
assoc_four : (a b c d t : ℕ) → ((a or_else b or_else c or_else d) or_else t) ≡ (a or_else b or_else c or_else d or_else t)
assoc_four a b c d t =
    or_assoc a (b or_else c or_else d) t
    ∙ ap (λ (s : ℕ). a or_else s) (or_assoc b (c or_else d) t ∙ ap (λ (s : ℕ). b or_else s) (or_assoc c d t))

-- ---- the numbers of a feeding
module _ (p : Parameters) (L a k u : ℕ) where
  abbrev stray-8 : ℕ
  stray-8 = 8 when leb (2 ^ L) u

  abbrev full-11 : ℕ
  full-11 = 11 when ltb (full p) (k + L)

  abbrev level-12 : ℕ
  level-12 = 12 when ltb p.v a

  pub numbers-width : false ≡ not (bad_width L) → 5 ≡ numbers_refusal p L a k u
  unfolding numbers_refusal
  numbers-width e = simp (not-false (bad_width L) (sym e))

  module _ (e : true ≡ not (bad_width L)) where
    pub numbers-stray : false ≡ ltb u (2 ^ L) → 8 ≡ numbers_refusal p L a k u
    unfolding numbers_refusal
    numbers-stray f = simp (not-true (bad_width L) (sym e), le-leb (2 ^ L) u (ltb-false u (2 ^ L) (sym f)))

    module _ (f : true ≡ ltb u (2 ^ L)) (n : ℕ) (is : n ≡ full p) where
      pub numbers-full : false ≡ leb (k + L) n → 11 ≡ numbers_refusal p L a k u
      unfolding numbers_refusal
      numbers-full g =
          simp (
            not-true (bad_width L) (sym e),
            lt-leb (2 ^ L) u (ltb-true u (2 ^ L) (sym f)),
            lt-ltb (full p) (k + L) (rw is at (leb-false (k + L) n (sym g))),
          )

      module _ (g : true ≡ leb (k + L) n) where
        numbers-left : numbers_refusal p L a k u ≡ level-12
        unfolding numbers_refusal
        numbers-left =
            simp (
              not-true (bad_width L) (sym e),
              lt-leb (2 ^ L) u (ltb-true u (2 ^ L) (sym f)),
              le-ltb (full p) (k + L) (rw is at (leb-true (k + L) n (sym g))),
            )

        pub numbers-level : p.v < a → 12 ≡ numbers_refusal p L a k u
        numbers-level h = sym (numbers-left ∙ simp (lt-ltb p.v a h))

        pub numbers-none : a ≤ p.v → 0 ≡ numbers_refusal p L a k u
        numbers-none h = sym (numbers-left ∙ simp (le-ltb p.v a h))

  pub numbers-le : numbers_refusal p L a k u ≤ last_refusal
  unfolding numbers_refusal
  numbers-le =
      or-le (5 when bad_width L) (stray-8 or_else full-11 or_else level-12) (when-le 5 (bad_width L) (lit≤ tt))
      (or-le stray-8 (full-11 or_else level-12) (when-le 8 (leb (2 ^ L) u) (lit≤ tt))
      (or-le full-11 level-12 (when-le 11 (ltb (full p) (k + L)) (lit≤ tt)) (when-le 12 (ltb p.v a) (lit≤ tt))))

  pub numbers_fit : (r : ℕ) → r ≡ numbers_refusal p L a k u → r ≡ 0 → NumbersFit p L a k
  unfolding numbers_refusal
  numbers_fit r e z =
      let w = or-none (5 when bad_width L) (stray-8 or_else full-11 or_else level-12) (sym e ∙ z) in
      let s = or-none full-11 level-12 (or-none stray-8 (full-11 or_else level-12) w.1).1 in
      record {
        width = width_of L (rw (when-none 4 (bad_width L) w.0) refl);
        room = nltb→le (full p) (k + L) (last 10 (ltb (full p) (k + L)) s.0);
        level = nltb→le p.v a (last 11 (ltb p.v a) s.1);
      }

-- ---- feeding
module _ (p : Parameters) (L : ℕ) (r : Register) (u : ℕ) where
  abbrev numbers : ℕ
  numbers = numbers_refusal p L r.level r.count u

  feed-eq : feed_refusal p L r u ≡ (sheet_refusal p or_else numbers or_else bits_refusal p r)
  unfolding feed_refusal numbers_refusal
  feed-eq =
      ap
      (λ (s : ℕ). sheet_refusal p or_else 5 when bad_width L or_else 8 when leb (2 ^ L) u or_else 11 when ltb (full p) (r.count + L) or_else s)
      (sym (when-or 11 (ltb p.v r.level) (leb (2 ^ degree p r.level) (value 64 r.remainder))))
      ∙ ap (λ (s : ℕ). sheet_refusal p or_else s) (sym (assoc_four (5 when bad_width L) (8 when leb (2 ^ L) u)
      (11 when ltb (full p) (r.count + L)) (12 when ltb p.v r.level) (bits_refusal p r)))

  pub feed-sheet : (k : ℕ) → k ≡ sheet_refusal p → (k ≡ 0 → ⊥) → k ≡ feed_refusal p L r u
  feed-sheet k e h = first_of k (sheet_refusal p) (numbers or_else bits_refusal p r) e h ∙ sym feed-eq

  pub feed-le : feed_refusal p L r u ≤ last_refusal
  feed-le =
      rw feed-eq (or-le (sheet_refusal p) (numbers or_else bits_refusal p r) (sheet-le p)
      (or-le numbers (bits_refusal p r) (numbers-le p L r.level r.count u)
      (when-le 12 (leb (2 ^ degree p r.level) (value 64 r.remainder)) (lit≤ tt))))

  module _ (A : Accepted p) (k : ℕ) (e : k ≡ numbers) where
    feed-accepted : feed_refusal p L r u ≡ (k or_else bits_refusal p r)
    feed-accepted =
        feed-eq ∙ or-second (sheet_refusal p) (numbers or_else bits_refusal p r) A ∙ ap (λ (n : ℕ). n or_else bits_refusal p r) (sym e)

    pub feed-numbers : (k ≡ 0 → ⊥) → k ≡ feed_refusal p L r u
    feed-numbers h = sym (feed-accepted ∙ or-first k (bits_refusal p r) (Nat.pos_of_ne-zero h))

    module _ (z : k ≡ 0) (w : ℕ) (is : w ≡ degree p r.level) where
      feed-left : feed_refusal p L r u ≡ (12 when leb (2 ^ w) (value 64 r.remainder))
      feed-left = feed-accepted ∙ or-second k (bits_refusal p r) z ∙ ap (λ (n : ℕ). 12 when leb (2 ^ n) (value 64 r.remainder)) (sym is)

      pub feed-bits : false ≡ ltb (value 64 r.remainder) (2 ^ w) → 12 ≡ feed_refusal p L r u
      feed-bits f = sym (feed-left ∙ simp (le-leb (2 ^ w) (value 64 r.remainder) (ltb-false (value 64 r.remainder) (2 ^ w) (sym f))))

      pub feed-none : true ≡ ltb (value 64 r.remainder) (2 ^ w) → 0 ≡ feed_refusal p L r u
      feed-none f = sym (feed-left ∙ simp (lt-leb (2 ^ w) (value 64 r.remainder) (ltb-true (value 64 r.remainder) (2 ^ w) (sym f))))
