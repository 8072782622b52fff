-- The parts of a program's input, test by test, and that they lie in the first 8 bytes but for the rest.
--   Begins input at    the rest is the bytes from `at` on
use Rattle.std.specs.Prelude.{◌≡◌, Bool, true, false, ◌&&◌, cond, List, ℕ, suc, ◌+◌, ◌-◌, ◌≤◌, ◌<◌, leb, length, drop, take}
use Rattle.std.proofs.Math.Path.{refl}
use Rattle.std.proofs.Common.{sym, ap, ◌∙◌, zero-le, suc-le-suc, arith, leb→le, lit<, drop_of_length-le, length-drop, get_or-take, take_all, le-leb}
use Rattle.std.proofs.Math.Nat as Nat
use Rattle.std.proofs.Math.ListN.{get_or-eq_default}
use Rattle.std.proofs.lemmas.Bool.{lt-leb}
use Rattle.code.specs.declared.Parameters.{Parameters}
use Rattle.code.specs.Writer.{lead, strengths_given, strength_given, sheet_given, rest_given}

pub record Begins (input : List ℕ) (at : ℕ) : Type 0 where
  pub within : at ≤ length input
  pub rest : drop at input ≡ rest_given input

module _ (input : List ℕ) where
  pub lead-missing : (k : ℕ) → length input ≤ k → 0 ≡ lead input k
  lead-missing k h = sym (get_or-eq_default input 0 h)

  -- ---- the strengths
  pub many-eq : strengths_given input ≡ cond (leb 1 (lead input 2) && leb (lead input 2) 3) (lead input 2 + 1) 0
  unfolding strengths_given
  many-eq = refl

  pub many-low : (v : ℕ) → v ≡ lead input 2 → v < 1 → 0 ≡ strengths_given input
  many-low v e h = sym (many-eq ∙ simp (← e, lt-leb 1 v h))

  pub many-high : (v : ℕ) → v ≡ lead input 2 → 1 ≤ v → 3 < v → 0 ≡ strengths_given input
  many-high v e l h = sym (many-eq ∙ simp (← e, le-leb 1 v l, lt-leb v 3 h))

  pub many-within : (v : ℕ) → v ≡ lead input 2 → 1 ≤ v → v ≤ 3 → v + 1 ≡ strengths_given input
  many-within v e l h = sym (many-eq ∙ simp (← e, le-leb 1 v l, le-leb v 3 h))

  pub many-most : strengths_given input ≤ 4
  many-most = rw many-eq (go (leb 1 (lead input 2)) (leb (lead input 2) 3) refl)
    where
      go : (a b : Bool) → leb (lead input 2) 3 ≡ b → cond (a && b) (lead input 2 + 1) 0 ≤ 4
      go false b e = zero-le
      go true false e = zero-le
      go true true e = omega (arith, leb→le (lead input 2) 3 (rw e tt))

  pub strength-eq : (a : ℕ) → strength_given input a ≡ cond (leb (suc a) (strengths_given input)) (lead input (4 + a)) 0
  unfolding strength_given
  strength-eq a = refl

  pub strength-there : (a k x : ℕ) → k ≡ strengths_given input → a < k → x ≡ lead input (4 + a) → x ≡ strength_given input a
  strength-there a k x e h f = f ∙ sym (strength-eq a ∙ simp (← e, le-leb (suc a) k h))

  pub strength-past : (a k : ℕ) → k ≡ strengths_given input → k ≤ a → 0 ≡ strength_given input a
  strength-past a k e h = sym (strength-eq a ∙ simp (← e, lt-leb (suc a) k (suc-le-suc h)))

  -- ---- the parameters
  abbrev parts : Parameters
  parts = record {
    q = lead input 0;
    m = lead input 1;
    v = lead input 2;
    t0 = strength_given input 0;
    t1 = strength_given input 1;
    t2 = strength_given input 2;
    t3 = strength_given input 3;
    s = 0;
  }

  pub sheet-eq : sheet_given input ≡ parts
  unfolding sheet_given
  sheet-eq = refl

  pub v-given : (sheet_given input).v ≡ lead input 2
  v-given = rw sheet-eq refl

  pub sheet-is : (p : Parameters) → p.q ≡ lead input 0 → p.m ≡ lead input 1 → p.v ≡ lead input 2
      → p.t0 ≡ strength_given input 0 → p.t1 ≡ strength_given input 1 → p.t2 ≡ strength_given input 2 → p.t3 ≡ strength_given input 3
      → p.s ≡ 0 → p ≡ sheet_given input
  sheet-is p a b c d e f g h = rw (sheet-eq, ← a, ← b, ← c, ← d, ← e, ← f, ← g, ← h) refl

  -- ---- the rest
  pub rest_eq : rest_given input ≡ drop (4 + strengths_given input) input
  unfolding rest_given
  rest_eq = refl

  pub rest-length : length (rest_given input) ≡ length input - (4 + strengths_given input)
  rest-length = ap length rest_eq ∙ length-drop (4 + strengths_given input) input

  pub begins-within : (k : ℕ) → k ≡ strengths_given input → 4 + k < length input → Begins input (4 + k)
  begins-within k e h = record { within = Nat.le_of_suc-le h; rest = sym (rest_eq ∙ rw (← e) refl) }

  pub begins-end : (k : ℕ) → k ≡ strengths_given input → length input ≤ 4 + k → Begins input (length input)
  begins-end k e h =
      record {
        within = Nat.le_refl (length input);
        rest = drop_of_length-le input (Nat.le_refl (length input)) ∙ sym (rest_eq ∙ rw (← e) (drop_of_length-le input h));
      }

  -- as the program lends it
  pub rest-lent : (at : ℕ) → Begins input at → take (length input - at) (drop at input) ≡ rest_given input
  rest-lent at b = take_all (length input - at) (drop at input) (Nat.le_of_eq (length-drop at input)) ∙ b.rest

-- ---- the leading bytes are among the first 8
module _ (k : ℕ) (input : List ℕ) (h : 8 ≤ k) where
  pub lead-taken : (j : ℕ) → j < 8 → lead (take k input) j ≡ lead input j
  lead-taken j l = get_or-take k input j 0 (omega arith)

  many-taken : strengths_given (take k input) ≡ strengths_given input
  many-taken = many-eq (take k input) ∙ rw (lead-taken 2 (lit< tt)) (sym (many-eq input))

  strength-taken : (a : ℕ) → a < 4 → strength_given (take k input) a ≡ strength_given input a
  strength-taken a l = strength-eq (take k input) a ∙ rw (many-taken, lead-taken (4 + a) (omega arith)) (sym (strength-eq input a))

  pub sheet-taken : sheet_given (take k input) ≡ sheet_given input
  sheet-taken =
      sheet-eq (take k input)
      ∙ rw (
        lead-taken 0 (lit< tt),
        lead-taken 1 (lit< tt),
        lead-taken 2 (lit< tt),
        strength-taken 0 (lit< tt),
        strength-taken 1 (lit< tt),
        strength-taken 2 (lit< tt),
        strength-taken 3 (lit< tt),
      ) (sym (sheet-eq input))
