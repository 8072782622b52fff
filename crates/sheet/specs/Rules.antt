-- The rules on the parameters, test by test: what a program's tests show of each definition.
use Rattle.std.specs.Prelude.{◌≡◌, Bool, true, false, not, ◌&&◌, ◌||◌, Result, Ok, Err, ℕ, zero, suc, ◌-◌, ◌*◌, ◌^◌, ◌≤◌, ◌<◌, T, ltb}
use Rattle.std.proofs.Math.Path.{refl, sym}
use Rattle.std.proofs.Common.{ap, ◌∙◌, arith, leb→le, ltb→lt}
use Rattle.std.proofs.Math.Nat as Nat
use Rattle.std.proofs.Math.Dec.{eqb, leb}
use borrow.Author.Tests.{lt-ltb, le-ltb, le-leb, lt-leb, ne_eqb}
use Rattle.field.specs.Fields.{field_of}
use Rattle.field.specs.Irreducible.{both}
use Rattle.generator.specs.Generator.{width}
use Rattle.code.specs.declared.Parameters.{Parameters}
use Rattle.code.specs.declared.Refusal.{Refusal}
use Rattle.code.specs.Answers.{unless_refused}
use Rattle.code.specs.Lists.{◌when◌, ◌or_else◌}
use Rattle.code.proofs.Accepted.{accepted, width-below}
use Rattle.code.proofs.Answers.{tests}
use Rattle.code.specs.Code.{degree}
use Rattle.code.specs.Parameters.{Accepted, len, strength, field_known, shape_fits, place_fits}
use Rattle.code.specs.Parameters.{strengths_fit, clashes, short_fits, sheet_refusal, tested, unshortened, Tests}
use Rattle.code.proofs.Shortened.{same-degree, unshortened-refusal}
use Rattle.element.specs.declared.Field.{Field}
use Rattle.element.specs.declared.FieldError.{FieldError}
use Rattle.element.specs.Fields.{field_at, known, MadeOf, made-known, made-field, known_is, size-least, size-most}
use Rattle.generator_rows.specs.Within.{level-degree}

module _ (p : Parameters) where
  -- ---- the shape
  pub shape-v-low : p.v < 1 → false ≡ shape_fits p
  unfolding shape_fits
  shape-v-low h = simp (lt-leb 1 p.v h)

  pub shape-v-high : 1 ≤ p.v → 3 < p.v → false ≡ shape_fits p
  unfolding shape_fits
  shape-v-high a h = simp (le-leb 1 p.v a, lt-leb p.v 3 h)

  pub shape-m-low : 1 ≤ p.v → p.v ≤ 3 → p.m ≤ p.v → false ≡ shape_fits p
  unfolding shape_fits
  shape-m-low a b h = simp (le-leb 1 p.v a, le-leb p.v 3 b, le-ltb p.v p.m h)

  pub shape-rest : 1 ≤ p.v → p.v ≤ 3 → p.v < p.m → leb p.m 8 ≡ shape_fits p
  unfolding shape_fits
  shape-rest a b h = simp (le-leb 1 p.v a, le-leb p.v 3 b, lt-ltb p.v p.m h)

  -- ---- one strength
  pub strength-past : (a : ℕ) → (a ≡ 0 → ⊥) → (a ≡ 1 → ⊥) → (a ≡ 2 → ⊥) → (a ≡ 3 → ⊥) → 0 ≡ strength p a
  strength-past zero h i j k = absurd (h refl)
  strength-past (suc zero) h i j k = absurd (i refl)
  strength-past (suc (suc zero)) h i j k = absurd (j refl)
  strength-past (suc (suc (suc zero))) h i j k = absurd (k refl)
  strength-past (suc (suc (suc (suc a)))) h i j k = refl

  pub place-within : (a t s : ℕ) → a ≤ p.v → t ≡ strength p a → s ≡ strength p (a - 1) → leb s t ≡ place_fits p a
  unfolding place_fits
  place-within a t s h e f = rw (e, f) (simp (le-leb a p.v h))

  pub place-past : (a t : ℕ) → p.v < a → t ≡ strength p a → eqb t 0 ≡ place_fits p a
  unfolding place_fits
  place-past a t h e = rw e (simp (lt-leb a p.v h))

  -- ---- all strengths
  pub strengths-t0 : p.t0 < 1 → false ≡ strengths_fit p
  unfolding strengths_fit
  strengths-t0 h = simp (lt-leb 1 p.t0 h)

  pub strengths-t1 : 1 ≤ p.t0 → p.t1 ≤ p.t0 → false ≡ strengths_fit p
  unfolding strengths_fit
  strengths-t1 a h = simp (le-leb 1 p.t0 a, le-ltb p.t0 p.t1 h)

  strengths-eq : strengths_fit p ≡ (leb 1 p.t0 && ltb p.t0 p.t1 && place_fits p 2 && place_fits p 3 && leb (strength p p.v) 64
      && leb (2 * strength p p.v) (len p - 1))
  unfolding strengths_fit
  strengths-eq = refl

  pub strengths-place : 1 ≤ p.t0 → p.t0 < p.t1 → false ≡ place_fits p 2 → false ≡ strengths_fit p
  strengths-place a b h = sym (strengths-eq ∙ simp (le-leb 1 p.t0 a, lt-ltb p.t0 p.t1 b, ← h))

  pub strengths-place-3 : 1 ≤ p.t0 → p.t0 < p.t1 → true ≡ place_fits p 2 → false ≡ place_fits p 3 → false ≡ strengths_fit p
  strengths-place-3 a b c h = sym (strengths-eq ∙ simp (le-leb 1 p.t0 a, lt-ltb p.t0 p.t1 b, ← c, ← h))

  pub strengths-high : (t : ℕ) → 1 ≤ p.t0 → p.t0 < p.t1 → true ≡ place_fits p 2 → true ≡ place_fits p 3 → t ≡ strength p p.v → 64 < t
      → false ≡ strengths_fit p
  strengths-high t a b c d e h =
      let l : 64 < strength p p.v = rw e at h in
      sym (strengths-eq ∙ simp (le-leb 1 p.t0 a, lt-ltb p.t0 p.t1 b, ← c, ← d, lt-leb (strength p p.v) 64 l))

  pub strengths-rest : (t n : ℕ) → 1 ≤ p.t0 → p.t0 < p.t1 → true ≡ place_fits p 2 → true ≡ place_fits p 3 → t ≡ strength p p.v → t ≤ 64
      → n ≡ len p → leb (2 * t) (n - 1) ≡ strengths_fit p
  strengths-rest t n a b c d e h f =
      let l : strength p p.v ≤ 64 = rw e at h in
      sym (strengths-eq ∙ simp (le-leb 1 p.t0 a, lt-ltb p.t0 p.t1 b, ← c, ← d, le-leb (strength p p.v) 64 l) (rw (e, f) refl))

  -- ---- the places left out
  pub short_none : p.s ≡ 0 → true ≡ short_fits p
  unfolding short_fits
  short_none e = sym (ap (λ (s : ℕ). eqb s 0 || leb s (len p - degree p p.v - 1)) e)

  -- the degree leaves a place
  pub short-room : Accepted (unshortened p) → degree p p.v < len p
  short-room A =
      let R = accepted (unshortened p) A in
      omega (arith, width-below (unshortened p) R p.v (Nat.le_refl p.v), same-degree p p.v, size-least p.q R.known)

  pub short-order : (f : Field) → f ≡ field_at p.q → f.order ≡ len p
  short-order f e = ap (λ (f : Field). f.order) e

  pub short-degree : Accepted (unshortened p) → (f : Field) → f ≡ field_at p.q → (t w : ℕ) → t ≡ strength p p.v
      → w ≡ width (field_of f.q) t → w ≡ degree p p.v
  short-degree A f e t w h k =
      k ∙ ap (λ (t : ℕ). width (field_of f.q) t) h ∙ level-degree (unshortened p) A f e p.v (Nat.le_refl p.v) ∙ same-degree p p.v

  pub short-some : (n w : ℕ) → (p.s ≡ 0 → ⊥) → n ≡ len p → w ≡ degree p p.v → leb p.s (n - w - 1) ≡ short_fits p
  unfolding short_fits
  short-some n w h e f = rw (e, f) (simp (ne_eqb p.s 0 h))

-- ---- what a passed test says
holds : (b : Bool) → true ≡ b → T b
holds true e = tt
holds false e = let z : ◌≡◌ {A = ℕ} 0 1 = cc in absurd (omega arith)

pub record ShapeFacts (p : Parameters) : Type 0 where
  pub v_low : 1 ≤ p.v
  pub v_high : p.v ≤ 3
  pub m-low : p.v < p.m
  pub m-high : p.m ≤ 8

pub shape-facts : (p : Parameters) → true ≡ shape_fits p → ShapeFacts p
unfolding shape_fits
shape-facts p e =
    let c = both (leb 1 p.v && leb p.v 3 && ltb p.v p.m) (leb p.m 8) (holds (shape_fits p) e) in
    let b = both (leb 1 p.v && leb p.v 3) (ltb p.v p.m) c.0 in
    let a = both (leb 1 p.v) (leb p.v 3) b.0 in
    record {
      v_low = leb→le 1 p.v a.0;
      v_high = leb→le p.v 3 a.1;
      m-low = ltb→lt p.v p.m b.1;
      m-high = leb→le p.m 8 c.1;
    }

pub strength-high : (p : Parameters) → true ≡ strengths_fit p → strength p p.v ≤ 64
unfolding strengths_fit
strength-high p e =
    let b = both (leb 1 p.t0 && ltb p.t0 p.t1 && place_fits p 2 && place_fits p 3 && leb (strength p p.v) 64)
    (leb (2 * strength p p.v) (len p - 1)) (holds (strengths_fit p) e) in
    leb→le (strength p p.v) 64
    (both (leb 1 p.t0 && ltb p.t0 p.t1 && place_fits p 2 && place_fits p 3) (leb (strength p p.v) 64) b.0).1

-- ---- what a made field says
pub record FieldFacts (q : ℕ) (f : Field) : Type 0 where
  pub is_known : known q ≡ true
  pub order : f.order ≡ 2 ^ q - 1
  pub order-low : 8 < f.order
  pub order-high : f.order < 4096

pub field-facts : (q : ℕ) (r : Result Field FieldError) (f : Field) → MadeOf q r → r ≡ Ok f → FieldFacts q f
field-facts q r f h e =
    let k = made-known q r h f e in
    let o : f.order ≡ 2 ^ q - 1 = ap (λ (g : Field). g.order) (made-field q r h f e) in
    let low = size-least q (known_is q k) in
    let high = size-most q (known_is q k) in
    record { is_known = k; order = o; order-low = omega arith; order-high = omega arith }

-- ---- the whole test: the refusal by its five links
module _ (p : Parameters) where
  tested_eq : tested p
      ≡ unless_refused
      (1 when not (field_known p) or_else 2 when not (shape_fits p) or_else 3 when not (strengths_fit p) or_else 4 when clashes p
      or_else 14 when not (short_fits p))
      p
  unfolding tested sheet_refusal
  tested_eq = refl

  known-eq : field_known p ≡ known p.q
  unfolding field_known
  known-eq = refl

  pub test-field : known p.q ≡ false → Tests p (Err Refusal.Field)
  test-field h = tests p (Err Refusal.Field) (sym (tested_eq ∙ simp (known-eq, h)))

  pub test_shape : known p.q ≡ true → false ≡ shape_fits p → Tests p (Err Refusal.Shape)
  test_shape k h = tests p (Err Refusal.Shape) (sym (tested_eq ∙ simp (known-eq, k, ← h)))

  pub test-strengths : known p.q ≡ true → true ≡ shape_fits p → false ≡ strengths_fit p → Tests p (Err Refusal.Strengths)
  test-strengths k s h = tests p (Err Refusal.Strengths) (sym (tested_eq ∙ simp (known-eq, k, ← s, ← h)))

  pub test-clash : known p.q ≡ true → true ≡ shape_fits p → true ≡ strengths_fit p → true ≡ clashes p → Tests p (Err Refusal.Clash)
  test-clash k s t h = tests p (Err Refusal.Clash) (sym (tested_eq ∙ simp (known-eq, k, ← s, ← t, ← h)))

  module _ (k : known p.q ≡ true) (s : true ≡ shape_fits p) (t : true ≡ strengths_fit p) (c : false ≡ clashes p) where
    -- but for s the sheet is accepted
    pub full-accepted : Accepted (unshortened p)
    full-accepted = unshortened-refusal p ∙ simp (known-eq, k, ← s, ← t, ← c)

    pub test_short : false ≡ short_fits p → Tests p (Err Refusal.Shortening)
    test_short h = tests p (Err Refusal.Shortening) (sym (tested_eq ∙ simp (known-eq, k, ← s, ← t, ← c, ← h)))

    pub test-accepted : true ≡ short_fits p → Tests p (Ok p)
    test-accepted h = tests p (Ok p) (sym (tested_eq ∙ simp (known-eq, k, ← s, ← t, ← c, ← h)))
