-- The generator for strength t: the non-zero binary polynomial of least degree with α^1 to α^(2t) among its roots.
--   HasRoots B t f    f vanishes at α^1 to α^(2t)
--   with_roots B E     the product of the x + α^e over the exponents e of E, its coefficients read as bits
--   generator B t     the generator: with_roots of the exponents j × 2^s mod n, j from 1 to 2t
--   width B t         its degree: how many such exponents there are
--   minimal B j       the minimal polynomial of α^j
--   IsGenerator B t g g is non-zero, has the roots, and no polynomial with them has a lower degree
use Rattle.std.specs.Prelude.{◌≡◌, ◌↔◌, List, ◌++◌, map, ℕ, ◌+◌, ◌-◌, ◌*◌, ◌%◌, ◌^◌, ◌≤◌, ◌<◌}
use Rattle.std.proofs.Common.{sym, ap, ◌∙◌, le_antisymm, arith, length-append}
use Rattle.std.proofs.Math.ListN.{length}
use Rattle.std.proofs.lemmas.List.{length-map}
use Rattle.polynomial.specs.Clmul.{clmul, clmul-comm}
use Rattle.polynomial.specs.Division.{Deg, deg, deg-is, deg-mul, deg-unique, rem, rem_lt, division, rem-zero-iff}
use Rattle.polynomial.specs.Multiple.{deg-pos, multiple-deg, multiple-same}
use Rattle.field.specs.Eval.{eval, eval_xor, eval-root, eval-unity, eval-ones}
use Rattle.field.specs.Field.{ring, add-self, mul_comm, mul-eq-zero, add-eq-zero, pow, pow-swap, pow-one}
use Rattle.field.specs.Fields.{BinaryField}
use Rattle.field.specs.Powers.{pow-mod, n_pos, eval-double}
use Rattle.generator.specs.Exponents.{coset, exponents}
use Rattle.generator.specs.Exponents.{coset-ind, exponents-ind}
use Rattle.generator.proofs.Exponents.{coset-self, exponents-mono, exponents-pos, exponents-self}
use Rattle.generator.specs.Exponents.{Orbit, orbit-join, upto, upto-mem, length-upto}
use Rattle.generator.proofs.Exponents.{orbit-coset, orbit-exponents}
use Rattle.generator.specs.Distinct.{Mem, mem-join, mem-map, map-mem}
use Rattle.generator.specs.Monic.{mval, product, product-root, length-product, at_most}
use Rattle.generator.specs.Monic.{product-bits, vanish, binary, eval-binary, deg-binary}
use Rattle.generator.specs.Points.{points, points-apart, points-sq}
use Rattle.generator.specs.Generator.{HasRoots, IsGenerator, generator, generator-eq, minimal, minimal-eq, width, width-eq, with_roots, with_roots-eq}

module _ (B : BinaryField) where
  open B use {field, q, n, size, num, num-zero, num-one, α, whole, order}
  open B.field use {K, 𝟘, 𝟙, ◌⊕◌, ◌⊗◌}

  infixl 65 ◌⊕◌
  infixl 70 ◌⊗◌
  -- ---- over any set of exponents that is closed under doubling
  module _ (E : List ℕ) (o : Orbit n E) where
    pub with_roots-deg : Deg (with_roots B E) (length E)
    with_roots-deg =
        rw (with_roots-eq B E) (rw (length-product field (points B E) ∙ length-map E (pow field α)) at
        (deg-binary field num num-zero num-one (product field (points B E))
        (product-bits field (points B E) (points-apart B E o) (points-sq B E o))))

    pub with_roots-root : (e : ℕ) → Mem e E → eval field (with_roots B E) (pow field α e) ≡ 𝟘
    with_roots-root e m =
        rw (with_roots-eq B E) (eval-binary field num num-zero num-one (product field (points B E)) (pow field α e)
        (product-bits field (points B E) (points-apart B E o) (points-sq B E o))
        ∙ product-root field (points B E) (pow field α e) (mem-map (pow field α) e E m))

    -- what vanishes on E is a multiple
    pub with_roots-least : (f : ℕ) → ((e : ℕ) → Mem e E → eval field f (pow field α e) ≡ 𝟘) → rem (with_roots B E) (length E) f ≡ 0
    with_roots-least f h =
        vanish field (points B E) r (points-apart B E o) (rw (length-map E (pow field α)) (rem_lt (with_roots B E) (length E) with_roots-deg f))
        (map-mem (λ x. eval field r x ≡ 𝟘) (pow field α) E (λ e m. rest e m))
      where
        r : ℕ
        r = rem (with_roots B E) (length E) f

        c : ℕ
        c = (division (with_roots B E) (length E) with_roots-deg f).0

        rest : (e : ℕ) → Mem e E → eval field r (pow field α e) ≡ 𝟘
        rest e m =
            let p : eval field f (pow field α e) ≡ eval field (clmul c (with_roots B E)) (pow field α e) ⊕ eval field r (pow field α e) =
            ap (λ (x : ℕ). eval field x (pow field α e)) (division (with_roots B E) (length E) with_roots-deg f).1
            ∙ eval_xor field (clmul c (with_roots B E)) r (pow field α e) in
            sym (p ∙ rw (eval-root field c (with_roots B E) (pow field α e) (with_roots-root e m)) (simp ring)) ∙ h e m

    -- and so is what vanishes there only
    pub with_roots-multiple : (f : ℕ) → rem (with_roots B E) (length E) f ≡ 0 → (e : ℕ) → Mem e E → eval field f (pow field α e) ≡ 𝟘
    with_roots-multiple f z e m =
        let w : (c : ℕ) × (f ≡ clmul c (with_roots B E)) = (rem-zero-iff (with_roots B E) (length E) with_roots-deg f).0 z in
        rw w.1 (eval-root field w.0 (with_roots B E) (pow field α e) (with_roots-root e m))

    -- more exponents than E has, each once, are not all in E
    pub length-le : (D : List ℕ) → ((e : ℕ) → Mem e E → Mem e D) → length E ≤ length D
    length-le D h =
        rw (length-map E (pow field α), length-product field (points B D) ∙ length-map D (pow field α)) at
        (at_most field (points B E) (product field (points B D)) (points-apart B E o)
        (map-mem (λ x. mval field (product field (points B D)) x ≡ 𝟘) (pow field α) E
        (λ e m. product-root field (points B D) (pow field α e) (mem-map (pow field α) e D (h e m)))))

  -- the same exponents, in whatever order
  pub with_roots-same : (E D : List ℕ) → Orbit n E → Orbit n D → ((e : ℕ) → Mem e E → Mem e D) → ((e : ℕ) → Mem e D → Mem e E)
      → with_roots B D ≡ with_roots B E
  with_roots-same E D o p h k =
      multiple-same (with_roots B E) (length E) (with_roots B D) (with_roots-deg E o)
      (with_roots-least E o (with_roots B D) (λ e m. with_roots-root D p e (h e m)))
      (rw (le_antisymm (length-le E o D h) (length-le D p E k)) (with_roots-deg D p))

  -- two sets of exponents that share none
  pub with_roots-join : (E D : List ℕ) → Orbit n E → Orbit n D → ((a : ℕ) → Mem a E → Mem a D → ⊥)
      → clmul (with_roots B E) (with_roots B D) ≡ with_roots B (E ++ D)
  with_roots-join E D o p d =
      multiple-same (with_roots B (E ++ D)) (length (E ++ D)) (clmul (with_roots B E) (with_roots B D))
      (with_roots-deg (E ++ D) (orbit-join n E D o p d))
      (with_roots-least (E ++ D) (orbit-join n E D o p d) (clmul (with_roots B E) (with_roots B D))
      (mem-join (λ e. eval field (clmul (with_roots B E) (with_roots B D)) (pow field α e) ≡ 𝟘) E D
      (λ e m.
      rw (clmul-comm (with_roots B E) (with_roots B D)) (eval-root field (with_roots B D) (with_roots B E) (pow field α e) (with_roots-root E o e m)))
      (λ e m. eval-root field (with_roots B E) (with_roots B D) (pow field α e) (with_roots-root D p e m))))
      (rw (length-append E D) (deg-mul (length E) (length D) (with_roots B E) (with_roots B D) (with_roots-deg E o) (with_roots-deg D p)))

  orbit : (t : ℕ) → Orbit n (exponents n q t)
  orbit = orbit-exponents n q size (n_pos B)

  -- ---- the theorems
  pub generator-deg : (t : ℕ) → Deg (generator B t) (width B t)
  generator-deg t = rw (generator-eq B t, width-eq B t) (with_roots-deg (exponents n q t) (orbit t))

  pub generator-pos : (t : ℕ) → 0 < generator B t
  generator-pos t = deg-pos (generator B t) (width B t) (generator-deg t)

  pub generator-roots : (t : ℕ) → HasRoots B t (generator B t)
  generator-roots t j p h =
      rw (generator-eq B t, ← pow-mod B j) (with_roots-root (exponents n q t) (orbit t) (j % n) (exponents-self n q size (n_pos B) t j p h))

  -- a multiple of the generator B has the roots, and nothing else has
  pub generator-iff : (t f : ℕ) → (rem (generator B t) (width B t) f ≡ 0) ↔ HasRoots B t f
  generator-iff t f = (there, back)
    where
      there : rem (generator B t) (width B t) f ≡ 0 → HasRoots B t f
      there z j p h =
          rw (← pow-mod B j) (with_roots-multiple (exponents n q t) (orbit t) f (rw (generator-eq B t, width-eq B t) at z) (j % n)
          (exponents-self n q size (n_pos B) t j p h))

      back : HasRoots B t f → rem (generator B t) (width B t) f ≡ 0
      back r =
          rw (generator-eq B t, width-eq B t) (with_roots-least (exponents n q t) (orbit t) f
          (exponents-ind (λ e. eval field f (pow field α e) ≡ 𝟘) n q t (λ j s p h l. eval-double B f j (r j p h) s)))

module _ (B : BinaryField) where
  open B use {field, q, n, size, num, num-zero, num-one, α, whole, order}
  open B.field use {K, 𝟘, 𝟙, ◌⊕◌, ◌⊗◌}

  infixl 65 ◌⊕◌
  infixl 70 ◌⊗◌
  pub deg-generator : (t : ℕ) → deg (generator B t) ≡ width B t
  deg-generator t =
      deg-unique (generator B t) (deg (generator B t)) (width B t) (deg-is (generator B t) (generator-pos B t)) (generator-deg B t)

  low : (t f : ℕ) → 0 < f → HasRoots B t f → width B t ≤ deg f
  low t f p r = multiple-deg (generator B t) (width B t) f (generator-deg B t) ((generator-iff B t f).1 r) (deg f) (deg-is f p)

  pub generator-is : (t : ℕ) → IsGenerator B t (generator B t)
  generator-is t = record { nonzero = generator-pos B t; roots = generator-roots B t; least = λ f p r. rw (deg-generator t) (low t f p r) }

  -- there is no other
  pub generator-only : (t g : ℕ) → IsGenerator B t g → g ≡ generator B t
  generator-only t g i =
      multiple-same (generator B t) (width B t) g (generator-deg B t) ((generator-iff B t g).1 i.roots)
      (rw (le_antisymm (rw (deg-generator t) at (i.least (generator B t) (generator-pos B t) (generator-roots B t)))
      (low t g i.nonzero i.roots)) at (deg-is g i.nonzero))

  pub generator-unique : (t g h : ℕ) → IsGenerator B t g → IsGenerator B t h → g ≡ h
  generator-unique t g h i k = generator-only t g i ∙ sym (generator-only t h k)

  -- each divides the next
  pub generator-divides : (t t' : ℕ) → t ≤ t' → rem (generator B t) (width B t) (generator B t') ≡ 0
  generator-divides t t' l = (generator-iff B t (generator B t')).1 (λ j p h. generator-roots B t' j p (omega arith))

  unity-at : (j : ℕ) → pow field (pow field α j) n ≡ 𝟙
  unity-at j = pow-swap field α j n ∙ rw whole (pow-one field j)

  -- and x^n + 1
  pub generator-cyclic : (t : ℕ) → rem (generator B t) (width B t) (2 ^ n + 1) ≡ 0
  generator-cyclic t = (generator-iff B t (2 ^ n + 1)).1 (λ j p h. eval-unity field n (n_pos B) (pow field α j) (unity-at j))

  -- and the word of n ones
  pub generator-ones : (t : ℕ) → 2 * t < n → rem (generator B t) (width B t) (2 ^ n - 1) ≡ 0
  generator-ones t l = (generator-iff B t (2 ^ n - 1)).1 (λ j p h. ones j p (omega arith))
    where
      ones : (j : ℕ) → 0 < j → j < n → eval field (2 ^ n - 1) (pow field α j) ≡ 𝟘
      ones j p h =
          mul-eq-zero field (eval field (2 ^ n - 1) (pow field α j)) (pow field α j ⊕ 𝟙)
          (mul_comm field (eval field (2 ^ n - 1) (pow field α j)) (pow field α j ⊕ 𝟙) ∙ eval-ones field n (pow field α j)
          ∙ rw (unity-at j) (add-self field 𝟙))
          (λ e. order j p h (add-eq-zero field (pow field α j) 𝟙 e))

  -- ---- degrees do not fall
  pub width-mono : (t t' : ℕ) → t ≤ t' → width B t ≤ width B t'
  width-mono t t' h =
      rw (width-eq B t, width-eq B t')
      (length-le B (exponents n q t) (orbit-exponents n q size (n_pos B) t) (exponents n q t') (exponents-mono n q t t' h))

  -- ---- below n: no exponent is 0
  pub width-lt : (t : ℕ) → 2 * t ≤ n - 1 → width B t ≤ n - 1
  width-lt t h =
      rw (width-eq B t, ← length-upto (n - 1)) (length-le B (exponents n q t) (orbit-exponents n q size (n_pos B) t) (upto (n - 1))
      (λ e m. upto-mem (n - 1) e (exponents-pos n q size (n_pos B) t (omega (arith, n_pos B)) e m)
      (omega (arith, (orbit-exponents n q size (n_pos B) t).below e m))))

  -- ---- minimal polynomials: the multiples of `minimal j` are what vanishes at α^j
  pub minimal-deg : (j : ℕ) → Deg (minimal B j) (length (coset n q j))
  minimal-deg j = rw (minimal-eq B j) (with_roots-deg B (coset n q j) (orbit-coset n q size (n_pos B) j))

  pub minimal_iff : (j f : ℕ) → (rem (minimal B j) (length (coset n q j)) f ≡ 0) ↔ (eval field f (pow field α j) ≡ 𝟘)
  minimal_iff j f =
      rw (minimal-eq B j) (
        (λ z. rw (← pow-mod B j)
            (with_roots-multiple B (coset n q j) (orbit-coset n q size (n_pos B) j) f z (j % n) (coset-self n q size (n_pos B) j))),
        (λ r. with_roots-least B (coset n q j) (orbit-coset n q size (n_pos B) j) f
            (coset-ind (λ e. eval field f (pow field α e) ≡ 𝟘) n q j (λ s l. eval-double B f j r s))),
      )
