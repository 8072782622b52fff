-- The next generator: one more factor where 2t + 1 leads its coset.
-- By it the degree is at most q t, and a program works the generators out.
use Rattle.std.specs.Prelude.{◌≡◌, Bool, true, false, List, ◌++◌, ℕ, zero, suc, ◌+◌, ◌*◌, ◌%◌, ◌^◌, ◌≤◌, ◌<◌, length}
use Rattle.std.proofs.Math.Path.{refl}
use Rattle.std.proofs.Common.{sym, ◌∙◌, zero-le, suc-le-suc, arith, length-append}
use Rattle.polynomial.specs.Clmul.{clmul}
use Rattle.polynomial.specs.Division.{deg-mul, deg-unique}
use Rattle.field.specs.Fields.{BinaryField}
use Rattle.field.specs.Powers.{n_pos}
use Rattle.generator.specs.Exponents.{row, values, coset, exponents}
use Rattle.generator.specs.Exponents.{coset-ind, exponents-mem}
use Rattle.generator.proofs.Exponents.{exponents-mono}
use Rattle.generator.specs.Exponents.{Orbit, orbit-join, row-mem, length-row}
use Rattle.generator.proofs.Exponents.{orbit-coset, orbit-exponents}
use Rattle.generator.specs.Generator.{with_roots, generator, generator-eq}
use Rattle.generator.proofs.Generator.{with_roots-same, with_roots-join}
use Rattle.generator.specs.Generator.{width, width-eq, minimal, minimal-eq}
use Rattle.generator.proofs.Generator.{generator-deg, length-le, minimal-deg}
use Rattle.generator.specs.Leaders.{leader, leader-cases}
use Rattle.generator.proofs.Leaders.{leader-new, other-old, next-ind}
use Rattle.generator.specs.Distinct.{Mem, distinct, mem-left, mem-right, mem-join}

module _ (B : BinaryField) where
  open B use {q, n, size}

  -- ---- degrees
  pub width-next : (t : ℕ) → width B (suc t) ≤ width B t + q
  width-next t =
      rw (width-eq B (suc t), width-eq B t) (rw (length-append (exponents n q t) (row n (suc (2 * t)) q), length-row n (suc (2 * t)) q) at
      (length-le B (exponents n q (suc t)) (orbit-exponents n q size (n_pos B) (suc t)) (exponents n q t ++ row n (suc (2 * t)) q)
      (next-ind n q size (n_pos B) (λ e. Mem e (exponents n q t ++ row n (suc (2 * t)) q)) t
      (λ e m. mem-left e (exponents n q t) (row n (suc (2 * t)) q) m)
      (coset-ind (λ e. Mem e (exponents n q t ++ row n (suc (2 * t)) q)) n q (suc (2 * t))
      (λ s l. mem-right (suc (2 * t) * 2 ^ s % n) (exponents n q t) (row n (suc (2 * t)) q) (row-mem n (suc (2 * t)) q s l))))))

  width-zero : width B 0 ≡ 0
  unfolding width exponents values distinct
  width-zero = refl

  pub width-le : (t : ℕ) → width B t ≤ q * t
  width-le zero = rw width-zero zero-le
  width-le (suc t) = go (width-le t)
    where
      go : width B t ≤ q * t → width B (suc t) ≤ q * suc t
      go h = omega (arith, width-next t)

  -- below n: no exponent is 0
  module _ (t : ℕ) (h : suc (2 * t) < n) where
    abbrev old : List ℕ
    old = exponents n q t

    abbrev new : List ℕ
    new = exponents n q (suc t)

    abbrev more : List ℕ
    more = coset n q (suc (2 * t))

    o-old : Orbit n old
    o-old = orbit-exponents n q size (n_pos B) t

    o-new : Orbit n new
    o-new = orbit-exponents n q size (n_pos B) (suc t)

    o-more : Orbit n more
    o-more = orbit-coset n q size (n_pos B) (suc (2 * t))

    more-new : (e : ℕ) → Mem e more → Mem e new
    more-new =
        coset-ind (λ e. Mem e new) n q (suc (2 * t)) (λ s l. exponents-mem n q (suc t) (suc (2 * t)) s (suc-le-suc zero-le) (omega arith) l)

    grown : ((e : ℕ) → Mem e old → Mem e more → ⊥) → generator B (suc t) ≡ clmul (generator B t) (minimal B (suc (2 * t)))
    grown d =
        rw (generator-eq B (suc t), generator-eq B t, minimal-eq B (suc (2 * t)))
        (with_roots-same B (old ++ more) new (orbit-join n old more o-old o-more d) o-new
        (mem-join (λ e. Mem e new) old more (exponents-mono n q t (suc t) (omega arith)) more-new)
        (next-ind n q size (n_pos B) (λ e. Mem e (old ++ more)) t (λ e m. mem-left e old more m) (λ e m. mem-right e old more m))
        ∙ sym (with_roots-join B old more o-old o-more d))

    kept : ((e : ℕ) → Mem e more → Mem e old) → generator B (suc t) ≡ generator B t
    kept k =
        rw (generator-eq B (suc t), generator-eq B t)
        (with_roots-same B old new o-old o-new (exponents-mono n q t (suc t) (omega arith))
        (next-ind n q size (n_pos B) (λ e. Mem e old) t (λ e m. m) k))

    pub generator-grows : ((s : ℕ) → s < q → suc (2 * t) ≤ suc (2 * t) * 2 ^ s % n)
        → generator B (suc t) ≡ clmul (generator B t) (minimal B (suc (2 * t)))
    generator-grows lead = grown (leader-new n q size (n_pos B) t h lead)

    pub generator-stays : (s : ℕ) → s < q → suc (2 * t) * 2 ^ s % n < suc (2 * t) → generator B (suc t) ≡ generator B t
    generator-stays s l k = kept (other-old n q size (n_pos B) t s h l k)

    pub generator-next : generator B (suc t) ≡ elim (leader n q (suc (2 * t))) [
      | true ↦ clmul (generator B t) (minimal B (suc (2 * t)))
      | false ↦ generator B t
    ]
    generator-next =
        leader-cases n q (suc (2 * t))
        (λ b. generator B (suc t) ≡ elim b [ true ↦ clmul (generator B t) (minimal B (suc (2 * t))) | false ↦ generator B t ])
        generator-grows generator-stays

    wide : (b : Bool) → generator B (suc t) ≡ elim b [ true ↦ clmul (generator B t) (minimal B (suc (2 * t))) | false ↦ generator B t ]
        → width B (suc t) ≡ elim b [ true ↦ width B t + length more | false ↦ width B t ]
    wide true e =
        deg-unique (generator B (suc t)) (width B (suc t)) (width B t + length more) (generator-deg B (suc t)) (rw e
        (deg-mul (width B t) (length more) (generator B t) (minimal B (suc (2 * t))) (generator-deg B t) (minimal-deg B (suc (2 * t)))))
    wide false e = deg-unique (generator B (suc t)) (width B (suc t)) (width B t) (generator-deg B (suc t)) (rw e (generator-deg B t))

    pub width-step : width B (suc t) ≡ elim (leader n q (suc (2 * t))) [
      | true ↦ width B t + length (coset n q (suc (2 * t)))
      | false ↦ width B t
    ]
    width-step = wide (leader n q (suc (2 * t))) generator-next

  pub generator-zero : generator B 0 ≡ 1
  unfolding generator with_roots exponents values distinct
  generator-zero = refl
