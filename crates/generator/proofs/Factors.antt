-- The generators' factors: generator t + 1 is generator t times factor t.
--   factor B t          the minimal polynomial of α^(2t + 1) where 2t + 1 leads its coset, else 1
--   IsFactor b q j m    m is known as the factor of j = 2t + 1 by numbers:
--                       b says that j leads its coset, and then m has its degree and its root
use Rattle.std.specs.Prelude.{◌≡◌, refl, Bool, true, false, ℕ, suc, ◌-◌, ◌*◌, ◌^◌, ◌<◌, length}
use Rattle.std.proofs.Common.{sym, ap, ap₂, ◌∙◌}
use Rattle.polynomial.specs.Clmul.{clmul, clmul-one-r}
use Rattle.polynomial.specs.Division.{Deg}
use Rattle.polynomial.specs.Multiple.{multiple-same}
use Rattle.field.specs.Elements.{syndrome, syndrome-iff}
use Rattle.field.specs.Fields.{BinaryField, Known, field_of, field_of-exponent, field_of-length}
use Rattle.generator.specs.Exponents.{coset}
use Rattle.generator.specs.Generator.{generator, minimal}
use Rattle.generator.proofs.Generator.{minimal-deg, minimal_iff}
use Rattle.generator.specs.Leaders.{leader}
use Rattle.generator.proofs.Next.{generator-next}
use Rattle.generator.specs.Factors.{IsFactor, factor, factor-eq, factor_by}

pub generator-factor : (B : BinaryField) (t : ℕ) → suc (2 * t) < B.n → generator B (suc t) ≡ clmul (generator B t) (factor B t)
generator-factor B t h = generator-next B t h ∙ by (leader B.n B.q (suc (2 * t))) ∙ ap (clmul (generator B t)) (sym (factor-eq B t))
  where
    by : (b : Bool) → elim b [
      | true ↦ clmul (generator B t) (minimal B (suc (2 * t)))
      | false ↦ generator B t
    ] ≡ clmul (generator B t) (factor_by b (minimal B (suc (2 * t))))
    by true = refl
    by false = sym (clmul-one-r (generator B t))

module _ (q : ℕ) (known : Known q) where
  minimal-is : (j m : ℕ) → Deg m (length (coset (2 ^ q - 1) q j)) → syndrome q m j ≡ 0 → m ≡ minimal (field_of q) j
  minimal-is j m d z =
      multiple-same (minimal (field_of q) j) (length (coset (field_of q).n (field_of q).q j)) m (minimal-deg (field_of q) j)
      ((minimal_iff (field_of q) j m).1 ((syndrome-iff q known m j).0 z)) (rw (field_of-exponent q known, field_of-length q known) d)

  pub factor-is : (t m : ℕ) → IsFactor (leader (2 ^ q - 1) q (suc (2 * t))) q (suc (2 * t)) m → m ≡ factor (field_of q) t
  factor-is t m h =
      by (leader (2 ^ q - 1) q (suc (2 * t))) h
      ∙ ap₂ (λ (n e : ℕ). factor_by (leader n e (suc (2 * t))) (minimal (field_of q) (suc (2 * t)))) (sym (field_of-length q known))
      (sym (field_of-exponent q known))
      ∙ sym (factor-eq (field_of q) t)
    where
      by : (b : Bool) → IsFactor b q (suc (2 * t)) m → m ≡ factor_by b (minimal (field_of q) (suc (2 * t)))
      by true k = minimal-is (suc (2 * t)) m k.0 k.1
      by false k = k
