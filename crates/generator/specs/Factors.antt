-- The generators' factors: generator t + 1 is generator t times factor t.
use Rattle.std.specs.Prelude.{◌≡◌, refl, Bool, true, false, ℕ, suc, ◌-◌, ◌*◌, ◌^◌, length}
use Rattle.polynomial.specs.Division.{Deg}
use Rattle.field.specs.Elements.{syndrome}
use Rattle.field.specs.Fields.{BinaryField}
use Rattle.generator.specs.Exponents.{coset}
use Rattle.generator.specs.Generator.{minimal}
use Rattle.generator.specs.Leaders.{leader}

abbrev pub factor_by : Bool → ℕ → ℕ
factor_by true m = m
factor_by false m = 1

unfoldable pub factor : BinaryField → ℕ → ℕ
unfolding leader minimal
factor B t = factor_by (leader B.n B.q (suc (2 * t))) (minimal B (suc (2 * t)))

pub factor-eq : (B : BinaryField) (t : ℕ) → factor B t ≡ factor_by (leader B.n B.q (suc (2 * t))) (minimal B (suc (2 * t)))
unfolding factor
factor-eq B t = refl

-- ---- a factor known by numbers, n = 2^q - 1
abbrev pub IsFactor : Bool → ℕ → ℕ → ℕ → Type 0
IsFactor true q j m = Deg m (length (coset (2 ^ q - 1) q j)) × (syndrome q m j ≡ 0)
IsFactor false q j m = m ≡ 1
