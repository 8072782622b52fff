-- The generator for strength t: the non-zero binary polynomial of least degree with α^1 to α^(2t) among its roots.
--   HasRoots B t f    f vanishes at α^1 to α^(2t)
--   with_roots B E     the product of the x + α^e over the exponents e of E, its coefficients read as bits
--   generator B t     the generator: with_roots of the exponents j × 2^s mod n, j from 1 to 2t
--   width B t         its degree: how many such exponents there are
--   minimal B j       the minimal polynomial of α^j
--   IsGenerator B t g g is non-zero, has the roots, and no polynomial with them has a lower degree
use Rattle.std.specs.Prelude.{◌≡◌, List, map, ℕ, ◌+◌, ◌-◌, ◌*◌, ◌≤◌, ◌<◌}
use Rattle.std.proofs.Math.Path.{refl}
use Rattle.std.proofs.Math.ListN.{length}
use Rattle.polynomial.specs.Division.{deg}
use Rattle.field.specs.Eval.{eval}
use Rattle.field.specs.Field.{pow}
use Rattle.field.specs.Fields.{BinaryField}
use Rattle.generator.specs.Exponents.{coset, exponents}
use Rattle.generator.specs.Monic.{product}
use Rattle.generator.specs.Monic.{binary}
use Rattle.generator.specs.Points.{points}

module _ (B : BinaryField) where
  open B use {field, q, n, size, num, num-zero, num-one, α, whole, order}
  open B.field use {K, 𝟘, 𝟙, ◌⊕◌, ◌⊗◌}

  infixl 65 ◌⊕◌
  infixl 70 ◌⊗◌
  -- f has the roots α^1 to α^(2t)
  abbrev pub HasRoots : ℕ → ℕ → Type 0
  HasRoots t f = (j : ℕ) → 0 < j → j ≤ 2 * t → eval field f (pow field α j) ≡ 𝟘

  -- the product of the x + α^e over the exponents e of E, its coefficients read as bits
  unfoldable pub with_roots : List ℕ → ℕ
  unfolding binary product
  with_roots E = binary field num (product field (map (pow field α) E))

  pub with_roots-eq : (E : List ℕ) → with_roots E ≡ binary field num (product field (points B E))
  unfolding with_roots
  with_roots-eq E = refl

  -- ---- the definitions
  unfoldable pub minimal : ℕ → ℕ
  unfolding with_roots coset
  minimal j = with_roots (coset n q j)

  unfoldable pub generator : ℕ → ℕ
  unfolding with_roots exponents
  generator t = with_roots (exponents n q t)

  -- its degree: the number of different values of j * 2^s mod n, for j from 1 to 2t and s from 0 to q - 1
  unfoldable pub width : ℕ → ℕ
  unfolding exponents
  width t = length (exponents n q t)

  pub minimal-eq : (j : ℕ) → minimal j ≡ with_roots (coset n q j)
  unfolding minimal
  minimal-eq j = refl

  pub generator-eq : (t : ℕ) → generator t ≡ with_roots (exponents n q t)
  unfolding generator
  generator-eq t = refl

  pub width-eq : (t : ℕ) → width t ≡ length (exponents n q t)
  unfolding width
  width-eq t = refl

-- what the paper says of a generator
pub record IsGenerator (B : BinaryField) (t g : ℕ) : Type 0 where
  pub nonzero : 0 < g
  pub roots : HasRoots B t g
  pub least : (f : ℕ) → 0 < f → HasRoots B t f → deg g ≤ deg f
