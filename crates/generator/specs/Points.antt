-- The points α^e of a set of exponents.
--   points B E    α^e for each e of E
use Rattle.std.specs.Prelude.{◌≡◌, refl, ◌≢◌, List, [], ◌∷◌, map, ℕ, ◌+◌, ◌*◌, ◌%◌, ◌<◌}
use Rattle.std.proofs.Common.{ap, ◌∙◌, inl, inr, arith}
use Rattle.field.specs.Field.{pow, pow-add}
use Rattle.field.specs.Fields.{BinaryField}
use Rattle.field.specs.Powers.{pow-mod, pow-inj}
use Rattle.field.specs.Roots.{Apart}
use Rattle.generator.specs.Exponents.{Orbit}
use Rattle.generator.specs.Distinct.{Mem, Once, all_of, mem-map, map-mem}

module _ (B : BinaryField) where
  open B use {field, n, α}
  open B.field use {K, ◌⊗◌}

  infixl 70 ◌⊗◌
  -- the points of a set of exponents
  abbrev pub points : List ℕ → List K
  points E = map (pow field α) E

  apart-go : (E : List ℕ) → Once E → ((e : ℕ) → Mem e E → e < n) → Apart field (points E)
  apart-go [] o b = tt
  apart-go (x ∷ E) o b = (
    all_of (λ y. y ≢ pow field α x) (points E)
        (map-mem (λ y. y ≢ pow field α x) (pow field α) E (λ a m e. o.0 (rw (pow-inj B a x (b a (inr m)) (b x (inl refl)) e) at m))),
    apart-go E o.1 (λ a m. b a (inr m)),
  )

  module _ (E : List ℕ) (o : Orbit n E) where
    pub points-apart : Apart field (points E)
    points-apart = apart-go E o.once o.below

    pub points-sq : (x : K) → Mem x (points E) → Mem (x ⊗ x) (points E)
    points-sq =
        map-mem (λ x. Mem (x ⊗ x) (points E)) (pow field α) E (λ a m. rw (sq a) at (mem-map (pow field α) (a * 2 % n) E (o.twice a m)))
      where
        sq : (a : ℕ) → pow field α (a * 2 % n) ≡ pow field α a ⊗ pow field α a
        sq a = pow-mod B (a * 2) ∙ ap (pow field α) w ∙ pow-add field α a a
          where
            w : a * 2 ≡ a + a
            w = omega arith
