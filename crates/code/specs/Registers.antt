-- A polynomial fed part by part.
--   cut c Ls             c in parts of Ls coefficients, the highest first
--   feedings p r cs      the register after these feedings; AllDone p r cs: each is done
use Rattle.std.specs.Prelude.{◌≡◌, Ok, List, [], ◌∷◌, ℕ, ◌/◌, ◌%◌, ◌^◌}
use Rattle.code.specs.declared.Parameters.{Parameters}
use Rattle.code.specs.Register.{Register}
use Rattle.code.specs.Calls.{fed}
use Rattle.code.specs.Lists.{sum}

abbrev pub cut : ℕ → List ℕ → List (ℕ × ℕ)
cut c [] = []
cut c (L ∷ Ls) = (L, c / 2 ^ sum Ls % 2 ^ L) ∷ cut c Ls

abbrev pub feedings : Parameters → Register → List (ℕ × ℕ) → Register
feedings p r [] = r
feedings p r (c ∷ cs) = feedings p (fed p c.0 r c.1).register cs

abbrev pub AllDone : Parameters → Register → List (ℕ × ℕ) → Type 0
AllDone p r [] = Unit {0}
AllDone p r (c ∷ cs) = ((fed p c.0 r c.1).outcome ≡ Ok tt) × AllDone p (fed p c.0 r c.1).register cs
