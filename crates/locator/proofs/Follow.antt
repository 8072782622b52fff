-- What code over arrays meets: an early stop, and room for the places.
use Rattle.std.specs.Prelude.{◌≡◌, length}
use Rattle.std.proofs.Math.Path.{ap}
use Rattle.std.proofs.Common.{sym, ◌∙◌, arith}
use Rattle.std.proofs.Math.Option.{none}
use Prim.Native.Nat.{ℕ, suc, ◌-◌, ◌*◌, ◌^◌, ◌≤◌, ◌<◌, suc-le-suc, zero-le}
use Rattle.std.proofs.Math.Nat as Nat
use Rattle.field.specs.Elements.{element, element-syndrome}
use Rattle.field.specs.Fields.{BinaryField, Known, field_of, field_of-length}
use Rattle.field.specs.Flips.{flips}
use Rattle.locator.specs.Kept.{kept}
use Rattle.locator.specs.Locate.{locate, root_places}
use Rattle.locator.specs.Massey.{massey}
use Rattle.locator.proofs.Found.{bounded, few-roots-found, none-iff}

module _ (B : BinaryField) where
  open B.field use {K}

  -- a bound of at most t: the search finds at most t places, so a list of t places does not overflow
  pub few-found : (S : ℕ → K) (t z : ℕ) → z ≤ B.n → (massey B S (2 * t)).bound ≤ t → length (root_places B (massey B S (2 * t)).locator z) ≤ t
  few-found S t z zn h = omega (arith, few-roots-found B z zn (massey B S (2 * t)).locator (kept B S (2 * t)).unit, (kept B S (2 * t)).short)

-- a bound above t: there is nothing to find
pub too_many : (q : ℕ) → Known q → (S : ℕ → ℕ) (t z : ℕ) → z ≤ 2 ^ q - 1 → (r : ℕ) → r ≤ 2 * t → t < (massey (field_of q) (λ j. element (field_of q) (S (suc j))) r).bound
    → locate q S t z ≡ none
too_many q known S t z zn r h b =
    (none-iff q known S t z zn).1 (λ R L. Nat.lt_irrefl t (omega (
      arith,
      L.few,
      bounded (field_of q) z (rw (field_of-length q known) zn) R L.rising (λ j. element (field_of q) (S (suc j))) t L.few
          (λ j c. ap (element (field_of q)) (sym (L.sums (suc j) (suc-le-suc zero-le) c)) ∙ element-syndrome q known (flips R) (suc j)) r h,
    )))
