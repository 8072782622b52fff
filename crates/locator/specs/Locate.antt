-- The places of an error by its syndromes: Berlekamp's and Massey's locator, a search of places, and a last look.
--   locator_of B S t      the locator of S_1 to S_(2t)
--   root_places B σ z     the places k below z with σ(1 / α^k) = 0
--   agree q S R k        the word with ones at R has the syndromes S_1 to S_k
--   locate q S t z       the places found, rising and below z, at most t of them; or none
--   Located q S t z R    what it is to find: places with the syndromes S_1 to S_(2t)
use Rattle.std.specs.Prelude.{◌≡◌, refl, Bool, true, ◌&&◌, cond, List, ℕ, zero, suc, ◌*◌, ◌≤◌, ◌<◌, eqb, leb, length}
use Rattle.std.proofs.Math.Option.{Option, none, some}
use Rattle.field.specs.Elements.{element, syndrome}
use Rattle.field.specs.Field.{pow}
use Rattle.field.specs.Fields.{BinaryField, field_of}
use Rattle.field.specs.Roots.{value}
use Rattle.field.specs.Inverse.{recip}
use Rattle.locator.specs.Massey.{massey}
use Rattle.field.specs.Flips.{Rising, flips, passing}

module _ (B : BinaryField) where
  open B use {field, num, α}
  open B.field use {K}

  unfoldable pub locator_of : (ℕ → ℕ) → ℕ → List K
  unfolding massey element
  locator_of S t = (massey B (λ j. element B (S (suc j))) (2 * t)).locator

  -- the test of place k
  abbrev pub is_root : List K → ℕ → Bool
  is_root σ k = eqb (num (value field σ (recip B (pow field α k)))) 0

  -- the search begins at place 0
  abbrev pub search : List K → ℕ → List ℕ
  search σ z = passing (is_root σ) 0 z

  unfoldable pub root_places : List K → ℕ → List ℕ
  unfolding passing value pow recip
  root_places σ z = search σ z

unfoldable pub agree : ℕ → (ℕ → ℕ) → List ℕ → ℕ → Bool
unfolding syndrome flips
agree q S R zero = true
agree q S R (suc k) = eqb (syndrome q (flips R) (suc k)) (S (suc k)) && agree q S R k

unfoldable pub candidate : ℕ → (ℕ → ℕ) → ℕ → ℕ → List ℕ
unfolding field_of locator_of root_places
candidate q S t z = root_places (field_of q) (locator_of (field_of q) S t) z

-- the last look: at most t places, with the syndromes S_1 to S_(2t)
abbrev pub accepts : ℕ → (ℕ → ℕ) → ℕ → List ℕ → Bool
accepts q S t R = leb (length R) t && agree q S R (2 * t)

abbrev pub kept : Bool → List ℕ → Option (List ℕ)
kept b R = cond b (some R) none

unfoldable pub locate : ℕ → (ℕ → ℕ) → ℕ → ℕ → Option (List ℕ)
unfolding candidate agree
locate q S t z = kept (accepts q S t (candidate q S t z)) (candidate q S t z)

pub record Located (q : ℕ) (S : ℕ → ℕ) (t z : ℕ) (R : List ℕ) : Type 0 where
  pub rising : Rising 0 z R
  pub few : length R ≤ t
  pub sums : (j : ℕ) → 0 < j → j ≤ 2 * t → syndrome q (flips R) j ≡ S j

-- ---- the defining equations
pub locator_of-eq : (B : BinaryField) (S : ℕ → ℕ) (t : ℕ) → locator_of B S t ≡ (massey B (λ j. element B (S (suc j))) (2 * t)).locator
unfolding locator_of
locator_of-eq B S t = refl

pub root_places-eq : (B : BinaryField) (σ : List B.field.K) (z : ℕ) → root_places B σ z ≡ search B σ z
unfolding root_places
root_places-eq B σ z = refl

pub agree-suc : (q : ℕ) (S : ℕ → ℕ) (R : List ℕ) (k : ℕ) → agree q S R (suc k) ≡ eqb (syndrome q (flips R) (suc k)) (S (suc k)) && agree q S R k
unfolding agree
agree-suc q S R k = refl

pub agree-zero : (q : ℕ) (S : ℕ → ℕ) (R : List ℕ) → agree q S R zero ≡ true
unfolding agree
agree-zero q S R = refl

pub candidate-eq : (q : ℕ) (S : ℕ → ℕ) (t z : ℕ) → candidate q S t z ≡ root_places (field_of q) (locator_of (field_of q) S t) z
unfolding candidate
candidate-eq q S t z = refl

pub locate-eq : (q : ℕ) (S : ℕ → ℕ) (t z : ℕ) → locate q S t z ≡ kept (accepts q S t (candidate q S t z)) (candidate q S t z)
unfolding locate
locate-eq q S t z = refl
