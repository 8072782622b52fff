-- What the parts give together: `locate` of the syndromes.
--   Candidates q s t z c o l    the c candidates for the places stand first in l
use Rattle.std.specs.Prelude.{◌≡◌, refl, Bool, true, false, ◌&&◌, List, [], ◌∷◌, ℕ, zero, suc, ◌-◌, ◌*◌, ◌^◌, ◌≤◌, ◌<◌, T, eqb, leb, length, get_or, take, Option, Some, None}
use Rattle.std.proofs.Common.{sym, ap, ap₂, ◌∙◌, arith, le→leb, length-take-le, ext_get_or, get_or-take}
use Rattle.std.proofs.Math.Nat as Nat
use Rattle.std.proofs.lemmas.Bool.{lt-leb}
use Rattle.field.specs.Eval.{total-suc, total-zero}
use Rattle.field.specs.Field.{pow}
use Rattle.field.specs.Fields.{Known, field_of}
use Rattle.field.specs.Roots.{value}
use Rattle.locator.proofs.Follow.{too_many}
use Rattle.locator.specs.Kept as M
use Rattle.locator.specs.Locate.{agree, candidate, candidate-eq, is_root, kept, locate, locate-eq, locator_of-eq, root_places-eq}
use Rattle.locator.specs.Massey.{massey}
use Rattle.field.specs.Flips.{passing, passing-rising, passing-suc, passing-zero}
use Rattle.massey.specs.Entries.{F, K, at, mul2, plus2}
use Rattle.massey.specs.Steps.{After, Done, Zeroed}
use Rattle.search.specs.Values.{node, node-is, part, value-part}
use Rattle.search.specs.Zeros.{Rooted, root?}
use Rattle.syndrome.specs.Places.{Places, places-take, rising-at}
use Rattle.locating.specs.Look.{front, listed}

-- ---- the same tests give the same places
passing-same : (P Q : ℕ → Bool) (k z : ℕ) → ((i : ℕ) → P i ≡ Q i) → passing P k z ≡ passing Q k z
passing-same P Q k zero h = passing-zero P k ∙ sym (passing-zero Q k)
passing-same P Q k (suc z) h = passing-suc P k z ∙ rw (h k, passing-same P Q (suc k) z h) (sym (passing-suc Q k z))

part_same : (q : ℕ) (s u : ℕ → K q) (y : K q) (i : ℕ) → ((h : ℕ) → h < i → s h ≡ u h) → part q s y i ≡ part q u y i
part_same q s u y zero e = total-zero (F q) (λ h. mul2 q (s h) (pow (F q) y h)) ∙ sym (total-zero (F q) (λ h. mul2 q (u h) (pow (F q) y h)))
part_same q s u y (suc i) e =
    total-suc (F q) i (λ h. mul2 q (s h) (pow (F q) y h))
    ∙ ap₂ (plus2 q) (part_same q s u y i (λ h l. e h (Nat.le_step l))) (ap (λ (x : K q). mul2 q x (pow (F q) y i)) (e i (Nat.le_refl (suc i))))
    ∙ sym (total-suc (F q) i (λ h. mul2 q (u h) (pow (F q) y h)))

-- c places, which stand first in l where o has room for them, are the candidates
pub record Candidates (q : ℕ) (s : List ℕ) (t z c : ℕ) (o l : List ℕ) : Type 0 where
  pub count : c ≡ length (candidate q (listed s) t z)
  pub size : length l ≡ length o
  pub found : (j : ℕ) → j < c → j < length o → get_or l j 0 ≡ get_or (candidate q (listed s) t z) j 0

module _ (q : ℕ) (s : List ℕ) (t z : ℕ) where
  abbrev σ : List (K q)
  σ = (massey (field_of q) (at q s) (2 * t)).locator

  candidate-passing : candidate q (listed s) t z ≡ passing (is_root (field_of q) σ) 0 z
  candidate-passing = candidate-eq q (listed s) t z ∙ rw (locator_of-eq (field_of q) (listed s) t) (root_places-eq (field_of q) σ z)

  -- by arrays that follow the state, with a bound of at most t
  module _ (b : ℕ) (a o : List ℕ) (A : After q s (2 * t) b a o) (ba : b < length a) where
    short : length σ ≤ suc b
    short = rw A.bounds (M.kept (field_of q) (at q s) (2 * t)).short

    test-is : (k : ℕ) → root? q a (suc b) k ≡ is_root (field_of q) σ k
    test-is k =
        ap (λ (x : K q). eqb ((field_of q).num x) 0) (part_same q (at q a) (λ h. get_or σ h (F q).𝟘) (node q k) (suc b) (λ i l. A.locators.entry i (omega arith))
        ∙ sym (value-part q σ (node q k) (suc b) short) ∙ ap (value (F q) σ) (node-is q k))

    pub candidates : {c : ℕ} {o' l : List ℕ} → Rooted q a (suc b) z c o' l → Candidates q s t z c o' l
    candidates {c} {o'} {l} C =
        let e : passing (root? q a (suc b)) 0 z ≡ candidate q (listed s) t z = passing-same (root? q a (suc b)) (is_root (field_of q) σ) 0 z test-is ∙ sym candidate-passing in
        record { count = C.count ∙ ap length e; size = C.size; found = λ j h r. C.found j h r ∙ ap (λ (l : List ℕ). get_or l j 0) e }

  -- ---- what is answered: r, with the places in l
  abbrev Answer : Option ℕ → List ℕ → Type 0
  Answer r l = locate q (listed s) t z ≡ front r l

  -- a bound above t
  pub whole-far : Known q → z ≤ 2 ^ q - 1 → (b : ℕ) (a o l : List ℕ) → Done q s t b a o → t < b → Answer None l
  whole-far known zn b a o l D h = too_many q known (listed s) t z zn (D.far h).0 (D.far h).1 (D.far h).2

  module _ {c : ℕ} {o l : List ℕ} (C : Candidates q s t z c o l) where
    -- too many places
    pub whole-many : t < c → Answer None l
    whole-many h = locate-eq q (listed s) t z ∙ rw (lt-leb (length (candidate q (listed s) t z)) t (rw C.count at h)) refl

    module _ (few : c ≤ t) (room : t ≤ length o) where
      within : c ≤ length l
      within = omega (arith, C.size)

      pub size : length (take c l) ≡ c
      size = length-take-le c l within

      taken : take c l ≡ candidate q (listed s) t z
      taken =
          ext_get_or 0 (take c l) (candidate q (listed s) t z) (size ∙ C.count)
          (λ i h. let k : i < c = rw size at h in get_or-take c l i 0 k ∙ C.found i k (omega arith))

      pub stands : z ≤ 2 ^ q - 1 → Places (2 ^ q - 1) c l
      stands zn = record {
        below = λ i h. rw (C.found i h (omega arith), candidate-passing) (Nat.lt_of_lt_of_le
            (rising-at 0 z (passing (is_root (field_of q) σ) 0 z) (passing-rising (is_root (field_of q) σ) 0 z z (Nat.zero-add z)) i (rw (C.count, candidate-passing) at h)) zn);
      }

      pub places : z ≤ 2 ^ q - 1 → Places (2 ^ q - 1) (length (take c l)) (take c l)
      places zn = places-take (stands zn) within

      look : (b : Bool) → b ≡ agree q (listed s) (take c l) (2 * t) → locate q (listed s) t z ≡ kept (leb c t && b) (take c l)
      look b e =
          locate-eq q (listed s) t z
          ∙ rw (← taken, e) (ap (λ (x : ℕ). kept (leb x t && agree q (listed s) (take c l) (2 * t)) (take c l)) (ap length taken ∙ sym C.count))

      yes_le : leb c t ≡ true
      yes_le = go (leb c t) (le→leb c t few)
        where
          go : (b : Bool) → T b → b ≡ true
          go true u = refl
          go false u = absurd u

      pub whole-found : true ≡ agree q (listed s) (take c l) (2 * t) → Answer (Some c) l
      whole-found e = look true e ∙ rw yes_le refl

      pub whole-none : false ≡ agree q (listed s) (take c l) (2 * t) → Answer None l
      whole-none e = look false e ∙ rw yes_le refl

-- ---- a part of a room
pub zeroed-take : (n : ℕ) (l : List ℕ) → Zeroed l → Zeroed (take n l)
zeroed-take zero l z i = refl
zeroed-take (suc n) [] z i = refl
zeroed-take (suc n) (x ∷ l) z zero = z 0
zeroed-take (suc n) (x ∷ l) z (suc i) = zeroed-take n l (λ i. z (suc i)) i
