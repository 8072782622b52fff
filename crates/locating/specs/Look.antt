-- The last look at places found: their odd power sums against the odd syndromes, by which all agree.
--   listed s j        S_j, where s[0] is S_1
--   from_list q o j    S_j, where o[0], o[1], .. are S_1, S_3, ..
--   front r l         the first c places of l, where r is Some c
use Rattle.std.specs.Prelude.{◌≡◌, refl, Bool, true, false, ◌&&◌, List, map, ℕ, zero, suc, ◌+◌, ◌-◌, ◌*◌, ◌/◌, ◌%◌, ◌^◌, ◌≤◌, ◌<◌, T, eqb, length, get_or, take, ◌⊎◌, Option, Some, None}
use Rattle.std.proofs.Common.{sym, ap, ◌∙◌, zero-le, suc-le-suc, add-one, arith, eqb→eq, pow_pos, inl, inr}
use Rattle.std.proofs.Math.Nat as Nat
use Rattle.std.proofs.Math.Option.{Option as Maybe, none, some}
use Rattle.std.proofs.Math.Decide.{dec_le}
use Rattle.std.proofs.lemmas.List.{length-map}
use Rattle.std.proofs.Math.ListN.{get_or-eq_default}
use Rattle.field.specs.Elements.{syndrome}
use Rattle.field.specs.Fields.{Known}
use Rattle.field.specs.Flips.{flips}
use Rattle.field.specs.Odd.{from_odd, from_odd-even, from_odd-odd, word-odd}
use Rattle.code.specs.Lists.{range}
use Rattle.code.proofs.Pages.{length-range}
use Rattle.code.proofs.Placement.{get_or-map-range}
use Rattle.element.specs.Exponents.{times-lt}
use Rattle.locator.proofs.Found.{is_agree, locate-agree}
use Rattle.locator.specs.Locate.{agree, agree-suc, agree-zero, locate}
use Rattle.massey.specs.Entries.{Below}

abbrev pub listed : List ℕ → ℕ → ℕ
listed s zero = 0
listed s (suc j) = get_or s j 0

abbrev pub from_list : ℕ → List ℕ → ℕ → ℕ
from_list q o j = from_odd q (λ i. get_or o i 0) j

abbrev pub front : Option ℕ → List ℕ → Maybe (List ℕ)
front None l = none
front (Some c) l = some (take c l)

-- ---- all syndromes in a list
module _ (q : ℕ) (known : Known q) (o s : List ℕ) (t : ℕ) (e : s ≡ map (from_list q o) (range 1 (2 * t))) where
  pub all-long : length s ≡ 2 * t
  all-long = ap length e ∙ length-map (range 1 (2 * t)) (from_list q o) ∙ length-range 1 (2 * t)

  at_place : (j : ℕ) → j < 2 * t → get_or s j 0 ≡ from_list q o (suc j)
  at_place j h =
      ap (λ (l : List ℕ). get_or l j 0) e ∙ get_or-map-range (from_list q o) 1 (2 * t) j h ∙ ap (from_list q o) (Nat.add_comm 1 j ∙ add-one j)

  pub listed-is : (j : ℕ) → 0 < j → j ≤ 2 * t → listed s j ≡ from_list q o j
  listed-is zero p h = absurd (Nat.not-suc-le-zero p)
  listed-is (suc j) p h = at_place j h

  pub all-below : Below q o → Below q s
  all-below b = record { lt = λ i. go i (dec_le (suc i) (2 * t)) }
    where
      element-lt : (j r : ℕ) → j % 2 ≡ r → from_list q o j < 2 ^ q
      element-lt j zero w = rw (from_odd-even q (λ i. get_or o i 0) j w) (times-lt q known (from_list q o (j / 2)) (from_list q o (j / 2)))
      element-lt j (suc r) w = rw (from_odd-odd q (λ i. get_or o i 0) j (omega arith)) (b.lt (j / 2))

      go : (i : ℕ) → Dec (suc i ≤ 2 * t) → get_or s i 0 < 2 ^ q
      go i (yes h) = rw (at_place i h) (element-lt (suc i) (suc i % 2) refl)
      go i (no h) = rw (get_or-eq_default s 0 {n = i} (omega (arith, all-long))) (pow_pos q)

  -- places found by either are the same
  pub locate-all : (z : ℕ) → z ≤ 2 ^ q - 1 → locate q (listed s) t z ≡ locate q (from_list q o) t z
  locate-all z h = locate-agree q known (listed s) (from_list q o) t z h listed-is

-- ---- the look
module _ (q : ℕ) (S : ℕ → ℕ) (R : List ℕ) where
  unequal : (k x : ℕ) → x ≡ syndrome q (flips R) (suc k) → (x ≡ S (suc k) → ⊥) → agree q S R (suc k) ≡ false
  unequal k x f n = agree-suc q S R k ∙ go (eqb (syndrome q (flips R) (suc k)) (S (suc k))) refl
    where
      go : (b : Bool) → eqb (syndrome q (flips R) (suc k)) (S (suc k)) ≡ b → b && agree q S R k ≡ false
      go true e = absurd (n (f ∙ eqb→eq (syndrome q (flips R) (suc k)) (S (suc k)) (rw e tt)))
      go false e = refl

  later : (k d : ℕ) → agree q S R k ≡ false → agree q S R (k + d) ≡ false
  later k zero e = rw (Nat.add-zero k) e
  later k (suc d) e = rw (Nat.add-suc k d) (agree-suc q S R (k + d) ∙ rw (later k d e) (none (eqb (syndrome q (flips R) (suc (k + d))) (S (suc (k + d))))))
    where
      none : (b : Bool) → b && false ≡ false
      none true = refl
      none false = refl

  pub agree-not : (k m x : ℕ) → k < m → x ≡ syndrome q (flips R) (suc k) → (x ≡ S (suc k) → ⊥) → false ≡ agree q S R m
  agree-not k m x h f n = sym (rw (Nat.add-sub_of_le h) at (later (suc k) (m - suc k) (unequal k x f n)))

  pub agree_same : (S' : ℕ → ℕ) (m : ℕ) → ((j : ℕ) → 0 < j → j ≤ m → S j ≡ S' j) → agree q S R m ≡ agree q S' R m
  agree_same S' zero h = agree-zero q S R ∙ sym (agree-zero q S' R)
  agree_same S' (suc m) h =
      agree-suc q S R m ∙ rw (h (suc m) (suc-le-suc zero-le) (Nat.le_refl (suc m)), agree_same S' m (λ j p l. h j p (Nat.le_step l))) (sym (agree-suc q S' R m))

-- the odd ones agree, and so all do
pub agree-odd : (q : ℕ) → Known q → (o R : List ℕ) (t : ℕ) → ((i : ℕ) → i < t → get_or o i 0 ≡ syndrome q (flips R) (2 * i + 1)) → true ≡ agree q (from_list q o) R (2 * t)
agree-odd q known o R t h =
    go (agree q (from_list q o) R (2 * t)) (is_agree q (from_list q o) R (2 * t) (λ j p l. sym (word-odd q known (flips R) t (λ i. get_or o i 0) h j p l)))
  where
    go : (b : Bool) → T b → true ≡ b
    go true u = refl
    go false u = absurd u

-- one of them does not
pub agree-not-odd : (q : ℕ) (o R : List ℕ) (k t x : ℕ) → k < t → x ≡ syndrome q (flips R) (2 * k + 1) → (x ≡ get_or o k 0 → ⊥) → false ≡ agree q (from_list q o) R (2 * t)
agree-not-odd q o R k t x h f n =
    agree-not q (from_list q o) R (2 * k) (2 * t) x (omega arith) (f ∙ ap (syndrome q (flips R)) (add-one (2 * k)))
    (λ e. n (e ∙ from_odd-odd q (λ i. get_or o i 0) (suc (2 * k)) (omega arith) ∙ ap (λ (i : ℕ). get_or o i 0) (omega arith)))

-- lists that are the same up to k, and at k
pub one_more : (a b : List ℕ) (k : ℕ) → ((i : ℕ) → i < k → get_or a i 0 ≡ get_or b i 0) → get_or a k 0 ≡ get_or b k 0 → (i : ℕ) → i < k + 1 → get_or a i 0 ≡ get_or b i 0
one_more a b k f e i h = go (Nat.eq-or-lt_of_le (Nat.le_of_suc-le-suc (omega arith)))
  where
    go : (i ≡ k) ⊎ (i < k) → get_or a i 0 ≡ get_or b i 0
    go (inl w) = rw w e
    go (inr l) = f i l
