-- What a round finds, by rows of syndromes.
--   found_by p a rows ks i    what is found at level a for sub-word i, one of the broken ks, by the rows
--   Asked p a k rows ks      rows of the field's numbers, a level and its strength k, broken sub-words of a round: rising, v at most
use Rattle.std.specs.Prelude.{◌≡◌, Bool, not, ◌≢◌, List, [], ◌∷◌, map, ℕ, ◌+◌, ◌-◌, ◌*◌, ◌/◌, ◌^◌, ◌≤◌, ◌<◌, Option as RustOption, Some, None, IfSome, is_some, length, get_or, take}
use Rattle.std.proofs.Common.{sym, ap, ◌∙◌, zero-le, arith}
use Rattle.std.proofs.Math.Option.{Option, some}
use Rattle.std.proofs.Math.Nat as Nat
use Rattle.polynomial.specs.Sums.{All}
use Rattle.field.specs.Elements.{power, power-num, times}
use Rattle.field.specs.Field.{pow-mul}
use Rattle.field.specs.Fields.{Known, field_of, field_of-exponent}
use Rattle.field.specs.Flips.{Rising}
use Rattle.field.specs.Odd.{from_odd, from_odd-even, from_odd-is, from_odd-odd}
use Rattle.field.specs.Unmix.{unmix}
use Rattle.locator.proofs.Found.{complete, locate-agree, sound}
use Rattle.locator.specs.Locate.{locate}
use Rattle.code.specs.declared.Parameters.{Parameters}
use Rattle.code.specs.Accepted.{Rules}
use Rattle.code.proofs.Accepted.{accepted, rising, stored-le, strength-high}
use Rattle.code.proofs.Filled.{map_at, map-length}
use Rattle.code.specs.Lists.{range}
use Rattle.code.proofs.Mend.{same-option}
use Rattle.code.specs.Nest.{Mem, error_of, node, others}
use Rattle.code.specs.Parameters.{Accepted, stored, strength}
use Rattle.code.specs.Refusals.{nowhere}
use Rattle.code.proofs.Rounds.{error-iff, error-sound, mem-from, node-apart, others_apart, others-fewer}
use Rattle.element.specs.declared.Field.{Field}
use Rattle.locating.specs.Look.{from_list, front}
use Rattle.massey.specs.Entries.{Below, el}
use Rattle.mend.specs.Settled.{Lent, Settled, found-is}
use Rattle.unmix.specs.Nodes.{Apart, unmixed_at, weight_at, weight_at-eq}
use Rattle.unmix.specs.Sums.{below-map}

abbrev pub found_by : Parameters → ℕ → List ℕ → List ℕ → ℕ → Option (List ℕ)
found_by p a rows ks i = error_of p a (from_odd p.q (unmixed_at p.q rows (others i ks) i))

pub record Asked (p : Parameters) (a k : ℕ) (rows ks : List ℕ) : Type 0 where
  pub level : a ≤ p.v
  pub strength : k ≡ strength p a
  pub size : length rows ≡ 192
  pub below : Below p.q rows
  pub few : length ks ≤ p.v
  pub rising : Rising 0 p.m ks

-- ---- weights are numbers of the field
weight-lt : (q : ℕ) → Known q → (j i : ℕ) (ks : List ℕ) (N : ℕ → ℕ) → weight_at q j i ks N < 2 ^ q
weight-lt q known j i ks N =
    let B = field_of q in
    rw (weight_at-eq q j i ks N)
    (Nat.lt_of_lt_of_le (B.num-lt (unmix B (node B j i) (map (node B j) ks) (λ l. el q (N l)))) (Nat.le_of_eq (ap (λ (k : ℕ). 2 ^ k) (field_of-exponent q known))))

-- ---- odd syndromes in a list, and all from them
module _ (q : ℕ) (known : Known q) (O : ℕ → ℕ) (t : ℕ) (o : List ℕ) (e : o ≡ map O (range 0 t)) where
  doubled : (j : ℕ) → times q (from_odd q O j) (from_odd q O j) ≡ from_odd q O (j + j)
  doubled j =
      let h : (j + j) / 2 ≡ j = omega arith in
      sym (from_odd-even q O (j + j) (omega arith) ∙ ap (λ (j : ℕ). times q (from_odd q O j) (from_odd q O j)) h)

  single : (i : ℕ) → i < t → get_or o i 0 ≡ from_odd q O (2 * i + 1)
  single i h =
      let k : (2 * i + 1) / 2 ≡ i = omega arith in
      map_at O t o e i h ∙ sym (from_odd-odd q O (2 * i + 1) (omega arith) ∙ ap O k)

  pub locate-listed : (z : ℕ) → z ≤ 2 ^ q - 1 → locate q (from_list q o) t z ≡ locate q (from_odd q O) t z
  locate-listed z h =
      locate-agree q known (from_list q o) (from_odd q O) t z h
      (from_odd-is q t (from_odd q O) (λ i. get_or o i 0) (λ j l b. doubled j) single)

module _ (p : Parameters) (A : Accepted p) (a : ℕ) (av : a ≤ p.v) where
  R : Rules p
  R = accepted p A

  -- ---- places located are those of the error
  pub error-located : (S : ℕ → ℕ) → locate p.q S (strength p a) (stored p) ≡ error_of p a S
  error-located S =
      same-option (locate p.q S (strength p a) (stored p)) (error_of p a S)
      (λ Q e. let L = sound p.q R.known S (strength p a) (stored p) Q e in
      (error-iff p R a av S Q).1 (record { rising = L.rising; few = L.few; sums = L.sums }))
      (λ Q e. let E = (error-iff p R a av S Q).0 e in
      complete p.q R.known S (strength p a) (stored p) (stored-le p R) Q (record { rising = E.rising; few = E.few; sums = E.sums }))

  -- ---- nodes of the others are others
  power-node : (j i : ℕ) → power p.q (j * i) ≡ (field_of p.q).num (node (field_of p.q) j i)
  power-node j i = let B = field_of p.q in sym (power-num p.q R.known (j * i)) ∙ ap B.num (pow-mul B.field B.α j i)

  apart-at : (j i : ℕ) → 0 < j → j ≤ 2 * strength p p.v → i < p.m → (ks : List ℕ) → All (λ k. (k ≢ i) × (k < p.m)) ks
      → All (λ k. power p.q (j * k) ≢ power p.q (j * i)) ks
  apart-at j i o h im [] n = tt
  apart-at j i o h im (k ∷ ks) n =
      let B = field_of p.q in (
        (λ e. node-apart p A j k i o h n.0.1 im n.0.0 (B.num-inj (node B j k) (node B j i) (sym (power-node j k) ∙ e ∙ power-node j i))),
        apart-at j i o h im ks n.1,
      )

  -- ---- what is found stands at stored places
  pub found-rising : (rows ks : List ℕ) (i : ℕ) (Q : List ℕ) → found_by p a rows ks i ≡ some Q → Rising 0 (stored p) Q
  found-rising rows ks i Q e = (error-sound p R a av (from_odd p.q (unmixed_at p.q rows (others i ks) i)) Q e).rising

  pub found-rise : (rows ks : List ℕ) (i t : ℕ) (r : RustOption ℕ) (l : List ℕ) → found_by p a rows ks i ≡ front r l
      → IfSome r (λ c. c ≤ t) → t ≤ length l → IfSome r (λ c. (c ≤ length l) × Rising 0 (stored p) (take c l))
  found-rise rows ks i t None l e h k = tt
  found-rise rows ks i t (Some c) l e h k = (Nat.le_trans h k, found-rising rows ks i (take c l) e)

below-eight : (i n : ℕ) (ks : List ℕ) → n ≤ 8 → All (λ k. (k ≢ i) × (k < n)) ks → All (λ k. k < 8) ks
below-eight i n [] h a = tt
below-eight i n (k ∷ ks) h a = (Nat.lt_of_lt_of_le a.0.1 h, below-eight i n ks h a.1)

-- ---- one sub-word, by lent tables
module _ {p : Parameters} {f : Field} {powers logs : List ℕ} (L : Lent p f powers logs) {a k : ℕ} {rows ks : List ℕ} (Q : Asked p a k rows ks) (i : ℕ) (m : Mem i ks) where
  rules : Rules p
  rules = accepted p L.accepts

  pub asked-few : k ≤ 64
  asked-few = rw Q.strength (strength-high p L.accepts a Q.level)

  pub asked-below : i < p.m
  asked-below = (mem-from 0 p.m ks i Q.rising m).1

  pub asked-small : i < 8
  asked-small = Nat.lt_of_lt_of_le asked-below rules.m-high

  pub asked-short : 2 * k < 2 ^ f.q - 1
  asked-short =
      let h = rising p rules a p.v Q.level (Nat.le_refl p.v) in
      let o = rising p rules 0 a zero-le Q.level in
      rw L.field (omega (arith, h, o, Q.strength, rules.short, rules.t-low))

  pub asked-stored : (z : ℕ) → z ≡ stored p → z ≤ 2 ^ f.q - 1
  asked-stored z e = rw (L.field, e) (stored-le p rules)

  -- the others
  module _ (l : List ℕ) (e : l ≡ others i ks) where
    pub others-two : length l ≤ 2
    others-two = rw e (omega (arith, others-fewer i 0 p.m ks Q.rising m, Q.few, rules.v_high))

    pub others-small : All (λ j. j < 8) l
    others-small = rw e (below-eight i p.m (others i ks) rules.m-high (others_apart i 0 p.m ks Q.rising))

    pub others-nodes : (t : ℕ) → t ≡ k → Apart f.q t i l
    others-nodes t w = rw (L.field, e) (record {
      at = λ j h.
          apart-at p L.accepts a Q.level (2 * j + 1) i (omega arith)
          (omega (arith, h, w, Q.strength, rising p rules a p.v Q.level (Nat.le_refl p.v))) asked-below (others i ks) (others_apart i 0 p.m ks Q.rising);
    })

    -- its odd syndromes, and what is found by them
    module _ (t : ℕ) (w : t ≡ k) (o : List ℕ) (made : o ≡ map (unmixed_at f.q rows l i) (range 0 t)) where
      abbrev O : ℕ → ℕ
      O = unmixed_at p.q rows (others i ks) i

      odd_is : o ≡ map O (range 0 k)
      odd_is = rw (L.field, e, w) at made

      pub odd-size : length o ≡ k
      odd-size = map-length O k o odd_is

      pub odd-below : Below f.q o
      odd-below = rw L.field (below-map p.q O k o (λ j. weight-lt p.q rules.known (2 * j + 1) i (others i ks) (λ l. get_or rows (64 * l + j) 0)) odd_is)

      pub found-located : (z : ℕ) → z ≡ stored p → (r : Option (List ℕ)) → locate f.q (from_list f.q o) k z ≡ r → found_by p a rows ks i ≡ r
      found-located z v r h =
          sym (error-located p L.accepts a Q.level (from_odd p.q O))
          ∙ ap (λ (t : ℕ). locate p.q (from_odd p.q O) t (stored p)) (sym Q.strength)
          ∙ sym (locate-listed p.q rules.known O k o odd_is (stored p) (stored-le p rules)) ∙ (rw (L.field, v) at h)

-- what is found done to the sub-word, and whether something is
pub settled-found : (p : Parameters) (x : List ℕ) (i : ℕ) (o : Option (List ℕ)) (r : RustOption ℕ) (l y : List ℕ) (b : Bool) → o ≡ front r l
    → Settled p x i (front r l) y × (b ≡ is_some r) → Settled p x i o y × (b ≡ not (nowhere o))
settled-found p x i o r l y b e S = rw e (S.0, S.1 ∙ found-is r l)
