-- The page of one block alone, sub-word by sub-word from the zero page.
--   Making p rows w unit t        a page in the making, and room for a table
--   Built p i d j unit t acc      the page of the data d in block i is made down to sub-word j, which is not above i or v
use Rattle.std.specs.Prelude.{◌≡◌, refl, ◌≢◌, ◌⊎◌, List, ◌∷◌, ℕ, zero, suc, ◌+◌, ◌-◌, ◌*◌, ◌/◌, ◌%◌, ◌^◌, ◌≤◌, ◌<◌, min, length, get_or, take, drop, replicate}
use Rattle.std.proofs.Common.{sym, ap, ap₂, ◌∙◌, inl, inr, arith, take_all}
use Rattle.std.proofs.Math.Nat as Nat
use Rattle.std.proofs.Math.Decide.{dec_le, ℕ_discrete}
use Rattle.std.proofs.lemmas.List.{length-replicate}
use Rattle.polynomial.specs.Digits.{digits, length_digits, value}
use Rattle.code.specs.declared.Parameters.{Parameters}
use Rattle.code.proofs.Accepted.{accepted}
use Rattle.code.specs.Alter.{alone}
use Rattle.code.proofs.Alter.{alone-own, alone-zero, block-fits, block-has}
use Rattle.code.specs.Calls.{generators}
use Rattle.code.specs.Code.{encode}
use Rattle.code.specs.Layout.{blocks_of, data_bits, one_block, page_bytes, page_of}
use Rattle.code.specs.Parameters.{Accepted, sub_word_bytes}
use Rattle.code.proofs.Placement.{single-else}
use Rattle.layout.specs.Parts.{word_room}
use Rattle.layout.specs.Replaced.{replaced, replaced-after, replaced-before, replaced-length, replaced-part}
use Rattle.layout.specs.Sizes.{Degrees, word-high}
use Rattle.encode.specs.Carried.{room_bytes, zero-value}
use Rattle.layout.specs.Written.{written}
use Rattle.encode.specs.Encoding.{word_alone, word_from}
use Rattle.encode.specs.Page.{Encoded, encoded-all, encoded-next}

pub record Making (p : Parameters) (rows : List (List ℕ)) (w unit t : List ℕ) : Type 0 where
  pub accepts : Accepted p
  pub generated : rows ≡ generators p
  pub degrees : Degrees p w
  pub exact : length unit ≡ page_bytes p
  pub table : length t ≡ 3072

pub record Built (p : Parameters) (i d j : ℕ) (unit t acc : List ℕ) : Type 0 where
  pub page : Encoded p (one_block p i d) j unit
  pub low : j ≤ i
  pub early : j ≤ p.v
  pub table : length t ≡ 3072
  pub room : length acc ≡ room_bytes p

-- ---- numbers moved
-- put into zeros
pub put_in : (x y z : ℕ) → y ≡ x + z → x ≡ 0 → y ≡ z
put_in x y z e h = omega arith

-- moved down, and not cut
pub moved_down : (y d bits : ℕ) → y < 2 ^ 768 → d ≡ y / 2 ^ bits % 2 ^ (8 * 96) → d ≡ y / 2 ^ bits
moved_down y d bits h e = e ∙ Nat.mod-eq_of_lt (Nat.lt_of_le_of_lt (Nat.div-le_self y (2 ^ bits)) h)

-- ---- rooms
-- the room of a rule is of 520 bytes at most
pub room-high : (p : Parameters) → Accepted p → (n : ℕ) → n ≡ room_bytes p → n ≤ 520
room-high p A n e = omega (arith, word-high p A)

-- no data
pub no-data : (n : ℕ) → value 8 (replicate n 0) ≡ 0
no-data n = ap (value 8) (sym (take_all n (replicate n 0) (Nat.le_of_eq (length-replicate {A = ℕ} n 0)))) ∙ zero-value n n

-- the zeros that are lent
pub zeros-take : (n m : ℕ) → n ≤ m → take {A = ℕ} n (replicate m 0) ≡ replicate n 0
zeros-take zero m h = refl
zeros-take (suc n) zero h = absurd (Nat.not-suc-le-zero h)
zeros-take (suc n) (suc m) h = ap (λ (l : List ℕ). 0 ∷ l) (zeros-take n m (Nat.le_of_suc-le-suc h))

-- a part of zeros
zeros-digits : (k n : ℕ) → k ≤ n → take k (replicate n 0) ≡ digits 8 k 0
unfolding digits
zeros-digits zero n h = refl
zeros-digits (suc k) zero h = absurd (Nat.not-suc-le-zero h)
zeros-digits (suc k) (suc n) h =
    ap₂ ◌∷◌ (sym (Nat.zero-mod (2 ^ 8))) (zeros-digits k n (Nat.le_of_suc-le-suc h) ∙ ap (digits 8 k) (sym (Nat.zero-div (2 ^ 8))))

zeros-part : (k o n : ℕ) → o + k ≤ n → take k (drop o (replicate n 0)) ≡ digits 8 k 0
zeros-part k zero n h = zeros-digits k n (omega arith)
zeros-part k (suc o) zero h = absurd (Nat.not-suc-le-zero {n = o + k} (omega arith))
zeros-part k (suc o) (suc n) h = zeros-part k o n (omega arith)

module _ (p : Parameters) (A : Accepted p) (i d : ℕ) (li : i < p.m) (ld : d < 2 ^ data_bits p i) where
  words_are : encode p (blocks_of p (one_block p i d)) ≡ alone p i d
  words_are = ap (encode p) (block-has p (accepted p A) i d li ld)

  -- sub-word i in the zero page: from min i v on it is that page
  pub unit-start : (y : List ℕ) → y ≡ written p (replicate (page_bytes p) 0) i (word_alone p d i) → Encoded p (one_block p i d) (min i p.v) y
  unit-start y e = rw e (record {
    exact = replaced-length zeros (i * k) c room ∙ length-replicate (page_bytes p) 0;
    each = λ j h l. each j h l (ℕ_discrete j i);
  })
    where
      k : ℕ
      k = sub_word_bytes p

      zeros : List ℕ
      zeros = replicate (page_bytes p) 0

      c : List ℕ
      c = digits 8 (sub_word_bytes p) (word_alone p d i)

      size : length c ≡ k
      size = length_digits 8 k (word_alone p d i)

      room : i * k + length c ≤ length zeros
      room = rw (size, length-replicate {A = ℕ} (page_bytes p) 0) (word_room p i li)

      nothing : (j : ℕ) → j < p.m → j ≢ i → (i < j) ⊎ (p.v ≤ j) → take k (drop (j * k) zeros) ≡ digits 8 k (get_or (encode p (blocks_of p (one_block p i d))) j 0)
      nothing j l n m =
          zeros-part k (j * k) (page_bytes p) (word_room p j l)
          ∙ ap (digits 8 k) (sym (ap (λ (cs : List ℕ). get_or cs j 0) words_are ∙ alone-zero p (accepted p A) i d li ld j l n m))

      each : (j : ℕ) → min i p.v ≤ j → j < p.m → Dec (j ≡ i)
          → take k (drop (j * k) (replaced zeros (i * k) c)) ≡ digits 8 k (get_or (encode p (blocks_of p (one_block p i d))) j 0)
      each j h l (yes s) =
          rw s (ap (λ (n : ℕ). take n (drop (i * k) (replaced zeros (i * k) c))) (sym size) ∙ replaced-part zeros (i * k) c room
          ∙ ap (digits 8 k) (sym (ap (λ (cs : List ℕ). get_or cs i 0) words_are ∙ alone-own p (accepted p A) i d li ld)))
      each j h l (no s) = go (dec_le (suc j) i)
        where
          go : Dec (j < i) → take k (drop (j * k) (replaced zeros (i * k) c)) ≡ digits 8 k (get_or (encode p (blocks_of p (one_block p i d))) j 0)
          go (yes u) =
              replaced-before zeros (i * k) c room (j * k) k (rw (← Nat.suc-mul j k) (Nat.mul-le-mul_right k u))
              ∙ nothing j l s (inr (below j h u))
            where
              below : (j : ℕ) → min i p.v ≤ j → j < i → p.v ≤ j
              below j h u = pick (dec_le i p.v)
                where
                  pick : Dec (i ≤ p.v) → p.v ≤ j
                  pick (yes q) = absurd (Nat.lt_irrefl j (Nat.lt_of_lt_of_le u (rw (Nat.min-eq_left q) at h)))
                  pick (no q) = rw (Nat.min-eq_right (let z : p.v ≤ i = omega arith in z)) at h
          go (no u) =
              let b : i < j = above j s u in
              ap (take k) (replaced-after zeros (i * k) c room (j * k) (rw (size, ← Nat.suc-mul i k) (Nat.mul-le-mul_right k b)))
              ∙ nothing j l s (inl b)
            where
              above : (j : ℕ) → j ≢ i → (j < i → ⊥) → i < j
              above j d u = pick (Nat.eq-or-lt_of_le (let z : i ≤ j = omega arith in z))
                where
                  pick : (i ≡ j) ⊎ (i < j) → i < j
                  pick (inl q) = absurd (d (sym q))
                  pick (inr q) = q

  -- a sub-word below both
  pub unit-next : (x y : List ℕ) (j : ℕ) → j < i → Encoded p (one_block p i d) (suc j) x → y ≡ written p x j (word_from p 0 x j)
      → Encoded p (one_block p i d) j y
  unit-next x y j h E e =
      let l : j < p.m = Nat.lt_trans h li in
      let z : get_or (blocks_of p (one_block p i d)) j 0 ≡ 0 =
      ap (λ (ds : List ℕ). get_or ds j 0) (block-has p (accepted p A) i d li ld) ∙ single-else p i d j l (λ q. Nat.lt_irrefl j (rw (← q) at h)) in
      rw (e ∙ ap (λ (f : ℕ). written p x j (word_from p f x j)) (sym z)) (encoded-next p A (one_block p i d) (block-fits p (accepted p A) i d li ld) x j l E)

  pub unit-done : (x : List ℕ) (j : ℕ) → j ≡ 0 → Encoded p (one_block p i d) j x → x ≡ page_of p (one_block p i d)
  unit-done x j z E = encoded-all p A (one_block p i d) (block-fits p (accepted p A) i d li ld) x j z E

  pub built-start : (j : ℕ) (y t acc : List ℕ) → j ≡ min i p.v → y ≡ written p (replicate (page_bytes p) 0) i (word_alone p d i)
      → length t ≡ 3072 → length acc ≡ room_bytes p → Built p i d j y t acc
  built-start j y t acc e f a b = record {
    page = rw e (unit-start y f);
    low = rw e (Nat.min-le_left i p.v);
    early = rw e (Nat.min-le_right i p.v);
    table = a;
    room = b;
  }

  pub built-next : (j : ℕ) (x y t t' acc acc' : List ℕ) → Built p i d j x t acc → 0 < j → y ≡ written p x (j - 1) (word_from p 0 x (j - 1))
      → length t' ≡ length t → length acc' ≡ length acc → Built p i d (j - 1) y t' acc'
  built-next j x y t t' acc acc' B h e a b =
      let s : suc (j - 1) ≡ j = omega arith in
      record {
        page = unit-next x y (j - 1) (omega (arith, B.low)) (rw s B.page) e;
        low = omega (arith, B.low);
        early = omega (arith, B.early);
        table = a ∙ B.table;
        room = b ∙ B.room;
      }
