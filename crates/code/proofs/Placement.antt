-- Placement, literally over bytes: where a sub-word's coefficients, a block's bits and the check bits stand.
-- Blocks that fit are known by their bits, and any bits are blocks that fit.
use Rattle.std.specs.Prelude.{◌≡◌, List, [], ◌∷◌, ◌++◌, map, ◌≢◌, ◌⊎◌, ℕ, zero, suc, ◌+◌, ◌-◌, ◌*◌, ◌/◌, ◌%◌, ◌^◌, ◌≤◌, ◌<◌, min, length, set, take, drop, replicate}
use Rattle.std.proofs.Math.Path.{refl, sym, ap}
use Rattle.std.proofs.Common.{ap₂, ◌∙◌, inl, inr, zero-le, suc-le-suc, arith, length-drop, length-set, length-take, ext_get_or, get_or-take, get_or-drop, get_or-append-add, get_or-set_same, get_or-set_other}
use Rattle.std.proofs.Math.Nat as Nat
use Rattle.std.proofs.Math.Decide.{ℕ_discrete}
use Rattle.std.proofs.Math.ListN.{get_or, get_or-append}
use Rattle.std.proofs.lemmas.List.{get_or-replicate, length-replicate}
use Rattle.polynomial.specs.Bits.{coefficient}
use Rattle.polynomial.specs.Coefficients.{high-coefficient, same_bits}
use Rattle.polynomial.specs.Digits.{digits, digits-coefficient, digits_value, length_digits, low-coefficient, value, value-coefficient}
use Rattle.polynomial.specs.Sums.{All, all_drop, all_take, at_all}
use Rattle.polynomial.specs.Xor.{xor}
use Rattle.code.specs.declared.Parameters.{Parameters}
use Rattle.code.specs.Accepted.{Rules}
use Rattle.code.proofs.Accepted.{lawful, stored-room}
use Rattle.code.proofs.Bytes.{split_at}
use Rattle.code.specs.Code.{carried, check_bits, checked, data_from, data_words, encode, encode_from, level, remainder}
use Rattle.code.proofs.Encode.{Sized, checked-data, checked-low}
use Rattle.code.specs.Layout.{Bytes, Fits, bit_from, block_bit, block_bits, block_offset, block_sizes}
use Rattle.code.specs.Layout.{blocks_of, coefficient_of, data_bits, data_of, page_of, single, stored_of, word_sizes, words_of}
use Rattle.code.specs.Lists.{join, part, range, split, sum}
use Rattle.code.proofs.Pages.{IsBlocks, block_bits-eq, block_sizes-eq, blocks-blocks, blocks-fit, blocks-join, blocks_of-eq, data_of-eq}
use Rattle.code.proofs.Pages.{join-blocks, length-bits, length-blocks, length-data, length-sizes, page-has, page-is}
use Rattle.code.proofs.Pages.{stored-words, stored_of-eq, whole, words-many, words_of-eq}
use Rattle.code.specs.Parameters.{stored, sub_word_bytes}
use Rattle.code.proofs.Steps.{data-cons, data-nil, encode-cons}

eight : 0 < 8
eight = suc-le-suc zero-le

below : (k z : ℕ) → k < 8 * z → k / 8 < z
below k z h = omega arith

-- ---- bits of runs of bytes
split-bit : (ks bs : List ℕ) → Bytes bs → (i k : ℕ) → k < 8 * get_or ks i 0
    → coefficient (get_or (split ks bs) i 0) k ≡ bit_from bs (sum (take i ks)) k
unfolding split sum
split-bit [] bs h i k l = absurd (Nat.not-suc-le-zero l)
split-bit (z ∷ ks) bs h zero k l =
    value-coefficient 8 eight (take z bs) (all_take (λ b. b < 256) z bs h) k
    ∙ ap (λ (b : ℕ). coefficient b (k % 8))
    (get_or-take z bs (k / 8) 0 (below k z l) ∙ ap (λ (j : ℕ). get_or bs j 0) (sym (Nat.zero-add (k / 8))))
split-bit (z ∷ ks) bs h (suc i) k l =
    split-bit ks (drop z bs) (all_drop (λ b. b < 256) z bs h) i k l
    ∙ ap (λ (b : ℕ). coefficient b (k % 8))
    (get_or-drop z bs (sum (take i ks) + k / 8) 0 ∙ ap (λ (j : ℕ). get_or bs j 0) (sym (Nat.add_assoc z (sum (take i ks)) (k / 8))))

join-bit : (ks xs : List ℕ) → length xs ≡ length ks → (i k : ℕ) → k < 8 * get_or ks i 0
    → bit_from (join ks xs) (sum (take i ks)) k ≡ coefficient (get_or xs i 0) k
unfolding join sum
join-bit [] xs e i k l = absurd (Nat.not-suc-le-zero l)
join-bit (z ∷ ks) [] e i k l = absurd (Nat.suc-ne-zero (length ks) (sym e))
join-bit (z ∷ ks) (x ∷ xs) e zero k l =
    ap (λ (b : ℕ). coefficient b (k % 8)) (ap (λ (j : ℕ). get_or (digits 8 z x ++ join ks xs) j 0) (Nat.zero-add (k / 8))
    ∙ get_or-append (digits 8 z x) (join ks xs) 0 (k / 8) (rw (length_digits 8 z x) (below k z l)))
    ∙ digits-coefficient 8 eight z x k l
join-bit (z ∷ ks) (x ∷ xs) e (suc i) k l =
    ap (λ (b : ℕ). coefficient b (k % 8)) (ap (λ (j : ℕ). get_or (digits 8 z x ++ join ks xs) j 0)
    (Nat.add_assoc z (sum (take i ks)) (k / 8) ∙ ap (λ (j : ℕ). j + (sum (take i ks) + k / 8)) (sym (length_digits 8 z x)))
    ∙ get_or-append-add (digits 8 z x) (join ks xs) (sum (take i ks) + k / 8) 0)
    ∙ join-bit ks xs (Nat.suc_inj e) i k l

-- ---- offsets and sizes
pub offset-replicate : (m b i : ℕ) → i ≤ m → sum (take i (replicate m b)) ≡ i * b
unfolding sum
offset-replicate m b zero h = sym (Nat.zero-mul b)
offset-replicate zero b (suc i) h = absurd (Nat.not-suc-le-zero h)
offset-replicate (suc m) b (suc i) h = ap (λ (y : ℕ). b + y) (offset-replicate m b i (Nat.le_of_suc-le-suc h)) ∙ omega arith

pub get_or-map-range : (f : ℕ → ℕ) (a k i : ℕ) → i < k → get_or (map f (range a k)) i 0 ≡ f (a + i)
unfolding range
get_or-map-range f a zero i h = absurd (Nat.not-suc-le-zero h)
get_or-map-range f a (suc k) zero h = ap f (sym (Nat.add-zero a))
get_or-map-range f a (suc k) (suc i) h =
    get_or-map-range f (suc a) k i (Nat.le_of_suc-le-suc h) ∙ ap f (Nat.suc-add a i ∙ sym (Nat.add-suc a i))

-- a list that begins with f 0 to f (k - 1), and one element more
pub first_more : (f : ℕ → ℕ) (k d : ℕ) (l : List ℕ) → k < length l → ((i : ℕ) → i < k → get_or l i 0 ≡ f i) → d ≡ f k
    → (i : ℕ) → i < k + 1 → get_or (set l k d) i 0 ≡ f i
first_more f k d l h b e i j = go (Nat.eq-or-lt_of_le (Nat.le_of_suc-le-suc (omega arith)))
  where
    go : (i ≡ k) ⊎ (i < k) → get_or (set l k d) i 0 ≡ f i
    go (inl g) = rw g (get_or-set_same l k d 0 h ∙ e)
    go (inr g) = get_or-set_other l k i d 0 (λ s. omega arith) ∙ b i g

get_d_map : (f : ℕ → ℕ) (l : List ℕ) (i : ℕ) → i < length l → get_or (map f l) i 0 ≡ f (get_or l i 0)
get_d_map f [] i h = absurd (Nat.not-suc-le-zero h)
get_d_map f (x ∷ l) zero h = refl
get_d_map f (x ∷ l) (suc i) h = get_d_map f l i (Nat.le_of_suc-le-suc h)

-- ---- words one by one
-- the data of word j + i, for any i: past the end both are 0
pub data-at : (p : Parameters) (j i : ℕ) (cs : List ℕ) → get_or (data_from p j cs) i 0 ≡ get_or cs i 0 / 2 ^ check_bits p (j + i)
data-at p j i [] = ap (λ (l : List ℕ). get_or l i 0) (data-nil p j) ∙ sym (Nat.zero-div (2 ^ check_bits p (j + i)))
data-at p j zero (c ∷ cs) =
    ap (λ (l : List ℕ). get_or l 0 0) (data-cons p j c cs) ∙ ap (λ (k : ℕ). c / 2 ^ check_bits p k) (sym (Nat.add-zero j))
data-at p j (suc i) (c ∷ cs) =
    ap (λ (l : List ℕ). get_or l (suc i) 0) (data-cons p j c cs) ∙ data-at p (suc j) i cs
    ∙ ap (λ (k : ℕ). get_or cs i 0 / 2 ^ check_bits p k) (Nat.suc-add j i ∙ sym (Nat.add-suc j i))

-- the word j + i that encoding makes, from its data and the later words
pub encode-at : (p : Parameters) (j i : ℕ) (ds : List ℕ) → i < length ds
    → get_or (encode_from p j ds) i 0
    ≡ checked p (level p (j + i)) (get_or ds i 0 * 2 ^ check_bits p (j + i))
    (carried (level p (j + i)) (j + i) (drop (suc i) (encode_from p j ds)))
encode-at p j i [] h = absurd (Nat.not-suc-le-zero h)
encode-at p j zero (d ∷ ds) h =
    rw (encode-cons p j d ds)
    (ap (λ (k : ℕ). checked p (level p k) (d * 2 ^ check_bits p k) (carried (level p k) k (encode_from p (suc j) ds))) (sym (Nat.add-zero j)))
encode-at p j (suc i) (d ∷ ds) h =
    rw (encode-cons p j d ds) (encode-at p (suc j) i ds (Nat.le_of_suc-le-suc h)
    ∙ ap (λ (k : ℕ). checked p (level p k) (get_or ds i 0 * 2 ^ check_bits p k)
    (carried (level p k) k (drop (suc i) (encode_from p (suc j) ds)))) (Nat.suc-add j i ∙ sym (Nat.add-suc j i)))

module _ (p : Parameters) where
  pub page-size : (i : ℕ) → i < p.m → get_or (word_sizes p) i 0 ≡ sub_word_bytes p
  page-size i h = get_or-replicate p.m i (sub_word_bytes p) 0 h

  pub bits_at : (i : ℕ) → i < p.m → get_or (block_bits p) i 0 ≡ data_bits p i
  bits_at i h = rw (block_bits-eq p) (get_or-map-range (data_bits p) 0 p.m i h) ∙ ap (data_bits p) (Nat.zero-add i)

  pub block_size : (i : ℕ) → i < p.m → get_or (block_sizes p) i 0 ≡ (data_bits p i + 7) / 8
  block_size i h =
      rw (block_sizes-eq p) (get_d_map (λ b. (b + 7) / 8) (block_bits p) i (rw (length-bits p) h)
      ∙ ap (λ (b : ℕ). (b + 7) / 8) (bits_at i h))

  -- the number of sub-word i
  pub word_at : (x : List ℕ) (i : ℕ) → i < p.m → get_or (words_of p x) i 0 ≡ value 8 (take (sub_word_bytes p) (drop (i * sub_word_bytes p) x))
  word_at x i h =
      rw (words_of-eq p x) (split_at (word_sizes p) x i (rw (length-sizes p) h)
      ∙ ap₂ (λ (k o : ℕ). value 8 (take k (drop o x))) (page-size i h) (offset-replicate p.m (sub_word_bytes p) i (Nat.le_of_suc-le h)))

  -- pages with the same sub-word have the same bytes of it
  pub same-part : (y z : List ℕ) (j : ℕ) → j < p.m → Bytes y → Bytes z → length y ≡ length z → get_or (words_of p y) j 0 ≡ get_or (words_of p z) j 0
      → part (sub_word_bytes p) j y ≡ part (sub_word_bytes p) j z
  same-part y z j l b c e f =
      sym (whole_part y b)
      ∙ ap₂ (digits 8) (length_part y ∙ ap (λ (k : ℕ). min (sub_word_bytes p) (k - j * sub_word_bytes p)) e ∙ sym (length_part z))
      (sym (word_at y j l) ∙ f ∙ word_at z j l)
      ∙ whole_part z c
    where
      length_part : (y : List ℕ) → length (part (sub_word_bytes p) j y) ≡ min (sub_word_bytes p) (length y - j * sub_word_bytes p)
      length_part y = length-take (sub_word_bytes p) (drop (j * sub_word_bytes p) y) ∙ ap (min (sub_word_bytes p)) (length-drop (j * sub_word_bytes p) y)

      whole_part : (y : List ℕ) → Bytes y → digits 8 (length (part (sub_word_bytes p) j y)) (value 8 (part (sub_word_bytes p) j y)) ≡ part (sub_word_bytes p) j y
      whole_part y b =
          digits_value 8 (part (sub_word_bytes p) j y)
          (all_take (λ d. d < 256) (sub_word_bytes p) (drop (j * sub_word_bytes p) y) (all_drop (λ d. d < 256) (j * sub_word_bytes p) y b))

  -- the stored coefficients of sub-word i
  pub stored_at : (x : List ℕ) (i : ℕ) → i < p.m → get_or (stored_of p x) i 0 ≡ get_or (words_of p x) i 0 % 2 ^ stored p
  stored_at x i l = rw (stored_of-eq p x) (get_d_map (λ c. c % 2 ^ stored p) (words_of p x) i (rw (words-many p x) l))

  pub offset-eq : (i : ℕ) → block_offset p i ≡ sum (take i (block_sizes p))
  unfolding block_offset
  offset-eq i = refl

module _ (p : Parameters) (R : Rules p) where
  word_room : (k : ℕ) → k < stored p → k < 8 * sub_word_bytes p
  word_room k h = Nat.lt_of_lt_of_le h (whole (stored p))

  page-offset : (i : ℕ) → i < p.m → sum (take i (word_sizes p)) ≡ i * sub_word_bytes p
  page-offset i h = offset-replicate p.m (sub_word_bytes p) i (Nat.le_of_suc-le h)

  block_room : (i r : ℕ) → i < p.m → r < data_bits p i → r < 8 * get_or (block_sizes p) i 0
  block_room i r h l = rw (block_size p i h) (Nat.lt_of_lt_of_le l (whole (data_bits p i)))

  -- the coefficient of x^k of sub-word i is bit k mod 8 of byte i × (n - s + 7) / 8 + k div 8; so the spare bits stand
  pub place-bit : (x : List ℕ) → Bytes x → (i k : ℕ) → i < p.m → k < 8 * sub_word_bytes p
      → coefficient (get_or (words_of p x) i 0) k ≡ coefficient_of p x i k
  place-bit x h i k l b =
      rw (words_of-eq p x) (split-bit (word_sizes p) x h i k (rw (page-size p i l) b)) ∙ ap (λ (o : ℕ). bit_from x o k) (page-offset i l)

  pub sub-word-bit : (x : List ℕ) → Bytes x → (i k : ℕ) → i < p.m → k < stored p
      → coefficient (get_or (words_of p x) i 0) k ≡ coefficient_of p x i k
  sub-word-bit x h i k l b = place-bit x h i k l (word_room k b)

  -- bit r of block i is that of its number
  pub block-bit : (x : List ℕ) → Bytes x → (i r : ℕ) → i < p.m → r < data_bits p i
      → coefficient (get_or (blocks_of p x) i 0) r ≡ block_bit p x i r
  block-bit x h i r l b =
      rw (blocks_of-eq p x) (split-bit (block_sizes p) x h i r (block_room i r l b)) ∙ ap (λ (o : ℕ). bit_from x o r) (sym (offset-eq p i))

  level-low : (i : ℕ) → level p i ≤ p.v
  level-low i = Nat.sub-le p.v i

  -- check and data bits lie within the stored places
  pub data-room : (i r : ℕ) → r < data_bits p i → check_bits p i + r < stored p
  data-room i r h = omega (arith, stored-room p R (level p i) (level-low i))

  module _ (x : List ℕ) (h : Fits p x) where
    encoded-at : (i : ℕ) → i < p.m → get_or (encode p (blocks_of p x)) i 0
        ≡ checked p (level p i) (get_or (blocks_of p x) i 0 * 2 ^ check_bits p i)
        (carried (level p i) i (drop (suc i) (encode p (blocks_of p x))))
    unfolding encode
    encoded-at i l =
        encode-at p 0 i (blocks_of p x) (rw (blocks-blocks p R x h).many l)
        ∙ ap (λ (k : ℕ). checked p (level p k) (get_or (blocks_of p x) i 0 * 2 ^ check_bits p k)
        (carried (level p k) k (drop (suc i) (encode_from p 0 (blocks_of p x))))) (Nat.zero-add i)

    -- in the written page, bit r of block i is the coefficient of x^(w + r) of sub-word i
    pub written-bit : (i r : ℕ) → i < p.m → r < data_bits p i → coefficient_of p (page_of p x) i (check_bits p i + r) ≡ block_bit p x i r
    written-bit i r l b =
        sym (sub-word-bit (page_of p x) (page-is p R x h).bytes i (check_bits p i + r) l (data-room i r b))
        ∙ ap (λ (cs : List ℕ). coefficient (get_or cs i 0) (check_bits p i + r)) (page-has p R x h)
        ∙ high-coefficient (get_or (encode p (blocks_of p x)) i 0) (check_bits p i) r
        ∙ ap (λ (d : ℕ). coefficient d r) (ap (λ (c : ℕ). c / 2 ^ check_bits p i) (encoded-at i l)
        ∙ checked-data p (lawful p R).degrees (level p i) (level-low i) (get_or (blocks_of p x) i 0)
        (carried (level p i) i (drop (suc i) (encode p (blocks_of p x)))))
        ∙ block-bit x h.bytes i r l b

    -- its check bits are the w lowest places: the remainder of the data in their places with what the later words carry
    pub check-bits : (i : ℕ) → i < p.m → get_or (words_of p (page_of p x)) i 0 % 2 ^ check_bits p i
        ≡ remainder p (level p i)
        (xor (get_or (blocks_of p x) i 0 * 2 ^ check_bits p i) (carried (level p i) i (drop (suc i) (words_of p (page_of p x)))))
    check-bits i l =
        rw (page-has p R x h) (ap (λ (c : ℕ). c % 2 ^ check_bits p i) (encoded-at i l)
        ∙ checked-low p (lawful p R).degrees (level p i) (level-low i) (get_or (blocks_of p x) i 0)
        (carried (level p i) i (drop (suc i) (encode p (blocks_of p x)))))

  stored-bit : (x : List ℕ) → Bytes x → (i k : ℕ) → i < p.m → k < stored p → coefficient (get_or (stored_of p x) i 0) k ≡ coefficient_of p x i k
  stored-bit x h i k l b =
      ap (λ (c : ℕ). coefficient c k) (stored_at p x i l) ∙ low-coefficient (stored p) (get_or (words_of p x) i 0) k b ∙ sub-word-bit x h i k l b

  -- in what read out gives, bit r of block i is the coefficient of x^(w + r) of sub-word i, whatever the spare bits
  pub read-bit : (x : List ℕ) → Bytes x → (i r : ℕ) → i < p.m → r < data_bits p i
      → block_bit p (data_of p x) i r ≡ coefficient_of p x i (check_bits p i + r)
  unfolding data_words
  read-bit x h i r l b =
      ap (λ (o : ℕ). bit_from (data_of p x) o r) (offset-eq p i)
      ∙ rw (data_of-eq p x) (join-bit (block_sizes p) (data_words p (stored_of p x))
      (length-data p (stored_of p x) ∙ (stored-words p x).many ∙ sym (length-blocks p)) i r (block_room i r l b))
      ∙ ap (λ (d : ℕ). coefficient d r)
      (data-at p 0 i (stored_of p x) ∙ ap (λ (k : ℕ). get_or (stored_of p x) i 0 / 2 ^ check_bits p k) (Nat.zero-add i))
      ∙ sym (high-coefficient (get_or (stored_of p x) i 0) (check_bits p i) r)
      ∙ stored-bit x h i (check_bits p i + r) l (data-room i r b)

-- ---- numbers that are 0 but for one
module _ (p : Parameters) (i c : ℕ) where
  pub single-long : length (single p i c) ≡ p.m
  single-long = length-set (replicate p.m 0) i c ∙ length-replicate p.m 0

  pub single-else : (j : ℕ) → j < p.m → j ≢ i → get_or (single p i c) j 0 ≡ 0
  single-else j h o = get_or-set_other (replicate p.m 0) i j c 0 o ∙ get_or-replicate p.m j 0 0 h

  module _ (l : i < p.m) where
    pub single-at : get_or (single p i c) i 0 ≡ c
    single-at = get_or-set_same (replicate p.m 0) i c 0 (rw (length-replicate {A = ℕ} p.m 0) l)

    -- what holds of 0 and of c holds of each
    pub single-each : (P : ℕ → ℕ → Type 0) → ((j : ℕ) → P j 0) → P i c → (j : ℕ) → j < p.m → P j (get_or (single p i c) j 0)
    single-each P z h j b = go (ℕ_discrete j i)
      where
        go : Dec (j ≡ i) → P j (get_or (single p i c) j 0)
        go (yes s) = rw (s, single-at) h
        go (no s) = rw (single-else j b s) (z j)

    pub single-all : (P : ℕ → Type 0) → P 0 → P c → All P (single p i c)
    single-all P z h = at_all P (single p i c) (λ j b. single-each (λ j x. P x) (λ j. z) h j (rw single-long at b))

-- ---- blocks as numbers
pub sized-at : (p : Parameters) (k : ℕ) (ds : List ℕ) → Sized p k ds → (i : ℕ) → i < length ds → get_or ds i 0 < 2 ^ data_bits p (k + i)
sized-at p k [] h i l = absurd (Nat.not-suc-le-zero l)
sized-at p k (d ∷ ds) h zero l = rw (Nat.add-zero k) h.0
sized-at p k (d ∷ ds) h (suc i) l = rw (Nat.add-suc k i, ← Nat.suc-add k i) (sized-at p (suc k) ds h.1 i (Nat.le_of_suc-le-suc l))

pub at-sized : (p : Parameters) (k : ℕ) (ds : List ℕ) → ((i : ℕ) → i < length ds → get_or ds i 0 < 2 ^ data_bits p (k + i)) → Sized p k ds
at-sized p k [] h = tt
at-sized p k (d ∷ ds) h = (
  rw (Nat.add-zero k) at (h 0 (suc-le-suc zero-le)),
  at-sized p (suc k) ds (λ i l. rw (Nat.suc-add k i, ← Nat.add-suc k i) (h (suc i) (suc-le-suc l))),
)

module _ (p : Parameters) (R : Rules p) where
  -- the places of a sub-word are its check and its data bits
  pub all-places : (i : ℕ) → check_bits p i + data_bits p i ≡ stored p
  all-places i = omega (arith, stored-room p R (level p i) (Nat.sub-le p.v i))

  -- blocks that fit are known by their bits
  pub blocks-same : (a b : List ℕ) → Fits p a → Fits p b → ((i r : ℕ) → i < p.m → r < data_bits p i → block_bit p a i r ≡ block_bit p b i r)
      → a ≡ b
  blocks-same a b h j f =
      sym (join-blocks p R a h) ∙ ap (join (block_sizes p)) (ext_get_or 0 (blocks_of p a) (blocks_of p b) (x.many ∙ sym y.many) each)
      ∙ join-blocks p R b j
    where
      x : IsBlocks p (blocks_of p a)
      x = blocks-blocks p R a h

      y : IsBlocks p (blocks_of p b)
      y = blocks-blocks p R b j

      each : (i : ℕ) → i < length (blocks_of p a) → get_or (blocks_of p a) i 0 ≡ get_or (blocks_of p b) i 0
      each i l =
          let m : i < p.m = rw x.many at l in
          same_bits (data_bits p i) (get_or (blocks_of p a) i 0) (get_or (blocks_of p b) i 0)
          (rw (Nat.zero-add i) at (sized-at p 0 (blocks_of p a) x.fits i l))
          (rw (Nat.zero-add i) at (sized-at p 0 (blocks_of p b) y.fits i (rw y.many m)))
          (λ r k. block-bit p R a h.bytes i r m k ∙ f i r m k ∙ sym (block-bit p R b j.bytes i r m k))

  -- any numbers of so many bits are the blocks of a set that fits
  module _ (ds : List ℕ) (e : length ds ≡ p.m) (h : (i : ℕ) → i < p.m → get_or ds i 0 < 2 ^ data_bits p i) where
    are-blocks : IsBlocks p ds
    are-blocks = record { many = e; fits = at-sized p 0 ds (λ i l. rw (Nat.zero-add i) (h i (rw e at l))) }

    pub any_fit : Fits p (join (block_sizes p) ds)
    any_fit = blocks-fit p R ds are-blocks

    pub any-has : blocks_of p (join (block_sizes p) ds) ≡ ds
    any-has = blocks-join p R ds are-blocks
