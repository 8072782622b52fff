-- Pages and blocks as lists of words.
--   IsWords p cs     m words of the stored places
--   IsBlocks p ds    the data of m words, each of its block's bits
use Rattle.std.specs.Prelude.{◌≡◌, refl, Bool, true, false, ◌&&◌, List, [], ◌∷◌, map, ℕ, zero, suc, ◌+◌, ◌*◌, ◌/◌, ◌%◌, ◌^◌, ◌≤◌, ◌<◌, T, length, get_or, replicate, take}
use Rattle.std.proofs.Common.{sym, ap, ap₂, ◌∙◌, arith, ltb→lt, lt→ltb, length-take, pow_mono, pow_pos}
use Rattle.std.proofs.Math.Nat as Nat
use Rattle.std.proofs.lemmas.List.{length-replicate, length-map}
use Rattle.polynomial.specs.Division.{xor_lt}
use Rattle.polynomial.specs.Sums.{All, add, all-at, length-add}
use Rattle.field.specs.Irreducible.{both}
use Rattle.code.specs.declared.Parameters.{Parameters}
use Rattle.code.specs.Accepted.{Rules}
use Rattle.code.proofs.Accepted.{lawful, stored-room}
use Rattle.code.proofs.Bytes.{Small, bytes-join, join-add, join-split, length-join, length-split, split-join}
use Rattle.code.specs.Code.{data_from, data_words, degree, encode}
use Rattle.code.proofs.Distance.{add-lt}
use Rattle.code.proofs.Encode.{Sized, data-encode, data-fits, encode-add, encode-length, encode-lt}
use Rattle.code.specs.Layout.{Fits, IsPage, block_bits, block_sizes, blocks_clear, blocks_of, page_clear-eq}
use Rattle.code.specs.Layout.{data_bits, data_bytes, data_of, page_bytes, page_of, stored_of, word_sizes, words_of}
use Rattle.code.specs.Lists.{each, fits_in, join, range, split, sum}
use Rattle.code.specs.Parameters.{stored, sub_word_bytes}
use Rattle.code.specs.Pages.{IsWords}

pub and_both : (a b : Bool) → T a → T b → T (a && b)
and_both true b h t = t
and_both false b h t = absurd h

-- ---- the defining equations
pub words_of-eq : (p : Parameters) (x : List ℕ) → words_of p x ≡ split (word_sizes p) x
unfolding words_of
words_of-eq p x = refl

pub blocks_of-eq : (p : Parameters) (x : List ℕ) → blocks_of p x ≡ split (block_sizes p) x
unfolding blocks_of
blocks_of-eq p x = refl

pub page_of-eq : (p : Parameters) (x : List ℕ) → page_of p x ≡ join (word_sizes p) (encode p (blocks_of p x))
unfolding page_of
page_of-eq p x = refl

pub stored_of-eq : (p : Parameters) (x : List ℕ) → stored_of p x ≡ map (λ c. c % 2 ^ stored p) (words_of p x)
unfolding stored_of
stored_of-eq p x = refl

pub data_of-eq : (p : Parameters) (x : List ℕ) → data_of p x ≡ join (block_sizes p) (data_words p (stored_of p x))
unfolding data_of
data_of-eq p x = refl

pub blocks_clear-eq : (p : Parameters) (x : List ℕ) → blocks_clear p x ≡ each fits_in (block_bits p) (blocks_of p x)
unfolding blocks_clear
blocks_clear-eq p x = refl

pub data_bytes-eq : (p : Parameters) → data_bytes p ≡ sum (block_sizes p)
unfolding data_bytes
data_bytes-eq p = refl

pub length-range : (i k : ℕ) → length (range i k) ≡ k
unfolding range
length-range i zero = refl
length-range i (suc k) = ap suc (length-range (suc i) k)

sum-replicate : (m k : ℕ) → sum (replicate m k) ≡ m * k
unfolding sum
sum-replicate zero k = sym (Nat.zero-mul k)
sum-replicate (suc m) k = ap (λ (y : ℕ). k + y) (sum-replicate m k) ∙ omega arith

-- ---- words of n bits
all-within : (n m : ℕ) (cs : List ℕ) → All (λ c. c < 2 ^ n) cs → T (each fits_in (replicate m n) cs)
unfolding each
all-within n zero cs h = tt
all-within n (suc m) [] h = tt
all-within n (suc m) (c ∷ cs) h = and_both (fits_in n c) (each fits_in (replicate m n) cs) (lt→ltb c (2 ^ n) h.0) (all-within n m cs h.1)

within_all : (n m : ℕ) (cs : List ℕ) → length cs ≡ m → T (each fits_in (replicate m n) cs) → All (λ c. c < 2 ^ n) cs
unfolding each
within_all n m [] e t = tt
within_all n zero (c ∷ cs) e t = absurd (Nat.suc-ne-zero (length cs) e)
within_all n (suc m) (c ∷ cs) e t =
    let b = both (fits_in n c) (each fits_in (replicate m n) cs) t in
    (ltb→lt c (2 ^ n) b.0, within_all n m cs (Nat.suc_inj e) b.1)

-- words cut to n bits
all-low : (n : ℕ) (cs : List ℕ) → All (λ c. c < 2 ^ n) (map (λ c. c % 2 ^ n) cs)
all-low n [] = tt
all-low n (c ∷ cs) = (Nat.mod-lt c (pow_pos n), all-low n cs)

low-all : (n : ℕ) (cs : List ℕ) → All (λ c. c < 2 ^ n) cs → map (λ c. c % 2 ^ n) cs ≡ cs
low-all n [] h = refl
low-all n (c ∷ cs) h = ap₂ ◌∷◌ (Nat.mod-eq_of_lt h.0) (low-all n cs h.1)

all_small : (n k m : ℕ) (cs : List ℕ) → n ≤ 8 * k → length cs ≡ m → All (λ c. c < 2 ^ n) cs → Small (replicate m k) cs
all_small n k zero [] l e h = tt
all_small n k zero (c ∷ cs) l e h = absurd (Nat.suc-ne-zero (length cs) e)
all_small n k (suc m) [] l e h = absurd (Nat.suc-ne-zero m (sym e))
all_small n k (suc m) (c ∷ cs) l e h = (Nat.lt_of_lt_of_le h.0 (pow_mono l), all_small n k m cs l (Nat.suc_inj e) h.1)

-- ---- blocks
pub block_bits-eq : (p : Parameters) → block_bits p ≡ map (data_bits p) (range 0 p.m)
unfolding block_bits
block_bits-eq p = refl

pub block_sizes-eq : (p : Parameters) → block_sizes p ≡ map (λ b. (b + 7) / 8) (block_bits p)
unfolding block_sizes
block_sizes-eq p = refl

pub length-bits : (p : Parameters) → length (block_bits p) ≡ p.m
length-bits p = rw (block_bits-eq p, length-map) (length-range 0 p.m)

pub length-blocks : (p : Parameters) → length (block_sizes p) ≡ p.m
length-blocks p = rw (block_sizes-eq p, length-map) (length-bits p)

within-fits : (p : Parameters) (i k : ℕ) (ds : List ℕ) → length ds ≡ k → T (each fits_in (map (data_bits p) (range i k)) ds) → Sized p i ds
unfolding each range
within-fits p i k [] e t = tt
within-fits p i zero (d ∷ ds) e t = absurd (Nat.suc-ne-zero (length ds) e)
within-fits p i (suc k) (d ∷ ds) e t =
    let b = both (fits_in (data_bits p i) d) (each fits_in (map (data_bits p) (range (suc i) k)) ds) t in
    (ltb→lt d (2 ^ data_bits p i) b.0, within-fits p (suc i) k ds (Nat.suc_inj e) b.1)

fits-within : (p : Parameters) (i k : ℕ) (ds : List ℕ) → Sized p i ds → T (each fits_in (map (data_bits p) (range i k)) ds)
unfolding each range
fits-within p i zero ds h = tt
fits-within p i (suc k) [] h = tt
fits-within p i (suc k) (d ∷ ds) h =
    and_both (fits_in (data_bits p i) d) (each fits_in (map (data_bits p) (range (suc i) k)) ds) (lt→ltb d (2 ^ data_bits p i) h.0)
    (fits-within p (suc i) k ds h.1)

pub whole : (b : ℕ) → b ≤ 8 * ((b + 7) / 8)
whole b = omega arith

fits-small : (p : Parameters) (i k : ℕ) (ds : List ℕ) → length ds ≡ k → Sized p i ds
    → Small (map (λ b. (b + 7) / 8) (map (data_bits p) (range i k))) ds
unfolding range
fits-small p i zero [] e h = tt
fits-small p i zero (d ∷ ds) e h = absurd (Nat.suc-ne-zero (length ds) e)
fits-small p i (suc k) [] e h = absurd (Nat.suc-ne-zero k (sym e))
fits-small p i (suc k) (d ∷ ds) e h =
    (Nat.lt_of_lt_of_le h.0 (pow_mono (whole (data_bits p i))), fits-small p (suc i) k ds (Nat.suc_inj e) h.1)

fits-add : (C : Parameters) (i : ℕ) (ds es : List ℕ) → Sized C i ds → Sized C i es → Sized C i (add ds es)
fits-add C i [] es h j = j
fits-add C i (d ∷ ds) [] h j = h
fits-add C i (d ∷ ds) (e ∷ es) h j = (xor_lt (data_bits C i) d e h.0 j.0, fits-add C (suc i) ds es h.1 j.1)

length-data-from : (C : Parameters) (i : ℕ) (cs : List ℕ) → length (data_from C i cs) ≡ length cs
unfolding data_from
length-data-from C i [] = refl
length-data-from C i (c ∷ cs) = ap suc (length-data-from C (suc i) cs)

pub length-data : (C : Parameters) (cs : List ℕ) → length (data_words C cs) ≡ length cs
unfolding data_words
length-data C cs = length-data-from C 0 cs

pub record IsBlocks (p : Parameters) (ds : List ℕ) : Type 0 where
  pub many : length ds ≡ p.m
  pub fits : Sized p 0 ds

pub blocks-add : (p : Parameters) (ds es : List ℕ) → IsBlocks p ds → IsBlocks p es → IsBlocks p (add ds es)
blocks-add p ds es h j =
    record { many = length-add ds es (h.many ∙ sym j.many) ∙ h.many; fits = fits-add p 0 ds es h.fits j.fits }

pub length-sizes : (p : Parameters) → length (word_sizes p) ≡ p.m
length-sizes p = length-replicate p.m (sub_word_bytes p)

pub words-many : (p : Parameters) (x : List ℕ) → length (words_of p x) ≡ p.m
words-many p x = rw (words_of-eq p x) (length-split (word_sizes p) x ∙ length-sizes p)

pub blocks-many : (p : Parameters) (x : List ℕ) → length (blocks_of p x) ≡ p.m
blocks-many p x = rw (blocks_of-eq p x) (length-split (block_sizes p) x ∙ length-blocks p)

-- the stored coefficients of whatever bytes
pub stored-words : (p : Parameters) (x : List ℕ) → IsWords p (stored_of p x)
stored-words p x =
    rw (stored_of-eq p x)
    (record { many = length-map (words_of p x) (λ c. c % 2 ^ stored p) ∙ words-many p x; below = all-low (stored p) (words_of p x) })

-- whatever the blocks are, their page has a page's length
pub page-length : (p : Parameters) (x : List ℕ) → length (page_of p x) ≡ page_bytes p
page-length p x =
    ap length (page_of-eq p x)
    ∙ length-join (word_sizes p) (encode p (blocks_of p x)) (encode-length p (blocks_of p x) ∙ blocks-many p x ∙ sym (length-sizes p))
    ∙ sum-replicate p.m (sub_word_bytes p)

module _ (p : Parameters) (R : Rules p) where
  -- ---- pages
  small-words : (cs : List ℕ) → IsWords p cs → Small (word_sizes p) cs
  small-words cs h = all_small (stored p) (sub_word_bytes p) p.m cs (whole (stored p)) h.many h.below

  pub page-words : (x : List ℕ) → IsPage p x → IsWords p (words_of p x)
  page-words x h =
      let e : length (words_of p x) ≡ p.m = words-many p x in
      record { many = e; below = within_all (stored p) p.m (words_of p x) e (rw (page_clear-eq p x) at h.clear) }

  pub word_lt : (x : List ℕ) → IsPage p x → (i : ℕ) → i < p.m → get_or (words_of p x) i 0 < 2 ^ stored p
  word_lt x h i l = let W = page-words x h in all-at (λ c. c < 2 ^ stored p) (words_of p x) W.below i (rw W.many l)

  -- with clear spare bits a page has no other coefficients
  pub stored-page : (x : List ℕ) → IsPage p x → stored_of p x ≡ words_of p x
  stored-page x h = stored_of-eq p x ∙ low-all (stored p) (words_of p x) (page-words x h).below

  pub words-join : (cs : List ℕ) → IsWords p cs → words_of p (join (word_sizes p) cs) ≡ cs
  words-join cs h = words_of-eq p (join (word_sizes p) cs) ∙ split-join (word_sizes p) cs (small-words cs h)

  pub join-words : (x : List ℕ) → IsPage p x → join (word_sizes p) (words_of p x) ≡ x
  join-words x h = rw (words_of-eq p x) (join-split (word_sizes p) x h.bytes (h.exact ∙ sym (sum-replicate p.m (sub_word_bytes p))))

  pub words-page : (cs : List ℕ) → IsWords p cs → IsPage p (join (word_sizes p) cs)
  words-page cs h = record {
    bytes = bytes-join (word_sizes p) cs;
    exact = length-join (word_sizes p) cs (h.many ∙ sym (length-sizes p)) ∙ sum-replicate p.m (sub_word_bytes p);
    clear = rw (page_clear-eq p (join (word_sizes p) cs), words-join cs h) (all-within (stored p) p.m cs h.below);
  }

  -- sums of pages
  module _ (x y : List ℕ) (h : IsPage p x) (j : IsPage p y) where
    words-sum : join (word_sizes p) (add (words_of p x) (words_of p y)) ≡ add x y
    words-sum =
        join-add (word_sizes p) (words_of p x) (words_of p y) (small-words (words_of p x) (page-words x h)) (small-words (words_of p y) (page-words y j))
        ∙ ap₂ add (join-words x h) (join-words y j)

    both_words : IsWords p (add (words_of p x) (words_of p y))
    both_words = record {
      many = length-add (words_of p x) (words_of p y) (words-many p x ∙ sym (words-many p y)) ∙ words-many p x;
      below = add-lt (stored p) (words_of p x) (words_of p y) (page-words x h).below (page-words y j).below;
    }

    pub sum-is-page : IsPage p (add x y)
    sum-is-page = rw words-sum at (words-page (add (words_of p x) (words_of p y)) both_words)

    pub sum-words : words_of p (add x y) ≡ add (words_of p x) (words_of p y)
    sum-words = ap (words_of p) (sym words-sum) ∙ words-join (add (words_of p x) (words_of p y)) both_words

  -- ---- blocks
  small-blocks : (ds : List ℕ) → IsBlocks p ds → Small (block_sizes p) ds
  small-blocks ds h = rw (block_sizes-eq p, block_bits-eq p) (fits-small p 0 p.m ds h.many h.fits)

  pub blocks-blocks : (x : List ℕ) → Fits p x → IsBlocks p (blocks_of p x)
  blocks-blocks x h =
      let e : length (blocks_of p x) ≡ p.m = blocks-many p x in
      record { many = e; fits = within-fits p 0 p.m (blocks_of p x) e (rw (blocks_clear-eq p x, block_bits-eq p) at h.clear) }

  pub blocks-join : (ds : List ℕ) → IsBlocks p ds → blocks_of p (join (block_sizes p) ds) ≡ ds
  blocks-join ds h = blocks_of-eq p (join (block_sizes p) ds) ∙ split-join (block_sizes p) ds (small-blocks ds h)

  pub join-blocks : (x : List ℕ) → Fits p x → join (block_sizes p) (blocks_of p x) ≡ x
  join-blocks x h = rw (blocks_of-eq p x) (join-split (block_sizes p) x h.bytes (h.exact ∙ data_bytes-eq p))

  pub blocks-fit : (ds : List ℕ) → IsBlocks p ds → Fits p (join (block_sizes p) ds)
  blocks-fit ds h = record {
    bytes = bytes-join (block_sizes p) ds;
    exact = length-join (block_sizes p) ds (h.many ∙ sym (length-blocks p)) ∙ sym (data_bytes-eq p);
    clear = rw (blocks_clear-eq p (join (block_sizes p) ds), blocks-join ds h, block_bits-eq p) (fits-within p 0 p.m ds h.fits);
  }

  -- ---- encoding
  W : (a : ℕ) → a ≤ p.v → degree p a ≤ stored p
  W a h = Nat.le_of_suc-le (stored-room p R a h)

  pub encode-words : (ds : List ℕ) → IsBlocks p ds → IsWords p (encode p ds)
  encode-words ds h =
      record { many = encode-length p ds ∙ h.many; below = encode-lt p (lawful p R).degrees W ds h.fits }

  pub data-blocks : (cs : List ℕ) → IsWords p cs → IsBlocks p (data_words p cs)
  data-blocks cs h =
      record { many = length-data p cs ∙ h.many; fits = data-fits p W cs h.below }

  -- ---- the page of blocks
  module _ (x : List ℕ) (h : Fits p x) where
    ready : IsWords p (encode p (blocks_of p x))
    ready = encode-words (blocks_of p x) (blocks-blocks x h)

    pub page-is : IsPage p (page_of p x)
    page-is = rw (page_of-eq p x) (words-page (encode p (blocks_of p x)) ready)

    pub page-has : words_of p (page_of p x) ≡ encode p (blocks_of p x)
    page-has = rw (page_of-eq p x) (words-join (encode p (blocks_of p x)) ready)

    pub page-back : data_of p (page_of p x) ≡ x
    page-back =
        data_of-eq p (page_of p x)
        ∙ rw (stored-page (page_of p x) page-is, page-has, data-encode p (lawful p R).degrees (blocks_of p x)) (join-blocks x h)

  -- ---- the blocks of whatever bytes
  pub data-fit : (x : List ℕ) → Fits p (data_of p x)
  data-fit x = rw (data_of-eq p x) (blocks-fit (data_words p (stored_of p x)) (data-blocks (stored_of p x) (stored-words p x)))

  -- ---- the blocks of a page
  module _ (x : List ℕ) (h : IsPage p x) where
    taken : IsBlocks p (data_words p (words_of p x))
    taken = data-blocks (words_of p x) (page-words x h)

    data-has : blocks_of p (data_of p x) ≡ data_words p (words_of p x)
    data-has = rw (data_of-eq p x, stored-page x h) (blocks-join (data_words p (words_of p x)) taken)

    again : page_of p (data_of p x) ≡ join (word_sizes p) (encode p (data_words p (words_of p x)))
    again = rw (page_of-eq p (data_of p x), data-has) refl

    -- the page is written again exactly when its words are
    pub again-to : encode p (data_words p (words_of p x)) ≡ words_of p x → page_of p (data_of p x) ≡ x
    again-to e = again ∙ rw e (join-words x h)

    pub again-from : page_of p (data_of p x) ≡ x → encode p (data_words p (words_of p x)) ≡ words_of p x
    again-from e =
        sym (words-join (encode p (data_words p (words_of p x))) (encode-words (data_words p (words_of p x)) taken))
        ∙ ap (words_of p) (sym again ∙ e)

  -- ---- sums
  module _ (a b : List ℕ) (h : Fits p a) (j : Fits p b) where
    sum-join : join (block_sizes p) (add (blocks_of p a) (blocks_of p b)) ≡ add a b
    sum-join =
        join-add (block_sizes p) (blocks_of p a) (blocks_of p b) (small-blocks (blocks_of p a) (blocks-blocks a h))
        (small-blocks (blocks_of p b) (blocks-blocks b j))
        ∙ ap₂ add (join-blocks a h) (join-blocks b j)

    both-blocks : IsBlocks p (add (blocks_of p a) (blocks_of p b))
    both-blocks = blocks-add p (blocks_of p a) (blocks_of p b) (blocks-blocks a h) (blocks-blocks b j)

    pub sum_fits : Fits p (add a b)
    sum_fits = rw sum-join at (blocks-fit (add (blocks_of p a) (blocks_of p b)) both-blocks)

    pub sum-page : page_of p (add a b) ≡ add (page_of p a) (page_of p b)
    sum-page =
        page_of-eq p (add a b)
        ∙ ap (λ (l : List ℕ). join (word_sizes p) (encode p l))
        (sym (ap (blocks_of p) sum-join) ∙ blocks-join (add (blocks_of p a) (blocks_of p b)) both-blocks)
        ∙ ap (join (word_sizes p)) (encode-add p (lawful p R).degrees (blocks_of p a) (blocks_of p b))
        ∙ join-add (word_sizes p) (encode p (blocks_of p a)) (encode p (blocks_of p b)) (small-words (encode p (blocks_of p a)) (ready a h))
        (small-words (encode p (blocks_of p b)) (ready b j))
        ∙ sym (ap₂ add (page_of-eq p a) (page_of-eq p b))

-- ---- a part of a room of zeros
pub zeros-length : (n m : ℕ) → n ≤ m → length {A = ℕ} (take n (replicate m 0)) ≡ n
zeros-length n m h = length-take n (replicate {A = ℕ} m 0) ∙ Nat.min-eq_left (rw (length-replicate {A = ℕ} m 0) h)

pub zeros-at : (n i : ℕ) → ◌≡◌ {A = ℕ} (get_or (replicate n 0) i 0) 0
zeros-at zero i = refl
zeros-at (suc n) zero = refl
zeros-at (suc n) (suc i) = zeros-at n i
