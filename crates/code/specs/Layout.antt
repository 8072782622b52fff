-- Pages and blocks as bytes. The little-endian number of a sub-word's bytes is the word: x^k is bit k mod 8 of byte k div 8.
-- Block i (the requirement's word for the data of sub-word i) is the number of its bytes likewise: bit r is the coefficient of x^(w + r).
--   words_of p page        the sub-words of a page; page_clear p page: no spare bit is 1
--   stored_of p page       the sub-words without their spare bits; blank p page: every stored coefficient is 1, the spare bits set or not
--   block_bits p           the data bits of each block; block_sizes p its bytes; block_offset p i where block i begins
--   blocks_of p blocks     the numbers of the blocks; blocks_clear p blocks: no unused bit is 1; blocks_full p blocks: every data bit is 1
--   page_of p blocks       the page of some blocks; data_of p page the blocks of a page
--   bit_from bs at k       bit k mod 8 of byte at + k div 8
--   Bytes l               every element is a byte
--   Fits p blocks         blocks that fit: their length is exact and their unused bits are 0
--   IsPage p page         a page of the sheet's length with clear spare bits
--   IsBlank p page        every coefficient of every sub-word is 1: blank, literally over the bytes
--   coefficient_of p x i k the coefficient of x^k of sub-word i, block_bit p b i r bit r of block i: both literally, as bits of bytes
--   single p i c          m numbers, the i-th of them c, the others 0
--   one_block p i d        the blocks that are 0 but for block i, which is d; one_bit p i r: 0 but for bit r of block i
--   altered p x i r b     the page x with bit r of block i made b: as it is or, where the bit is another, with the page of that bit added
--   mending p x i         the places of the flips that mend sub-word i of the page x, at level 0; or none
--   flipped p x i R       the page x with the places R of sub-word i flipped
--   place_list k R         the places R in a list of k numbers: 65535 from their end on
--   mended_page p x        the page x mended through its nested words; or none
--   flips_in p x y i       the number of places at which the coefficients of sub-word i of two pages differ
--   differences p x y     the number of pairs of a sub-word i and a place k at which the coefficients of two pages differ
use Rattle.std.specs.Prelude.{◌≡◌, refl, Bool, not, cond, List, ◌++◌, map, ℕ, ◌+◌, ◌-◌, ◌*◌, ◌/◌, ◌%◌, ◌^◌, ◌<◌, T, eqb, length, get_or, set, replicate, take}
use Rattle.std.proofs.Math.Option.{Option, none, some}
use Rattle.polynomial.specs.Bits.{coefficient}
use Rattle.polynomial.specs.Sums.{All, add}
use Rattle.polynomial.specs.Xor.{xor}
use Rattle.field.specs.Flips.{flips}
use Rattle.code.specs.declared.Parameters.{Parameters}
use Rattle.code.specs.Lists.{range, sum, split, join, each, fits_in, ones_in, add_below, count_below}
use Rattle.code.specs.Parameters.{stored, sub_word_bytes}
use Rattle.code.specs.Code.{degree, check_bits, encode, data_words, nearest}
use Rattle.code.specs.Nest.{mend_page}

-- ---- pages: m sub-words of (n - s + 7) / 8 bytes, the stored coefficients and above them 0 to 7 spare bits
abbrev pub word_sizes : Parameters → List ℕ
word_sizes p = replicate p.m (sub_word_bytes p)

abbrev pub page_bytes : Parameters → ℕ
page_bytes p = p.m * sub_word_bytes p

unfoldable pub words_of : Parameters → List ℕ → List ℕ
unfolding split
words_of p page = split (word_sizes p) page

unfoldable pub page_clear : Parameters → List ℕ → Bool
unfolding each words_of
page_clear p page = each fits_in (replicate p.m (stored p)) (words_of p page)

pub page_clear-eq : (p : Parameters) (x : List ℕ) → page_clear p x ≡ each fits_in (replicate p.m (stored p)) (words_of p x)
unfolding page_clear
page_clear-eq p x = refl

-- the stored coefficients alone
unfoldable pub stored_of : Parameters → List ℕ → List ℕ
unfolding words_of
stored_of p page = map (λ c. c % 2 ^ stored p) (words_of p page)

-- blank, in the requirement's word: every stored coefficient is 1. An erased chip reads as ones, its spare bits too
unfoldable pub blank : Parameters → List ℕ → Bool
unfolding each words_of
blank p page = each ones_in (replicate p.m (stored p)) (words_of p page)

-- ---- blocks: block i has the stored coefficients less sub-word i's check bits, on whole bytes
abbrev pub data_bits : Parameters → ℕ → ℕ
data_bits p i = stored p - check_bits p i

unfoldable pub block_bits : Parameters → List ℕ
unfolding range degree
block_bits p = map (data_bits p) (range 0 p.m)

unfoldable pub block_sizes : Parameters → List ℕ
unfolding block_bits
block_sizes p = map (λ b. (b + 7) / 8) (block_bits p)

unfoldable pub data_bytes : Parameters → ℕ
unfolding sum block_sizes
data_bytes p = sum (block_sizes p)

unfoldable pub block_offset : Parameters → ℕ → ℕ
unfolding sum block_sizes
block_offset p i = sum (take i (block_sizes p))

unfoldable pub blocks_of : Parameters → List ℕ → List ℕ
unfolding split block_sizes
blocks_of p blocks = split (block_sizes p) blocks

unfoldable pub blocks_clear : Parameters → List ℕ → Bool
unfolding each block_bits blocks_of
blocks_clear p blocks = each fits_in (block_bits p) (blocks_of p blocks)

unfoldable pub blocks_full : Parameters → List ℕ → Bool
unfolding each block_bits blocks_of
blocks_full p blocks = each ones_in (block_bits p) (blocks_of p blocks)

-- ---- from one to the other
unfoldable pub page_of : Parameters → List ℕ → List ℕ
unfolding join encode blocks_of
page_of p blocks = join (word_sizes p) (encode p (blocks_of p blocks))

unfoldable pub data_of : Parameters → List ℕ → List ℕ
unfolding join block_sizes data_words stored_of
data_of p page = join (block_sizes p) (data_words p (stored_of p page))

-- ---- what the theorems say of lists of bytes
abbrev pub bit_from : List ℕ → ℕ → ℕ → ℕ
bit_from bs at k = coefficient (get_or bs (at + k / 8) 0) (k % 8)

abbrev pub Bytes : List ℕ → Type 0
Bytes l = All (λ b. b < 256) l

pub record Fits (p : Parameters) (blocks : List ℕ) : Type 0 where
  pub bytes : Bytes blocks
  pub exact : length blocks ≡ data_bytes p
  pub clear : T (blocks_clear p blocks)

pub record IsPage (p : Parameters) (page : List ℕ) : Type 0 where
  pub bytes : Bytes page
  pub exact : length page ≡ page_bytes p
  pub clear : T (page_clear p page)

-- the coefficient of x^k of sub-word i of a page
abbrev pub coefficient_of : Parameters → List ℕ → ℕ → ℕ → ℕ
coefficient_of p page i k = bit_from page (i * sub_word_bytes p) k

abbrev pub IsBlank : Parameters → List ℕ → Type 0
IsBlank p page = (i k : ℕ) → i < p.m → k < stored p → coefficient_of p page i k ≡ 1

-- bit r of block i, at its byte offset among the blocks
abbrev pub block_bit : Parameters → List ℕ → ℕ → ℕ → ℕ
block_bit p blocks i r = bit_from blocks (block_offset p i) r

-- ---- one bit
abbrev pub single : Parameters → ℕ → ℕ → List ℕ
single p i c = set (replicate p.m 0) i c

unfoldable pub one_block : Parameters → ℕ → ℕ → List ℕ
unfolding join block_sizes
one_block p i d = join (block_sizes p) (single p i d)

abbrev pub one_bit : Parameters → ℕ → ℕ → List ℕ
one_bit p i r = one_block p i (2 ^ r)

unfoldable pub altered : Parameters → List ℕ → ℕ → ℕ → ℕ → List ℕ
unfolding degree page_of one_block
altered p page i r b = cond (eqb (coefficient_of p page i (check_bits p i + r)) b) page (add page (page_of p (one_bit p i r)))

-- ---- one sub-word mended
unfoldable pub mending : Parameters → List ℕ → ℕ → Option (List ℕ)
unfolding nearest words_of
mending p page i = nearest p 0 (get_or (words_of p page) i 0)

unfoldable pub flipped : Parameters → List ℕ → ℕ → List ℕ → List ℕ
unfolding join words_of xor flips
flipped p page i R = join (word_sizes p) (set (words_of p page) i (xor (get_or (words_of p page) i 0) (flips R)))

-- what stands in a list for no place
abbrev pub no_place : ℕ
no_place = 65535

unfoldable pub place_list : ℕ → List ℕ → List ℕ
place_list k R = R ++ replicate (k - length R) no_place

-- ---- a page mended through its nested words
abbrev pub in_bytes : Parameters → Option (List ℕ) → Option (List ℕ)
in_bytes p none = none
in_bytes p (some cs) = some (join (word_sizes p) cs)

unfoldable pub mended_page : Parameters → List ℕ → Option (List ℕ)
unfolding mend_page words_of join
mended_page p page = in_bytes p (mend_page p (words_of p page))

-- ---- places at which two pages differ
abbrev pub flips_in : Parameters → List ℕ → List ℕ → ℕ → ℕ
flips_in p x y i = count_below (stored p) (λ k. not (eqb (coefficient_of p x i k) (coefficient_of p y i k)))

unfoldable pub differences : Parameters → List ℕ → List ℕ → ℕ
unfolding add_below count_below
differences p x y = add_below p.m (flips_in p x y)
