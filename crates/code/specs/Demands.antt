-- What demands 2 and 3 say, as types, for accepted parameters. The proofs stand in Theorems.
-- The calls appear by what they promise: Written p L blocks old after r is write's promise of its answer r and of the page buffer after it,
-- and so are ReadOut and Judged; each call has a width and buffers of its own, of any old content.
--   GeneratorOf q t g    g is the generator for strength t over the field of q: the requirement's words
--   Demand2 p            fields, generators, remainders, syndromes, registers, placement,
--                        membership and written pages are those of the code
--   Demand3 p            alike at every two widths; sums; members are what is written again; distance
--   OddLaws p            all syndromes from the odd ones that calls give
--   StoredLaws, WholeLaws, ShortenedLaws   what s leaves out; a sheet with s = 0; a shortened sheet beside the full one
--   BlankReadLaws, BlankWriteLaws    what read out gives of a blank page, and write of blocks that would make one
--   QuoteLaws p number   the numbers that the quote gives; QuotedPage p number blocks page: a written page has so many check and data bits
--   InBurst p a k        place k is one of the w_v neighbouring places from a on
--   Burst p x y i a      two pages differ in sub-word i alone, in the burst from a on: the requirement's scratched run
--   BurstLaws p          judge finds every burst, and a longer one it need not find
--   ManyLaws p           many pages in one call: each page and each listed byte are a single call's
--   SetTo p c i r b old  blocks c that fit: bit r of block i is b, and every other as `old` has it
--   AlterLaws p          one bit altered: what changes, and that a member becomes the page of the altered blocks
--   MendLaws p           one sub-word mended: the one multiple of g_0 within t_0 flips, or nothing changed
--   left p x k           b_k, how many sub-words of the page x are broken after the first pass and k rounds; page_after p x k: the page then
--   PassLaws p x W       what the first pass does to each sub-word; RoundLaws p W W': what a round does, and by which syndromes
--   Succeeds, Fails      when the page is mended, and when it is not, by the numbers b_k
--   Recoverable p z x    x came from z by flips that passes and rounds mend
--   heavier p z x a      how many sub-words have more than t_a flips; Reached p z x: as few as rounds mend, and no error near another
--   OneRound p z x       the same, where one round is enough
--   PageLaws p           a page mended through its nested words: a member, or nothing changed
--   Shortening           which s are refused
--   Demand3C p           the same of the C calls: WrittenC, ReadOutC, JudgedC, whose answers are numbers, 0 for done and member
--   BlankC p             blank pages in C: 96 of judge and of read out, 13 of write
--   BurstC p             bursts in C: judge's number is not 0
--   QuotedC p            the quote of C, whose numbers are bytes
--   ManyC p              many pages in C: a listed byte is the number of a single call
--   AlterC p             one bit altered, in C
--   MendC p              one sub-word mended, in C: the list is bytes
--   OddC p               all syndromes from the odd ones, in C
--   PageC p              a page mended through its nested words, in C
use Rattle.std.specs.Prelude.{◌≡◌, ◌≢◌, ◌↔◌, ◌⊎◌, ◌&&◌, ◌||◌, cond, List, [], ◌++◌, map, ℕ, suc, ◌+◌, ◌-◌, ◌*◌, ◌/◌, ◌%◌, ◌^◌, ◌≤◌, ◌<◌, eqb, ltb, length, get_or, replicate, drop, Ok, Err}
use Rattle.std.proofs.Math.Option.{none, some}
use Rattle.polynomial.specs.Bits.{coefficient}
use Rattle.polynomial.specs.Clmul.{clmul}
use Rattle.polynomial.specs.Digits.{value}
use Rattle.polynomial.specs.Division.{Deg, deg}
use Rattle.polynomial.specs.Sums.{All, add}
use Rattle.polynomial.specs.Multiple.{Multiple}
use Rattle.polynomial.specs.Xor.{xor}
use Rattle.field.specs.Elements.{power, sum_below, syndrome, times}
use Rattle.field.specs.Fields.{field_polynomial}
use Rattle.field.specs.Flips as F
use Rattle.field.specs.Irreducible.{NoFactor}
use Rattle.code.specs.declared.Parameters.{Parameters}
use Rattle.code.specs.Answers.{Outcome}
use Rattle.code.specs.declared.Refusal.{Refusal}
use Rattle.code.specs.declared.Verdict.{Verdict}
use Rattle.code.specs.Answers.{Judgement}
use Rattle.code.specs.Calls.{Altered, AlteredC, Judged, JudgedC, Mended, MendedC, PageMended, PageMendedC, QuoteMade, QuoteMadeC, ReadOut, ReadOutC, Written, WrittenC, WrittenMany, WrittenManyC, as_bytes}
use Rattle.code.specs.Calls.{AllMade, AllMadeC, NestedSyndromesMade, NestedSyndromesMadeC, SyndromesMade, SyndromesMadeC}
use Rattle.code.specs.Calls.{empty, generators, nested_of, nested_syndrome_list, nested_word_bytes, number_at}
use Rattle.code.specs.Calls.{opened, outcome, page_verdict, remainder_bytes, short_bytes, sub_word_of, syndrome_list}
use Rattle.code.specs.Code.{Flips, IsMember, N, Near, carried, data_words, degree, distance, divisor, encode, gen}
use Rattle.code.specs.Code.{all_syndromes, nested, newton, odd_syndromes, remainder, short_remainder, syndromes, verdict}
use Rattle.code.specs.Layout.{Bytes, Fits, IsBlank, IsPage, altered, block_bit, block_sizes, blocks_clear, blocks_of, coefficient_of, data_bytes}
use Rattle.code.specs.Layout.{data_of, differences, flips_in, page_bytes, page_clear, page_of, stored_of, word_sizes, words_of}
use Rattle.code.specs.Refusals.{write_refusal}
use Rattle.code.specs.Lists.{add_below, any, count_below, each, fits_in, join, ones_in, part, range, runs, split, sum}
use Rattle.code.specs.Many.{Lent}
use Rattle.code.specs.Nest.{ErrorBy, Mem, Work, add_over, after, error_sums, mend_page, rounds, start}
use Rattle.code.specs.Parameters.{Accepted, full, len, nested_bytes, sheet_refusal, stored, strength, sub_word_bytes, unshortened}
use Rattle.code.specs.Refused.{BlocksBuffer, PageBuffer, Width}
use Rattle.code.specs.Registers.{AllDone, cut, feedings}
use Rattle.code.specs.Shortened.{full_bits, full_blocks, full_refusal, full_sizes, lengthened}

-- ---- demand 2: the field and the generators
-- the field polynomial has degree q and no factor, and α has order n: no power repeats
pub record FieldLaws (p : Parameters) : Type 0 where
  pub polynomial : Deg (field_polynomial p.q) p.q
  pub irreducible : NoFactor (field_polynomial p.q) (2 ^ p.q)
  pub full-order : power p.q (len p) ≡ 1
  pub no_less : (k : ℕ) → 0 < k → k < len p → power p.q k ≢ 1

-- c vanishes at α^1 to α^(2t)
abbrev pub Vanishes : ℕ → ℕ → ℕ → Type 0
Vanishes q t c = (j : ℕ) → 1 ≤ j → j ≤ 2 * t → syndrome q c j ≡ 0

pub record GeneratorOf (q t g : ℕ) : Type 0 where
  pub non_zero : 0 < g
  pub vanishes : Vanishes q t g
  pub lowest : (f : ℕ) → 0 < f → Vanishes q t f → deg g ≤ deg f

pub record GeneratorLaws (p : Parameters) (a : ℕ) : Type 0 where
  pub is : GeneratorOf p.q (strength p a) (gen p a)
  pub alone : (f : ℕ) → Deg f (degree p a) → Vanishes p.q (strength p a) f → f ≡ gen p a
  pub of-degree : Deg (gen p a) (degree p a)
  pub degree-bound : degree p a ≤ p.q * strength p a
  -- exactly, the number of different values of j × 2^r modulo n, j from 1 to 2t, r from 0 to q - 1
  pub degree-exact : degree p a
      ≡ count_below (len p) (λ e. any (λ j. any (λ r. eqb (j * 2 ^ r % len p) e) (range 0 p.q)) (range 1 (2 * strength p a)))
  pub degree-below : degree p a ≤ len p - 1
  pub multiples : (c : ℕ) → Multiple (gen p a) c ↔ Vanishes p.q (strength p a) c
  pub cyclic : Multiple (gen p a) (2 ^ len p + 1)
  pub next : a < p.v → Multiple (gen p a) (gen p (a + 1))
  pub row : value 64 (get_or (generators p) a []) ≡ gen p a

-- ---- demand 2: remainders, syndromes, registers
pub record RemainderLaws (p : Parameters) (a c : ℕ) : Type 0 where
  pub below : remainder p a c < 2 ^ degree p a
  pub differs : Multiple (gen p a) (xor c (remainder p a c))

-- nested word l of the words cs, by g_(v-l) / g_0
pub record ShortLaws (p : Parameters) (l : ℕ) (cs : List ℕ) : Type 0 where
  pub divisor-is : clmul (divisor p l) (gen p 0) ≡ gen p (p.v - l)
  pub divisor-of : Deg (divisor p l) (degree p (p.v - l) - degree p 0)
  pub below : short_remainder p l cs < 2 ^ (degree p (p.v - l) - degree p 0)
  pub differs : Multiple (divisor p l) (xor (nested p l cs) (short_remainder p l cs))

-- S_j = Σ c_k × α^(j k)
pub record SyndromeLaws (p : Parameters) (c j : ℕ) : Type 0 where
  pub is_sum : c < 2 ^ len p → syndrome p.q c j ≡ sum_below (len p) (λ k. coefficient c k * power p.q (j * k))
  pub below : syndrome p.q c j < 2 ^ p.q
  pub doubled : times p.q (syndrome p.q c j) (syndrome p.q c j) ≡ syndrome p.q c (2 * j)

-- a polynomial c fed from the empty register, highest power first, in parts of the widths Ls
pub record RegisterLaws (p : Parameters) (a c : ℕ) (Ls : List ℕ) : Type 0 where
  pub opens : opened p a ≡ record { outcome = Ok tt; register = empty a }
  pub done : AllDone p (empty a) (cut c Ls)
  pub level : (feedings p (empty a) (cut c Ls)).level ≡ a
  pub count : (feedings p (empty a) (cut c Ls)).count ≡ sum Ls
  pub remainder_is : value 64 (feedings p (empty a) (cut c Ls)).remainder ≡ remainder p a c

-- what the one-word calls lay out, read back
pub record BufferLaws (p : Parameters) (x : List ℕ) : Type 0 where
  pub remainder-bytes : (i : ℕ) → value 8 (remainder_bytes p x i) ≡ remainder p 0 (sub_word_of p x i)
  pub short-bytes : (l : ℕ) → value 8 (short_bytes p x l) ≡ short_remainder p l (words_of p x)
  pub nested-bytes : (l : ℕ) → value 8 (nested_word_bytes p x l) ≡ nested_of p x l
  pub syndrome-at : (i j : ℕ) → j < strength p 0 → get_or (syndrome_list p x i) j 0 ≡ syndrome p.q (sub_word_of p x i) (2 * j + 1)
  pub nested-syndrome-at : (l j : ℕ) → j < strength p (p.v - l)
      → get_or (nested_syndrome_list p x l) j 0 ≡ syndrome p.q (nested_of p x l) (2 * j + 1)
  pub syndrome-bytes : (i j : ℕ) → j < strength p 0
      → number_at (as_bytes (syndrome_list p x i)) j ≡ syndrome p.q (sub_word_of p x i) (2 * j + 1)
  pub nested-syndrome-bytes : (l j : ℕ) → j < strength p (p.v - l)
      → number_at (as_bytes (nested_syndrome_list p x l)) j ≡ syndrome p.q (nested_of p x l) (2 * j + 1)

-- all syndromes from the odd ones: of every word, and of what the calls give
pub record OddLaws (p : Parameters) : Type 0 where
  pub whole : (c t : ℕ) → all_syndromes p (odd_syndromes p t c) ≡ syndromes p (2 * t) c
  pub sub_word : (x list odd old after : List ℕ) (i : ℕ) (o : Outcome) → SyndromesMade p x i list odd (Ok tt) → length old ≡ 2 * strength p 0
      → AllMade p 0 odd old after o → (o ≡ Ok tt) × (after ≡ syndromes p (2 * strength p 0) (sub_word_of p x i))
  pub nested-word : (x list odd old after : List ℕ) (l : ℕ) (o : Outcome) → NestedSyndromesMade p x l list odd (Ok tt)
      → length old ≡ 2 * strength p (p.v - l) → AllMade p (p.v - l) odd old after o
      → (o ≡ Ok tt) × (after ≡ syndromes p (2 * strength p (p.v - l)) (nested_of p x l))

-- ---- demand 2: placement, membership, written pages
pub record PlacementLaws (p : Parameters) : Type 0 where
  -- the coefficient of x^k of sub-word i is bit k mod 8 of byte i × ((n - s + 7) / 8) + k div 8
  pub sub_word : (x : List ℕ) → IsPage p x → (i k : ℕ) → i < p.m → k < stored p
      → coefficient (sub_word_of p x i) k ≡ coefficient (get_or x (i * ((2 ^ p.q - 1 - p.s + 7) / 8) + k / 8) 0) (k % 8)
  -- bit r of block i is the coefficient of x^(w + r) of sub-word i, in the written page and in what read out gives
  pub written : (b : List ℕ) → Fits p b → (i r : ℕ) → i < p.m → r < stored p - degree p (p.v - i)
      → coefficient_of p (page_of p b) i (degree p (p.v - i) + r) ≡ block_bit p b i r
  pub read : (x : List ℕ) → Bytes x → (i r : ℕ) → i < p.m → r < stored p - degree p (p.v - i)
      → block_bit p (data_of p x) i r ≡ coefficient_of p x i (degree p (p.v - i) + r)
  -- the check bits are the w lowest
  pub checks : (b : List ℕ) → Fits p b → (i : ℕ) → i < p.m
      → sub_word_of p (page_of p b) i % 2 ^ degree p (p.v - i)
      ≡ remainder p (p.v - i)
      (xor (get_or (blocks_of p b) i 0 * 2 ^ degree p (p.v - i)) (carried (p.v - i) i (drop (suc i) (words_of p (page_of p b)))))

-- how many coefficients are stored, at which count a register is full, how many bytes a sub-word and a nested word take;
-- the top s coefficients of a sub-word are 0, and every block has a bit
pub record StoredLaws (p : Parameters) : Type 0 where
  pub count : stored p ≡ 2 ^ p.q - 1 - p.s
  pub full-count : full p ≡ 2 ^ p.q - 1 - p.s
  pub word_bytes : sub_word_bytes p ≡ (2 ^ p.q - 1 - p.s + 7) / 8
  pub nested-bytes : nested_bytes p ≡ 2 ^ p.q / 8
  pub top : (x : List ℕ) → IsPage p x → (i k : ℕ) → i < p.m → len p - p.s ≤ k → coefficient (sub_word_of p x i) k ≡ 0
  pub data-bit : (i : ℕ) → i < p.m → 1 ≤ len p - p.s - degree p (p.v - i)

-- at s = 0 lengths, tests, pages, verdicts and blocks are those of full sub-words: n places and 2^q / 8 bytes each
pub record WholeLaws (p : Parameters) : Type 0 where
  pub page-bytes : page_bytes p ≡ p.m * (2 ^ p.q / 8)
  pub data-bytes : data_bytes p ≡ sum (full_blocks p)
  pub full-count : full p ≡ len p
  pub spare : (x : List ℕ) → page_clear p x ≡ each fits_in (replicate p.m (len p)) (split (full_sizes p) x)
  pub unused : (b : List ℕ) → blocks_clear p b ≡ each fits_in (full_bits p) (split (full_blocks p) b)
  pub page : (b : List ℕ) → page_of p b ≡ join (full_sizes p) (encode p (split (full_blocks p) b))
  pub verdicts : (x : List ℕ)
      → page_verdict p x
      ≡ cond (each ones_in (replicate p.m (len p)) (split (full_sizes p) x)) Verdict.Blank (verdict p (split (full_sizes p) x))
  pub blocks : (x : List ℕ) → data_of p x ≡ join (full_blocks p) (data_words p (map (λ c. c % 2 ^ len p) (split (full_sizes p) x)))

-- the words of a shortened sheet are those of the full one, whose blocks are the same with s zeros above
pub record ShortenedLaws (p : Parameters) (b : List ℕ) : Type 0 where
  pub fits : Fits (unshortened p) (lengthened p b)
  pub same : (i r : ℕ) → i < p.m → r < stored p - degree p (p.v - i) → block_bit (unshortened p) (lengthened p b) i r ≡ block_bit p b i r
  pub zeros : (i r : ℕ) → i < p.m → stored p - degree p (p.v - i) ≤ r → r < len p - degree p (p.v - i)
      → block_bit (unshortened p) (lengthened p b) i r ≡ 0
  pub words : words_of p (page_of p b) ≡ words_of (unshortened p) (page_of (unshortened p) (lengthened p b))

-- the quote, whose numbers are number 0 to number 11: w_0 to w_v, then the data bits of each block, spare places 0
pub record QuoteLaws (p : Parameters) (number : ℕ → ℕ) : Type 0 where
  pub degrees : (a : ℕ) → a ≤ p.v → number a ≡ degree p a
  pub data-bits : (i : ℕ) → i < p.m → number (4 + i) ≡ stored p - degree p (p.v - i)
  pub past-v : (a : ℕ) → p.v < a → a < 4 → number a ≡ 0
  pub past-m : (i : ℕ) → p.m ≤ i → i < 8 → number (4 + i) ≡ 0

-- a written page has so many: sub-word i has number (v - i) check bits in its lowest places, and above them number (4 + i) data bits
pub record QuotedPage (p : Parameters) (number : ℕ → ℕ) (blocks page : List ℕ) : Type 0 where
  pub places : (i : ℕ) → i < p.m → number (p.v - i) + number (4 + i) ≡ stored p
  -- the data bits stand above the check bits
  pub placed : (i r : ℕ) → i < p.m → r < number (4 + i) → coefficient_of p page i (number (p.v - i) + r) ≡ block_bit p blocks i r
  -- they are free: any numbers of so many bits are blocks that fit
  pub free : (ds : List ℕ) → length ds ≡ p.m → ((i : ℕ) → i < p.m → get_or ds i 0 < 2 ^ number (4 + i))
      → Fits p (join (block_sizes p) ds) × (blocks_of p (join (block_sizes p) ds) ≡ ds)
  -- and the check bits follow from them: no other member has the same data bits
  pub follow : (x : List ℕ) → IsPage p x → IsMember p (words_of p x)
      → ((i r : ℕ) → i < p.m → r < number (4 + i)
      → coefficient_of p x i (number (p.v - i) + r) ≡ coefficient_of p page i (number (p.v - i) + r))
      → x ≡ page

-- read out's answer r and the blocks that it gives of bytes x of a page's length: blank exactly when every coefficient is 1, whatever the
-- spare bits; the blocks of a blank page are given too: every data bit is 1, and no unused bit
pub record BlankReadLaws (p : Parameters) (x out : List ℕ) (r : Judgement) : Type 0 where
  pub answers : (r ≡ Ok Verdict.Blank) ↔ IsBlank p x
  pub fits : IsBlank p x → Fits p out
  pub ones : IsBlank p x → (i k : ℕ) → i < p.m → k < stored p - degree p (p.v - i) → block_bit p out i k ≡ 1

-- judge's answer r for a page x other than blank: member exactly when the words are; a failing word is named exactly when it is the lowest, sub-words first
pub record JudgeLaws (p : Parameters) (x : List ℕ) (r : Judgement) : Type 0 where
  pub member : (r ≡ Ok Verdict.Member) ↔ IsMember p (words_of p x)
  pub sub_word : (i : ℕ) → (r ≡ Ok (Verdict.SubWord i))
      ↔ ((i < p.m) × (¬ Multiple (gen p 0) (sub_word_of p x i)) × ((k : ℕ) → k < i → Multiple (gen p 0) (sub_word_of p x k)))
  pub nested-word : (l : ℕ) → (r ≡ Ok (Verdict.NestedWord l))
      ↔ ((l < p.v) × ((i : ℕ) → i < p.m → Multiple (gen p 0) (sub_word_of p x i))
      × (¬ Multiple (gen p (p.v - l)) (nested_of p x l))
      × ((k : ℕ) → k < l → Multiple (gen p (p.v - k)) (nested_of p x k)))

-- write's answer r and page for blocks that fit, whose page is not blank: a member, whose blocks read back as given
pub record WriteLaws (p : Parameters) (blocks after : List ℕ) (r : Outcome) : Type 0 where
  pub done : r ≡ Ok tt
  pub page : IsPage p after
  pub member : IsMember p (words_of p after)
  pub judged : (j : Judgement) → Judged p after j → j ≡ Ok Verdict.Member
  pub read : (old out : List ℕ) (j : Judgement) → BlocksBuffer p old → ReadOut p after old out j → (j ≡ Ok Verdict.Member) × (out ≡ blocks)

-- write's answer r for blocks that fit: 13 exactly when their page would be blank, and then the lent page is as it was;
-- that is so exactly when s is 0 and every data bit is 1
pub record BlankWriteLaws (p : Parameters) (blocks old after : List ℕ) (r : Outcome) : Type 0 where
  pub refused : (r ≡ Err Refusal.Blank) ↔ IsBlank p (page_of p blocks)
  pub kept : IsBlank p (page_of p blocks) → after ≡ old
  pub ones : IsBlank p (page_of p blocks)
      ↔ ((p.s ≡ 0) × ((i k : ℕ) → i < p.m → k < stored p - degree p (p.v - i) → block_bit p blocks i k ≡ 1))

-- the equal form is equal as a whole
pub record EqualFormLaws (p : Parameters) : Type 0 where
  pub as-whole : (cs : List ℕ) → length cs ≡ p.m
      → ((l : ℕ) → l < p.v → Multiple (gen p (p.v - l)) (nested p l cs))
      ↔ ((l : ℕ) → l < p.v → Multiple (gen p (p.v - l)) (newton l cs))
  pub from-l : (i l : ℕ) → i < l → N i l ≡ 0

pub record Demand2 (p : Parameters) : Type 0 where
  pub field_laws : FieldLaws p
  pub generator-laws : (a : ℕ) → a ≤ p.v → GeneratorLaws p a
  pub remainder-laws : (a : ℕ) → a ≤ p.v → (c : ℕ) → RemainderLaws p a c
  pub short-laws : (l : ℕ) → l < p.v → (cs : List ℕ) → ShortLaws p l cs
  pub syndrome-laws : (c j : ℕ) → SyndromeLaws p c j
  pub register-laws : (a : ℕ) → a ≤ p.v → (c : ℕ) (Ls : List ℕ) → All Width Ls → sum Ls ≤ full p → c < 2 ^ sum Ls → RegisterLaws p a c Ls
  pub buffer-laws : (x : List ℕ) → BufferLaws p x
  pub odd-laws : OddLaws p
  pub placement-laws : PlacementLaws p
  pub stored-laws : StoredLaws p
  pub whole-laws : p.s ≡ 0 → WholeLaws p
  -- the full sheet is accepted too, and has the same members
  pub full-sheet : Accepted (unshortened p) × ((cs : List ℕ) → IsMember p cs ↔ IsMember (unshortened p) cs)
  pub shortened-laws : (b : List ℕ) → Fits p b → ShortenedLaws p b
  -- and each block set of the full sheet whose blocks end in s zeros is one of these
  pub shortened-all : (f : List ℕ) → Fits (unshortened p) f
      → ((i r : ℕ) → i < p.m → stored p - degree p (p.v - i) ≤ r → r < len p - degree p (p.v - i) → block_bit (unshortened p) f i r ≡ 0)
      → (b : List ℕ) × Fits p b × (lengthened p b ≡ f)
  -- bytes of a page's length are judged blank exactly when every coefficient is 1, whatever the spare bits
  pub blank-laws : (x : List ℕ) (r : Judgement) → Bytes x → PageBuffer p x → Judged p x r → (r ≡ Ok Verdict.Blank) ↔ IsBlank p x
  pub blank-read-laws : (x old out : List ℕ) (r : Judgement) → Bytes x → PageBuffer p x → BlocksBuffer p old → ReadOut p x old out r
      → BlankReadLaws p x out r
  -- at s > 0 the words of a blank page are no member's, and whatever bytes are lent, write gives 13 at s = 0 only
  pub blank-no-member : (x : List ℕ) → Bytes x → IsBlank p x → 0 < p.s → ¬ IsMember p (stored_of p x)
  pub blank-whole : (L : ℕ) (blocks old after : List ℕ) → Bytes blocks → Written p L blocks old after (Err Refusal.Blank) → p.s ≡ 0
  pub blank-write-laws : (L : ℕ) (blocks old after : List ℕ) (r : Outcome) → Width L → Fits p blocks → PageBuffer p old
      → Written p L blocks old after r → BlankWriteLaws p blocks old after r
  pub judge-laws : (x : List ℕ) (r : Judgement) → IsPage p x → (¬ IsBlank p x) → Judged p x r → JudgeLaws p x r
  pub write-laws : (L : ℕ) (blocks old after : List ℕ) (r : Outcome) → Width L → Fits p blocks → PageBuffer p old
      → (¬ IsBlank p (page_of p blocks)) → Written p L blocks old after r → WriteLaws p blocks after r
  -- the quote is done in a list of 12 numbers, and every page that write makes of blocks that fit has the bits quoted
  pub quote-laws : (list after : List ℕ) (k : Outcome) → length list ≡ 12 → QuoteMade p list after k
      → (k ≡ Ok tt) × (length after ≡ 12) × QuoteLaws p (λ j. get_or after j 0)
  pub quoted-pages : (number : ℕ → ℕ) (L : ℕ) (blocks old after : List ℕ) (r : Outcome) → QuoteLaws p number → Width L → Fits p blocks
      → PageBuffer p old → (¬ IsBlank p (page_of p blocks)) → Written p L blocks old after r → QuotedPage p number blocks after
  -- read out's answer is judge's, on every page that is lent with a buffer of the blocks' exact length
  pub read-laws : (x old out : List ℕ) (j r : Judgement) → BlocksBuffer p old → Judged p x j → ReadOut p x old out r → r ≡ j
  pub equal-form-laws : EqualFormLaws p

-- ---- demand 3
-- the same answer and, when that is done, the same page
pub record Alike (after after' : List ℕ) (r r' : Outcome) : Type 0 where
  pub answers : r ≡ r'
  pub pages : r ≡ Ok tt → after ≡ after'

-- the page of the sum is the sum of the pages, where none of the three is blank
pub record Sums (p : Parameters) (a b page-a page-b page-sum : List ℕ) (r-a r-b r-sum : Outcome) : Type 0 where
  pub fits : Fits p (add a b)
  pub done-a : r-a ≡ Ok tt
  pub done-b : r-b ≡ Ok tt
  pub done : r-sum ≡ Ok tt
  pub page : page-sum ≡ add page-a page-b

-- a page x, blank or not, judged j, read out with the answer r, and its blocks, which fit, written again with the answer w
pub record Rewrites (p : Parameters) (x blocks after : List ℕ) (j r : Judgement) (w : Outcome) : Type 0 where
  pub fits : Fits p blocks
  pub by-judge : (j ≡ Ok Verdict.Member) ↔ ((w ≡ Ok tt) × (after ≡ x))
  pub by-read-out : (r ≡ Ok Verdict.Member) ↔ ((w ≡ Ok tt) × (after ≡ x))

-- the distance is the smallest of (v + 1)(2 t_0 + 1) and b (2 t_(v-b+1) + 1), b from 1 to v
abbrev pub Smallest : Parameters → Type 0
Smallest p =
    (d : ℕ) → (d ≤ distance p)
    ↔ ((d ≤ (p.v + 1) * (2 * strength p 0 + 1)) × ((b : ℕ) → 1 ≤ b → b ≤ p.v → d ≤ b * (2 * strength p (p.v - b + 1) + 1)))

pub record Demand3 (p : Parameters) : Type 0 where
  pub alike : (L M : ℕ) (blocks old old' after after' : List ℕ) (r r' : Outcome) → Width L → Width M → length old ≡ length old'
      → Written p L blocks old after r → Written p M blocks old' after' r' → Alike after after' r r'
  pub sums : (K L M : ℕ) (a b old-a old-b old-sum page-a page-b page-sum : List ℕ) (r-a r-b r-sum : Outcome) → Width K → Width L → Width M
      → Fits p a → Fits p b → PageBuffer p old-a → PageBuffer p old-b → PageBuffer p old-sum
      → (¬ IsBlank p (page_of p a)) → (¬ IsBlank p (page_of p b)) → (¬ IsBlank p (page_of p (add a b)))
      → Written p K a old-a page-a r-a → Written p L b old-b page-b r-b → Written p M (add a b) old-sum page-sum r-sum
      → Sums p a b page-a page-b page-sum r-a r-b r-sum
  pub rewrites : (L : ℕ) (x old-blocks blocks old-page after : List ℕ) (j r : Judgement) (w : Outcome) → Width L → IsPage p x
      → BlocksBuffer p old-blocks → PageBuffer p old-page
      → Judged p x j → ReadOut p x old-blocks blocks r → Written p L blocks old-page after w → Rewrites p x blocks after j r w
  pub apart : (x y : List ℕ) → Bytes x → Bytes y → Judged p x (Ok Verdict.Member) → Judged p y (Ok Verdict.Member) → x ≢ y
      → distance p ≤ differences p x y
  pub smallest : Smallest p

-- ---- bursts: the changed places lie side by side, in the requirement's words a scratched run
-- w_v neighbouring places from a on; at s = 0 place 0 follows place n - 1
abbrev pub InBurst : Parameters → ℕ → ℕ → Type 0
InBurst p a k =
    ((a ≤ k) × (k < a + degree p p.v))
    ⊎ ((p.s ≡ 0) × (k + len p < a + degree p p.v))

abbrev pub Burst : Parameters → List ℕ → List ℕ → ℕ → ℕ → Type 0
Burst p x y i a = (j k : ℕ) → j < p.m → k < stored p → coefficient_of p x j k ≢ coefficient_of p y j k → (j ≡ i) × InBurst p a k

-- members x and y that differ in sub-word i alone, within w_v + 1 neighbouring places
pub record LongerBurst (p : Parameters) (i a : ℕ) (x y : List ℕ) : Type 0 where
  pub member-x : (r : Judgement) → Judged p x r → r ≡ Ok Verdict.Member
  pub member-y : (r : Judgement) → Judged p y r → r ≡ Ok Verdict.Member
  pub other : x ≢ y
  pub places : (j k : ℕ) → j < p.m → k < stored p → coefficient_of p x j k ≢ coefficient_of p y j k
      → (j ≡ i) × (a ≤ k) × (k < a + (degree p p.v + 1))

pub record BurstLaws (p : Parameters) : Type 0 where
  -- a member x and other bytes y, of any length, that differ from it in one burst: whatever judge says of y, it is not member
  pub never : (x y : List ℕ) (i a : ℕ) (r : Judgement) → Bytes x → Bytes y → i < p.m → a < stored p
      → Judged p x (Ok Verdict.Member) → Burst p x y i a → x ≢ y → Judged p y r → r ≢ Ok Verdict.Member
  -- of a page other than blank, that sub-word is named or, if it passes, nested word 0
  pub named : (x y : List ℕ) (i a : ℕ) (r : Judgement) → Bytes x → IsPage p y → (¬ IsBlank p y) → i < p.m → a < stored p
      → Judged p x (Ok Verdict.Member) → Burst p x y i a → x ≢ y → Judged p y r → (r ≡ Ok (Verdict.SubWord i)) ⊎ (r ≡ Ok (Verdict.NestedWord 0))
  -- in bytes: whatever is done to l neighbouring bytes of a sub-word, 8 l up to w_v; and 8 is, so one byte always may be
  pub bytes : (x y : List ℕ) (i o l : ℕ) (r : Judgement) → Bytes x → Bytes y → i < p.m → 1 ≤ l → o + l ≤ sub_word_bytes p
      → 8 * l ≤ degree p p.v
      → ((k : ℕ) → (k < i * sub_word_bytes p + o) ⊎ (i * sub_word_bytes p + o + l ≤ k) → get_or x k 0 ≡ get_or y k 0)
      → Judged p x (Ok Verdict.Member) → x ≢ y → Judged p y r → r ≢ Ok Verdict.Member
  pub one_byte : 8 ≤ degree p p.v
  -- a spare bit that is 1 makes bytes of a page's length 8, unless every coefficient is 1: then they are blank
  pub stray : (y : List ℕ) (j k : ℕ) (r : Judgement) → Bytes y → PageBuffer p y → (¬ IsBlank p y) → j < p.m → stored p ≤ k
      → k < 8 * sub_word_bytes p → coefficient_of p y j k ≡ 1 → Judged p y r → r ≡ Err Refusal.Stray
  -- and w_v is the most: one place more, and two members differ, in whatever sub-word and from whatever place on
  pub longer : (i a : ℕ) → i < p.m → a + degree p p.v < stored p → (x : List ℕ) × (y : List ℕ) × LongerBurst p i a x y

-- ---- many pages in one call
-- the same answer and, when that is done, the same list, and the same pages where the list has 0
pub record AlikeMany (p : Parameters) (after after' listed listed' : List ℕ) (r r' : Outcome) : Type 0 where
  pub answers : r ≡ r'
  pub lists : r ≡ Ok tt → listed ≡ listed'
  pub pages : r ≡ Ok tt → (k : ℕ) → k < length listed → get_or listed k 0 ≡ 0
      → part (page_bytes p) k after ≡ part (page_bytes p) k after'

pub record ManyLaws (p : Parameters) : Type 0 where
  -- done exactly when a width, 1 to 16 pages and exact lengths are lent, whatever bytes
  pub done : (L count : ℕ) (blocks pages after list listed : List ℕ) (r : Outcome) → WrittenMany p L count blocks pages after list listed r
      → (r ≡ Ok tt) ↔ Lent p L count (length blocks) (length pages) (length list)
  -- a refusal of the call alters no byte
  pub kept : (L count : ℕ) (e : Refusal) (blocks pages after list listed : List ℕ)
      → WrittenMany p L count blocks pages after list listed (Err e) → (after ≡ pages) × (listed ≡ list)
  -- done, page k and the k-th byte listed are what write gives of the k-th blocks; and the pages are all that there is
  pub each : (L count : ℕ) (blocks pages after list listed : List ℕ) → WrittenMany p L count blocks pages after list listed (Ok tt)
      → (k : ℕ) → k < count
      → Written p L (part (data_bytes p) k blocks) (part (page_bytes p) k pages) (part (page_bytes p) k after) (outcome (get_or listed k 0))
  -- its number too: two numbers above last_refusal have one outcome
  pub status : (L count : ℕ) (blocks pages after list listed : List ℕ) → WrittenMany p L count blocks pages after list listed (Ok tt)
      → (k : ℕ) → k < count
      → get_or listed k 0 ≡ write_refusal p L (part (data_bytes p) k blocks) (length (part (page_bytes p) k pages))
  pub whole : (L count : ℕ) (blocks pages after list listed : List ℕ) → WrittenMany p L count blocks pages after list listed (Ok tt)
      → (after ≡ runs (λ k. part (page_bytes p) k after) 0 count) × (length after ≡ length pages) × (length listed ≡ count)
  -- a listed byte is 0, 8 or 13
  pub says : (L count : ℕ) (blocks pages after list listed : List ℕ) → WrittenMany p L count blocks pages after list listed (Ok tt)
      → (k : ℕ) → k < count → (get_or listed k 0 ≡ 0) ⊎ ((get_or listed k 0 ≡ 8) ⊎ (get_or listed k 0 ≡ 13))
  -- demand 3: alike at every two widths, whatever bytes are lent
  pub alike : (L M count : ℕ) (blocks pages pages' after after' list list' listed listed' : List ℕ) (r r' : Outcome) → Width L → Width M
      → length pages ≡ length pages' → length list ≡ length list' → WrittenMany p L count blocks pages after list listed r
      → WrittenMany p M count blocks pages' after' list' listed' r' → AlikeMany p after after' listed listed' r r'

-- ---- one bit altered
-- bit r of block i is one of the sheet's, and b is a bit
pub record NamesBit (p : Parameters) (i r b : ℕ) : Type 0 where
  pub block : i < p.m
  pub bit : r < stored p - degree p (p.v - i)
  pub value : b ≤ 1

-- blocks c that fit: bit r of block i is b, and bit k of block j, any other, is old j k
pub record SetTo (p : Parameters) (c : List ℕ) (i r b : ℕ) (old : ℕ → ℕ → ℕ) : Type 0 where
  pub fits : Fits p c
  pub here : block_bit p c i r ≡ b
  pub others : (j k : ℕ) → j < p.m → k < stored p - degree p (p.v - j) → (j ≢ i) ⊎ (k ≢ r) → block_bit p c j k ≡ old j k

-- a member altered, with the answer o, and its altered blocks written, with the answer w: the same answer, and done the same page, a
-- member; of a shortened sheet it is always done
pub record AlteredMember (p : Parameters) (after page : List ℕ) (o w : Outcome) : Type 0 where
  pub answers : o ≡ w
  pub pages : o ≡ Ok tt → after ≡ page
  pub judged : o ≡ Ok tt → (v : Judgement) → Judged p after v → v ≡ Ok Verdict.Member
  pub shortened : 0 < p.s → o ≡ Ok tt

pub record AlterLaws (p : Parameters) : Type 0 where
  -- done exactly when a page with clear spare bits is lent and a bit and its value are named, unless the page would be blank: then 13,
  -- whether or not the value is another
  pub done : (x after : List ℕ) (i r b : ℕ) (o : Outcome) → Bytes x → Altered p x i r b after o
      → (o ≡ Ok tt) ↔ (IsPage p x × NamesBit p i r b × (¬ IsBlank p (altered p x i r b)))
  pub blank : (x after : List ℕ) (i r b : ℕ) (o : Outcome) → Bytes x → Altered p x i r b after o
      → (o ≡ Err Refusal.Blank) ↔ (IsPage p x × NamesBit p i r b × IsBlank p (altered p x i r b))
  -- a refusal alters no byte, and an equal value none
  pub kept : (x after : List ℕ) (i r b : ℕ) (e : Refusal) → Altered p x i r b after (Err e) → after ≡ x
  pub same : (x after : List ℕ) (i r b : ℕ) (o : Outcome) → coefficient_of p x i (degree p (p.v - i) + r) ≡ b → Altered p x i r b after o
      → after ≡ x
  -- another value adds the page that write makes of blocks that are 0 but for this bit, whatever page is lent
  pub added : (L : ℕ) (x after c old unit : List ℕ) (i r b : ℕ) (w : Outcome) → Bytes x → Altered p x i r b after (Ok tt)
      → coefficient_of p x i (degree p (p.v - i) + r) ≢ b → SetTo p c i r 1 (λ j k. 0) → Width L → PageBuffer p old → Written p L c old unit w
      → (w ≡ Ok tt) × (after ≡ add x unit)
  -- afterwards the bit is b, and every other data bit is as it was
  pub made : (x after : List ℕ) (i r b : ℕ) → Bytes x → Altered p x i r b after (Ok tt)
      → coefficient_of p after i (degree p (p.v - i) + r) ≡ b
  pub others : (x after : List ℕ) (i r b j k : ℕ) → Bytes x → Altered p x i r b after (Ok tt) → j < p.m
      → k < stored p - degree p (p.v - j) → (j ≢ i) ⊎ (k ≢ r)
      → coefficient_of p after j (degree p (p.v - j) + k) ≡ coefficient_of p x j (degree p (p.v - j) + k)
  -- a member, read out, its blocks altered in this bit and written again: the very same
  pub member : (L : ℕ) (x after old-blocks a c old page : List ℕ) (i r b : ℕ) (v : Judgement) (o w : Outcome) → Width L → Bytes x
      → Judged p x (Ok Verdict.Member) → NamesBit p i r b → BlocksBuffer p old-blocks → PageBuffer p old → Altered p x i r b after o
      → ReadOut p x old-blocks a v → SetTo p c i r b (block_bit p a) → Written p L c old page w → AlteredMember p after page o w
  -- and there are such blocks
  pub settable : (a : List ℕ) (i r b : ℕ) → Fits p a → NamesBit p i r b → (c : List ℕ) × SetTo p c i r b (block_bit p a)
  -- sub-words other than i and those below both i and v keep every byte
  pub elsewhere : (x after : List ℕ) (i r b j : ℕ) (o : Outcome) → Bytes x → Altered p x i r b after o → j < p.m → j ≢ i
      → (i < j) ⊎ (p.v ≤ j) → part (sub_word_bytes p) j after ≡ part (sub_word_bytes p) j x
  -- at least the distance is changed, and at most one more than the check bits of the sub-words concerned
  pub least : (x after : List ℕ) (i r b : ℕ) → Bytes x → Altered p x i r b after (Ok tt)
      → coefficient_of p x i (degree p (p.v - i) + r) ≢ b → distance p ≤ differences p x after
  pub most : (x after : List ℕ) (i r b : ℕ) → Bytes x → Altered p x i r b after (Ok tt)
      → differences p x after ≤ add_below p.m (λ j. cond (eqb j i || (ltb j i && ltb j p.v)) (degree p (p.v - j)) 0) + 1

-- ---- one sub-word mended
-- what mend is to be lent: a page with clear spare bits, a sub-word of it, and a list of t_0 numbers, each of `size` places
pub record MendLent (size : ℕ) (p : Parameters) (x : List ℕ) (i k : ℕ) : Type 0 where
  pub page : IsPage p x
  pub sub_word : i < p.m
  pub list : k ≡ size * strength p 0

-- the flips R done to sub-word i of x: what it is afterwards, how they are listed, and their number
pub record Mends (p : Parameters) (x after : List ℕ) (i : ℕ) (listed : List ℕ) (counted : ℕ) (R : List ℕ) : Type 0 where
  pub flips : Flips p 0 (sub_word_of p x i) R
  pub sub_word : sub_word_of p after i ≡ xor (sub_word_of p x i) (F.flips R)
  pub list : listed ≡ R ++ replicate (strength p 0 - length R) 65535
  pub number : counted ≡ length R

-- z with at most t_0 stored bits of sub-word i flipped
pub record Damaged (p : Parameters) (z x : List ℕ) (i : ℕ) : Type 0 where
  pub elsewhere : (j : ℕ) → j < p.m → j ≢ i → part (sub_word_bytes p) j x ≡ part (sub_word_bytes p) j z
  pub few : differences p x z ≤ strength p 0

pub record MendLaws (p : Parameters) : Type 0 where
  -- of the multiples of g_a that are 0 in their top s places at most one is within t_a flips of a word, and by one rising list
  pub once : (a y c d : ℕ) → a ≤ p.v → Near p a y c → Near p a y d → c ≡ d
  pub one_list : (a y : ℕ) (R Q : List ℕ) → a ≤ p.v → y < 2 ^ stored p → Flips p a y R → Flips p a y Q → R ≡ Q
  -- done exactly when what is to be lent is, and there is such a multiple of g_0; 15 exactly when it is and there is none
  pub done : (x after : List ℕ) (i : ℕ) (l listed : List ℕ) (n counted : ℕ) (o : Outcome) → Bytes x → Mended p x after i l listed n counted o
      → (o ≡ Ok tt) ↔ (MendLent 1 p x i (length l) × ((c : ℕ) × Near p 0 (sub_word_of p x i) c))
  pub nowhere : (x after : List ℕ) (i : ℕ) (l listed : List ℕ) (n counted : ℕ) (o : Outcome) → Bytes x → Mended p x after i l listed n counted o
      → (o ≡ Err Refusal.Unmended) ↔ (MendLent 1 p x i (length l) × ((c : ℕ) → ¬ Near p 0 (sub_word_of p x i) c))
  -- a refusal changes nothing: page, list, number
  pub kept : (x after : List ℕ) (i : ℕ) (l listed : List ℕ) (n counted : ℕ) (e : Refusal) → Mended p x after i l listed n counted (Err e)
      → (after ≡ x) × (listed ≡ l) × (counted ≡ n)
  -- done, sub-word i is that multiple; it came by the flips that are listed, and as many bits differ
  pub mended : (x after : List ℕ) (i : ℕ) (l listed : List ℕ) (n counted : ℕ) → Bytes x → Mended p x after i l listed n counted (Ok tt)
      → IsPage p after × Near p 0 (sub_word_of p x i) (sub_word_of p after i)
  pub places : (x after : List ℕ) (i : ℕ) (l listed : List ℕ) (n counted : ℕ) → Bytes x → Mended p x after i l listed n counted (Ok tt)
      → (R : List ℕ) × Mends p x after i listed counted R
  -- whatever is answered, every byte of the other sub-words stays
  pub elsewhere : (x after : List ℕ) (i : ℕ) (l listed : List ℕ) (n counted : ℕ) (o : Outcome) (j : ℕ) → Bytes x
      → Mended p x after i l listed n counted o → j < p.m → j ≢ i → part (sub_word_bytes p) j after ≡ part (sub_word_bytes p) j x
  -- a fault-free sub-word has no flips
  pub clean : (x after : List ℕ) (i : ℕ) (l listed : List ℕ) (n counted : ℕ) (o : Outcome) → Bytes x → Mended p x after i l listed n counted o
      → MendLent 1 p x i (length l) → Multiple (gen p 0) (sub_word_of p x i)
      → (o ≡ Ok tt) × (after ≡ x) × (listed ≡ replicate (strength p 0) 65535) × (counted ≡ 0)
  -- a member with at most t_0 stored bits of one sub-word flipped comes back
  pub back : (z x after : List ℕ) (i : ℕ) (l listed : List ℕ) (n counted : ℕ) (o : Outcome) → Bytes z → Bytes x → Judged p z (Ok Verdict.Member)
      → Damaged p z x i → MendLent 1 p x i (length l) → Mended p x after i l listed n counted o
      → (o ≡ Ok tt) × (after ≡ z) × (counted ≡ differences p x z)

-- ---- a page mended through its nested words
-- the page in work after the first pass and k rounds: b_k, and its bytes
abbrev pub left : Parameters → List ℕ → ℕ → ℕ
left p x k = length (after p (words_of p x) k).broken

abbrev pub page_after : Parameters → List ℕ → ℕ → List ℕ
page_after p x k = join (word_sizes p) (after p (words_of p x) k).words

-- the first pass: a sub-word that flips of at most t_0 stored places make a multiple of g_0 is mended by these; any other stays, broken
pub record PassLaws (p : Parameters) (x : List ℕ) (W : Work) : Type 0 where
  pub mends : (i : ℕ) (R : List ℕ) → i < p.m → Flips p 0 (sub_word_of p x i) R
      → (get_or W.words i 0 ≡ xor (sub_word_of p x i) (F.flips R)) × (¬ Mem i W.broken)
  pub stays : (i : ℕ) → i < p.m → ((R : List ℕ) → ¬ Flips p 0 (sub_word_of p x i) R) → (get_or W.words i 0 ≡ sub_word_of p x i) × Mem i W.broken
  pub rising : F.Rising 0 p.m W.broken

-- a round from W to W', of b broken sub-words, at level a = v - b + 1
pub record RoundLaws (p : Parameters) (W W' : Work) : Type 0 where
  -- a broken sub-word is mended by the stored places, at most t_a, of an error with the syndromes that the nested words give; or stays, broken
  pub mends : (i : ℕ) (R : List ℕ) → Mem i W.broken → ErrorBy p (p.v - length W.broken + 1) (error_sums p W i) R
      → (get_or W'.words i 0 ≡ xor (get_or W.words i 0) (F.flips R)) × (¬ Mem i W'.broken)
  pub stays : (i : ℕ) → Mem i W.broken → ((R : List ℕ) → ¬ ErrorBy p (p.v - length W.broken + 1) (error_sums p W i) R)
      → (get_or W'.words i 0 ≡ get_or W.words i 0) × Mem i W'.broken
  pub others : (i : ℕ) → ¬ Mem i W.broken → (get_or W'.words i 0 ≡ get_or W.words i 0) × (¬ Mem i W'.broken)
  pub rising : F.Rising 0 p.m W'.broken
  -- which these are: S_j of nested word l, l < b, is the sum over the broken sub-words i of α^(j i l) S_j(i)
  pub sums : (j l : ℕ) → 0 < j → j ≤ 2 * strength p p.v → l < length W.broken
      → syndrome p.q (nested p l W.words) j ≡ add_over (λ i. times p.q (error_sums p W i j) (power p.q (j * i * l))) W.broken
  -- so of a page that came from a member by errors in broken sub-words, at most v, they are those of the errors, to S_(2 t_a)
  pub errors : (z : List ℕ) → Bytes z → Judged p z (Ok Verdict.Member) → ((i : ℕ) → i < p.m → ¬ Mem i W.broken → get_or W.words i 0 ≡ sub_word_of p z i)
      → length W.broken ≤ p.v → (i j : ℕ) → Mem i W.broken → 0 < j → j ≤ 2 * strength p (p.v - length W.broken + 1)
      → error_sums p W i j ≡ syndrome p.q (xor (get_or W.words i 0) (sub_word_of p z i)) j

-- which pages are mended, Member being judge's word for a member: of at most v broken sub-words none is left after k rounds
abbrev pub Succeeds : Parameters → List ℕ → (List ℕ → Type 0) → Type 0
Succeeds p x Member = (left p x 0 ≤ p.v) × ((k : ℕ) × (left p x k ≡ 0) × Member (page_after p x k))

-- and which are not: more than v are broken, a round leaves as many, or the end page is no member
abbrev pub Fails : Parameters → List ℕ → (List ℕ → Type 0) → Type 0
Fails p x Member =
    (p.v < left p x 0)
    ⊎ (((k : ℕ) × (0 < left p x k) × (left p x k ≤ p.v) × (left p x (suc k) ≡ left p x k))
    ⊎ ((k : ℕ) × (left p x k ≡ 0) × (¬ Member (page_after p x k))))

-- x came from z by flips that passes and rounds mend: the change request's supposition
pub record Recoverable (p : Parameters) (z x : List ℕ) : Type 0 where
  -- at most v sub-words have more than t_0 flips
  pub few : count_below p.m (λ i. ltb (strength p 0) (flips_in p x z i)) ≤ p.v
  -- no single mending, in the first pass or in a round, gave a wrong word
  pub right : (k i : ℕ) → i < p.m → ¬ Mem i (after p (words_of p x) k).broken → get_or (after p (words_of p x) k).words i 0 ≡ sub_word_of p z i
  -- in every round some sub-word that is left has at most t_a flips, a = v - b + 1
  pub light : (k : ℕ) → 0 < length (after p (words_of p x) k).broken
      → (i : ℕ) × Mem i (after p (words_of p x) k).broken × (flips_in p x z i ≤ strength p (p.v - length (after p (words_of p x) k).broken + 1))

-- how many sub-words have more than t_a flips
abbrev pub heavier : Parameters → List ℕ → List ℕ → ℕ → ℕ
heavier p z x a = count_below p.m (λ i. ltb (strength p a) (flips_in p x z i))

-- x came from z by flips within the reach of rounds
pub record Reached (p : Parameters) (z x : List ℕ) : Type 0 where
  -- for c from 1 to v + 1 fewer than c sub-words have more than t_(v+1-c) flips
  pub few : (c : ℕ) → 1 ≤ c → c ≤ p.v + 1 → heavier p z x (p.v + 1 - c) < c
  -- no error of more than t_a flips, at level 0 or at one that a round may have, is within t_a flips of a multiple of g_a
  pub apart : (a i c : ℕ) → a ≤ p.v → (a ≡ 0) ⊎ (p.v < a + heavier p z x 0) → i < p.m → strength p a < flips_in p x z i
      → ¬ Near p a (xor (sub_word_of p x i) (sub_word_of p z i)) c

-- at most b sub-words, b at most v, have more than t_0 flips, and these at most t_(v-b+1); none of them is near a multiple of g_0
pub record OneRound (p : Parameters) (z x : List ℕ) : Type 0 where
  pub few : heavier p z x 0 ≤ p.v
  pub light : (i : ℕ) → i < p.m → strength p 0 < flips_in p x z i → flips_in p x z i ≤ strength p (p.v - heavier p z x 0 + 1)
  pub apart : (i c : ℕ) → i < p.m → strength p 0 < flips_in p x z i → ¬ Near p 0 (sub_word_of p x i) c

pub record PageLaws (p : Parameters) : Type 0 where
  -- the first pass and each round, literally
  pub pass : (x : List ℕ) → IsPage p x → PassLaws p x (after p (words_of p x) 0)
  pub each-round : (x : List ℕ) (k : ℕ) → IsPage p x → RoundLaws p (after p (words_of p x) k) (after p (words_of p x) (suc k))
  -- done exactly when a page with clear spare bits is lent and a member comes of it; 17 exactly when it is and none does
  pub done : (x after : List ℕ) (o : Outcome) → Bytes x → PageMended p x after o
      → (o ≡ Ok tt) ↔ (IsPage p x × ((cs : List ℕ) × (mend_page p (words_of p x) ≡ some cs)))
  pub nowhere : (x after : List ℕ) (o : Outcome) → Bytes x → PageMended p x after o
      → (o ≡ Err Refusal.UnmendedPage) ↔ (IsPage p x × (mend_page p (words_of p x) ≡ none))
  -- done, literally: such a page is lent, at most v sub-words are broken, and after some rounds none, and a member is there:
  -- that is the page afterwards
  pub succeeds : (x after : List ℕ) (o : Outcome) → Bytes x → PageMended p x after o
      → (o ≡ Ok tt) ↔ (IsPage p x × Succeeds p x (λ y. Judged p y (Ok Verdict.Member)))
  pub page : (x after : List ℕ) (k : ℕ) → Bytes x → PageMended p x after (Ok tt) → left p x k ≡ 0 → after ≡ page_after p x k
  -- 17, literally: such a page is lent and more than v are broken, a round leaves as many, or the end page is no member
  pub fails : (x after : List ℕ) (o : Outcome) → Bytes x → PageMended p x after o
      → (o ≡ Err Refusal.UnmendedPage) ↔ (IsPage p x × Fails p x (λ y. Judged p y (Ok Verdict.Member)))
  -- a refusal changes no byte
  pub kept : (x after : List ℕ) (e : Refusal) → PageMended p x after (Err e) → after ≡ x
  -- whatever page with clear spare bits: a member, judge says so, or 17 and the old bytes
  pub otherwise : (x after : List ℕ) (o : Outcome) → IsPage p x → PageMended p x after o
      → ((o ≡ Ok tt) × IsPage p after × ((r : Judgement) → Judged p after r → r ≡ Ok Verdict.Member)) ⊎ ((o ≡ Err Refusal.UnmendedPage) × (after ≡ x))
  -- a member stays as it is
  pub clean : (x after : List ℕ) (o : Outcome) → Bytes x → Judged p x (Ok Verdict.Member) → PageMended p x after o → (o ≡ Ok tt) × (after ≡ x)
  -- the member comes back
  pub back : (z x after : List ℕ) (o : Outcome) → Bytes z → IsPage p x → Judged p z (Ok Verdict.Member) → Recoverable p z x → PageMended p x after o
      → (o ≡ Ok tt) × (after ≡ z)
  -- always, where no sub-word has more than t_0 flips
  pub always : (z x after : List ℕ) (o : Outcome) → Bytes z → IsPage p x → Judged p z (Ok Verdict.Member)
      → ((i : ℕ) → i < p.m → flips_in p x z i ≤ strength p 0) → PageMended p x after o → (o ≡ Ok tt) × (after ≡ z)
  -- within reach, in as many rounds as it takes, and in one
  pub reached : (z x after : List ℕ) (o : Outcome) → Bytes z → IsPage p x → Judged p z (Ok Verdict.Member) → Reached p z x → PageMended p x after o
      → (o ≡ Ok tt) × (after ≡ z)
  pub one-round : (z x after : List ℕ) (o : Outcome) → Bytes z → IsPage p x → Judged p z (Ok Verdict.Member) → OneRound p z x → PageMended p x after o
      → (o ≡ Ok tt) × (after ≡ z)
  -- at most v rounds: any number more gives the same
  pub enough : (d : ℕ) (x : List ℕ) → rounds p (p.v + d) (start p (words_of p x)) ≡ mend_page p (words_of p x)

-- ---- demand 3 of the C calls
-- the same number and, when that is 0, the same page
pub record AlikeC (after after' : List ℕ) (r r' : ℕ) : Type 0 where
  pub answers : r ≡ r'
  pub pages : r ≡ 0 → after ≡ after'

pub record SumsC (p : Parameters) (a b page-a page-b page-sum : List ℕ) (r-a r-b r-sum : ℕ) : Type 0 where
  pub fits : Fits p (add a b)
  pub done-a : r-a ≡ 0
  pub done-b : r-b ≡ 0
  pub done : r-sum ≡ 0
  pub page : page-sum ≡ add page-a page-b

pub record RewritesC (p : Parameters) (x blocks after : List ℕ) (j r w : ℕ) : Type 0 where
  pub fits : Fits p blocks
  pub by-judge : (j ≡ 0) ↔ ((w ≡ 0) × (after ≡ x))
  pub by-read-out : (r ≡ 0) ↔ ((w ≡ 0) × (after ≡ x))

pub record Demand3C (p : Parameters) : Type 0 where
  pub alike : (L M : ℕ) (blocks old old' after after' : List ℕ) (r r' : ℕ) → Width L → Width M → length old ≡ length old'
      → WrittenC p L blocks old after r → WrittenC p M blocks old' after' r' → AlikeC after after' r r'
  pub sums : (K L M : ℕ) (a b old-a old-b old-sum page-a page-b page-sum : List ℕ) (r-a r-b r-sum : ℕ)
      → Width K → Width L → Width M → Fits p a → Fits p b → PageBuffer p old-a → PageBuffer p old-b → PageBuffer p old-sum
      → (¬ IsBlank p (page_of p a)) → (¬ IsBlank p (page_of p b)) → (¬ IsBlank p (page_of p (add a b)))
      → WrittenC p K a old-a page-a r-a → WrittenC p L b old-b page-b r-b → WrittenC p M (add a b) old-sum page-sum r-sum
      → SumsC p a b page-a page-b page-sum r-a r-b r-sum
  pub rewrites : (L : ℕ) (x old-blocks blocks old-page after : List ℕ) (j r w : ℕ) → Width L → IsPage p x → BlocksBuffer p old-blocks
      → PageBuffer p old-page
      → JudgedC p x j → ReadOutC p x old-blocks blocks r → WrittenC p L blocks old-page after w → RewritesC p x blocks after j r w
  pub apart : (x y : List ℕ) → Bytes x → Bytes y → JudgedC p x 0 → JudgedC p y 0 → x ≢ y → distance p ≤ differences p x y

-- ---- blank pages in C
pub record BlankC (p : Parameters) : Type 0 where
  pub judged : (x : List ℕ) (r : ℕ) → Bytes x → PageBuffer p x → JudgedC p x r → (r ≡ 96) ↔ IsBlank p x
  pub read_out : (x old out : List ℕ) (r : ℕ) → Bytes x → PageBuffer p x → BlocksBuffer p old → ReadOutC p x old out r
      → (r ≡ 96) ↔ IsBlank p x
  pub read-ones : (x old out : List ℕ) (r : ℕ) → Bytes x → PageBuffer p x → BlocksBuffer p old → ReadOutC p x old out r → IsBlank p x
      → Fits p out × ((i k : ℕ) → i < p.m → k < stored p - degree p (p.v - i) → block_bit p out i k ≡ 1)
  pub written : (L : ℕ) (blocks old after : List ℕ) (r : ℕ) → Width L → Fits p blocks → PageBuffer p old → WrittenC p L blocks old after r
      → (r ≡ 13) ↔ IsBlank p (page_of p blocks)
  pub kept : (L : ℕ) (blocks old after : List ℕ) (r : ℕ) → Width L → Fits p blocks → PageBuffer p old → WrittenC p L blocks old after r
      → IsBlank p (page_of p blocks) → after ≡ old
  pub whole : (L : ℕ) (blocks old after : List ℕ) → Bytes blocks → WrittenC p L blocks old after 13 → p.s ≡ 0

-- ---- bursts in C
pub record BurstC (p : Parameters) : Type 0 where
  pub never : (x y : List ℕ) (i a r : ℕ) → Bytes x → Bytes y → i < p.m → a < stored p → JudgedC p x 0 → Burst p x y i a → x ≢ y
      → JudgedC p y r → r ≢ 0
  pub named : (x y : List ℕ) (i a r : ℕ) → Bytes x → IsPage p y → (¬ IsBlank p y) → i < p.m → a < stored p → JudgedC p x 0
      → Burst p x y i a → x ≢ y → JudgedC p y r → (r ≡ 32 + i) ⊎ (r ≡ 64)
  pub bytes : (x y : List ℕ) (i o l r : ℕ) → Bytes x → Bytes y → i < p.m → 1 ≤ l → o + l ≤ sub_word_bytes p → 8 * l ≤ degree p p.v
      → ((k : ℕ) → (k < i * sub_word_bytes p + o) ⊎ (i * sub_word_bytes p + o + l ≤ k) → get_or x k 0 ≡ get_or y k 0)
      → JudgedC p x 0 → x ≢ y → JudgedC p y r → r ≢ 0
  pub stray : (y : List ℕ) (j k r : ℕ) → Bytes y → PageBuffer p y → (¬ IsBlank p y) → j < p.m → stored p ≤ k → k < 8 * sub_word_bytes p
      → coefficient_of p y j k ≡ 1 → JudgedC p y r → r ≡ 8

-- ---- all syndromes from the odd ones, in C: number k stands at bytes 2k and 2k + 1, low byte first
pub record OddC (p : Parameters) : Type 0 where
  pub sub_word : (x list odd old after : List ℕ) (i o : ℕ) → SyndromesMadeC p x i list odd 0 → length old ≡ 4 * strength p 0
      → AllMadeC p 0 odd old after o → (o ≡ 0) × (after ≡ as_bytes (syndromes p (2 * strength p 0) (sub_word_of p x i)))
  pub nested-word : (x list odd old after : List ℕ) (l o : ℕ) → NestedSyndromesMadeC p x l list odd 0 → length old ≡ 4 * strength p (p.v - l)
      → AllMadeC p (p.v - l) odd old after o → (o ≡ 0) × (after ≡ as_bytes (syndromes p (2 * strength p (p.v - l)) (nested_of p x l)))
  pub number : (c k j : ℕ) → j < k → number_at (as_bytes (syndromes p k c)) j ≡ syndrome p.q c (suc j)

-- ---- the quote of C: number k stands at bytes 2k and 2k + 1 of 24, low byte first
pub record QuotedC (p : Parameters) : Type 0 where
  pub quote-laws : (list after : List ℕ) (k : ℕ) → length list ≡ 24 → QuoteMadeC p list after k → (k ≡ 0) × QuoteLaws p (number_at after)
  pub quoted-pages : (number : ℕ → ℕ) (L : ℕ) (blocks old after : List ℕ) (r : ℕ) → QuoteLaws p number → Width L → Fits p blocks
      → PageBuffer p old → (¬ IsBlank p (page_of p blocks)) → WrittenC p L blocks old after r → QuotedPage p number blocks after

-- ---- many pages in C
-- the same number and, when that is 0, the same list, and the same pages where the list has 0
pub record AlikeManyC (p : Parameters) (after after' listed listed' : List ℕ) (r r' : ℕ) : Type 0 where
  pub answers : r ≡ r'
  pub lists : r ≡ 0 → listed ≡ listed'
  pub pages : r ≡ 0 → (k : ℕ) → k < length listed → get_or listed k 0 ≡ 0 → part (page_bytes p) k after ≡ part (page_bytes p) k after'

pub record ManyC (p : Parameters) : Type 0 where
  pub done : (L count : ℕ) (blocks pages after list listed : List ℕ) (r : ℕ) → WrittenManyC p L count blocks pages after list listed r
      → (r ≡ 0) ↔ Lent p L count (length blocks) (length pages) (length list)
  pub kept : (L count : ℕ) (blocks pages after list listed : List ℕ) (r : ℕ) → WrittenManyC p L count blocks pages after list listed r
      → r ≢ 0 → (after ≡ pages) × (listed ≡ list)
  pub each : (L count : ℕ) (blocks pages after list listed : List ℕ) → WrittenManyC p L count blocks pages after list listed 0
      → (k : ℕ) → k < count
      → WrittenC p L (part (data_bytes p) k blocks) (part (page_bytes p) k pages) (part (page_bytes p) k after) (get_or listed k 0)
  pub whole : (L count : ℕ) (blocks pages after list listed : List ℕ) → WrittenManyC p L count blocks pages after list listed 0
      → (after ≡ runs (λ k. part (page_bytes p) k after) 0 count) × (length after ≡ length pages) × (length listed ≡ count)
  pub says : (L count : ℕ) (blocks pages after list listed : List ℕ) → WrittenManyC p L count blocks pages after list listed 0
      → (k : ℕ) → k < count → (get_or listed k 0 ≡ 0) ⊎ ((get_or listed k 0 ≡ 8) ⊎ (get_or listed k 0 ≡ 13))
  pub alike : (L M count : ℕ) (blocks pages pages' after after' list list' listed listed' : List ℕ) (r r' : ℕ) → Width L → Width M
      → length pages ≡ length pages' → length list ≡ length list' → WrittenManyC p L count blocks pages after list listed r
      → WrittenManyC p M count blocks pages' after' list' listed' r' → AlikeManyC p after after' listed listed' r r'

-- ---- one bit altered, in C
pub record AlteredMemberC (p : Parameters) (after page : List ℕ) (o w : ℕ) : Type 0 where
  pub answers : o ≡ w
  pub pages : o ≡ 0 → after ≡ page
  pub judged : o ≡ 0 → (v : ℕ) → JudgedC p after v → v ≡ 0
  pub shortened : 0 < p.s → o ≡ 0

pub record AlterC (p : Parameters) : Type 0 where
  pub done : (x after : List ℕ) (i r b o : ℕ) → Bytes x → AlteredC p x i r b after o
      → (o ≡ 0) ↔ (IsPage p x × NamesBit p i r b × (¬ IsBlank p (altered p x i r b)))
  pub blank : (x after : List ℕ) (i r b o : ℕ) → Bytes x → AlteredC p x i r b after o
      → (o ≡ 13) ↔ (IsPage p x × NamesBit p i r b × IsBlank p (altered p x i r b))
  pub kept : (x after : List ℕ) (i r b o : ℕ) → AlteredC p x i r b after o → o ≢ 0 → after ≡ x
  pub same : (x after : List ℕ) (i r b o : ℕ) → coefficient_of p x i (degree p (p.v - i) + r) ≡ b → AlteredC p x i r b after o → after ≡ x
  pub added : (L : ℕ) (x after c old unit : List ℕ) (i r b w : ℕ) → Bytes x → AlteredC p x i r b after 0
      → coefficient_of p x i (degree p (p.v - i) + r) ≢ b → SetTo p c i r 1 (λ j k. 0) → Width L → PageBuffer p old → WrittenC p L c old unit w
      → (w ≡ 0) × (after ≡ add x unit)
  pub made : (x after : List ℕ) (i r b : ℕ) → Bytes x → AlteredC p x i r b after 0 → coefficient_of p after i (degree p (p.v - i) + r) ≡ b
  pub others : (x after : List ℕ) (i r b j k : ℕ) → Bytes x → AlteredC p x i r b after 0 → j < p.m
      → k < stored p - degree p (p.v - j) → (j ≢ i) ⊎ (k ≢ r)
      → coefficient_of p after j (degree p (p.v - j) + k) ≡ coefficient_of p x j (degree p (p.v - j) + k)
  pub member : (L : ℕ) (x after old-blocks a c old page : List ℕ) (i r b v o w : ℕ) → Width L → Bytes x → JudgedC p x 0 → NamesBit p i r b
      → BlocksBuffer p old-blocks → PageBuffer p old → AlteredC p x i r b after o
      → ReadOutC p x old-blocks a v → SetTo p c i r b (block_bit p a) → WrittenC p L c old page w → AlteredMemberC p after page o w
  pub elsewhere : (x after : List ℕ) (i r b j o : ℕ) → Bytes x → AlteredC p x i r b after o → j < p.m → j ≢ i
      → (i < j) ⊎ (p.v ≤ j) → part (sub_word_bytes p) j after ≡ part (sub_word_bytes p) j x
  pub least : (x after : List ℕ) (i r b : ℕ) → Bytes x → AlteredC p x i r b after 0
      → coefficient_of p x i (degree p (p.v - i) + r) ≢ b → distance p ≤ differences p x after
  pub most : (x after : List ℕ) (i r b : ℕ) → Bytes x → AlteredC p x i r b after 0
      → differences p x after ≤ add_below p.m (λ j. cond (eqb j i || (ltb j i && ltb j p.v)) (degree p (p.v - j)) 0) + 1

-- ---- one sub-word mended, in C: 2 t_0 bytes hold the list
pub record MendC (p : Parameters) : Type 0 where
  pub done : (x after : List ℕ) (i : ℕ) (l listed : List ℕ) (n counted o : ℕ) → Bytes x → MendedC p x after i l listed n counted o
      → (o ≡ 0) ↔ (MendLent 2 p x i (length l) × ((c : ℕ) × Near p 0 (sub_word_of p x i) c))
  pub nowhere : (x after : List ℕ) (i : ℕ) (l listed : List ℕ) (n counted o : ℕ) → Bytes x → MendedC p x after i l listed n counted o
      → (o ≡ 15) ↔ (MendLent 2 p x i (length l) × ((c : ℕ) → ¬ Near p 0 (sub_word_of p x i) c))
  pub kept : (x after : List ℕ) (i : ℕ) (l listed : List ℕ) (n counted o : ℕ) → MendedC p x after i l listed n counted o → o ≢ 0
      → (after ≡ x) × (listed ≡ l) × (counted ≡ n)
  pub mended : (x after : List ℕ) (i : ℕ) (l listed : List ℕ) (n counted : ℕ) → Bytes x → MendedC p x after i l listed n counted 0
      → IsPage p after × Near p 0 (sub_word_of p x i) (sub_word_of p after i)
  pub places : (x after : List ℕ) (i : ℕ) (l listed : List ℕ) (n counted : ℕ) → Bytes x → MendedC p x after i l listed n counted 0
      → (R numbers : List ℕ) × (listed ≡ as_bytes numbers) × Mends p x after i numbers counted R
  pub elsewhere : (x after : List ℕ) (i : ℕ) (l listed : List ℕ) (n counted o : ℕ) (j : ℕ) → Bytes x → MendedC p x after i l listed n counted o
      → j < p.m → j ≢ i → part (sub_word_bytes p) j after ≡ part (sub_word_bytes p) j x
  pub clean : (x after : List ℕ) (i : ℕ) (l listed : List ℕ) (n counted o : ℕ) → Bytes x → MendedC p x after i l listed n counted o
      → MendLent 2 p x i (length l) → Multiple (gen p 0) (sub_word_of p x i)
      → (o ≡ 0) × (after ≡ x) × (listed ≡ replicate (2 * strength p 0) 255) × (counted ≡ 0)
  pub back : (z x after : List ℕ) (i : ℕ) (l listed : List ℕ) (n counted o : ℕ) → Bytes z → Bytes x → JudgedC p z 0 → Damaged p z x i
      → MendLent 2 p x i (length l) → MendedC p x after i l listed n counted o → (o ≡ 0) × (after ≡ z) × (counted ≡ differences p x z)

-- ---- a page mended through its nested words, in C
pub record PageC (p : Parameters) : Type 0 where
  pub done : (x after : List ℕ) (o : ℕ) → Bytes x → PageMendedC p x after o
      → (o ≡ 0) ↔ (IsPage p x × ((cs : List ℕ) × (mend_page p (words_of p x) ≡ some cs)))
  pub nowhere : (x after : List ℕ) (o : ℕ) → Bytes x → PageMendedC p x after o → (o ≡ 17) ↔ (IsPage p x × (mend_page p (words_of p x) ≡ none))
  pub succeeds : (x after : List ℕ) (o : ℕ) → Bytes x → PageMendedC p x after o → (o ≡ 0) ↔ (IsPage p x × Succeeds p x (λ y. JudgedC p y 0))
  pub page : (x after : List ℕ) (k : ℕ) → Bytes x → PageMendedC p x after 0 → left p x k ≡ 0 → after ≡ page_after p x k
  pub fails : (x after : List ℕ) (o : ℕ) → Bytes x → PageMendedC p x after o → (o ≡ 17) ↔ (IsPage p x × Fails p x (λ y. JudgedC p y 0))
  pub kept : (x after : List ℕ) (o : ℕ) → PageMendedC p x after o → o ≢ 0 → after ≡ x
  pub otherwise : (x after : List ℕ) (o : ℕ) → IsPage p x → PageMendedC p x after o
      → ((o ≡ 0) × IsPage p after × ((r : ℕ) → JudgedC p after r → r ≡ 0)) ⊎ ((o ≡ 17) × (after ≡ x))
  pub clean : (x after : List ℕ) (o : ℕ) → Bytes x → JudgedC p x 0 → PageMendedC p x after o → (o ≡ 0) × (after ≡ x)
  pub back : (z x after : List ℕ) (o : ℕ) → Bytes z → IsPage p x → JudgedC p z 0 → Recoverable p z x → PageMendedC p x after o
      → (o ≡ 0) × (after ≡ z)
  pub always : (z x after : List ℕ) (o : ℕ) → Bytes z → IsPage p x → JudgedC p z 0
      → ((i : ℕ) → i < p.m → flips_in p x z i ≤ strength p 0) → PageMendedC p x after o → (o ≡ 0) × (after ≡ z)
  pub reached : (z x after : List ℕ) (o : ℕ) → Bytes z → IsPage p x → JudgedC p z 0 → Reached p z x → PageMendedC p x after o
      → (o ≡ 0) × (after ≡ z)
  pub one-round : (z x after : List ℕ) (o : ℕ) → Bytes z → IsPage p x → JudgedC p z 0 → OneRound p z x → PageMendedC p x after o
      → (o ≡ 0) × (after ≡ z)

-- ---- 14: of the sheets that keep every other rule, those are refused, and with 14, whose s is above n - w_v - 1
abbrev pub Shortening : Type 0
Shortening =
    (p : Parameters) → full_refusal p ≡ 0
    → (Accepted p ↔ (p.s ≤ 2 ^ p.q - 1 - degree p p.v - 1)) × ((sheet_refusal p ≡ 14) ↔ (2 ^ p.q - 1 - degree p p.v - 1 < p.s))

-- ---- both, bursts, many pages in one call, one bit altered, one sub-word mended, and a page mended, for every accepted sheet
abbrev pub Demands : Type 0
Demands = (p : Parameters) → Accepted p → Demand2 p × Demand3 p × BurstLaws p × ManyLaws p × AlterLaws p × MendLaws p × PageLaws p

-- ---- and, of the C calls, demand 3, blank pages, the quote, bursts, many pages, one bit altered, one sub-word mended, all syndromes from the odd
-- ones and a page mended
abbrev pub DemandsC : Type 0
DemandsC = (p : Parameters) → Accepted p → Demand3C p × BlankC p × QuotedC p × BurstC p × ManyC p × AlterC p × MendC p × OddC p × PageC p
