-- What each call answers, and what each lent buffer holds afterwards: the old bytes after a refusal.
--   verdict_number, judgement_number    the requirement's number of an answer, which C calls return
--   outcome_values, verdict_values, judgement_values, nesting_values    its values
--   outcome r, leaves r x old          the answer and the buffer by the refusal r, 0 for none
--   page_verdict, page_number, page_values            what is said of a page that is not refused, with number and values apart from the
--                                                  enum: blank or, else, the first word that fails
--   judge_number, judge_values, read_number, read_values    the same behind the refusals of judge and of read out
--   statuses, pages_by                              the list of a write of many pages, and the pages afterwards
--   quote p                                        the 12 numbers of the quote
--   list_of o                                       the list that was found, or an empty one
--   size_unless r x                                 the size x or, under the refusal r, 0
--   Made, Named, Judged, ReadOut, ..               what a call promises, of its answer and of the buffer after it;
--                                                  the ..C ones are the C calls'
use Rattle.std.specs.Prelude.{◌≡◌, Result, Ok, Err, cond, ◌≢◌, ◌↔◌, List, [], ◌∷◌, ◌++◌, map, ℕ, zero, suc, ◌+◌, ◌-◌, ◌*◌, ◌/◌, ◌^◌, ◌≤◌, leb, ltb, length, get_or, replicate, take, drop}
use Rattle.std.proofs.Math.Option.{Option, none, some}
use Rattle.polynomial.specs.Digits.{value, digits}
use Rattle.polynomial.specs.Division.{rem}
use Rattle.polynomial.specs.Xor.{xor}
use Rattle.code.specs.declared.Parameters.{Parameters}
use Rattle.code.specs.declared.Refusal.{Refusal}
use Rattle.code.specs.declared.Verdict.{Verdict}
use Rattle.code.specs.Answers.{Judgement, Outcome, answer_number, refusal_number, unless_refused}
use Rattle.code.specs.Register.{Register, Fed}
use Rattle.code.specs.Lists.{range, part, runs, ◌or_else◌, values_by, last_refusal}
use Rattle.code.specs.Parameters.{nested_bytes, strength, sheet_refusal}
use Rattle.code.specs.Code.{gen, degree, remainder, nested, N, short_remainder, odd_syndromes, all_syndromes, verdict, failing_number, failing_values}
use Rattle.code.specs.Layout.{altered, flipped, mended_page, mending, place_list, words_of, blank, page_bytes, page_of, data_bits, data_bytes, data_of}
use Rattle.code.specs.Refusals.{write_refusal, many_refusal, alter_refusal, mend_page_refusal, mend_refusal, read_refusal, judge_refusal, remainder_refusal, short_refusal, nested_refusal}
use Rattle.code.specs.Refusals.{syndromes_refusal, nested_syndromes_refusal, all_refusal, open_refusal, feed_refusal, quote_refusal, nesting_refusal}

-- ---- numbers and values of the answers
abbrev pub outcome_values : Outcome → List ℕ
outcome_values (Ok x) = []
outcome_values (Err e) = []

abbrev pub verdict_number : Verdict → ℕ
verdict_number Verdict.Member = 0
verdict_number Verdict.Blank = 96
verdict_number (Verdict.SubWord i) = 32 + i
verdict_number (Verdict.NestedWord l) = 64 + l

abbrev pub verdict_values : Verdict → List ℕ
verdict_values Verdict.Member = []
verdict_values Verdict.Blank = []
verdict_values (Verdict.SubWord i) = i ∷ []
verdict_values (Verdict.NestedWord l) = l ∷ []

abbrev pub judgement_number : Judgement → ℕ
judgement_number (Ok v) = verdict_number v
judgement_number (Err e) = refusal_number e

abbrev pub judgement_values : Judgement → List ℕ
judgement_values (Ok v) = verdict_values v
judgement_values (Err e) = []

abbrev pub nesting_values : Result ℕ Refusal → List ℕ
nesting_values (Ok c) = c ∷ []
nesting_values (Err e) = []

-- ---- by the refusal's number, 0 for none
abbrev pub outcome : ℕ → Outcome
outcome k = unless_refused k tt

abbrev pub leaves : ℕ → List ℕ → List ℕ → List ℕ
leaves zero result old = result
leaves (suc k) result old = old

-- a call's answer, with a lent buffer before and after it
pub record Made (refusal : ℕ) (result old after : List ℕ) (answer : Outcome) : Type 0 where
  pub answers : answer ≡ outcome refusal
  pub number : answer_number answer ≡ refusal
  pub values : outcome_values answer ≡ []
  pub small : refusal ≤ last_refusal
  pub buffer : after ≡ leaves refusal result old

-- ---- write
abbrev pub write_answer : Parameters → ℕ → List ℕ → List ℕ → Outcome
write_answer p L blocks page = outcome (write_refusal p L blocks (length page))

abbrev pub write_leaves : Parameters → ℕ → List ℕ → List ℕ → List ℕ
write_leaves p L blocks page = leaves (write_refusal p L blocks (length page)) (page_of p blocks) page

abbrev pub Written : Parameters → ℕ → List ℕ → List ℕ → List ℕ → Outcome → Type 0
Written p L blocks page after r = Made (write_refusal p L blocks (length page)) (page_of p blocks) page after r

-- ---- write of `count` pages, whose blocks and pages stand one behind another: page k's refusal if it were written alone is listed,
-- and a page so refused is left as it was
abbrev pub status_of : Parameters → ℕ → List ℕ → ℕ → ℕ
status_of p L blocks k = write_refusal p L (part (data_bytes p) k blocks) (page_bytes p)

unfoldable pub statuses : Parameters → ℕ → ℕ → List ℕ → List ℕ
unfolding range data_bytes write_refusal
statuses p L count blocks = map (status_of p L blocks) (range 0 count)

-- the pages by a list of their refusals
abbrev pub page_by : Parameters → List ℕ → List ℕ → List ℕ → ℕ → List ℕ
page_by p list blocks pages k = leaves (get_or list k 0) (page_of p (part (data_bytes p) k blocks)) (part (page_bytes p) k pages)

unfoldable pub pages_by : Parameters → List ℕ → List ℕ → List ℕ → List ℕ
unfolding runs data_bytes page_of
pages_by p list blocks pages = runs (page_by p list blocks pages) 0 (length list)

abbrev pub WrittenMany : Parameters → ℕ → ℕ → List ℕ → List ℕ → List ℕ → List ℕ → List ℕ → Outcome → Type 0
WrittenMany p L count blocks pages after list listed r =
    Made (many_refusal p L count (length blocks) (length pages) (length list)) (pages_by p (statuses p L count blocks) blocks pages) pages after r
    × Made (many_refusal p L count (length blocks) (length pages) (length list)) (statuses p L count blocks) list listed r

-- ---- alter: bit r of block i made b
abbrev pub Altered : Parameters → List ℕ → ℕ → ℕ → ℕ → List ℕ → Outcome → Type 0
Altered p page i r b after o = Made (alter_refusal p page i r b) (altered p page i r b) page after o

-- ---- judge and read out
-- the verdict on the words of a page
pub record Named (p : Parameters) (cs : List ℕ) (r : Verdict) : Type 0 where
  pub answers : r ≡ verdict p cs
  pub number : verdict_number r ≡ failing_number p cs
  pub values : verdict_values r ≡ failing_values p cs

-- of a page that is not refused: blank before all else
unfoldable pub page_verdict : Parameters → List ℕ → Verdict
unfolding blank verdict words_of
page_verdict p page = cond (blank p page) Verdict.Blank (verdict p (words_of p page))

unfoldable pub page_number : Parameters → List ℕ → ℕ
unfolding blank failing_number words_of
page_number p page = cond (blank p page) 96 (failing_number p (words_of p page))

unfoldable pub page_values : Parameters → List ℕ → List ℕ
unfolding blank failing_values words_of
page_values p page = cond (blank p page) [] (failing_values p (words_of p page))

unfoldable pub judge_answer : Parameters → List ℕ → Judgement
unfolding judge_refusal page_verdict
judge_answer p page = unless_refused (judge_refusal p page) (page_verdict p page)

unfoldable pub judge_number : Parameters → List ℕ → ℕ
unfolding judge_refusal page_number
judge_number p page = judge_refusal p page or_else page_number p page

unfoldable pub judge_values : Parameters → List ℕ → List ℕ
unfolding judge_refusal page_values
judge_values p page = values_by (judge_refusal p page) (page_values p page)

pub record Judged (p : Parameters) (page : List ℕ) (r : Judgement) : Type 0 where
  pub answers : r ≡ judge_answer p page
  pub number : judgement_number r ≡ judge_number p page
  pub values : judgement_values r ≡ judge_values p page
  pub small : judge_refusal p page ≤ last_refusal

unfoldable pub read_answer : Parameters → List ℕ → List ℕ → Judgement
unfolding read_refusal page_verdict
read_answer p page blocks = unless_refused (read_refusal p page (length blocks)) (page_verdict p page)

unfoldable pub read_number : Parameters → List ℕ → List ℕ → ℕ
unfolding read_refusal page_number
read_number p page blocks = read_refusal p page (length blocks) or_else page_number p page

unfoldable pub read_values : Parameters → List ℕ → List ℕ → List ℕ
unfolding read_refusal page_values
read_values p page blocks = values_by (read_refusal p page (length blocks)) (page_values p page)

unfoldable pub read_leaves : Parameters → List ℕ → List ℕ → List ℕ
unfolding read_refusal data_of
read_leaves p page blocks = leaves (read_refusal p page (length blocks)) (data_of p page) blocks

pub record ReadOut (p : Parameters) (page blocks after : List ℕ) (r : Judgement) : Type 0 where
  pub answers : r ≡ read_answer p page blocks
  pub number : judgement_number r ≡ read_number p page blocks
  pub values : judgement_values r ≡ read_values p page blocks
  pub small : read_refusal p page (length blocks) ≤ last_refusal
  pub buffer : after ≡ read_leaves p page blocks

-- ---- one word of a page
abbrev pub sub_word_of : Parameters → List ℕ → ℕ → ℕ
sub_word_of p page i = get_or (words_of p page) i 0

abbrev pub nested_of : Parameters → List ℕ → ℕ → ℕ
nested_of p page l = nested p l (words_of p page)

unfoldable pub remainder_bytes : Parameters → List ℕ → ℕ → List ℕ
unfolding digits rem gen degree words_of
remainder_bytes p page i = digits 8 96 (remainder p 0 (sub_word_of p page i))

unfoldable pub short_bytes : Parameters → List ℕ → ℕ → List ℕ
unfolding digits short_remainder words_of
short_bytes p page l = digits 8 96 (short_remainder p l (words_of p page))

unfoldable pub nested_word_bytes : Parameters → List ℕ → ℕ → List ℕ
unfolding digits nested words_of
nested_word_bytes p page l = digits 8 (nested_bytes p) (nested_of p page l)

unfoldable pub syndrome_list : Parameters → List ℕ → ℕ → List ℕ
unfolding odd_syndromes words_of
syndrome_list p page i = odd_syndromes p (strength p 0) (sub_word_of p page i)

unfoldable pub nested_syndrome_list : Parameters → List ℕ → ℕ → List ℕ
unfolding odd_syndromes nested words_of
nested_syndrome_list p page l = odd_syndromes p (strength p (p.v - l)) (nested_of p page l)

abbrev pub RemainderMade : Parameters → List ℕ → ℕ → List ℕ → List ℕ → Outcome → Type 0
RemainderMade p page i out after r = Made (remainder_refusal p page i (length out)) (remainder_bytes p page i) out after r

abbrev pub ShortMade : Parameters → List ℕ → ℕ → List ℕ → List ℕ → Outcome → Type 0
ShortMade p page l out after r = Made (short_refusal p page l (length out)) (short_bytes p page l) out after r

abbrev pub NestedMade : Parameters → List ℕ → ℕ → List ℕ → List ℕ → Outcome → Type 0
NestedMade p page l out after r = Made (nested_refusal p page l (length out)) (nested_word_bytes p page l) out after r

abbrev pub SyndromesMade : Parameters → List ℕ → ℕ → List ℕ → List ℕ → Outcome → Type 0
SyndromesMade p page i out after r = Made (syndromes_refusal 1 p page i (length out)) (syndrome_list p page i) out after r

abbrev pub NestedSyndromesMade : Parameters → List ℕ → ℕ → List ℕ → List ℕ → Outcome → Type 0
NestedSyndromesMade p page l out after r = Made (nested_syndromes_refusal 1 p page l (length out)) (nested_syndrome_list p page l) out after r

abbrev pub AllMade : Parameters → ℕ → List ℕ → List ℕ → List ℕ → Outcome → Type 0
AllMade p level odd out after r = Made (all_refusal 1 p level (length odd) (length out)) (all_syndromes p odd) out after r

-- ---- mend: sub-word i with the places R flipped, the list of these places, and their number
abbrev pub list_of : Option (List ℕ) → List ℕ
list_of none = []
list_of (some R) = R

abbrev pub places_of : Parameters → List ℕ → ℕ → List ℕ
places_of p page i = list_of (mending p page i)

abbrev pub Mended : Parameters → List ℕ → List ℕ → ℕ → List ℕ → List ℕ → ℕ → ℕ → Outcome → Type 0
Mended p page after i list listed count counted r =
    Made (mend_refusal 1 p page i (length list)) (flipped p page i (places_of p page i)) page after r
    × Made (mend_refusal 1 p page i (length list)) (place_list (strength p 0) (places_of p page i)) list listed r
    × Made (mend_refusal 1 p page i (length list)) (length (places_of p page i) ∷ []) (count ∷ []) (counted ∷ []) r

-- ---- mend a page through its nested words
abbrev pub PageMended : Parameters → List ℕ → List ℕ → Outcome → Type 0
PageMended p page after r = Made (mend_page_refusal p page) (list_of (mended_page p page)) page after r

-- ---- the C calls: the answer is the number, and a list of 16-bit numbers is bytes, two a number, low byte first
unfoldable pub as_bytes : List ℕ → List ℕ
unfolding digits
as_bytes [] = []
as_bytes (x ∷ l) = digits 8 2 x ++ as_bytes l

-- number k of such bytes, and all of them
abbrev pub number_at : List ℕ → ℕ → ℕ
number_at bytes k = value 8 (take 2 (drop (2 * k) bytes))

unfoldable pub as_numbers : List ℕ → List ℕ
unfolding value range
as_numbers bytes = map (number_at bytes) (range 0 (length bytes / 2))

pub record MadeC (refusal : ℕ) (result old after : List ℕ) (answer : ℕ) : Type 0 where
  pub answers : answer ≡ refusal
  pub small : refusal ≤ last_refusal
  pub buffer : after ≡ leaves refusal result old

abbrev pub WrittenC : Parameters → ℕ → List ℕ → List ℕ → List ℕ → ℕ → Type 0
WrittenC p L blocks page after r = MadeC (write_refusal p L blocks (length page)) (page_of p blocks) page after r

abbrev pub WrittenManyC : Parameters → ℕ → ℕ → List ℕ → List ℕ → List ℕ → List ℕ → List ℕ → ℕ → Type 0
WrittenManyC p L count blocks pages after list listed r =
    MadeC (many_refusal p L count (length blocks) (length pages) (length list)) (pages_by p (statuses p L count blocks) blocks pages) pages after r
    × MadeC (many_refusal p L count (length blocks) (length pages) (length list)) (statuses p L count blocks) list listed r

abbrev pub AlteredC : Parameters → List ℕ → ℕ → ℕ → ℕ → List ℕ → ℕ → Type 0
AlteredC p page i r b after o = MadeC (alter_refusal p page i r b) (altered p page i r b) page after o

abbrev pub MendedC : Parameters → List ℕ → List ℕ → ℕ → List ℕ → List ℕ → ℕ → ℕ → ℕ → Type 0
MendedC p page after i list listed count counted r =
    MadeC (mend_refusal 2 p page i (length list)) (flipped p page i (places_of p page i)) page after r
    × MadeC (mend_refusal 2 p page i (length list)) (as_bytes (place_list (strength p 0) (places_of p page i))) list listed r
    × MadeC (mend_refusal 2 p page i (length list)) (length (places_of p page i) ∷ []) (count ∷ []) (counted ∷ []) r

abbrev pub PageMendedC : Parameters → List ℕ → List ℕ → ℕ → Type 0
PageMendedC p page after r = MadeC (mend_page_refusal p page) (list_of (mended_page p page)) page after r

pub record ReadOutC (p : Parameters) (page blocks after : List ℕ) (r : ℕ) : Type 0 where
  pub answers : r ≡ read_number p page blocks
  pub small : read_refusal p page (length blocks) ≤ last_refusal
  pub buffer : after ≡ read_leaves p page blocks

pub record JudgedC (p : Parameters) (page : List ℕ) (r : ℕ) : Type 0 where
  pub answers : r ≡ judge_number p page
  pub small : judge_refusal p page ≤ last_refusal

abbrev pub SyndromesMadeC : Parameters → List ℕ → ℕ → List ℕ → List ℕ → ℕ → Type 0
SyndromesMadeC p page i out after r = MadeC (syndromes_refusal 2 p page i (length out)) (as_bytes (syndrome_list p page i)) out after r

abbrev pub NestedSyndromesMadeC : Parameters → List ℕ → ℕ → List ℕ → List ℕ → ℕ → Type 0
NestedSyndromesMadeC p page l out after r =
    MadeC (nested_syndromes_refusal 2 p page l (length out)) (as_bytes (nested_syndrome_list p page l)) out after r

abbrev pub AllMadeC : Parameters → ℕ → List ℕ → List ℕ → List ℕ → ℕ → Type 0
AllMadeC p level odd out after r =
    MadeC (all_refusal 2 p level (length odd) (length out)) (as_bytes (all_syndromes p (as_numbers odd))) out after r

-- ---- the register
abbrev pub empty : ℕ → Register
empty level = record { level = level; count = 0; remainder = replicate 12 0 }

-- after L coefficients more: r × x^L + u by g_a
unfoldable pub advanced : Parameters → ℕ → Register → ℕ → Register
unfolding digits rem gen degree value xor
advanced p L r u = record {
  level = r.level;
  count = r.count + L;
  remainder = digits 64 12 (remainder p r.level (xor (value 64 r.remainder * 2 ^ L) u));
}

abbrev pub fed_by : ℕ → Register → Register → Fed
fed_by zero next old = record { outcome = outcome 0; register = next }
fed_by (suc k) next old = record { outcome = outcome (suc k); register = old }

-- a refused opening hands back the empty register of level 0, a refused feeding the register as it came
unfoldable pub opened : Parameters → ℕ → Fed
unfolding open_refusal
opened p level = fed_by (open_refusal p level) (empty level) (empty 0)

unfoldable pub fed : Parameters → ℕ → Register → ℕ → Fed
unfolding feed_refusal advanced
fed p L r u = fed_by (feed_refusal p L r u) (advanced p L r u) r

-- ---- a sheet's generators, level 0 to level v, 13 words of 64 bits each; rows past v, and all rows of refused parameters, are 0
abbrev pub generator_row : Parameters → ℕ → List ℕ
generator_row p a = digits 64 13 (cond (leb a p.v) (gen p a) 0)

abbrev pub rows_by : ℕ → List (List ℕ) → List (List ℕ)
rows_by zero rows = rows
rows_by (suc k) rows = replicate 4 (replicate 13 0)

unfoldable pub generators : Parameters → List (List ℕ)
unfolding digits gen sheet_refusal
generators p = rows_by (sheet_refusal p) (map (generator_row p) (range 0 4))

-- ---- the quote: the degrees w_0 to w_v in four places and the data bits of blocks 0 to m - 1 in eight; the places past v and past m are 0
abbrev pub degree_quoted : Parameters → ℕ → ℕ
degree_quoted p a = cond (leb a p.v) (degree p a) 0

abbrev pub bits_quoted : Parameters → ℕ → ℕ
bits_quoted p i = cond (ltb i p.m) (data_bits p i) 0

unfoldable pub quote : Parameters → List ℕ
unfolding range degree
quote p = map (degree_quoted p) (range 0 4) ++ map (bits_quoted p) (range 0 8)

abbrev pub QuoteMade : Parameters → List ℕ → List ℕ → Outcome → Type 0
QuoteMade p out after r = Made (quote_refusal 1 p (length out)) (quote p) out after r

abbrev pub QuoteMadeC : Parameters → List ℕ → List ℕ → ℕ → Type 0
QuoteMadeC p out after r = MadeC (quote_refusal 2 p (length out)) (as_bytes (quote p)) out after r

-- ---- C's sizes of a sheet: the size or, where the sheet is refused, 0, which is no size
abbrev pub size_unless : ℕ → ℕ → ℕ
size_unless zero size = size
size_unless (suc k) size = 0

pub record SizeC (p : Parameters) (size answer : ℕ) : Type 0 where
  pub answers : answer ≡ size_unless (sheet_refusal p) size
  pub refused : (answer ≡ 0) ↔ (sheet_refusal p ≢ 0)

-- ---- the nesting coefficient's call
unfoldable pub nesting : ℕ → ℕ → Result ℕ Refusal
unfolding N
nesting i l = unless_refused (nesting_refusal i l) (N i l)

pub record NestingMade (i l : ℕ) (r : Result ℕ Refusal) : Type 0 where
  pub answers : r ≡ nesting i l
  pub number : answer_number r ≡ nesting_refusal i l
  pub values : nesting_values r ≡ values_by (nesting_refusal i l) (N i l ∷ [])
  pub small : nesting_refusal i l ≤ last_refusal
