-- The refusal of each call: of the conditions that it can meet, in the order of the requirement's table, the first that holds; 0 for none.
-- A chain takes lengths where lengths suffice, and looks at nothing behind an earlier refusal.
use Rattle.std.specs.Prelude.{Bool, true, false, not, ◌||◌, List, ℕ, ◌+◌, ◌-◌, ◌*◌, ◌^◌, eqb, leb, ltb, length}
use Rattle.std.proofs.Math.Option.{Option, none, some}
use Rattle.polynomial.specs.Digits.{value}
use Rattle.code.specs.declared.Parameters.{Parameters}
use Rattle.code.specs.Register.{Register}
use Rattle.code.specs.Lists.{◌when◌, ◌or_else◌}
use Rattle.code.specs.Parameters.{full, nested_bytes, strength, sheet_refusal}
use Rattle.code.specs.Code.{degree}
use Rattle.code.specs.Layout.{altered, mended_page, mending, page_bytes, data_bits, data_bytes, page_clear, blank, blocks_clear, page_of}

-- 5: the width L is not 1 to 64
abbrev pub bad_width : ℕ → Bool
bad_width L = eqb L 0 || ltb 64 L

-- 9 of a write of many pages: their count is not 1 to 16
abbrev pub bad_count : ℕ → Bool
bad_count count = eqb count 0 || ltb 16 count

-- 6, 7, 10: a length is not exact
abbrev pub not_exact : ℕ → ℕ → Bool
not_exact k exact = not (eqb k exact)

-- 8 of judge and of read out: a spare bit is 1 and the page is not blank
abbrev pub stray : Parameters → List ℕ → Bool
stray p page = not (page_clear p page || blank p page)

-- ---- write: the page's old bytes count for their number alone
unfoldable pub write_lengths : Parameters → ℕ → ℕ → ℕ → ℕ
unfolding sheet_refusal data_bytes
write_lengths p L blocks page =
    sheet_refusal p
    or_else 5 when bad_width L
    or_else 6 when not_exact blocks (data_bytes p)
    or_else 7 when not_exact page (page_bytes p)

unfoldable pub write_refusal : Parameters → ℕ → List ℕ → ℕ → ℕ
unfolding write_lengths blocks_clear blank page_of
write_refusal p L blocks page =
    write_lengths p L (length blocks) page
    or_else 8 when not (blocks_clear p blocks)
    or_else 13 when blank p (page_of p blocks)

-- ---- write of `count` pages: the whole call, which page by page is refused no more
unfoldable pub many_refusal : Parameters → ℕ → ℕ → ℕ → ℕ → ℕ → ℕ
unfolding sheet_refusal data_bytes
many_refusal p L count blocks pages list =
    sheet_refusal p
    or_else 5 when bad_width L
    or_else 9 when bad_count count
    or_else 6 when not_exact blocks (count * data_bytes p)
    or_else 7 when not_exact pages (count * page_bytes p)
    or_else 10 when not_exact list count

-- ---- read out
unfoldable pub read_lengths : Parameters → ℕ → ℕ → ℕ
unfolding sheet_refusal data_bytes
read_lengths p page blocks =
    sheet_refusal p
    or_else 6 when not_exact blocks (data_bytes p)
    or_else 7 when not_exact page (page_bytes p)

unfoldable pub read_refusal : Parameters → List ℕ → ℕ → ℕ
unfolding read_lengths page_clear blank
read_refusal p page blocks = read_lengths p (length page) blocks or_else 8 when stray p page

-- ---- judge
unfoldable pub judge_lengths : Parameters → ℕ → ℕ
unfolding sheet_refusal
judge_lengths p page = sheet_refusal p or_else 7 when not_exact page (page_bytes p)

unfoldable pub judge_refusal : Parameters → List ℕ → ℕ
unfolding judge_lengths page_clear blank
judge_refusal p page = judge_lengths p (length page) or_else 8 when stray p page

-- ---- the other calls that read a page: to them a blank page's spare bits are stray too
unfoldable pub page_refusal : Parameters → List ℕ → ℕ
unfolding judge_lengths page_clear
page_refusal p page = judge_lengths p (length page) or_else 8 when not (page_clear p page)

-- ---- alter: 9 where there is no block i, no bit r of it, or the value b is no bit; 13 where the page afterwards would be blank
abbrev pub no_bit : Parameters → ℕ → ℕ → ℕ → Bool
no_bit p i r b = leb p.m i || leb (data_bits p i) r || ltb 1 b

unfoldable pub alter_refusal : Parameters → List ℕ → ℕ → ℕ → ℕ → ℕ
unfolding degree page_refusal blank altered
alter_refusal p page i r b =
    page_refusal p page
    or_else 9 when no_bit p i r b
    or_else 13 when blank p (altered p page i r b)

-- ---- a call on word i of `many`, whose result takes `exact` places of a lent list of `out`
unfoldable pub word_refusal : Parameters → List ℕ → ℕ → ℕ → ℕ → ℕ → ℕ
unfolding page_refusal
word_refusal p page i many out exact =
    page_refusal p page
    or_else 9 when leb many i
    or_else 10 when not_exact out exact

-- the remainder of sub-word i; the short remainder of nested word l; nested word l
abbrev pub remainder_refusal : Parameters → List ℕ → ℕ → ℕ → ℕ
remainder_refusal p page i out = word_refusal p page i p.m out 96

abbrev pub short_refusal : Parameters → List ℕ → ℕ → ℕ → ℕ
short_refusal p page l out = word_refusal p page l p.v out 96

abbrev pub nested_refusal : Parameters → List ℕ → ℕ → ℕ → ℕ
nested_refusal p page l out = word_refusal p page l p.v out (nested_bytes p)

-- the odd syndromes of sub-word i, and of nested word l; a number takes `size` places: 1 in a list of numbers, 2 in C's bytes
abbrev pub syndromes_refusal : ℕ → Parameters → List ℕ → ℕ → ℕ → ℕ
syndromes_refusal size p page i out = word_refusal p page i p.m out (size * strength p 0)

abbrev pub nested_syndromes_refusal : ℕ → Parameters → List ℕ → ℕ → ℕ → ℕ
nested_syndromes_refusal size p page l out = word_refusal p page l p.v out (size * strength p (p.v - l))

-- ---- mend: the places take `size` each of a lent list of `out`; 15 where no multiple of g_0 is near enough
abbrev pub nowhere : Option (List ℕ) → Bool
nowhere none = true
nowhere (some R) = false

unfoldable pub mend_refusal : ℕ → Parameters → List ℕ → ℕ → ℕ → ℕ
unfolding word_refusal mending
mend_refusal size p page i out = word_refusal p page i p.m out (size * strength p 0) or_else 15 when nowhere (mending p page i)

-- ---- mend a page through its nested words: 17 where no member comes of it
unfoldable pub mend_page_refusal : Parameters → List ℕ → ℕ
unfolding page_refusal mended_page
mend_page_refusal p page = page_refusal p page or_else 17 when nowhere (mended_page p page)

-- ---- the register
unfoldable pub open_refusal : Parameters → ℕ → ℕ
unfolding sheet_refusal
open_refusal p level = sheet_refusal p or_else 9 when ltb p.v level

-- ---- all syndromes of a word of a level, 2t of them, from the t odd ones; a number takes `size` places
unfoldable pub all_refusal : ℕ → Parameters → ℕ → ℕ → ℕ → ℕ
unfolding open_refusal
all_refusal size p level odd out =
    open_refusal p level
    or_else 10 when not_exact odd (size * strength p level)
    or_else 10 when not_exact out (size * (2 * strength p level))

unfoldable pub feed_refusal : Parameters → ℕ → Register → ℕ → ℕ
unfolding sheet_refusal degree value
feed_refusal p L r u =
    sheet_refusal p
    or_else 5 when bad_width L
    or_else 8 when leb (2 ^ L) u
    or_else 11 when ltb (full p) (r.count + L)
    or_else 12 when ltb p.v r.level || leb (2 ^ degree p r.level) (value 64 r.remainder)

-- ---- the quote, of 12 numbers; a number takes `size` places: 1 in a list of numbers, 2 in C's bytes
unfoldable pub quote_refusal : ℕ → Parameters → ℕ → ℕ
unfolding sheet_refusal
quote_refusal size p out = sheet_refusal p or_else 10 when not_exact out (size * 12)

-- ---- the nesting coefficient's call gives N(i, l) for i and l up to 7
abbrev pub nesting_refusal : ℕ → ℕ → ℕ
nesting_refusal i l = 9 when ltb 7 i || ltb 7 l
