-- The writer program and the one of the returns desk, as functions from the input's bytes to the output's.
--   lead input k            leading byte k of the input, 0 where it is missing
--   sheet_given input        the parameters: bytes q, m, v, then L, then t_0 to t_v if v is 1 to 3
--   rest_given input         the bytes behind them: the blocks, or the page to mend
--   writer input            byte 0 and the page, or one byte, the refusal's number
--   mender input            byte 0 and the mended page, or one byte, the refusal's number; L counts for nothing
--   Puts out count bytes    an array of 4,097 bytes that begins with the `count` bytes of the output
use Rattle.std.specs.Prelude.{◌≡◌, ◌&&◌, cond, List, [], ◌∷◌, ◌++◌, ℕ, zero, suc, ◌+◌, ◌-◌, leb, length, get_or, drop, replicate}
use Rattle.code.specs.declared.Parameters.{Parameters}
use Rattle.code.specs.Calls.{list_of}
use Rattle.code.specs.Layout.{mended_page, page_bytes, page_of}
use Rattle.code.specs.Refusals.{mend_page_refusal, write_refusal}

abbrev pub lead : List ℕ → ℕ → ℕ
lead input k = get_or input k 0

-- how many strengths the input has: v + 1 if v is 1 to 3, else none
unfoldable pub strengths_given : List ℕ → ℕ
strengths_given input = cond (leb 1 (lead input 2) && leb (lead input 2) 3) (lead input 2 + 1) 0

unfoldable pub strength_given : List ℕ → ℕ → ℕ
unfolding strengths_given
strength_given input a = cond (leb (suc a) (strengths_given input)) (lead input (4 + a)) 0

unfoldable pub sheet_given : List ℕ → Parameters
unfolding strength_given
sheet_given input = record {
  q = lead input 0;
  m = lead input 1;
  v = lead input 2;
  t0 = strength_given input 0;
  t1 = strength_given input 1;
  t2 = strength_given input 2;
  t3 = strength_given input 3;
  s = 0;
}

unfoldable pub rest_given : List ℕ → List ℕ
unfolding strengths_given
rest_given input = drop (4 + strengths_given input) input

abbrev pub output_of : ℕ → List ℕ → List ℕ
output_of zero page = 0 ∷ page
output_of (suc k) page = suc k ∷ []

-- the page's length is always exact: the program makes the page's room itself
unfoldable pub writer : List ℕ → List ℕ
unfolding sheet_given rest_given write_refusal page_of
writer input =
    let p = sheet_given input in
    let blocks = rest_given input in
    output_of (write_refusal p (lead input 3) blocks (page_bytes p)) (page_of p blocks)

unfoldable pub mender : List ℕ → List ℕ
unfolding sheet_given rest_given mend_page_refusal mended_page
mender input =
    let p = sheet_given input in
    let page = rest_given input in
    output_of (mend_page_refusal p page) (list_of (mended_page p page))

-- the function behind a program: how many bytes are written, and an array of 4,097 bytes that begins with them, the rest 0
pub record Puts (out : List ℕ) (count : ℕ) (bytes : List ℕ) : Type 0 where
  pub counted : count ≡ length out
  pub output : bytes ≡ out ++ replicate (4097 - length out) 0

abbrev pub Wrote : List ℕ → ℕ → List ℕ → Type 0
Wrote input count bytes = Puts (writer input) count bytes

abbrev pub Returned : List ℕ → ℕ → List ℕ → Type 0
Returned input count bytes = Puts (mender input) count bytes
