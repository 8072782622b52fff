-- The theorems' hypotheses hold of something, and ten statements that go further than the theorems are false. All by computation.
-- Those on mended sub-words and pages stand in `cases_mended`.
use Rattle.std.specs.Prelude.{Ok, Err, ◌≡◌, refl, ◌≢◌, ◌⊎◌, Bool, true, false, not, ◌&&◌, ◌||◌, List, [], ◌∷◌, ℕ, zero, suc, ◌+◌, ◌-◌, ◌≤◌, ◌<◌, T, eqb, ltb, get_or, replicate}
use Rattle.std.proofs.Common.{sym, ap, ◌∙◌, inl, inr, zero-le, le_of_suc-le-suc, not-suc-le-zero, lt_irrefl, zero-add, arith, eqb→eq, lit<, lit≤, ltb→lt}
use Rattle.polynomial.specs.Clmul.{clmul}
use Rattle.polynomial.specs.Division.{rem}
use Rattle.polynomial.specs.Multiple.{Multiple}
use Rattle.polynomial.specs.Sums.{All}
use Rattle.polynomial.specs.Xor.{xor}
use Rattle.field.specs.Field.{pow}
use Rattle.field.specs.Irreducible.{both}
use Rattle.code.specs.Answers.{Judgement}
use Rattle.code.specs.declared.Refusal.{Refusal}
use Rattle.code.specs.declared.Parameters.{Parameters}
use Rattle.code.specs.declared.Verdict.{Verdict}
use Rattle.code.proofs.Accepted.{accepted, any_none}
use Rattle.code.proofs.Answers.{judged, made-done, made-refused, read}
use Rattle.code.proofs.Blank.{blank-iff}
use Rattle.code.proofs.Chains.{either}
use Rattle.code.specs.Demands.{Burst, NamesBit, SetTo}
use Rattle.code.specs.Lists.{any, range}
use Rattle.code.specs.Parameters.{Accepted, sheet_refusal, sheet, stored}
use Rattle.code.specs.Code.{gen, degree, remainder, nested, combine, N, newton, IsMember, distance, verdict}
use Rattle.code.specs.Code.{all_syndromes, odd_syndromes}
use Rattle.code.specs.Layout.{data_bytes, page_bytes, blocks_clear, blocks_full, page_clear, page_of, blank, words_of, Fits, IsBlank, IsPage, Bytes}
use Rattle.code.specs.Layout.{altered, block_bit, block_offset, coefficient_of, differences}
use Rattle.code.specs.Calls.{AllMade, Altered, Judged, NestedSyndromesMade, ReadOut, SyndromesMade, Written, WrittenMany}
use Rattle.code.specs.Calls.{judge_answer, nested_syndrome_list, pages_by, read_answer, read_leaves, statuses, syndrome_list, judgement_number}
use Rattle.code.specs.Refusals.{all_refusal, alter_refusal, many_refusal, word_refusal, write_refusal}
use Rattle.cases.specs.Sheets.{A, B}

-- ---- accepted sheets
-- the requirement's sheet A
pub accepted-A : Accepted A
unfolding sheet_refusal
accepted-A = refl

-- and sheet B
pub accepted-B : Accepted B
unfolding sheet_refusal
accepted-B = refl

-- one of q = 8, with the most sub-words and nested words
pub accepted-8 : Accepted (sheet 8 8 3 1 2 2 2 0)
unfolding sheet_refusal
accepted-8 = refl

-- sheet A with the largest s
abbrev short : Parameters
short = sheet 4 2 1 1 2 0 0 6

pub accepted-short : Accepted short
unfolding sheet_refusal
accepted-short = refl

-- ---- blocks and pages
-- blocks that fit
pub fits-A : Fits A (0x01 ∷ 0x01 ∷ 0x00 ∷ [])
unfolding data_bytes blocks_clear
fits-A = record { bytes = (lit< tt, (lit< tt, (lit< tt, tt))); exact = refl; clear = tt }

-- their page is a page
pub is_page-A : IsPage A (0xC2 ∷ 0x01 ∷ 0x13 ∷ 0x00 ∷ [])
unfolding page_clear
is_page-A = record { bytes = (lit< tt, (lit< tt, (lit< tt, (lit< tt, tt)))); exact = refl; clear = tt }

-- ---- two members: g_1 beside a zero word, and the zero page
abbrev light : List ℕ
light = 0xD1 ∷ 0x01 ∷ 0x00 ∷ 0x00 ∷ []

abbrev zeros : List ℕ
zeros = 0x00 ∷ 0x00 ∷ 0x00 ∷ 0x00 ∷ []

bytes-light : Bytes light
bytes-light = (lit< tt, (lit< tt, (lit< tt, (lit< tt, tt))))

bytes-zeros : Bytes zeros
bytes-zeros = (lit< tt, (lit< tt, (lit< tt, (lit< tt, tt))))

-- judge calls the first a member
pub light-member : judge_answer A light ≡ Ok Verdict.Member
unfolding judge_answer pow
light-member = refl

-- and the other
pub zeros-member : judge_answer A zeros ≡ Ok Verdict.Member
unfolding judge_answer pow
zeros-member = refl

-- they are two
pub light-other : light ≢ zeros
light-other e = let h : ◌≡◌ {A = ℕ} 0xD1 0x00 = ap (λ (x : List ℕ). get_or x 0 0x00) e in omega arith

-- they differ in as many places as the distance says
pub light-distance : differences A light zeros ≡ distance A
unfolding differences distance
light-distance = refl

-- so a distance one larger is false
pub not-farther : ((x y : List ℕ) → Bytes x → Bytes y → judge_answer A x ≡ Ok Verdict.Member → judge_answer A y ≡ Ok Verdict.Member → x ≢ y
    → suc (distance A) ≤ differences A x y) → ⊥
not-farther h =
    let far : suc (distance A) ≤ differences A light zeros =
    h light zeros bytes-light bytes-zeros light-member zeros-member light-other in
    lt_irrefl (distance A) (rw light-distance at far)

-- ---- bursts: pages that differ in sub-word 0 alone
-- two pages differ at place k of sub-word j, where Q does not hold
abbrev elsewhere : Parameters → List ℕ → List ℕ → (ℕ → ℕ → Bool) → ℕ → ℕ → Bool
elsewhere p x y Q j k = not (eqb (coefficient_of p x j k) (coefficient_of p y j k)) && not (Q j k)

-- all places looked at
only-where : (p : Parameters) (x y : List ℕ) (Q : ℕ → ℕ → Bool)
    → T (not (any (λ j. any (elsewhere p x y Q j) (range 0 (stored p))) (range 0 p.m)))
    → (j k : ℕ) → j < p.m → k < stored p → coefficient_of p x j k ≢ coefficient_of p y j k → T (Q j k)
only-where p x y Q t j k h l d =
    go (eqb (coefficient_of p x j k) (coefficient_of p y j k)) (Q j k) (λ e. d (eqb→eq (coefficient_of p x j k) (coefficient_of p y j k) e))
    (any_none (elsewhere p x y Q j) 0 (stored p)
    (any_none (λ j. any (elsewhere p x y Q j) (range 0 (stored p))) 0 p.m t j zero-le (rw (zero-add p.m) h))
    k zero-le (rw (zero-add (stored p)) l))
  where
    go : (b q : Bool) → (T b → ⊥) → T (not (not b && not q)) → T q
    go b true n u = tt
    go true false n u = absurd (n tt)
    go false false n u = u

-- from place 0 on: g_0 alone, which nested word 0 shows
pub burst-A : Burst A zeros (0x13 ∷ 0x00 ∷ 0x00 ∷ 0x00 ∷ []) 0 0
unfolding any range degree
burst-A j k l b d =
    let t = both (eqb j 0) (ltb k 8) (only-where A zeros (0x13 ∷ 0x00 ∷ 0x00 ∷ 0x00 ∷ []) (λ j k. eqb j 0 && ltb k 8) tt j k l b d) in
    (eqb→eq j 0 t.0, inl (zero-le, ltb→lt k 8 t.1))

pub burst-nested : judge_answer A (0x13 ∷ 0x00 ∷ 0x00 ∷ 0x00 ∷ []) ≡ Ok (Verdict.NestedWord 0)
unfolding judge_answer pow
burst-nested = refl

-- from place 14 on, the last, and on to place 0
pub burst-around : Burst A zeros (0x01 ∷ 0x40 ∷ 0x00 ∷ 0x00 ∷ []) 0 14
unfolding any range degree
burst-around j k l b d =
    let t = both (eqb j 0) (eqb k 0 || ltb 13 k)
    (only-where A zeros (0x01 ∷ 0x40 ∷ 0x00 ∷ 0x00 ∷ []) (λ j k. eqb j 0 && (eqb k 0 || ltb 13 k)) tt j k l b d) in
    (eqb→eq j 0 t.0, place (either (eqb k 0) (ltb 13 k) t.1))
  where
    place : T (eqb k 0) ⊎ T (ltb 13 k) → ((14 ≤ k) × (k < 14 + 8)) ⊎ ((A.s ≡ 0) × (k + 15 < 14 + 8))
    place (inl u) = inr (refl, omega (arith, eqb→eq k 0 u))
    place (inr u) = inl (ltb→lt 13 k u, omega arith)

pub burst-sub-word : judge_answer A (0x01 ∷ 0x40 ∷ 0x00 ∷ 0x00 ∷ []) ≡ Ok (Verdict.SubWord 0)
unfolding judge_answer pow
burst-sub-word = refl

-- the two members differ at places 0, 4, 6, 7 and 8: so w_v + 1 neighbouring places are too many
pub not-longer :
    ((x y : List ℕ) (i a : ℕ) → Bytes x → Bytes y → i < A.m → a < stored A → judge_answer A x ≡ Ok Verdict.Member
    → ((j k : ℕ) → j < A.m → k < stored A → coefficient_of A x j k ≢ coefficient_of A y j k
    → (j ≡ i) × (a ≤ k) × (k < a + (degree A A.v + 1)))
    → x ≢ y → judge_answer A y ≢ Ok Verdict.Member)
    → ⊥
unfolding any range degree
not-longer h =
    h light zeros 0 0 bytes-light bytes-zeros (lit< tt) (lit< tt) light-member
    (λ j k l b d. (let t = both (eqb j 0) (ltb k 9) (only-where A light zeros (λ j k. eqb j 0 && ltb k 9) tt j k l b d) in
    (eqb→eq j 0 t.0, zero-le, ltb→lt k 9 t.1))) light-other zeros-member

-- the words of the first are those of a member
light-sub : (i : ℕ) → i < 2 → Multiple (gen A 0) (get_or (0x1D1 ∷ 0x000 ∷ []) i 0)
unfolding clmul gen pow xor rem
light-sub zero h = (0x1F, refl)
light-sub (suc zero) h = (0, refl)
light-sub (suc (suc i)) h = absurd (not-suc-le-zero (le_of_suc-le-suc (le_of_suc-le-suc h)))

light-nested : (l : ℕ) → l < 1 → Multiple (gen A (1 - l)) (nested A l (0x1D1 ∷ 0x000 ∷ []))
unfolding clmul gen pow xor rem nested
light-nested zero h = (1, refl)
light-nested (suc l) h = absurd (not-suc-le-zero (le_of_suc-le-suc h))

pub light-words : IsMember A (0x1D1 ∷ 0x000 ∷ [])
light-words = record { sub_words = light-sub; nested-words = light-nested }

-- ---- blank pages
-- an erased page, its spare bits set, and with them cleared
abbrev erased : List ℕ
erased = 0xFF ∷ 0xFF ∷ 0xFF ∷ 0xFF ∷ []

abbrev cleared : List ℕ
cleared = 0xFF ∷ 0x7F ∷ 0xFF ∷ 0x7F ∷ []

erased-ones : T (blank A erased)
unfolding blank
erased-ones = tt

-- every coefficient is 1
pub erased-blank : IsBlank A erased
erased-blank = (blank-iff A (accepted A accepted-A) erased (lit< tt, (lit< tt, (lit< tt, (lit< tt, tt))))).0 erased-ones

-- the page of the blocks above is not blank: sub-word 0 has a 0 at x^0
pub unblank-A : ¬ IsBlank A (page_of A (0x01 ∷ 0x01 ∷ 0x00 ∷ []))
unfolding page_of pow
unblank-A h = let e : ◌≡◌ {A = ℕ} 0 1 = h 0 0 (lit< tt) (lit< tt) in omega arith

-- the cleared page is a page, its words pass both of judge's searches, and judge calls it blank
is_page-cleared : IsPage A cleared
unfolding page_clear
is_page-cleared = record { bytes = (lit< tt, (lit< tt, (lit< tt, (lit< tt, tt)))); exact = refl; clear = tt }

cleared-words : verdict A (words_of A cleared) ≡ Verdict.Member
unfolding verdict words_of pow
cleared-words = refl

cleared-blank : judge_answer A cleared ≡ Ok Verdict.Blank
unfolding judge_answer pow
cleared-blank = refl

-- so that words which pass make a member of every page is false
pub not-by-words : ((x : List ℕ) → IsPage A x → verdict A (words_of A x) ≡ Verdict.Member → judge_answer A x ≡ Ok Verdict.Member) → ⊥
not-by-words h =
    let e : ◌≡◌ {A = Judgement} (Ok Verdict.Blank) (Ok Verdict.Member) = sym cleared-blank ∙ h cleared is_page-cleared cleared-words in
    let z : ◌≡◌ {A = ℕ} 96 0 = ap judgement_number e in omega arith

-- and that blocks which fit are always written
fits_ones : Fits A (0x7F ∷ 0xFF ∷ 0x07 ∷ [])
unfolding data_bytes blocks_clear
fits_ones = record { bytes = (lit< tt, (lit< tt, (lit< tt, tt))); exact = refl; clear = tt }

ones-refused : write_refusal A 8 (0x7F ∷ 0xFF ∷ 0x07 ∷ []) 4 ≡ 13
unfolding write_refusal pow
ones-refused = refl

pub not-always : ((a : List ℕ) → Fits A a → write_refusal A 8 a 4 ≡ 0) → ⊥
not-always h = let z : ◌≡◌ {A = ℕ} 13 0 = sym ones-refused ∙ h (0x7F ∷ 0xFF ∷ 0x07 ∷ []) fits_ones in omega arith

-- ---- shortened pages
-- every stored coefficient is 1, the spare bits clear and set: blank
short-ones : T (blank short (0xFF ∷ 0x01 ∷ 0xFF ∷ 0xFF ∷ []))
unfolding blank
short-ones = tt

pub short-blank : IsBlank short (0xFF ∷ 0x01 ∷ 0xFF ∷ 0xFF ∷ [])
short-blank =
    (blank-iff short (accepted short accepted-short) (0xFF ∷ 0x01 ∷ 0xFF ∷ 0xFF ∷ []) (lit< tt, (lit< tt, (lit< tt, (lit< tt, tt))))).0 short-ones

-- blocks of ones fit, and are written
pub fits-short : Fits short (0x01 ∷ 0x1F ∷ [])
unfolding data_bytes blocks_clear
fits-short = record { bytes = (lit< tt, (lit< tt, tt)); exact = refl; clear = tt }

short-written : write_refusal short 8 (0x01 ∷ 0x1F ∷ []) 4 ≡ 0
unfolding write_refusal pow
short-written = refl

-- so that blocks of ones are refused at every s is false
pub not-at-every-s :
    ((p : Parameters) (a : List ℕ) → Accepted p → Fits p a → T (blocks_full p a) → write_refusal p 8 a (page_bytes p) ≡ 13) → ⊥
unfolding blocks_full
not-at-every-s h = let z : ◌≡◌ {A = ℕ} 0 13 = sym short-written ∙ h short (0x01 ∷ 0x1F ∷ []) accepted-short fits-short tt in omega arith

-- the two members again: they differ within places 2 to 8 and 0, so at s > 0 no burst may pass from place n - s - 1 to place 0
short-member : judge_answer short light ≡ Ok Verdict.Member
unfolding judge_answer pow
short-member = refl

short-zeros : judge_answer short zeros ≡ Ok Verdict.Member
unfolding judge_answer pow
short-zeros = refl

pub not-around-short :
    ((x y : List ℕ) (i a : ℕ) → Bytes x → Bytes y → i < short.m → a < stored short → judge_answer short x ≡ Ok Verdict.Member
    → ((j k : ℕ) → j < short.m → k < stored short → coefficient_of short x j k ≢ coefficient_of short y j k
    → (j ≡ i) × (((a ≤ k) × (k < a + degree short short.v)) ⊎ (k + stored short < a + degree short short.v)))
    → x ≢ y → judge_answer short y ≢ Ok Verdict.Member)
    → ⊥
unfolding any range degree
not-around-short h =
    h light zeros 0 2 bytes-light bytes-zeros (lit< tt) (lit< tt) short-member
    (λ j k l b d. (let t = both (eqb j 0) (not (eqb k 1)) (only-where short light zeros (λ j k. eqb j 0 && not (eqb k 1)) tt j k l b d) in
    (eqb→eq j 0 t.0, around k b t.1))) light-other short-zeros
  where
    around : (k : ℕ) → k < 9 → T (not (eqb k 1)) → ((2 ≤ k) × (k < 2 + 8)) ⊎ (k + 9 < 2 + 8)
    around zero b t = inr (lit< tt)
    around (suc zero) b t = absurd t
    around (suc (suc k)) b t = inl (omega arith, omega arith)

-- ---- many pages in one call, over bytes A5
-- blocks that fit, stray ones, and ones: done, the first page is written and the others are left
pub many-mixed :
    WrittenMany A 8 3 (0x01 ∷ 0x01 ∷ 0x00 ∷ 0x80 ∷ 0x01 ∷ 0x00 ∷ 0x7F ∷ 0xFF ∷ 0x07 ∷ []) (replicate 12 0xA5)
    (0xC2 ∷ 0x01 ∷ 0x13 ∷ 0x00 ∷ replicate 8 0xA5) (replicate 3 0xFF) (0 ∷ 8 ∷ 13 ∷ []) (Ok tt)
unfolding many_refusal statuses pages_by pow
many-mixed = (made-done _ _ _ _ refl refl, made-done _ _ _ _ refl refl)

-- every page refused, and still done
pub many-left :
    WrittenMany A 64 2 (0x7F ∷ 0xFF ∷ 0x07 ∷ 0x00 ∷ 0x00 ∷ 0x08 ∷ []) (replicate 8 0xA5) (replicate 8 0xA5) (replicate 2 0xFF)
    (13 ∷ 8 ∷ []) (Ok tt)
unfolding many_refusal statuses pages_by pow
many-left = (made-done _ _ _ _ refl refl, made-done _ _ _ _ refl refl)

-- a call refused whole: its list has a byte too few
pub many-refused :
    WrittenMany A 8 2 (replicate 6 0x00) (replicate 8 0xA5) (replicate 8 0xA5) (0xFF ∷ []) (0xFF ∷ []) (Err Refusal.List)
unfolding many_refusal
many-refused = (made-refused _ Refusal.List _ _ refl (lit≤ tt), made-refused _ Refusal.List _ _ refl (lit≤ tt))

-- ---- one bit altered: bit 0 of block 0 of the page of blocks 01 01 00
abbrev blocks-1 : List ℕ
blocks-1 = 0x01 ∷ 0x01 ∷ 0x00 ∷ []

abbrev blocks-0 : List ℕ
blocks-0 = 0x00 ∷ 0x01 ∷ 0x00 ∷ []

abbrev page-1 : List ℕ
page-1 = 0xC2 ∷ 0x01 ∷ 0x13 ∷ 0x00 ∷ []

abbrev page-0 : List ℕ
page-0 = 0x13 ∷ 0x00 ∷ 0x13 ∷ 0x00 ∷ []

-- made 0
pub alter-other : Altered A page-1 0 0 0 page-0 (Ok tt)
unfolding alter_refusal altered pow
alter-other = made-done _ _ _ _ refl refl

-- as it was
pub alter-same : Altered A page-1 0 0 1 page-1 (Ok tt)
unfolding alter_refusal altered pow
alter-same = made-done _ _ _ _ refl refl

-- a blank page, whose bit is 1 already
pub alter-blank : Altered A cleared 0 0 1 cleared (Err Refusal.Blank)
unfolding alter_refusal pow
alter-blank = made-refused _ Refusal.Blank _ _ refl (lit≤ tt)

-- what the law on members supposes: judged and read out, the blocks set, and written
pub alter-judged : Judged A page-1 (Ok Verdict.Member)
unfolding judge_answer pow
alter-judged = judged A page-1 (Ok Verdict.Member) refl

pub alter-read : ReadOut A page-1 (replicate 3 0xA5) blocks-1 (Ok Verdict.Member)
unfolding read_answer read_leaves pow
alter-read = read A page-1 (replicate 3 0xA5) (Ok Verdict.Member) blocks-1 refl refl

pub alter-names : NamesBit A 0 0 0
unfolding degree
alter-names = record { block = lit< tt; bit = lit< tt; value = zero-le }

-- the blocks differ at bit k of block j, another than bit 0 of block 0
abbrev set-wrong : ℕ → ℕ → Bool
set-wrong j k = not (eqb (block_bit A blocks-0 j k) (block_bit A blocks-1 j k)) && not (eqb j 0 && eqb k 0)

-- all bits looked at
set-right : T (not (any (λ j. any (set-wrong j) (range 0 (stored A - degree A (A.v - j)))) (range 0 2)))
unfolding any range degree block_offset
set-right = tt

pub alter-set : SetTo A blocks-0 0 0 0 (block_bit A blocks-1)
unfolding data_bytes blocks_clear block_offset
alter-set = record {
  fits = record { bytes = (lit< tt, (lit< tt, (lit< tt, tt))); exact = refl; clear = tt };
  here = refl;
  others = λ j k h l o.
      eqb→eq (block_bit A blocks-0 j k) (block_bit A blocks-1 j k)
      (go (eqb (block_bit A blocks-0 j k) (block_bit A blocks-1 j k)) (eqb j 0 && eqb k 0) (λ t. other j k o (both (eqb j 0) (eqb k 0) t))
      (any_none (set-wrong j) 0 (stored A - degree A (A.v - j))
      (any_none (λ j. any (set-wrong j) (range 0 (stored A - degree A (A.v - j)))) 0 2 set-right j zero-le h)
      k zero-le (rw (zero-add (stored A - degree A (A.v - j))) l)));
}
  where
    other : (j k : ℕ) → (j ≢ 0) ⊎ (k ≢ 0) → T (eqb j 0) × T (eqb k 0) → ⊥
    other j k (inl n) t = n (eqb→eq j 0 t.0)
    other j k (inr n) t = n (eqb→eq k 0 t.1)

    go : (b q : Bool) → (T q → ⊥) → T (not (not b && not q)) → T b
    go true q n u = tt
    go false true n u = absurd (n tt)
    go false false n u = absurd u

pub alter-written : Written A 8 blocks-0 (replicate 4 0xA5) page-0 (Ok tt)
unfolding write_refusal page_of pow
alter-written = made-done _ _ _ _ refl refl

-- ---- odd syndromes: a page whose sub-word 0 and nested word 0 are x^4
abbrev page-10 : List ℕ
page-10 = 0x10 ∷ 0x00 ∷ 0x00 ∷ 0x00 ∷ []

-- what the laws on odd syndromes suppose: lists of a sub-word and of a nested word, and all from them
pub odd-sub-word : SyndromesMade A page-10 0 (7 ∷ []) (3 ∷ []) (Ok tt)
unfolding word_refusal syndrome_list
odd-sub-word = made-done _ _ _ _ refl refl

pub odd-nested-word : NestedSyndromesMade A page-10 0 (7 ∷ 7 ∷ []) (3 ∷ 15 ∷ []) (Ok tt)
unfolding word_refusal nested_syndrome_list
odd-nested-word = made-done _ _ _ _ refl refl

pub all-sub-word : AllMade A 0 (3 ∷ []) (7 ∷ 7 ∷ []) (3 ∷ 5 ∷ []) (Ok tt)
unfolding all_refusal all_syndromes
all-sub-word = made-done _ _ _ _ refl refl

pub all-nested-word : AllMade A 1 (3 ∷ 15 ∷ []) (replicate 4 7) (3 ∷ 5 ∷ 15 ∷ 2 ∷ []) (Ok tt)
unfolding all_refusal all_syndromes
all-nested-word = made-done _ _ _ _ refl refl

-- the sub-word's list at the nested word's level
pub all-refused : AllMade A 1 (3 ∷ []) (7 ∷ 7 ∷ []) (7 ∷ 7 ∷ []) (Err Refusal.List)
unfolding all_refusal
all-refused = made-refused _ Refusal.List _ _ refl (lit≤ tt)

-- that even ones are odd ones again, and no squares, is false
pub not-doubled : ((odd old after : List ℕ) → AllMade A 0 odd old after (Ok tt) → get_or after 1 0 ≡ get_or odd 0 0) → ⊥
not-doubled h = let e : ◌≡◌ {A = ℕ} 5 3 = h (3 ∷ []) (7 ∷ 7 ∷ []) (3 ∷ 5 ∷ []) all-sub-word in omega arith

-- that all are elements: an odd one that is none stays as it is
all-no-element : AllMade A 0 (16 ∷ []) (7 ∷ 7 ∷ []) (16 ∷ 5 ∷ []) (Ok tt)
unfolding all_refusal all_syndromes
all-no-element = made-done _ _ _ _ refl refl

pub not-elements : ((odd old after : List ℕ) → AllMade A 0 odd old after (Ok tt) → All (λ x. x < 16) after) → ⊥
not-elements h = lt_irrefl 16 (h (16 ∷ []) (7 ∷ 7 ∷ []) (16 ∷ 5 ∷ []) all-no-element).0

-- and that a word's remainder by g_0 has its syndromes past 2t_0: S_3 is another
by_word : odd_syndromes A 2 0x10 ≡ 3 ∷ 15 ∷ []
unfolding odd_syndromes
by_word = refl

by-remainder : odd_syndromes A 2 (remainder A 0 0x10) ≡ 3 ∷ 9 ∷ []
unfolding odd_syndromes rem gen degree pow xor
by-remainder = refl

pub not-by-remainder : ((c : ℕ) → odd_syndromes A 2 (remainder A 0 c) ≡ odd_syndromes A 2 c) → ⊥
not-by-remainder h =
    let e : ◌≡◌ {A = List ℕ} (3 ∷ 9 ∷ []) (3 ∷ 15 ∷ []) = sym by-remainder ∙ h 0x10 ∙ by_word in
    let z : ◌≡◌ {A = ℕ} 9 15 = ap (λ (l : List ℕ). get_or l 1 0) e in omega arith

-- ---- the equal form holds as a whole only: sheet B, page 13 00 00 00 00 00
abbrev words-13 : List ℕ
words-13 = words_of B (0x13 ∷ 0x00 ∷ 0x00 ∷ 0x00 ∷ 0x00 ∷ 0x00 ∷ [])

-- nested word 1 is no multiple of g_1
pub nested-fails : remainder B 1 (nested B 1 words-13) ≡ 0x13
unfolding rem gen degree nested words_of pow xor
nested-fails = refl

-- the sum of the N(i, 1) × c_i is one
pub newton-holds : remainder B 1 (newton 1 words-13) ≡ 0
unfolding rem gen degree combine N words_of pow xor
newton-holds = refl

-- so the equal form, word by word, is false
pub not-wordwise :
    ((cs : List ℕ) (l : ℕ) → l < B.v → remainder B (B.v - l) (newton l cs) ≡ 0 → remainder B (B.v - l) (nested B l cs) ≡ 0) → ⊥
not-wordwise h = let e : ◌≡◌ {A = ℕ} 0x13 0 = sym nested-fails ∙ h words-13 1 (lit< tt) newton-holds in omega arith
