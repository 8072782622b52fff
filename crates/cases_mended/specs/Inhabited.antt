-- What the theorems on mending suppose holds of something, and three statements that go further than they do are false. All by computation.
use Rattle.std.specs.Prelude.{Ok, Err, ◌≡◌, refl, ◌≢◌, List, [], ◌∷◌, ℕ, zero, suc, ◌+◌, ◌-◌, ◌*◌, ◌≤◌, ◌<◌, length, get_or, replicate}
use Rattle.std.proofs.Common.{ap, ◌∙◌, inl, inr, zero-le, le_of_suc-le-suc, not-suc-le-zero, arith, lit<, lit≤}
use Rattle.polynomial.specs.Clmul.{clmul}
use Rattle.polynomial.specs.Division.{rem}
use Rattle.polynomial.specs.Xor.{xor}
use Rattle.field.specs.Bch.{weight}
use Rattle.field.specs.Field.{pow}
use Rattle.field.specs.Flips.{flips}
use Rattle.code.specs.Answers.{Judgement}
use Rattle.code.specs.declared.Refusal.{Refusal}
use Rattle.code.specs.Answers.{answer_number}
use Rattle.code.specs.Answers.{Outcome}
use Rattle.code.specs.declared.Parameters.{Parameters}
use Rattle.code.specs.declared.Verdict.{Verdict}
use Rattle.code.proofs.Answers.{judged, made-done, made-refused}
use Rattle.code.specs.Demands.{Damaged, MendLent, Recoverable}
use Rattle.code.specs.Lists.{count_below, part}
use Rattle.code.specs.Parameters.{Accepted, sheet_refusal, sheet, strength}
use Rattle.code.specs.Code.{gen, Flips, Near, distance}
use Rattle.code.specs.Layout.{page_clear, words_of, IsPage, differences, flipped, flips_in, mended_page, mending, place_list}
use Rattle.code.specs.Nest.{Mem, Work, after, after-suc, round}
use Rattle.code.specs.Calls.{Judged, Mended, PageMended, judge_answer, sub_word_of, judgement_number}
use Rattle.code.specs.Refusals.{mend_page_refusal, mend_refusal}

-- ---- the requirement's sheet B with 12 stored places, and the page of bit 0 of block 2
abbrev B3 : Parameters
B3 = sheet 4 3 2 1 2 3 0 3

pub accepted-B3 : Accepted B3
unfolding sheet_refusal
accepted-B3 = refl

abbrev whole : List ℕ
whole = 0x26 ∷ 0x00 ∷ 0x35 ∷ 0x00 ∷ 0x13 ∷ 0x00 ∷ []

pub whole-member : Judged B3 whole (Ok Verdict.Member)
unfolding judge_answer pow
whole-member = judged B3 whole (Ok Verdict.Member) refl

-- ---- one sub-word mended: place 3 of sub-word 0 flipped
abbrev one-flip : List ℕ
one-flip = 0x2E ∷ 0x00 ∷ 0x35 ∷ 0x00 ∷ 0x13 ∷ 0x00 ∷ []

pub mend-done : Mended B3 one-flip whole 0 (7 ∷ []) (3 ∷ []) 9 1 (Ok tt)
unfolding mend_refusal mending flipped place_list pow
mend-done = (made-done _ _ _ _ refl refl, made-done _ _ _ _ refl refl, made-done _ _ _ _ refl refl)

-- free of faults
pub mend-clean : Mended B3 whole whole 0 (7 ∷ []) (65535 ∷ []) 9 0 (Ok tt)
unfolding mend_refusal mending flipped place_list pow
mend-clean = (made-done _ _ _ _ refl refl, made-done _ _ _ _ refl refl, made-done _ _ _ _ refl refl)

-- places 0 and 3 of the zero page flipped: no multiple is near that is 0 in its top places
pub mend-nowhere : Mended B3 (0x09 ∷ replicate 5 0x00) (0x09 ∷ replicate 5 0x00) 0 (7 ∷ []) (7 ∷ []) 9 9 (Err Refusal.Unmended)
unfolding mend_refusal pow
mend-nowhere = (
  made-refused _ Refusal.Unmended _ _ refl (lit≤ tt),
  made-refused _ Refusal.Unmended _ _ refl (lit≤ tt),
  made-refused _ Refusal.Unmended _ _ refl (lit≤ tt),
)

-- what the law on members supposes, beside the judged page above: flips in one sub-word, and what mend is to be lent
pub mend-damaged : Damaged B3 whole one-flip 0
unfolding differences
mend-damaged = record { elsewhere = go; few = lit≤ tt }
  where
    go : (j : ℕ) → j < 3 → j ≢ 0 → part 2 j one-flip ≡ part 2 j whole
    go zero h n = absurd (n refl)
    go (suc zero) h n = refl
    go (suc (suc zero)) h n = refl
    go (suc (suc (suc j))) h n = absurd (not-suc-le-zero (le_of_suc-le-suc (le_of_suc-le-suc (le_of_suc-le-suc h))))

pub mend-lent : MendLent 1 B3 one-flip 0 1
unfolding page_clear
mend-lent = record {
  page = record { bytes = (lit< tt, (lit< tt, (lit< tt, (lit< tt, (lit< tt, (lit< tt, tt)))))); exact = refl; clear = tt };
  sub_word = lit< tt;
  list = refl;
}

-- what the laws on words suppose: the multiple near, and the flips
pub mend-near : Near B3 0 0x2E 0x26
unfolding clmul gen pow xor rem weight
mend-near = record { stores = lit< tt; multiple = (0x02, refl); near = lit≤ tt }

pub mend-flips : Flips B3 0 0x2E (3 ∷ [])
unfolding clmul gen pow xor rem flips
mend-flips = record { rising = (zero-le, lit< tt, tt); few = lit≤ tt; multiple = (0x02, refl) }

-- ---- places 0 and 1 of the zero page flipped, one place more than t_0
abbrev none : List ℕ
none = replicate 6 0x00

abbrev two-flips : List ℕ
two-flips = 0x03 ∷ replicate 5 0x00

abbrev other : List ℕ
other = 0x13 ∷ replicate 5 0x00

none-member : Judged B3 none (Ok Verdict.Member)
unfolding judge_answer pow
none-member = judged B3 none (Ok Verdict.Member) refl

-- another multiple is near
pub mend-other : Mended B3 two-flips other 0 (7 ∷ []) (4 ∷ []) 9 1 (Ok tt)
unfolding mend_refusal mending flipped place_list pow
mend-other = (made-done _ _ _ _ refl refl, made-done _ _ _ _ refl refl, made-done _ _ _ _ refl refl)

-- so that a member with t_0 + 1 bits of a sub-word flipped comes back is false
pub not_back :
    ((z x after : List ℕ) (i : ℕ) (l listed : List ℕ) (n counted : ℕ) → Judged B3 z (Ok Verdict.Member)
    → ((j : ℕ) → j < B3.m → j ≢ i → part 2 j x ≡ part 2 j z) → differences B3 x z ≤ strength B3 0 + 1
    → Mended B3 x after i l listed n counted (Ok tt) → after ≡ z)
    → ⊥
unfolding differences
not_back h =
    let e : other ≡ none = h none two-flips other 0 (7 ∷ []) (4 ∷ []) 9 1 none-member go (lit≤ tt) mend-other in
    let z : ◌≡◌ {A = ℕ} 0x13 0x00 = ap (λ (x : List ℕ). get_or x 0 0x00) e in omega arith
  where
    go : (j : ℕ) → j < 3 → j ≢ 0 → part 2 j two-flips ≡ part 2 j none
    go zero h n = absurd (n refl)
    go (suc zero) h n = refl
    go (suc (suc zero)) h n = refl
    go (suc (suc (suc j))) h n = absurd (not-suc-le-zero (le_of_suc-le-suc (le_of_suc-le-suc (le_of_suc-le-suc h))))

-- and that a page with its one faulty sub-word mended is a member: nested word 0 fails
other-nested : Ok (Verdict.NestedWord 0) ≡ judge_answer B3 other
unfolding judge_answer pow
other-nested = refl

pub not-member-mended :
    ((x after : List ℕ) (i : ℕ) (l listed : List ℕ) (n counted : ℕ) → Mended B3 x after i l listed n counted (Ok tt)
    → judge_answer B3 after ≡ Ok Verdict.Member)
    → ⊥
not-member-mended h =
    let e : ◌≡◌ {A = Judgement} (Ok (Verdict.NestedWord 0)) (Ok Verdict.Member) = other-nested ∙ h two-flips other 0 (7 ∷ []) (4 ∷ []) 9 1 mend-other in
    let z : ◌≡◌ {A = ℕ} 64 0 = ap judgement_number e in omega arith

-- ---- the page mended through its nested words
-- with one flip in sub-word 0, three in sub-word 1 and two in sub-word 2
abbrev hurt : List ℕ
hurt = 0xA6 ∷ 0x00 ∷ 0x31 ∷ 0x0C ∷ 0x52 ∷ 0x00 ∷ []

pub hurt-page : IsPage B3 hurt
unfolding page_clear
hurt-page = record { bytes = (lit< tt, (lit< tt, (lit< tt, (lit< tt, (lit< tt, (lit< tt, tt)))))); exact = refl; clear = tt }

-- the first pass mends sub-word 0, a round sub-word 2 and a second one sub-word 1; no other changes anything
abbrev work : ℕ → Work
work k = after B3 (words_of B3 hurt) k

work-0 : work 0 ≡ record { words = 0x26 ∷ 0xC31 ∷ 0x52 ∷ []; broken = 1 ∷ 2 ∷ [] }
unfolding after words_of pow
work-0 = refl

work-1 : work 1 ≡ record { words = 0x26 ∷ 0xC31 ∷ 0x13 ∷ []; broken = 1 ∷ [] }
unfolding round pow
work-1 = after-suc B3 (words_of B3 hurt) 0 ∙ ap (round B3) work-0

abbrev last-work : Work
last-work = record { words = 0x26 ∷ 0x35 ∷ 0x13 ∷ []; broken = [] }

work-2 : (k : ℕ) → work (suc (suc k)) ≡ last-work
unfolding round pow
work-2 zero = after-suc B3 (words_of B3 hurt) 1 ∙ ap (round B3) work-1
work-2 (suc k) = after-suc B3 (words_of B3 hurt) (suc (suc k)) ∙ ap (round B3) (work-2 k)

pub hurt-recoverable : Recoverable B3 whole hurt
unfolding count_below words_of
hurt-recoverable = record { few = lit≤ tt; right = right; light = light }
  where
    right : (k i : ℕ) → i < 3 → ¬ Mem i (work k).broken → get_or (work k).words i 0 ≡ sub_word_of B3 whole i
    right zero = rw work-0 right-0
      where
        right-0 : (i : ℕ) → i < 3 → ¬ Mem i (1 ∷ 2 ∷ []) → get_or (0x26 ∷ 0xC31 ∷ 0x52 ∷ []) i 0 ≡ sub_word_of B3 whole i
        right-0 zero l n = refl
        right-0 (suc zero) l n = absurd (n (inl refl))
        right-0 (suc (suc zero)) l n = absurd (n (inr (inl refl)))
        right-0 (suc (suc (suc i))) l n = absurd (not-suc-le-zero (le_of_suc-le-suc (le_of_suc-le-suc (le_of_suc-le-suc l))))
    right (suc zero) = rw work-1 right-1
      where
        right-1 : (i : ℕ) → i < 3 → ¬ Mem i (1 ∷ []) → get_or (0x26 ∷ 0xC31 ∷ 0x13 ∷ []) i 0 ≡ sub_word_of B3 whole i
        right-1 zero l n = refl
        right-1 (suc zero) l n = absurd (n (inl refl))
        right-1 (suc (suc zero)) l n = refl
        right-1 (suc (suc (suc i))) l n = absurd (not-suc-le-zero (le_of_suc-le-suc (le_of_suc-le-suc (le_of_suc-le-suc l))))
    right (suc (suc k)) = rw (work-2 k) (λ i l n. refl)

    light : (k : ℕ) → 0 < length (work k).broken → (i : ℕ) × Mem i (work k).broken × (flips_in B3 hurt whole i ≤ strength B3 (2 - length (work k).broken + 1))
    light zero = rw work-0 (λ o. (2, inr (inl refl), lit≤ tt))
    light (suc zero) = rw work-1 (λ o. (1, inl refl, lit≤ tt))
    light (suc (suc k)) = rw (work-2 k) (λ o. absurd (not-suc-le-zero o))

pub page-done : PageMended B3 hurt whole (Ok tt)
unfolding mend_page_refusal mended_page pow
page-done = made-done _ _ _ _ refl refl

-- a blank page, which no call takes for a member: where all places are stored
abbrev erased : List ℕ
erased = 0xFF ∷ 0x7F ∷ 0xFF ∷ 0x7F ∷ []

pub page-blank : PageMended (sheet 4 2 1 1 2 0 0 0) erased erased (Err Refusal.UnmendedPage)
unfolding mend_page_refusal pow
page-blank = made-refused _ Refusal.UnmendedPage _ _ refl (lit≤ tt)

-- two places of the zero page flipped: the first pass takes sub-word 0 for another multiple
pub page-wrong : PageMended B3 two-flips two-flips (Err Refusal.UnmendedPage)
unfolding mend_page_refusal pow
page-wrong = made-refused _ Refusal.UnmendedPage _ _ refl (lit≤ tt)

-- so that a member comes back where fewer than half as many places as the distance are flipped is false
pub not-half :
    ((z x after : List ℕ) (o : Outcome) → Judged B3 z (Ok Verdict.Member) → 2 * differences B3 x z < distance B3 → PageMended B3 x after o
    → o ≡ Ok tt)
    → ⊥
unfolding differences distance
not-half h =
    let e = h none two-flips two-flips (Err Refusal.UnmendedPage) none-member (lit< tt) page-wrong in
    let z : ◌≡◌ {A = ℕ} 17 0 = ap answer_number e in omega arith
