-- The answers of calls: a Result whose error is the refusal.
--   refusal_number e      the requirement's number of a refusal
--   refusals              the refusals in the order of their numbers, from 1 on
--   answer_number r       0, or the number of the refusal
--   unless_refused k x    the answer x or, under the number k above 0, that refusal
--   Outcome               the answer of a call that makes something
--   Judgement             the answer of judge and of read out
use Rattle.std.specs.Prelude.{⊤, Result, Ok, Err, List, [], ◌∷◌, ℕ, zero, suc, get_or}
use Rattle.code.specs.declared.Refusal.{Refusal}
use Rattle.code.specs.declared.Verdict.{Verdict}

abbrev pub Outcome : Type 0
Outcome = Result ⊤ Refusal

abbrev pub Judgement : Type 0
Judgement = Result Verdict Refusal

abbrev pub refusal_number : Refusal → ℕ
refusal_number Refusal.Field = 1
refusal_number Refusal.Shape = 2
refusal_number Refusal.Strengths = 3
refusal_number Refusal.Clash = 4
refusal_number Refusal.Width = 5
refusal_number Refusal.Blocks = 6
refusal_number Refusal.Page = 7
refusal_number Refusal.Stray = 8
refusal_number Refusal.Index = 9
refusal_number Refusal.List = 10
refusal_number Refusal.Full = 11
refusal_number Refusal.Register = 12
refusal_number Refusal.Blank = 13
refusal_number Refusal.Shortening = 14
refusal_number Refusal.Unmended = 15
refusal_number Refusal.Reserved = 16
refusal_number Refusal.UnmendedPage = 17

abbrev pub refusals : List Refusal
refusals =
    Refusal.Field ∷ Refusal.Shape ∷ Refusal.Strengths ∷ Refusal.Clash ∷ Refusal.Width ∷ Refusal.Blocks ∷ Refusal.Page ∷ Refusal.Stray ∷ Refusal.Index
    ∷ Refusal.List ∷ Refusal.Full ∷ Refusal.Register ∷ Refusal.Blank ∷ Refusal.Shortening ∷ Refusal.Unmended ∷ Refusal.Reserved ∷ Refusal.UnmendedPage
    ∷ []

abbrev pub answer_number : {A : Type 0} → Result A Refusal → ℕ
answer_number (Ok x) = 0
answer_number (Err e) = refusal_number e

-- a number above last_refusal is no call's
abbrev pub unless_refused : {A : Type 0} → ℕ → A → Result A Refusal
unless_refused zero x = Ok x
unless_refused (suc k) x = Err (get_or refusals k Refusal.Reserved)
