-- What is left where no sub-word is broken any more, or where the rounds end before.
--   Stands p y l b    a page, and the first b numbers of a list of 8 are those of its broken sub-words, rising
--   in_work p y l b    such a page in work
--   Ends p o y r      r says whether o, the words of the mended page, are found, and then the page y has them
--   says_member r      the verdict is that of a member
--   Turning p o y l n after some rounds such a page stands from which o comes
use Rattle.std.specs.Prelude.{◌≡◌, refl, Bool, true, false, not, ◌&&◌, cond, List, ℕ, ◌≤◌, ◌<◌, T, eqb, length, take}
use Rattle.std.proofs.Common.{sym, ap, ap₂, ◌∙◌, eqb→eq, length-take-le}
use Rattle.std.proofs.Math.Option.{Option, none, some}
use Rattle.code.specs.declared.Parameters.{Parameters}
use Rattle.code.specs.declared.Verdict.{Verdict}
use Rattle.code.specs.Accepted.{Rules}
use Rattle.code.proofs.Accepted.{accepted}
use Rattle.code.proofs.Answers.{number-member}
use Rattle.code.specs.Calls.{Named, verdict_number}
use Rattle.code.proofs.Chains.{both_ways, true-false}
use Rattle.code.specs.Code.{failing_number}
use Rattle.code.specs.Layout.{IsPage, blank, words_of}
use Rattle.code.proofs.Mending.{blank-words}
use Rattle.code.specs.Nest.{Work, end-eq, mend_page, mend_page-eq, round, rounds, start}
use Rattle.code.proofs.Pages.{page-words}
use Rattle.code.specs.Parameters.{Accepted}
use Rattle.code.proofs.Recovery.{rounds-end, rounds-many, rounds-next, rounds-stop}
use Rattle.code.specs.Refusals.{nowhere}
use Rattle.code.specs.Rounds.{IsWork}
use Rattle.code.proofs.Rounds.{round-work, start-work}
use Rattle.mend.specs.Settled.{Held}
use Rattle.mend_page.specs.Ends.{Ends, Stands, Turning, in_work, says_member}

pub member-blank : (a b : Bool) → b ≡ true → false ≡ (a && not b)
member-blank true b e = rw e refl
member-blank false b e = refl

pub member-else : (p : Parameters) (cs : List ℕ) (r : Verdict) (m b : Bool) → Named p cs r → m ≡ says_member r → b ≡ false → m ≡ (eqb (failing_number p cs) 0 && not b)
member-else p cs r m b N e f =
    e ∙ both_ways (says_member r) (eqb (failing_number p cs) 0) (says r N.number) (λ t. rw (N.answers ∙ number-member p cs (eqb→eq (failing_number p cs) 0 t)) tt)
    ∙ sym (ap (λ (b : Bool). eqb (failing_number p cs) 0 && not b) f ∙ and-true (eqb (failing_number p cs) 0))
  where
    and-true : (a : Bool) → (a && true) ≡ a
    and-true true = refl
    and-true false = refl

    says : (r : Verdict) → verdict_number r ≡ failing_number p cs → T (says_member r) → T (eqb (failing_number p cs) 0)
    says Verdict.Member n t = rw (← n) tt
    says Verdict.Blank n t = absurd t
    says (Verdict.SubWord i) n t = absurd t
    says (Verdict.NestedWord l) n t = absurd t

-- ---- the end
pub ends-none : (p : Parameters) (o : Option (List ℕ)) (y : List ℕ) → IsPage p y → o ≡ none → Ends p o y false
ends-none p o y h e = record { page = h; found = sym (ap (λ (o : Option (List ℕ)). not (nowhere o)) e); words = λ t. absurd (true-false (sym t)) }

ends_by : (p : Parameters) (o : Option (List ℕ)) (y : List ℕ) (r : Bool) → IsPage p y → o ≡ cond r (some (words_of p y)) none → Ends p o y r
ends_by p o y true h e = record { page = h; found = sym (ap (λ (o : Option (List ℕ)). not (nowhere o)) e); words = λ t. e }
ends_by p o y false h e = ends-none p o y h e

module _ (p : Parameters) (A : Accepted p) where
  R : Rules p
  R = accepted p A

  works : (y l : List ℕ) (n : ℕ) → Stands p y l n → IsWork p (in_work p y l n)
  works y l n s = record { stand = page-words p R y s.page; rising = s.rising }

  many : (y l : List ℕ) (n : ℕ) → Stands p y l n → length (take n l) ≡ n
  many y l n s = length-take-le n l (rw s.size s.room)

  -- ---- the first pass
  pub held-stands : (W : Work) → IsWork p W → (y l : List ℕ) (b : ℕ) → Held p W y l b → Stands p y l b
  held-stands W w y l b H = record { page = H.page; size = H.size; room = H.room; rising = rw H.numbers w.rising }

  held-is : (W : Work) (y l : List ℕ) (b : ℕ) → Held p W y l b → in_work p y l b ≡ W
  held-is W y l b H = ap₂ (λ (ws ks : List ℕ). let w : Work = record { words = ws; broken = ks } in w) H.words H.numbers

  pub first-stands : (x : List ℕ) → IsPage p x → (y l : List ℕ) (b : ℕ) → Held p (start p (words_of p x)) y l b → Stands p y l b
  first-stands x h = held-stands (start p (words_of p x)) (start-work p A (words_of p x) (page-words p R x h))

  pub first_ends : (x : List ℕ) (y l : List ℕ) (b : ℕ) → Held p (start p (words_of p x)) y l b → (z : List ℕ) (r : Bool)
      → Ends p (rounds p p.v (in_work p y l b)) z r → Ends p (mend_page p (words_of p x)) z r
  first_ends x y l b H z r E = rw (mend_page-eq p (words_of p x) ∙ ap (rounds p p.v) (sym (held-is (start p (words_of p x)) y l b H))) E

  -- ---- a turn
  module _ (o : Option (List ℕ)) (y l : List ℕ) (n : ℕ) (T : Turning p o y l n) where
    abbrev W : Work
    W = in_work p y l n

    long : length W.broken ≡ n
    long = many y l n T.stands

    pub turn_end : n ≡ 0 → (r : Bool) → r ≡ (eqb (failing_number p (words_of p y)) 0 && not (blank p y)) → Ends p o y r
    turn_end e r f =
        ends_by p o y r T.stands.page
        (T.same ∙ rounds-end p A W (long ∙ e) ∙ end-eq p (words_of p y)
        ∙ sym (ap (λ (b : Bool). cond b (some (words_of p y)) none) (f ∙ ap (λ (b : Bool). eqb (failing_number p (words_of p y)) 0 && not b) (blank-words p y))))

    pub turn_many : p.v < n → Ends p o y false
    turn_many h = ends-none p o y T.stands.page (T.same ∙ rounds-many p A p.v W (rw long h))

    module _ (z m : List ℕ) (c : ℕ) (H : Held p (round p W) z m c) (h : 0 < n) (k : n ≤ p.v) where
      left : length (round p W).broken ≡ c
      left = sym (ap length H.numbers) ∙ length-take-le c m (rw H.size H.room)

      pub turn-next : c < n → Turning p o z m c
      turn-next d = record {
        stands = held-stands (round p W) (round-work p A W (works y l n T.stands)) z m c H;
        same = T.same ∙ rounds-next p A W (rw long h) (rw long k) (rw (long, left) d) ∙ ap (rounds p p.v) (sym (held-is (round p W) z m c H));
      }

      pub turn-stop : n ≤ c → Ends p o z false
      turn-stop d = ends-none p o z H.page (T.same ∙ rounds-stop p A W (rw long h) (rw long k) (rw (long, left) d))
