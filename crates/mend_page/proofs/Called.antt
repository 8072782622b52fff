-- What the call answers, and the page copied.
use Rattle.std.specs.Prelude.{Ok, Err, ◌≡◌, Bool, true, false, not, ◌&&◌, List, ℕ, ◌*◌, ◌%◌, ◌^◌, ◌<◌, T, eqb, length, get_or}
use Rattle.std.proofs.Common.{sym, ap, ap₂, ◌∙◌, eqb→eq}
use Rattle.std.proofs.Math.Option.{Option, none, some}
use Rattle.std.proofs.Math.Nat as Nat
use Rattle.polynomial.specs.Digits.{digits, digits_value, value}
use Rattle.kernels.specs.Value.{value-lt}
use Rattle.polynomial.specs.Sums.{at_all}
use Rattle.code.specs.declared.Refusal.{Refusal}
use Rattle.code.specs.Answers.{refusal_number}
use Rattle.code.specs.declared.Parameters.{Parameters}
use Rattle.code.specs.Accepted.{Rules}
use Rattle.code.proofs.Accepted.{accepted}
use Rattle.code.proofs.Answers.{made-done, made-refused, number-member, refusal-ne}
use Rattle.code.specs.Calls.{PageMended}
use Rattle.code.proofs.Chains.{true-false}
use Rattle.code.specs.Code.{failing_number}
use Rattle.code.proofs.Judge.{verdict-member}
use Rattle.code.specs.Layout.{IsPage, blank, words_of}
use Rattle.code.proofs.Mend.{is-nowhere}
use Rattle.code.proofs.Mending.{blank-words, mend-page-17, mend-page-first, mend-page-le, page-comes}
use Rattle.code.specs.Nest.{mend_page}
use Rattle.code.proofs.Pages.{page-words}
use Rattle.code.specs.Parameters.{Accepted}
use Rattle.code.proofs.Recovery.{mend_page-member}
use Rattle.code.specs.Refusals.{mend_page_refusal, nowhere, page_refusal}
use Rattle.mend_page.specs.Ends.{Ends}

-- ---- bytes copied
pub copied : (x y : List ℕ) (k : ℕ) → ((i : ℕ) → get_or x i 0 < 2 ^ 8) → ((i : ℕ) → get_or y i 0 < 2 ^ 8) → length y ≡ length x → k ≡ length x
    → value 8 y ≡ value 8 x * 2 ^ 0 % 2 ^ (8 * k) → y ≡ x
copied x y k bx by e f v =
    let X = at_all (λ d. d < 2 ^ 8) x (λ i l. bx i) in
    let w : value 8 y ≡ value 8 x = v ∙ ap (λ (n : ℕ). n % 2 ^ (8 * k)) (Nat.mul-one (value 8 x)) ∙ Nat.mod-eq_of_lt (rw f (value-lt 8 x bx)) in
    sym (digits_value 8 y (at_all (λ d. d < 2 ^ 8) y (λ i l. by i))) ∙ ap₂ (digits 8) e w ∙ digits_value 8 x X

pub ends-copied : (p : Parameters) (x w y : List ℕ) (r : Bool) → w ≡ x → Ends p (mend_page p (words_of p w)) y r → Ends p (mend_page p (words_of p x)) y r
ends-copied p x w y r e E = rw e at E

-- ---- the answer
both : (a b : Bool) → true ≡ (a && b) → T a × T b
both true true e = (tt, tt)
both true false e = absurd (true-false e)
both false b e = absurd (true-false e)

none_found : (o : Option (List ℕ)) → false ≡ not (nowhere o) → T (nowhere o)
none_found none e = tt
none_found (some R) e = absurd (true-false (sym e))

module _ (p : Parameters) (x : List ℕ) where
  pub mended-refused : (e : Refusal) → refusal_number e ≡ page_refusal p x → PageMended p x x (Err e)
  mended-refused e h =
      made-refused (mend_page_refusal p x) e _ x (mend-page-first p x (refusal_number e) h (refusal-ne e)) (mend-page-le p x)

  module _ (A : Accepted p) (h : IsPage p x) where
    R : Rules p
    R = accepted p A

    pub mended-done : (y z : List ℕ) (r : Bool) → r ≡ true → Ends p (mend_page p (words_of p x)) y r → z ≡ y → PageMended p x z (Ok tt)
    mended-done y z r t E e =
        let c = page-comes p A x h y E.page (E.words t) in
        made-done (mend_page_refusal p x) _ x z c.0 (e ∙ sym c.1)

    pub mended-nowhere : (y : List ℕ) (r : Bool) → r ≡ false → Ends p (mend_page p (words_of p x)) y r → PageMended p x x (Err Refusal.UnmendedPage)
    mended-nowhere y r t E =
        made-refused (mend_page_refusal p x) Refusal.UnmendedPage _ x
        (sym ((mend-page-17 p A x h.bytes).1 (h, is-nowhere (mend_page p (words_of p x)) (none_found (mend_page p (words_of p x)) (sym t ∙ E.found)))))
        (mend-page-le p x)

    pub mended-member : true ≡ (eqb (failing_number p (words_of p x)) 0 && not (blank p x)) → PageMended p x x (Ok tt)
    mended-member e =
        let b = both (eqb (failing_number p (words_of p x)) 0) (not (blank p x)) e in
        let M = (verdict-member p R (words_of p x)).0 (number-member p (words_of p x) (eqb→eq (failing_number p (words_of p x)) 0 b.0)) in
        let c = page-comes p A x h x h (mend_page-member p A (words_of p x) (page-words p R x h) M (rw (← blank-words p x) b.1)) in
        made-done (mend_page_refusal p x) _ x x c.0 (sym c.1)
