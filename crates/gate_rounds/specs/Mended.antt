-- One coefficient of a member flipped, and the sub-word mended.
--   struck p z i e    the page z with the coefficient of x^e of sub-word i flipped
use Rattle.std.specs.Prelude.{Result, Ok, Err, ◌≡◌, refl, List, [], ◌∷◌, ℕ, ◌^◌, ◌<◌, length}
use Rattle.std.proofs.Common.{sym, ap, ◌∙◌, zero-le}
use Rattle.std.proofs.Math.Nat as Nat
use Rattle.polynomial.specs.Xor.{xor, xor-cancel, xor_comm, xor_zero_r}
use Rattle.field.specs.Bch.{weight}
use Rattle.field.specs.Flips.{Rising, flips, flips-cons, flips-nil, weight-pow}
use Rattle.code.specs.Answers.{Outcome}
use Rattle.code.specs.declared.Parameters.{Parameters}
use Rattle.code.specs.declared.Verdict.{Verdict}
use Rattle.code.specs.Accepted.{Rules}
use Rattle.code.proofs.Accepted.{accepted}
use Rattle.code.proofs.Answers.{judged}
use Rattle.code.specs.Calls.{Mended, Written, judge_answer, sub_word_of}
use Rattle.code.specs.Demands.{Damaged, MendLent, WriteLaws}
use Rattle.code.specs.Layout.{IsPage, differences, flipped}
use Rattle.code.proofs.Mend.{flipped-else, flipped-here, flipped-page, flipped-stay}
use Rattle.code.specs.Parameters.{Accepted, stored, strength}
use Rattle.code.specs.Refused.{PageBuffer, Width}
use Rattle.code.proofs.Theorems.{damage, demands}
use Rattle.layout.specs.Written.{written}
use Rattle.mend.specs.Call.{written-flipped}
use Rattle.gate_rounds.specs.Apt.{Apt}

abbrev pub struck : Parameters → List ℕ → ℕ → ℕ → List ℕ
struck p z i e = written p z i (xor (sub_word_of p z i) (2 ^ e))

module _ (p : Parameters) (A : Accepted p) (z : List ℕ) (u : IsPage p z) (i : ℕ) (li : i < p.m) (e : ℕ) (l : e < stored p) where
  R : Rules p
  R = accepted p A

  abbrev Q : List ℕ
  Q = e ∷ []

  rises : Rising 0 (stored p) Q
  rises = (zero-le, l, tt)

  one : flips Q ≡ 2 ^ e
  one = flips-cons e [] ∙ ap (xor (2 ^ e)) flips-nil ∙ xor_zero_r (2 ^ e)

  abbrev x : List ℕ
  x = flipped p z i Q

  struck-is : struck p z i e ≡ x
  struck-is = ap (λ (f : ℕ). written p z i (xor (sub_word_of p z i) f)) (sym one) ∙ written-flipped p A z u i li Q rises

  page : IsPage p x
  page = flipped-page p R z u i li Q rises

  -- one place differs
  here : xor (sub_word_of p x i) (sub_word_of p z i) ≡ 2 ^ e
  here =
      ap (λ (c : ℕ). xor c (sub_word_of p z i)) (flipped-here p R z u i li Q rises)
      ∙ xor_comm (xor (sub_word_of p z i) (flips Q)) (sub_word_of p z i) ∙ xor-cancel (sub_word_of p z i) (flips Q) ∙ one

  differ : differences p x z ≡ 1
  differ = damage p A z x i page li u (λ j h n. sym (flipped-else p R z u i li Q rises j n)) ∙ ap weight here ∙ weight-pow e

  damaged : Damaged p z x i
  damaged = record { elsewhere = λ j h n. flipped-stay p R z u i li Q rises j h n; few = rw differ R.t-low }

  lent : (list : List ℕ) → length list ≡ strength p 0 → MendLent 1 p x i (length list)
  lent list h = record { page = page; sub_word = li; list = h ∙ sym (Nat.one-mul (strength p 0)) }

  mend-back : judge_answer p z ≡ Ok Verdict.Member → (after list listed : List ℕ) (n counted : ℕ) (o : Outcome) → length list ≡ strength p 0
      → Mended p (struck p z i e) after i list listed n counted o → (o ≡ Ok tt) × (after ≡ z) × (counted ≡ 1)
  mend-back m after list listed n counted o h M =
      let s = (demands p A).5.back z x after i list listed n counted o u.bytes page.bytes (judged p z (Ok Verdict.Member) (sym m)) damaged (lent list h)
      (rw struck-is at M) in
      (s.0, s.1, s.2 ∙ differ)

-- ---- of a written page
module _ (p : Parameters) (A : Accepted p) (L M : ℕ) (wl : Width L) (wm : Width M) (a old other z first : List ℕ) (apt : Apt p a)
    (eo : PageBuffer p old) (ef : PageBuffer p other) (W : Written p L a old z (Ok tt)) (X : Written p M a other first (Ok tt)) where
  laws : WriteLaws p a z (Ok tt)
  laws = (demands p A).0.write-laws L a old z (Ok tt) wl apt.fits eo apt.other W

  member : judge_answer p z ≡ Ok Verdict.Member
  member = laws.judged (judge_answer p z) (judged p z (judge_answer p z) refl)

  same : z ≡ first
  same = ((demands p A).1.alike L M a old other z first (Ok tt) (Ok tt) wl wm (eo ∙ sym ef) W X).pages refl

  pub mend-is : (i e : ℕ) → i < p.m → e < stored p → (after list listed : List ℕ) (n counted : ℕ) (o : Outcome) → length list ≡ strength p 0
      → Mended p (struck p z i e) after i list listed n counted o
      → (o ≡ Ok tt) × (after ≡ first) × (counted ≡ 1) × (judge_answer p after ≡ Ok Verdict.Member)
  mend-is i e li l after list listed n counted o h E =
      let s = mend-back p A z laws.page i li e l member after list listed n counted o h E in
      (s.0, s.1 ∙ same, s.2, ap (judge_answer p) s.1 ∙ member)
