-- Tests of answers.
--   is_done r, is_member r, is_blank r    is it done? is it member? is it blank?
use Rattle.std.specs.Prelude.{Result, Ok, Err, ◌≡◌, refl, Bool, true, false, not, ◌&&◌, ◌≢◌, ◌↔◌, ℕ}
use Rattle.std.proofs.Common.{sym, ap, ap₂, ◌∙◌, arith}
use Rattle.std.specs.Bool.{beq}
use Rattle.code.specs.Answers.{Judgement}
use Rattle.code.specs.Answers.{Outcome}
use Rattle.code.specs.declared.Verdict.{Verdict}

abbrev pub is_done : Outcome → Bool
is_done (Ok x) = true
is_done (Err e) = false

abbrev pub is_member : Judgement → Bool
is_member (Ok Verdict.Member) = true
is_member (Ok Verdict.Blank) = false
is_member (Ok (Verdict.SubWord i)) = false
is_member (Ok (Verdict.NestedWord l)) = false
is_member (Err e) = false

abbrev pub is_blank : Judgement → Bool
is_blank (Ok Verdict.Blank) = true
is_blank (Ok Verdict.Member) = false
is_blank (Ok (Verdict.SubWord i)) = false
is_blank (Ok (Verdict.NestedWord l)) = false
is_blank (Err e) = false

pub never : false ≡ true → ⊥
never e = let z : ◌≡◌ {A = ℕ} 0 1 = cc in omega arith

pub is-done : (r : Outcome) → is_done r ≡ true → r ≡ Ok tt
is-done (Ok x) e = refl
is-done (Err d) e = absurd (never e)

pub is_member_lem : (r : Judgement) → is_member r ≡ true → r ≡ Ok Verdict.Member
is_member_lem (Ok Verdict.Member) e = refl
is_member_lem (Ok Verdict.Blank) e = absurd (never e)
is_member_lem (Ok (Verdict.SubWord i)) e = absurd (never e)
is_member_lem (Ok (Verdict.NestedWord l)) e = absurd (never e)
is_member_lem (Err d) e = absurd (never e)

pub not-member : (r : Judgement) → r ≢ Ok Verdict.Member → not (is_member r) ≡ true
not-member (Ok Verdict.Member) h = absurd (h refl)
not-member (Ok Verdict.Blank) h = refl
not-member (Ok (Verdict.SubWord i)) h = refl
not-member (Ok (Verdict.NestedWord l)) h = refl
not-member (Err e) h = refl

agree : (a b : Bool) → (a ≡ true → b ≡ true) → (b ≡ true → a ≡ true) → beq a b ≡ true
agree true b f g = rw (f refl) refl
agree false true f g = absurd (never (g refl))
agree false false f g = refl

-- two tests together
pub both_found : (P : Type 0) (r : Outcome) (b s t : Bool) → b ≡ is_done r → (s ≡ true → P) × (P → s ≡ true) → t ≡ (b && s)
    → (t ≡ true → (r ≡ Ok tt) × P) × ((r ≡ Ok tt) × P → t ≡ true)
both_found P r b s t e f g = (
  (λ h. (let k = split b s (sym g ∙ h) in (is-done r (sym e ∙ k.0), f.0 k.1))),
  (λ h. g ∙ ap₂ ◌&&◌ (e ∙ ap is_done h.0) (f.1 h.1)),
)
  where
    split : (b s : Bool) → (b && s) ≡ true → (b ≡ true) × (s ≡ true)
    split true s h = (refl, h)
    split false s h = absurd (never h)

-- a verdict and a comparison that agree are found alike
pub alike-found : (P : Type 0) (r : Judgement) (b s : Bool) → b ≡ is_member r → ((r ≡ Ok Verdict.Member) ↔ P) → (s ≡ true → P) × (P → s ≡ true)
    → beq b s ≡ true
alike-found P r b s e f g = agree b s (λ t. g.1 (f.0 (is_member_lem r (sym e ∙ t)))) (λ t. e ∙ ap is_member (f.1 (g.0 t)))
