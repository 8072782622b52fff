-- The sheet's refusal, the chain of the calls that read a page, and judge's: what their tests show, and what their ends show of the page.
--   Clear p x    accepted parameters, and a page of their length without a stray bit
use Rattle.std.specs.Prelude.{◌≡◌, Bool, true, false, not, ◌||◌, List, ℕ, T, length}
use Rattle.std.proofs.Math.Path.{refl}
use Rattle.std.proofs.Common.{sym, ap, ap₂, ◌∙◌, eq-eqb, ne_eqb}
use Rattle.code.specs.declared.Parameters.{Parameters}
use Rattle.code.proofs.Chains.{exact_none, exact-of, first_of, none, or-none, or-second, or-zero}
use Rattle.code.specs.Layout.{blank, page_bytes, page_clear}
use Rattle.code.specs.Lists.{◌when◌, ◌or_else◌}
use Rattle.code.specs.Parameters.{Accepted, sheet_refusal}
use Rattle.code.specs.Refusals.{judge_lengths, judge_refusal, not_exact, page_refusal, stray}
use Rattle.code.proofs.Refused.{page-links}

pub record Clear (p : Parameters) (x : List ℕ) : Type 0 where
  pub accepted : Accepted p
  pub exact : length x ≡ page_bytes p
  pub clear : T (page_clear p x)

-- ---- the calls that read a page, but for judge and read out
module _ (p : Parameters) (x : List ℕ) where
  abbrev page-7 : ℕ
  page-7 = 7 when not_exact (length x) (page_bytes p)

  abbrev spare-8 : ℕ
  spare-8 = 8 when not (page_clear p x)

  pub page-sheet : (k : ℕ) → k ≡ sheet_refusal p → (k ≡ 0 → ⊥) → k ≡ page_refusal p x
  page-sheet k e h = first_of k (sheet_refusal p) (page-7 or_else spare-8) e h ∙ sym (page-links p x)

  module _ (A : Accepted p) where
    page-accepted : page_refusal p x ≡ (page-7 or_else spare-8)
    page-accepted = page-links p x ∙ or-second (sheet_refusal p) (page-7 or_else spare-8) A

    pub page-length : (length x ≡ page_bytes p → ⊥) → 7 ≡ page_refusal p x
    page-length h = sym (page-accepted ∙ simp (ne_eqb (length x) (page_bytes p) h))

    module _ (e : length x ≡ page_bytes p) where
      left : page_refusal p x ≡ spare-8
      left = page-accepted ∙ simp (eq-eqb (length x) (page_bytes p) e)

      pub page-clear : true ≡ page_clear p x → 0 ≡ page_refusal p x
      page-clear h = sym (left ∙ ap (λ (b : Bool). 8 when not b) (sym h))

      pub page-stray : false ≡ page_clear p x → 8 ≡ page_refusal p x
      page-stray h = sym (left ∙ ap (λ (b : Bool). 8 when not b) (sym h))

  -- a chain that ends in 0
  pub page-zero : page_refusal p x ≡ 0 → Clear p x
  page-zero e =
      let s = or-none (sheet_refusal p) (page-7 or_else spare-8) (sym (page-links p x) ∙ e) in
      let k = or-none page-7 spare-8 s.1 in
      record {
        accepted = s.0;
        exact = exact-of 6 (length x) (page_bytes p) k.0;
        clear = (none 7 (page_clear p x) 0 (or-zero spare-8 0 k.1 refl)).0;
      }

-- ---- judge: first the sheet and the length
module _ (p : Parameters) (n : ℕ) where
  abbrev length-7 : ℕ
  length-7 = 7 when not_exact n (page_bytes p)

  lengths-eq : judge_lengths p n ≡ (sheet_refusal p or_else length-7)
  unfolding judge_lengths
  lengths-eq = refl

  pub lengths-sheet : (k : ℕ) → k ≡ sheet_refusal p → (k ≡ 0 → ⊥) → k ≡ judge_lengths p n
  lengths-sheet k e h = first_of k (sheet_refusal p) length-7 e h ∙ sym lengths-eq

  pub lengths-exact : Accepted p → n ≡ page_bytes p → 0 ≡ judge_lengths p n
  lengths-exact A e = sym (lengths-eq ∙ or-zero (sheet_refusal p) length-7 A (exact_none 7 n (page_bytes p) e))

  pub lengths-other : Accepted p → (n ≡ page_bytes p → ⊥) → 7 ≡ judge_lengths p n
  lengths-other A h = sym (lengths-eq ∙ or-second (sheet_refusal p) length-7 A ∙ simp (ne_eqb n (page_bytes p) h))

  pub lengths-zero : judge_lengths p n ≡ 0 → Accepted p × (n ≡ page_bytes p)
  lengths-zero z =
      let s = or-none (sheet_refusal p) length-7 (sym lengths-eq ∙ z) in
      (s.0, exact-of 6 n (page_bytes p) s.1)

-- ---- then blank, and only then a stray bit
module _ (p : Parameters) (x : List ℕ) where
  judge-eq : judge_refusal p x ≡ (judge_lengths p (length x) or_else 8 when stray p x)
  unfolding judge_refusal
  judge-eq = refl

  pub judge-lengths : (k : ℕ) → k ≡ judge_lengths p (length x) → (k ≡ 0 → ⊥) → k ≡ judge_refusal p x
  judge-lengths k e h = first_of k (judge_lengths p (length x)) (8 when stray p x) e h ∙ sym judge-eq

  module _ (A : Accepted p) (e : length x ≡ page_bytes p) where
    pub judge-stray : false ≡ blank p x → false ≡ page_clear p x → 8 ≡ judge_refusal p x
    judge-stray b c =
        sym (judge-eq ∙ or-second (judge_lengths p (length x)) (8 when stray p x) (sym (lengths-exact p (length x) A e))
        ∙ ap₂ (λ (s t : Bool). 8 when not (s || t)) (sym c) (sym b))

  -- a chain that ends in 0, of a page that is not blank
  pub judge-accepted : judge_refusal p x ≡ 0 → Accepted p
  judge-accepted z = (lengths-zero p (length x) (or-none (judge_lengths p (length x)) (8 when stray p x) (sym judge-eq ∙ z)).0).0
