-- Blocks that write takes.
--   Apt p b    blocks that fit, and whose page is not blank
use Rattle.std.specs.Prelude.{◌≡◌, List, ℕ, get_or}
use Rattle.std.proofs.Common.{sym, ap, ◌∙◌, arith}
use Rattle.std.proofs.Math.Nat as Nat
use Rattle.polynomial.specs.Bits.{coefficient}
use Rattle.polynomial.specs.Sums.{add}
use Rattle.code.specs.declared.Parameters.{Parameters}
use Rattle.code.proofs.Accepted.{accepted}
use Rattle.code.proofs.Blank.{page-ones}
use Rattle.code.specs.Layout.{Fits, IsBlank, bit_from, page_of}
use Rattle.code.proofs.Pages.{sum_fits}
use Rattle.code.specs.Parameters.{Accepted}
use Rattle.layout.specs.Parts.{offset-zero}
use Rattle.layout.specs.Sizes.{data-low}

pub record Apt (p : Parameters) (b : List ℕ) : Type 0 where
  pub fits : Fits p b
  pub other : ¬ IsBlank p (page_of p b)

-- blocks whose first bit is 0
pub apt : (p : Parameters) → Accepted p → (b : List ℕ) → Fits p b → coefficient (get_or b 0 0) 0 ≡ 0 → Apt p b
apt p A b h z = record {
  fits = h;
  other = λ k.
      let R = accepted p A in
      let e : ◌≡◌ {A = ℕ} 1 0 =
      sym (((page-ones p R b h).0 k).1 0 0 (omega (arith, R.m-low)) (data-low p A 0)) ∙ ap (λ (o : ℕ). bit_from b o 0) (offset-zero p) ∙ z in
      Nat.suc-ne-zero 0 e;
}

-- and the sum of two such
pub apt-sum : (p : Parameters) → Accepted p → (a b : List ℕ) → Fits p a → Fits p b → coefficient (get_or (add a b) 0 0) 0 ≡ 0
    → Apt p (add a b)
apt-sum p A a b h j z = apt p A (add a b) (sum_fits p (accepted p A) a b h j) z
