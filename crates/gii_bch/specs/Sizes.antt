-- Sizes as numbers: 0 stands for a refusal, and is no size.
--   size_found r    the size of an answer, 0 where it is a refusal
use Rattle.std.specs.Prelude.{Result, Ok, Err, ◌≡◌, refl, ℕ, zero, suc, ◌+◌, ◌-◌, ◌*◌, ◌^◌, ◌≤◌, ◌<◌}
use Rattle.std.proofs.Common.{ap, ◌∙◌, zero-le, arith, lit<}
use Rattle.std.proofs.Math.Nat as Nat
use Rattle.code.specs.declared.Parameters.{Parameters}
use Rattle.code.specs.declared.Refusal.{Refusal}
use Rattle.code.specs.Answers.{unless_refused}
use Rattle.code.proofs.Accepted.{accepted, strength-high}
use Rattle.code.proofs.Answers.{size-c}
use Rattle.code.specs.Calls.{SizeC, size_unless}
use Rattle.code.specs.Code.{distance}
use Rattle.code.specs.Layout.{data_bytes, page_bytes}
use Rattle.code.specs.Parameters.{Accepted, sheet_refusal, strength}
use Rattle.code.proofs.Theorems.{demand3}
use Rattle.layout.specs.Parts.{block_room, bytes_high}
use Rattle.layout.specs.Sizes.{data-low, page-high, stored_low}
use Rattle.sizes.specs.Sized.{Sized}

abbrev pub size_found : Result ℕ Refusal → ℕ
size_found (Ok x) = x
size_found (Err e) = 0

found-by : (k x : ℕ) → size_found (unless_refused k x) ≡ size_unless k x
found-by zero x = refl
found-by (suc k) x = refl

fits_by : (k x : ℕ) → (k ≡ 0 → x < 2 ^ 32) → size_unless k x < 2 ^ 32
fits_by zero x h = h refl
fits_by (suc k) x h = lit< tt

-- a size of accepted parameters is not 0, and 32 bits hold it
pub record IsSize (p : Parameters) (x : ℕ) : Type 0 where
  pub low : Accepted p → 0 < x
  pub high : Accepted p → x < 2 ^ 32

module _ (p : Parameters) (x : ℕ) (r : Result ℕ Refusal) (S : Sized (sheet_refusal p) x r) (I : IsSize p x) where
  found-is : size_found r ≡ size_unless (sheet_refusal p) x
  found-is = ap size_found S.answers ∙ found-by (sheet_refusal p) x

  pub found-fits : size_found r < 2 ^ 32
  found-fits = rw found-is (fits_by (sheet_refusal p) x I.high)

  pub found_number : (n : ℕ) → n ≡ size_found r → SizeC p x n
  found_number n e = size-c p x n I.low (e ∙ found-is)

module _ (p : Parameters) where
  pub page-size : IsSize p (page_bytes p)
  page-size = record {
    low = λ A. Nat.mul-le-mul {n₁ = 1} {m₁ = 1} (omega (arith, (accepted p A).m-low)) (omega (arith, stored_low p A));
    high = λ A. Nat.lt_of_le_of_lt (page-high p A) (lit< tt);
  }

  pub data-size : IsSize p (data_bytes p)
  data-size = record {
    low = λ A. omega (arith, block_room p 0 (omega (arith, (accepted p A).m-low)), data-low p A 0);
    high = λ A. Nat.lt_of_le_of_lt (bytes_high p A) (lit< tt);
  }

  odd_pos : (b t : ℕ) → 1 ≤ b → 1 ≤ b * (2 * t + 1)
  odd_pos b t h = Nat.mul-le-mul {n₁ = 1} {m₁ = 1} h (omega arith)

  pub distance-size : IsSize p (distance p)
  distance-size = record {
    low = λ A. ((demand3 p A).smallest 1).1 (odd_pos (p.v + 1) (strength p 0) (omega arith), (λ b h l. odd_pos b (strength p (p.v - b + 1)) h));
    high = λ A.
        let t : 2 * strength p 0 + 1 ≤ 129 = omega (arith, strength-high p A 0 zero-le) in
        Nat.lt_of_le_of_lt (Nat.le_trans (((demand3 p A).smallest (distance p)).0 (Nat.le_refl (distance p))).0
        (Nat.mul-le-mul {n₂ = 4} {m₂ = 129} (omega (arith, (accepted p A).v_high)) t)) (lit< tt);
  }
