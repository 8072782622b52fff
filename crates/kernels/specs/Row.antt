-- Rows of 13 words: a polynomial of degree below 832, cut at x^768 into the lower 12 words and the 13th.
--   D    768, the degree to which generators are moved up; shut, since a number of 2 ^ 768's size stops `omega`
use Rattle.std.specs.Prelude.{◌≡◌, refl, List, ℕ, zero, suc, ◌+◌, ◌*◌, ◌^◌, ◌<◌, length, get_or, take, set}
use Rattle.std.proofs.Common.{sym, ap, ◌∙◌, arith, length-set, take_all}
use Rattle.std.proofs.Math.Nat as Nat
use Rattle.polynomial.specs.Digits.{value}
use Rattle.kernels.specs.Value.{Bounded, take_more, take_more_set, take-lt}

unfoldable pub D : ℕ
D = 768

pub D-is : D ≡ 768
unfolding D
D-is = refl

pub pow-D : 2 ^ D ≡ 2 ^ (64 * 12)
pow-D = ap (λ (n : ℕ). 2 ^ n) D-is

pub set-top : (r : List ℕ) (v : ℕ) → length r ≡ 13 → value 64 (set r 12 v) ≡ v * 2 ^ D + value 64 (take 12 r)
set-top r v h =
    ap (value 64) (sym (take_all 13 (set r 12 v) (rw (length-set r 12 v) (omega arith))))
    ∙ take_more_set 64 r 12 v (omega arith) ∙ ap (λ (x : ℕ). v * x + value 64 (take 12 r)) (sym pow-D)

pub by-top : (r : List ℕ) → length r ≡ 13 → value 64 r ≡ get_or r 12 0 * 2 ^ D + value 64 (take 12 r)
by-top r h =
    ap (value 64) (sym (take_all 13 r (omega arith))) ∙ take_more 64 r 12 (omega arith)
    ∙ ap (λ (x : ℕ). get_or r 12 0 * x + value 64 (take 12 r)) (sym pow-D)

pub low-lt : (r : List ℕ) → Bounded 64 r → length r ≡ 13 → value 64 (take 12 r) < 2 ^ D
low-lt r d h = rw pow-D (take-lt 64 r d 12 (omega arith))

pub top-zero : (r : List ℕ) → length r ≡ 13 → value 64 r < 2 ^ D → get_or r 12 0 ≡ 0
top-zero r h s = none (get_or r 12 0) (2 ^ D) (value 64 (take 12 r)) (rw (by-top r h) at s)
  where
    none : (x P y : ℕ) → x * P + y < P → x ≡ 0
    none zero P y h = refl
    none (suc k) P y h = absurd (Nat.not-suc-le-zero {n = 0} (omega (arith, Nat.suc-mul k P, h)))
