-- The nesting coefficients as 64-bit numbers, for i and l up to 7.
use Rattle.std.specs.Prelude.{◌≡◌, Ok, Err, ℕ, zero, suc, ◌+◌, ◌-◌, ◌*◌, ◌%◌, ◌^◌, ◌≤◌, ◌<◌}
use Rattle.std.proofs.Common.{sym, ◌∙◌, arith, pow_mono, shl_lt, shl_exact, lt-ltb, le-ltb}
use Rattle.std.proofs.Math.Nat as Nat
use Rattle.std.specs.Int.Bits.{bit_xor}
use Rattle.polynomial.specs.Division.{xor_lt}
use Rattle.polynomial.specs.Xor.{xor_is}
use Rattle.code.specs.declared.Refusal.{Refusal}
use Rattle.code.proofs.Answers.{nesting-eq, nesting-made}
use Rattle.code.specs.Calls.{NestingMade}
use Rattle.code.specs.Code.{N}
use Rattle.code.proofs.Encode.{N-above}
use Rattle.code.proofs.Steps.{N-first, N-start, N-step}

pub at_zero : (i l : ℕ) → l ≡ 0 → 1 ≡ N i l
at_zero i l e = rw e (sym (N-first i))

pub above : (i l : ℕ) → i < l → 0 ≡ N i l
above i l h = sym (N-above i l h)

pub N-lt : (i l : ℕ) → l < 8 → N i l < 2 ^ (7 * i + 1)
N-lt i zero h = rw (N-first i) (Nat.lt_of_lt_of_le (omega arith) (pow_mono {i = 1} {j = 7 * i + 1} (omega arith)))
N-lt zero (suc l) h = rw (N-start l) (omega arith)
N-lt (suc i) (suc l) h =
    rw (N-step i l) (xor_lt (7 * suc i + 1) (N i l) (N i (suc l) * 2 ^ suc l)
    (Nat.lt_of_lt_of_le (N-lt i l (omega arith)) (pow_mono (omega arith)))
    (Nat.lt_of_lt_of_le (shl_lt (7 * i + 1) (suc l) (N-lt i (suc l) h)) (pow_mono {j = 7 * suc i + 1} (omega arith))))

pub N-next : (i l : ℕ) → i < 8 → l < 8 → 0 < l → l ≤ i → bit_xor (N (i - 1) (l - 1)) (N (i - 1) l * 2 ^ l % 2 ^ 64) ≡ N i l
N-next i zero hi hl p h = absurd (omega arith)
N-next zero (suc l) hi hl p h = absurd (omega arith)
N-next (suc i) (suc l) hi hl p h =
    let ei : suc i - 1 ≡ i = omega arith in
    let el : suc l - 1 ≡ l = omega arith in
    rw (ei, el, shl_exact (7 * i + 1) (suc l) 64 (N-lt i (suc l) hl) (omega arith))
    (xor_is (N i l) (N i (suc l) * 2 ^ suc l) ∙ sym (N-step i l))

-- ---- the call
pub nesting-i : (i l : ℕ) → 7 < i → NestingMade i l (Err Refusal.Index)
nesting-i i l h = nesting-made i l (Err Refusal.Index) (sym (nesting-eq i l ∙ simp (lt-ltb 7 i h)))

pub nesting-l : (i l : ℕ) → i ≤ 7 → 7 < l → NestingMade i l (Err Refusal.Index)
nesting-l i l a h = nesting-made i l (Err Refusal.Index) (sym (nesting-eq i l ∙ simp (le-ltb 7 i a, lt-ltb 7 l h)))

pub nesting-is : (i l c : ℕ) → i ≤ 7 → l ≤ 7 → c ≡ N i l → NestingMade i l (Ok c)
nesting-is i l c a b e = nesting-made i l (Ok c) (rw e (sym (nesting-eq i l ∙ simp (le-ltb 7 i a, le-ltb 7 l b))))
