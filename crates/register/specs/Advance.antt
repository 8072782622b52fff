-- One step of the remainder: f, moved up to degree 768 with the generator, takes in l coefficients and is moved down again.
use Rattle.std.specs.Prelude.{◌≡◌, List, ℕ, ◌+◌, ◌-◌, ◌*◌, ◌/◌, ◌^◌, ◌≤◌, ◌<◌, length, take}
use Rattle.std.proofs.Common.{sym, ap, ◌∙◌, arith, pow_mono, shl_lt, ext_get_or, get_or-take, length-take-le, take_all}
use Rattle.std.proofs.Math.Nat as Nat
use Rattle.polynomial.specs.Digits.{value, value-at, digits, digits-at, length_digits}
use Rattle.polynomial.specs.Xor.{xor}
use Rattle.kernels.specs.Row.{D, D-is}
use Rattle.kernels.specs.Shift.{xor-shl}
use Rattle.kernels.specs.Value.{Bounded, bounded-all}
use Rattle.reduction.specs.Sum.{Copied}
use Rattle.reduction.specs.Table.{Reduced, lowered}
use Rattle.code.proofs.Accepted.{accepted, degree-high}
use Rattle.code.specs.declared.Parameters.{Parameters}
use Rattle.code.specs.Code.{degree, remainder}
use Rattle.code.specs.Parameters.{Accepted}
use Rattle.levels.specs.Ready.{Prepared, degree-low, table-remainder}

-- the k lower words of a number
take-digits : (w k : ℕ) (l : List ℕ) → Bounded w l → k ≤ length l → take k l ≡ digits w k (value w l)
take-digits w k l b h =
    let e : length (take k l) ≡ k = length-take-le k l h in
    ext_get_or 0 (take k l) (digits w k (value w l)) (e ∙ sym (length_digits w k (value w l)))
    (λ i s. get_or-take k l i 0 (rw e at s) ∙ sym (digits-at w k (value w l) i (rw e at s) ∙ value-at w l (bounded-all w l b) i))

-- 12 words, copied from 13
pub copied-digits : (low₀ low r : List ℕ) (i : ℕ) → length low ≡ 12 → length r ≡ 13 → i ≡ 12 → Copied low₀ low r i → Bounded 64 r
    → low ≡ digits 64 12 (value 64 r)
copied-digits low₀ low r i n m e c b = sym (take_all 12 low (Nat.le_of_eq n)) ∙ rw e at c.done ∙ take-digits 64 12 r b (omega arith)

-- below x^w, so of degree w at most
pub below_next : (f w : ℕ) → f < 2 ^ w → f < 2 ^ (w + 1)
below_next f w l = Nat.lt_of_lt_of_le l (pow_mono {i = w} {j = w + 1} (omega arith))

-- all moved up by s
moved : (f u l s : ℕ) → xor (f * 2 ^ s * 2 ^ l) (u * 2 ^ s) ≡ xor (f * 2 ^ l) u * 2 ^ s
moved f u l s = ap (λ (x : ℕ). xor x (u * 2 ^ s)) (Nat.mul_right_comm f (2 ^ s) (2 ^ l)) ∙ sym (xor-shl s (f * 2 ^ l) u)

module _ (p : Parameters) (A : Accepted p) (a w : ℕ) (h : a ≤ p.v) (e : w ≡ degree p a) where
  pub place-lt : 768 - w < 768
  place-lt = omega (arith, degree-low p A a h)

  pub degree-fits : w ≤ 768
  degree-fits = rw e (degree-high p (accepted p A) a h)

  pub aligned-lt : (f v : ℕ) → f < 2 ^ w → v ≡ f * 2 ^ (768 - w) → v < 2 ^ D
  aligned-lt f v l i =
      let k : w + (768 - w) ≡ D = omega (arith, degree-fits, D-is) in
      rw (i, ← k) (shl_lt w (768 - w) l)

  pub stepped : (t : List ℕ) (f u l v r : ℕ) → Prepared p a t → v ≡ f * 2 ^ (768 - w) → Reduced t (xor (v * 2 ^ l) (u * 2 ^ (768 - w))) r
      → r / 2 ^ (768 - w) ≡ remainder p a (xor (f * 2 ^ l) u)
  stepped t f u l v r P i q =
      table-remainder p A a w (xor (f * 2 ^ l) u) (r / 2 ^ (768 - w)) t h e P
      (lowered t (768 - w) (xor (f * 2 ^ l) u) r (Nat.sub-le 768 w)
      (rw (ap (λ (x : ℕ). xor (x * 2 ^ l) (u * 2 ^ (768 - w))) i ∙ moved f u l (768 - w)) at q))
