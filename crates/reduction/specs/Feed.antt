-- A polynomial f fed to a register of 0 in chunks from the top, at x^768: its m lowest bits. Once those from `pos` on are fed, what has
-- been fed is f % 2 ^ m / 2 ^ pos.
use Rattle.std.specs.Prelude.{◌≡◌, refl, List, ℕ, ◌+◌, ◌-◌, ◌*◌, ◌/◌, ◌%◌, ◌^◌, ◌≤◌, ◌<◌, length, replicate}
use Rattle.std.proofs.Common.{sym, ap, ap₂, ◌∙◌, mod-lt, zero-mul, arith, pow_pos, shr-shr}
use Rattle.std.proofs.Math.Nat as Nat
use Rattle.std.proofs.Math.Pow.{field, mod-mod-pow, split}
use Rattle.polynomial.specs.Digits.{value}
use Rattle.polynomial.specs.Division.{rem, rem-zero}
use Rattle.polynomial.specs.Xor.{xor}
use Rattle.kernels.specs.Remainder.{rem-shift-add}
use Rattle.kernels.specs.Row.{D, D-is, by-top, top-zero}
use Rattle.kernels.specs.Shift.{join, up-all, xor-shl}
use Rattle.kernels.specs.Value.{same_at}
use Rattle.reduction.specs.Step.{Stepping}
use Rattle.reduction.specs.Sum.{Copied}
use Rattle.reduction.specs.Table.{MovedUp, Reduced, reduced-low}

-- A was fed, and l bits u follow
feed-turn : (t : List ℕ) (A u l r r' : ℕ) → Reduced t (A * 2 ^ D) r → Reduced t (xor (r * 2 ^ l) (u * 2 ^ D)) r'
    → Reduced t (xor (A * 2 ^ l) u * 2 ^ D) r'
feed-turn t A u l r r' e f = record {
  small = f.small;
  rest = λ G T.
      f.rest G T ∙ ap (λ (x : ℕ). rem G D (xor (x * 2 ^ l) (u * 2 ^ D))) (e.rest G T)
      ∙ rem-shift-add G D T.deg l (A * 2 ^ D) (u * 2 ^ D)
      ∙ ap (rem G D) (ap (λ (x : ℕ). xor x (u * 2 ^ D)) (Nat.mul_right_comm A (2 ^ D) (2 ^ l)) ∙ sym (xor-shl D (A * 2 ^ l) u));
}

pub start-fed : (t : List ℕ) (f m r : ℕ) → r ≡ 0 → Reduced t (f % 2 ^ m / 2 ^ m * 2 ^ D) r
start-fed t f m r z =
    rw (Nat.div-eq_of_lt (mod-lt f (pow_pos m)), zero-mul, z) (record { small = pow_pos D; rest = λ G T. sym (rem-zero G D) })

-- what is fed next: l bits below `pos`
chunk : (f m q l : ℕ) → q + l ≤ m → f % 2 ^ m / 2 ^ q ≡ xor (f % 2 ^ m / 2 ^ (q + l) * 2 ^ l) (f / 2 ^ q % 2 ^ l)
chunk f m q l h =
    sym (split (f % 2 ^ m / 2 ^ q) l)
    ∙ ap₂ (λ (a b : ℕ). a * 2 ^ l + b) (shr-shr (f % 2 ^ m) q l)
    (ap (λ (n : ℕ). f % 2 ^ n / 2 ^ q % 2 ^ l) (sym e) ∙ ap (λ (n : ℕ). n % 2 ^ l) (field f (m - q) q)
    ∙ ap (λ (n : ℕ). f / 2 ^ q % 2 ^ n % 2 ^ l) (sym g) ∙ mod-mod-pow (f / 2 ^ q) (m - q - l) l)
    ∙ join (f % 2 ^ m / 2 ^ (q + l)) l (f / 2 ^ q % 2 ^ l) (mod-lt (f / 2 ^ q) (pow_pos l))
  where
    e : (m - q) + q ≡ m
    e = omega arith

    g : (m - q - l) + l ≡ m - q
    g = omega arith

pub turn-fed : (t : List ℕ) (f m pos q l r r' : ℕ) → q + l ≡ pos → pos ≤ m
    → Reduced t (f % 2 ^ m / 2 ^ pos * 2 ^ D) r → Reduced t (xor (r * 2 ^ l) (f / 2 ^ q % 2 ^ l * 2 ^ D)) r'
    → Reduced t (f % 2 ^ m / 2 ^ q * 2 ^ D) r'
turn-fed t f m pos q l r r' e h a b =
    rw (chunk f m q l (omega arith), e) (feed-turn t (f % 2 ^ m / 2 ^ pos) (f / 2 ^ q % 2 ^ l) l r r' a b)

-- the register that holds what was fed is a multiple of x^p where the generator is one
pub held : (r t : List ℕ) (A p : ℕ) → length r ≡ 13 → length t ≡ 3072 → p < 768 → MovedUp t p
    → Reduced t (A * 2 ^ D) (value 64 r) → Stepping r t p
held r t A p lr lt h M q = record {
  words = lr;
  table = lt;
  place = h;
  small = q.small;
  moved = M;
  low = reduced-low t p (A * 2 ^ D) (value 64 r) h M (up-all A D p (omega (arith, D-is))) q;
}

-- a register of 0 that takes over the lower 12 words of v
pub taken-over : (r₀ r v : List ℕ) → length r₀ ≡ 13 → length r ≡ 13 → length v ≡ 13 → value 64 r₀ ≡ 0
    → value 64 v < 2 ^ D → Copied r₀ r v 12 → value 64 r ≡ value 64 v
taken-over r₀ r v l₀ lr lv z h p =
    by-top r lr ∙ ap₂ (λ (x y : ℕ). x * 2 ^ D + y) (same_at r r₀ 12 p.left ∙ top-zero r₀ l₀ (rw z (pow_pos D)) ∙ sym (top-zero v lv h))
    (ap (value 64) p.done) ∙ sym (by-top v lv)

pub row-of-zeros : value 64 (replicate 13 0) ≡ 0
unfolding value
row-of-zeros = refl
