-- One 64-bit word moved up or down: what stays in it, and what is carried to the word above.
--   moved x m    x moved up by m + 1 places in two steps, as code has to where that may be 64
use Rattle.std.specs.Prelude.{◌≡◌, ℕ, suc, ◌+◌, ◌-◌, ◌*◌, ◌/◌, ◌%◌, ◌^◌, ◌≤◌, ◌<◌}
use Rattle.std.proofs.Common.{sym, ap, ap₂, ◌∙◌, subst, mul_assoc, add-mul, add_comm, mod-lt, arith, pow_pos, pow-add, shr-shr, shr_lt}
use Rattle.std.proofs.Math.Nat as Nat
use Rattle.std.proofs.Math.Arith.{digits_lt}
use Rattle.std.proofs.lemmas.Nat.{shl-shr, mod-pow-add}
use Rattle.std.proofs.Math.Pow.{field, mod-mod-pow}
use Rattle.kernels.specs.Shift.{up-mod}

abbrev pub moved : ℕ → ℕ → ℕ
moved x m = x * 2 % 2 ^ 64 * 2 ^ m % 2 ^ 64

pub mod-mul-mod : (a b m : ℕ) → a % m * b % m ≡ a * b % m
mod-mul-mod a b m =
    sym (ap (λ (x : ℕ). x * b % m) (sym (Nat.div-add-mod' a m))
    ∙ ap (λ (x : ℕ). x % m) (add-mul (a / m * m) (a % m) b ∙ ap (λ (x : ℕ). x + a % m * b) (Nat.mul_right_comm (a / m) m b))
    ∙ Nat.mul-add-mod_self_right (a / m * b) m (a % m * b))

pow64 : (h l : ℕ) → h + l ≡ 64 → 2 ^ 64 ≡ 2 ^ (h + l)
pow64 h l e = ap (λ (n : ℕ). 2 ^ n) (sym e)

pub moved-is : (x m j : ℕ) → j + suc m ≡ 64 → moved x m ≡ x % 2 ^ j * 2 ^ suc m
moved-is x m j e =
    mod-mul-mod (x * 2) (2 ^ m) (2 ^ 64)
    ∙ ap₂ ◌%◌ (mul_assoc x 2 (2 ^ m) ∙ ap (λ (n : ℕ). x * n) (sym (Nat.pow-succ' 2 m))) (pow64 j (suc m) e) ∙ up-mod x j (suc m)

-- what a word takes in from below fits
pub moved-lt : (x m j c : ℕ) → j + suc m ≡ 64 → c < 2 ^ suc m → moved x m + c < 2 ^ 64
moved-lt x m j c e h =
    subst (λ (n : ℕ). moved x m + c < n) (sym (pow64 j (suc m) e))
    (rw (moved-is x m j e, pow-add 2 j (suc m)) (digits_lt (mod-lt x (pow_pos j)) h))

-- by l in one step
pub word-up : (x l : ℕ) → l ≤ 64 → x * 2 ^ l % 2 ^ 64 ≡ x % 2 ^ (64 - l) * 2 ^ l
word-up x l h = ap (λ (n : ℕ). x * 2 ^ l % n) (pow64 (64 - l) l (omega arith)) ∙ up-mod x (64 - l) l

pub word-up-lt : (x l c : ℕ) → l ≤ 64 → c < 2 ^ l → x * 2 ^ l % 2 ^ 64 + c < 2 ^ 64
word-up-lt x l c h k =
    let e : (64 - l) + l ≡ 64 = omega arith in
    rw (word-up x l h) (subst (λ (n : ℕ). x % 2 ^ (64 - l) * 2 ^ l + c < n) (sym (pow64 (64 - l) l e))
    (rw (pow-add 2 (64 - l) l) (digits_lt (mod-lt x (pow_pos (64 - l))) k)))

-- the word as a sum: what stays and what is carried on
pub word_sum : (x l h : ℕ) → h + l ≡ 64 → x % 2 ^ h * 2 ^ l + x / 2 ^ h * 2 ^ 64 ≡ x * 2 ^ l
word_sum x l h e =
    rw (pow64 h l e, pow-add 2 h l)
    (ap (λ (n : ℕ). x % 2 ^ h * 2 ^ l + n) (sym (mul_assoc (x / 2 ^ h) (2 ^ h) (2 ^ l)))
    ∙ sym (add-mul (x % 2 ^ h) (x / 2 ^ h * 2 ^ h) (2 ^ l)) ∙ ap (λ (n : ℕ). n * 2 ^ l) (Nat.mod-add-div' x (2 ^ h)))

pub carry-lt : {x : ℕ} (l h : ℕ) → h + l ≡ 64 → x < 2 ^ 64 → x / 2 ^ h < 2 ^ l
carry-lt {x} l h e b = shr_lt l h (rw (add_comm l h, e) b)

-- the part of u that passes into the next word, u moved up by s
pub spill : (u s : ℕ) → s < 64 → u / 2 / 2 ^ (63 - s) * 2 ^ 64 + u * 2 ^ s % 2 ^ 64 ≡ u * 2 ^ s
spill u s h =
    ap₂ (λ (x y : ℕ). x * 2 ^ 64 + y) (shr-shr u 1 (63 - s) ∙ ap (λ (n : ℕ). u / 2 ^ n) o)
    (ap (λ (n : ℕ). u * 2 ^ s % n) (pow64 (64 - s) s e) ∙ up-mod u (64 - s) s)
    ∙ add_comm (u / 2 ^ (64 - s) * 2 ^ 64) (u % 2 ^ (64 - s) * 2 ^ s) ∙ word_sum u s (64 - s) e
  where
    e : (64 - s) + s ≡ 64
    e = omega arith

    o : 1 + (63 - s) ≡ 64 - s
    o = omega arith

-- up and down again: the lowest c bits are left
pub mask : (x c : ℕ) → c ≤ 64 → x * 2 ^ (64 - c) % 2 ^ 64 / 2 ^ (64 - c) ≡ x % 2 ^ c
mask x c h =
    ap (λ (n : ℕ). n / 2 ^ (64 - c)) (ap (λ (n : ℕ). x * 2 ^ (64 - c) % n) (pow64 c (64 - c) (omega arith)) ∙ up-mod x c (64 - c))
    ∙ shl-shr (x % 2 ^ c) (64 - c)

-- ---- 64 bits of y from place s on, out of its lowest 64 and the c bits above
module _ (s : ℕ) (h : s < 64) where
  below : s + suc (63 - s) ≡ 64
  below = omega arith

  above : suc (63 - s) + s ≡ 64
  above = omega arith

  pub window : (y c : ℕ) → s ≤ c → y % 2 ^ 64 / 2 ^ s + moved (y / 2 ^ 64 % 2 ^ c) (63 - s) ≡ y / 2 ^ s % 2 ^ 64
  window y c l =
      ap₂ ◌+◌
      (ap (λ (n : ℕ). y % 2 ^ n / 2 ^ s) (sym above) ∙ field y (suc (63 - s)) s)
      (moved-is (y / 2 ^ 64 % 2 ^ c) (63 - s) s below
      ∙ ap (λ (n : ℕ). n * 2 ^ suc (63 - s)) (ap (λ (n : ℕ). y / 2 ^ 64 % 2 ^ n % 2 ^ s) (sym e) ∙ mod-mod-pow (y / 2 ^ 64) (c - s) s
      ∙ ap (λ (n : ℕ). n % 2 ^ s) (ap (λ (n : ℕ). y / 2 ^ n) (sym below) ∙ sym (shr-shr y s (suc (63 - s))))))
      ∙ add_comm (y / 2 ^ s % 2 ^ suc (63 - s)) (y / 2 ^ s / 2 ^ suc (63 - s) % 2 ^ s * 2 ^ suc (63 - s))
      ∙ sym (mod-pow-add (y / 2 ^ s) s (suc (63 - s))) ∙ ap (λ (n : ℕ). y / 2 ^ s % 2 ^ n) below
    where
      e : (c - s) + s ≡ c
      e = omega arith

  pub window-lt : (y b : ℕ) → y < 2 ^ 64 → y / 2 ^ s + moved b (63 - s) < 2 ^ 64
  window-lt y b hy =
      rw (add_comm (y / 2 ^ s) (moved b (63 - s))) (moved-lt b (63 - s) s (y / 2 ^ s) below (shr_lt (suc (63 - s)) s (rw above hy)))
