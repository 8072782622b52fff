-- Recursion on a number's bits, the lowest outermost: the one place where there is fuel.
--   fold z s n         s n (s (n / 2) (s (n / 4) .. z))
--   coefficient c k    the coefficient of x^k of the polynomial c: bit k of the number
use Rattle.std.specs.Prelude.{◌≡◌}
use Rattle.std.proofs.Math.Path.{refl, sym, ap}
use Rattle.std.proofs.Common.{◌∙◌, le_refl, not-suc-le-zero, div-lt_iff_lt-mul, pow-suc}
use Prim.Native.Nat.{ℕ, zero, suc, ◌/◌, ◌%◌, ◌^◌, ◌≤◌, ◌<◌, zero-le, suc-le-suc}
use Rattle.std.proofs.Math.Decide.{le_ind}
use Rattle.std.proofs.Math.Arith.{half_le}

-- the fuel is the number itself, of which as many units are used as it has bits
module _ {ℓ} {A : Type ℓ} (z : A) (s : ℕ → A → A) where
  unfoldable pub fold-go : ℕ → ℕ → A
  fold-go zero a = z
  fold-go (suc n) zero = z
  fold-go (suc n) (suc a) = s (suc a) (fold-go n (suc a / 2))

  unfoldable pub fold : ℕ → A
  unfolding fold-go
  fold a = fold-go a a

  more : (n a : ℕ) → a ≤ n → fold-go (suc n) a ≡ fold-go n a
  unfolding fold-go
  more zero zero h = refl
  more zero (suc a) h = absurd (not-suc-le-zero h)
  more (suc n) zero h = refl
  more (suc n) (suc a) h = ap (s (suc a)) (more n (suc a / 2) (half_le h))

  enough : (n a : ℕ) → a ≤ n → fold-go n a ≡ fold-go a a
  enough n a h = le_ind (λ (m : ℕ). fold-go m a ≡ fold-go a a) refl (λ m k e. more m a k ∙ e) n h

  pub fold-zero : fold zero ≡ z
  unfolding fold
  fold-zero = refl

  -- THE equation of a recursion on bits
  pub fold_step : s zero z ≡ z → (a : ℕ) → fold a ≡ s a (fold (a / 2))
  unfolding fold fold-go
  fold_step h zero = sym h
  fold_step h (suc a) = ap (s (suc a)) (enough a (suc a / 2) (half_le (le_refl (suc a))))

abbrev pub coefficient : ℕ → ℕ → ℕ
coefficient c k = c / 2 ^ k % 2

pub half_lt : (c n : ℕ) → c < 2 ^ suc n → c / 2 < 2 ^ n
half_lt c n h = (div-lt_iff_lt-mul {x = c} {y = 2 ^ n} (suc-le-suc zero-le)).1 (rw (pow-suc 2 n) at h)
