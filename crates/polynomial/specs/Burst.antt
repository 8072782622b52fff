-- Bursts: the ones of a word of n places lie within w neighbouring places, place n - 1 followed by place 0.
-- A cyclic code whose generator has degree w has no word but zero among them: it finds every burst of that length.
--   Window n w a k    place k is one of the w places from a on, going round
use Rattle.std.specs.Prelude.{◌≡◌, refl, ◌≢◌, ◌⊎◌, ℕ, zero, suc, ◌+◌, ◌-◌, ◌*◌, ◌/◌, ◌%◌, ◌^◌, ◌≤◌, ◌<◌}
use Rattle.std.proofs.Common.{sym, ap, ap₂, ◌∙◌, inl, inr, arith, pow-add, pow_pos, shl_lt, shr_lt}
use Rattle.std.proofs.Math.Nat as Nat
use Rattle.std.proofs.Math.Decide.{dec_le, ℕ_discrete}
use Rattle.std.proofs.Math.Arith.{lt-one}
use Rattle.std.specs.Int.Bits.{xor_shifted}
use Rattle.std.proofs.Math.Pow.{split}
use Rattle.polynomial.specs.Bits.{coefficient}
use Rattle.polynomial.specs.Clmul.{clmul, clmul-one-l, clmul-pow, clmul-xor-l, clmul-zero-l, clmul-zero-r}
use Rattle.polynomial.specs.Coefficients.{high-coefficient, low-only}
use Rattle.polynomial.specs.Digits.{low-coefficient}
use Rattle.polynomial.specs.Division.{Deg, rem, rem-clmul-l, rem-clmul-r, rem-small, rem-xor, rem-zero, unity-xor, xor_lt}
use Rattle.polynomial.specs.Xor.{xor, xor_comm, xor-eq-zero, xor_is}

abbrev pub Window : ℕ → ℕ → ℕ → ℕ → Type 0
Window n w a k = ((a ≤ k) × (k < a + w)) ⊎ (k + n < a + w)

module _ (n w a e : ℕ) (b : a ≤ n) (l : e < 2 ^ n) (run : (k : ℕ) → k < n → coefficient e k ≢ 0 → Window n w a k) where
  -- the ones from a on, and those below a, which have gone round
  abbrev hi : ℕ
  hi = e / 2 ^ a

  abbrev lo : ℕ
  lo = e % 2 ^ a

  outside : (k : ℕ) → k < n → (Window n w a k → ⊥) → coefficient e k ≡ 0
  outside k h o = go (ℕ_discrete (coefficient e k) 0)
    where
      go : Dec (coefficient e k ≡ 0) → coefficient e k ≡ 0
      go (yes z) = z
      go (no z) = absurd (o (run k h z))

  hi-room : hi < 2 ^ (n - a)
  hi-room = let s : n - a + a ≡ n = omega arith in shr_lt (n - a) a (rw s l)

  hi-lt : hi < 2 ^ w
  hi-lt = low-only w (n - a) hi hi-room (λ r h c. sym (high-coefficient e a r) ∙ outside (a + r) (omega arith) (not_in r h))
    where
      not_in : (r : ℕ) → w ≤ r → Window n w a (a + r) → ⊥
      not_in r h (inl i) = Nat.lt_irrefl (a + r) (omega (arith, i.1))
      not_in r h (inr i) = Nat.lt_irrefl (a + r) (omega arith)

  lo-lt : lo < 2 ^ (a + w - n)
  lo-lt = low-only (a + w - n) a lo (Nat.mod-lt e (pow_pos a)) (λ r h c. low-coefficient a e r c ∙ outside r (omega arith) (not_in r h c))
    where
      not_in : (r : ℕ) → a + w - n ≤ r → r < a → Window n w a r → ⊥
      not_in r h c (inl i) = Nat.lt_irrefl r (omega (arith, i.0))
      not_in r h c (inr i) = Nat.lt_irrefl r (omega arith)

  -- the word turned by n - a places: the run begins at x^0
  abbrev turned : ℕ
  turned = xor (lo * 2 ^ (n - a)) hi

  turned_lt : turned < 2 ^ w
  turned_lt = xor_lt w (lo * 2 ^ (n - a)) hi (go (dec_le n (a + w))) hi-lt
    where
      go : Dec (n ≤ a + w) → lo * 2 ^ (n - a) < 2 ^ w
      go (yes h) = let s : a + w - n + (n - a) ≡ w = omega arith in rw s at (shl_lt (a + w - n) (n - a) lo-lt)
      go (no h) =
          let s : a + w - n ≡ 0 = omega arith in
          rw (lt-one (rw s at lo-lt), Nat.zero-mul (2 ^ (n - a))) (pow_pos w)

  turned_zero : turned ≡ 0 → e ≡ 0
  turned_zero z = sym (split e a) ∙ ap₂ (λ (y r : ℕ). y * 2 ^ a + r) (same lo s hi-room) (none lo s hi-room) ∙ omega arith
    where
      s : lo * 2 ^ (n - a) ≡ hi
      s = xor-eq-zero (lo * 2 ^ (n - a)) hi z

      none : (r : ℕ) → r * 2 ^ (n - a) ≡ hi → hi < 2 ^ (n - a) → r ≡ 0
      none zero t h = refl
      none (suc r) t h = absurd (Nat.lt_irrefl hi (omega (arith, Nat.suc-mul r (2 ^ (n - a)))))

      same : (r : ℕ) → r * 2 ^ (n - a) ≡ hi → hi < 2 ^ (n - a) → hi ≡ 0
      same r t h = sym t ∙ ap (λ (y : ℕ). y * 2 ^ (n - a)) (none r t h) ∙ Nat.zero-mul (2 ^ (n - a))

  -- x^n is 1 modulo g
  module _ (g : ℕ) (pos : 0 < n) (d : Deg g w) (cyclic : rem g w (2 ^ n + 1) ≡ 0) where
    around : (c : ℕ) → rem g w (clmul (2 ^ n) c) ≡ rem g w c
    around c =
        xor-eq-zero (rem g w (clmul (2 ^ n) c)) (rem g w c)
        (sym (rem-xor g w d (clmul (2 ^ n) c) c) ∙ ap (rem g w) (sym both) ∙ sym (rem-clmul-l g w d (2 ^ n + 1) c)
        ∙ rw (cyclic, clmul-zero-l c) (rem-zero g w))
      where
        both : clmul (2 ^ n + 1) c ≡ xor (clmul (2 ^ n) c) c
        both = ap (λ (y : ℕ). clmul y c) (sym (unity-xor n pos)) ∙ clmul-xor-l (2 ^ n) 1 c ∙ ap (xor (clmul (2 ^ n) c)) (clmul-one-l c)

    -- turned up, the word is hi x^n + lo x^(n-a)
    moved : clmul (2 ^ (n - a)) e ≡ xor (clmul (2 ^ n) hi) (lo * 2 ^ (n - a))
    moved =
        let s : a + (n - a) ≡ n = omega arith in
        clmul-pow (n - a) e ∙ ap (λ (y : ℕ). y * 2 ^ (n - a)) (sym (split e a)) ∙ Nat.add-mul (hi * 2 ^ a) lo (2 ^ (n - a))
        ∙ ap (λ (y : ℕ). y + lo * 2 ^ (n - a)) (Nat.mul_assoc hi (2 ^ a) (2 ^ (n - a))
        ∙ ap (λ (y : ℕ). hi * y) (sym (pow-add 2 a (n - a)) ∙ ap (λ (k : ℕ). 2 ^ k) s))
        ∙ sym (sym (xor_is (hi * 2 ^ n) (lo * 2 ^ (n - a))) ∙ xor_shifted hi n (lo * 2 ^ (n - a)) (rw s at (shl_lt a (n - a) (Nat.mod-lt e (pow_pos a)))))
        ∙ ap (λ (y : ℕ). xor y (lo * 2 ^ (n - a))) (sym (clmul-pow n hi))

    turned-rem : rem g w e ≡ 0 → rem g w turned ≡ 0
    turned-rem z =
        rem-xor g w d (lo * 2 ^ (n - a)) hi ∙ ap (xor (rem g w (lo * 2 ^ (n - a)))) (sym (around hi))
        ∙ xor_comm (rem g w (lo * 2 ^ (n - a))) (rem g w (clmul (2 ^ n) hi))
        ∙ sym (rem-xor g w d (clmul (2 ^ n) hi) (lo * 2 ^ (n - a))) ∙ ap (rem g w) (sym moved) ∙ sym (rem-clmul-r g w d (2 ^ (n - a)) e)
        ∙ rw (z, clmul-zero-r (2 ^ (n - a))) (rem-zero g w)

    pub burst-zero : rem g w e ≡ 0 → e ≡ 0
    burst-zero z = turned_zero (sym (rem-small g w d turned turned_lt) ∙ turned-rem z)
