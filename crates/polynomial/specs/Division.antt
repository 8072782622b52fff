-- Degrees, and division with remainder, of polynomials over GF(2).
--   deg a         the degree of a (0 has degree 0)
--   Deg a m       a has degree m: its bits from m up are a lone 1. An equation, so that shifts, sums and products carry it by rewriting
--   rem g k f     the remainder of f by g, where g has degree k
--   quot g k f    the quotient
--   2 ^ n + 1     the polynomial x^n + 1
use Rattle.std.specs.Prelude.{◌≡◌, ◌⊎◌, ◌↔◌, ℕ, zero, suc, ◌+◌, ◌-◌, ◌*◌, ◌/◌, ◌%◌, ◌^◌, ◌≤◌, ◌<◌}
use Rattle.std.proofs.Math.Path.{refl}
use Rattle.std.proofs.Common.{sym, ap, ap₂, ◌∙◌, inl, inr, zero-le, suc-le-suc, le_refl, lt_of_lt_of_le, lt_of_le_of_lt, not-suc-le-zero, zero-mul, one-mul, div-one, pow-suc, eq-zero-or-pos, zero-add, suc-add, div-lt_iff_lt-mul, mul_comm, le-add_left, le_trans, le_of_eq, le_antisymm, le_of_suc-le-suc, lt_of_not-le, not-le_of_lt, le-div_iff_mul-le, arith, pow_pos, pow_mono}
use Rattle.std.proofs.Math.Nat.{pow-succ', zero-div, div-eq_of_lt, mul-div-mul_right, div-div-eq-div-mul}
use Rattle.std.proofs.Math.Arith.{bin_ind}
use Rattle.std.proofs.Math.Pow.{pow-lt, high}
use Rattle.std.specs.Int.Bits as B
use Rattle.polynomial.specs.Bits.{fold, fold_step}
use Rattle.polynomial.specs.Clmul.{clmul, polys, clmul-step, clmul-xor-l, clmul-xor-r, clmul-zero-l}
use Rattle.polynomial.specs.Clmul.{clmul-one-l, clmul-dbl-l, clmul-comm, clmul-assoc, split-bit, bit-join}
use Rattle.polynomial.specs.Xor.{xor, xor_is, xors, bit-ind, odd-ind, xor-dbl}
use Rattle.polynomial.specs.Xor.{xor_zero_l, xor_zero_r, xor_self, xor_comm, xor-eq-zero}

pub xor_lt : (k a b : ℕ) → a < 2 ^ k → b < 2 ^ k → xor a b < 2 ^ k
unfolding xor
xor_lt k a b = B.xor_lt k a b

pub xor_shr : (a b k : ℕ) → xor a b / 2 ^ k ≡ xor (a / 2 ^ k) (b / 2 ^ k)
unfolding xor
xor_shr a b k = B.xor_shr a b k

-- ---- the number of bits, and the degree (0 has degree 0)
length-step : ℕ → ℕ → ℕ
length-step zero r = 0
length-step (suc a) r = suc r

unfoldable pub bit_length : ℕ → ℕ
unfolding fold length-step
bit_length a = fold 0 length-step a

pub bit-length-zero : bit_length 0 ≡ 0
unfolding bit_length
bit-length-zero = refl

pub bit-length-pos : (a : ℕ) → bit_length (suc a) ≡ suc (bit_length (suc a / 2))
unfolding bit_length length-step
bit-length-pos a = fold_step 0 length-step refl (suc a)

unfoldable pub deg : ℕ → ℕ
unfolding bit_length
deg a = bit_length (a / 2)

deg-eq : (a : ℕ) → deg a ≡ bit_length (a / 2)
unfolding deg
deg-eq a = refl

abbrev pub Deg : ℕ → ℕ → Type 0
Deg x m = x / 2 ^ m ≡ 1

pub shr-half : (a k : ℕ) → a / 2 ^ suc k ≡ a / 2 / 2 ^ k
shr-half a k = rw (pow-suc 2 k, mul_comm (2 ^ k) 2) (sym (div-div-eq-div-mul a 2 (2 ^ k)))

dbl-shr : (a k : ℕ) → a * 2 / 2 ^ suc k ≡ a / 2 ^ k
dbl-shr a k = rw (pow-suc 2 k) (mul-div-mul_right a (2 ^ k) (suc-le-suc zero-le))

pub deg-is : (a : ℕ) → 0 < a → Deg a (deg a)
deg-is a h =
    rw (deg-eq a)
    (bin_ind (λ (n : ℕ). 0 < n → n / 2 ^ bit_length (n / 2) ≡ 1) (λ h. absurd (not-suc-le-zero h)) (λ n ih h. go n (n / 2) refl ih h) a h)
  where
    go : (n m : ℕ) → n / 2 ≡ m → (0 < m → m / 2 ^ bit_length (m / 2) ≡ 1) → 0 < n → n / 2 ^ bit_length m ≡ 1
    go n zero e ih h = rw bit-length-zero (div-one n ∙ omega arith)
    go n (suc m) e ih h = rw (bit-length-pos m) (shr-half n (bit_length (suc m / 2)) ∙ rw e (ih (suc-le-suc zero-le)))

pub deg-lt : {x : ℕ} (m : ℕ) → Deg x m → x < 2 ^ m → ⊥
deg-lt {x} m d h = let e : ◌≡◌ {A = ℕ} 1 0 = sym d ∙ div-eq_of_lt h in omega arith

pub lt-of-shr : {x : ℕ} (m : ℕ) → x / 2 ^ m ≡ 0 → x < 2 ^ m
lt-of-shr {x} m e = rw one-mul at ((div-lt_iff_lt-mul {x = x} {y = 1} (pow_pos m)).0 (omega arith))

pub deg-dbl : (x m : ℕ) → Deg x m → Deg (x * 2) (suc m)
deg-dbl x m d = dbl-shr x m ∙ d

-- what lies below the degree does not change it
pub deg-xor : (x y m : ℕ) → Deg x m → y < 2 ^ m → Deg (xor y x) m
deg-xor x y m d h = xor_shr y x m ∙ rw (d, div-eq_of_lt h) (xor_zero_l 1)

pub lt-of-deg : {x : ℕ} (m : ℕ) → Deg x m → x < 2 ^ suc m
lt-of-deg {x} m e = rw (pow-succ' 2 m) ((div-lt_iff_lt-mul {x = x} {y = 2} (pow_pos m)).0 (omega arith))

pub le-of-deg : {x : ℕ} (m : ℕ) → Deg x m → 2 ^ m ≤ x
le-of-deg {x} m d = rw one-mul at ((le-div_iff_mul-le {x = 1} {y = x} (pow_pos m)).0 (le_of_eq (sym d)))

pub deg-le : (x m n : ℕ) → Deg x m → Deg x n → m ≤ n
deg-le x m n d e = le_of_suc-le-suc (lt_of_not-le (λ h. not-le_of_lt (lt-of-deg n e) (le_trans (pow_mono h) (le-of-deg m d))))

pub deg-unique : (x m n : ℕ) → Deg x m → Deg x n → m ≡ n
deg-unique x m n d e = le_antisymm (deg-le x m n d e) (deg-le x n m e d)

-- ---- x^n + 1
pub unity-xor : (n : ℕ) → 0 < n → xor (2 ^ n) 1 ≡ 2 ^ n + 1
unity-xor n h = sym (xor_is (2 ^ n) 1) ∙ rw one-mul at (B.xor_shifted 1 n 1 (pow-lt {i = 0} h))

pub unity-deg : (n : ℕ) → 0 < n → Deg (2 ^ n + 1) n
unity-deg n h = rw one-mul at (high 1 n (pow-lt {i = 0} h))

-- ---- products
bit_le : (n b : ℕ) → n % 2 * b ≤ b
bit_le n b = odd-ind (λ (x : ℕ). x * b ≤ b) (rw (zero-mul b) zero-le) (rw (one-mul b) (le_refl b)) n

pub deg-mul : (j k a b : ℕ) → Deg a j → Deg b k → Deg (clmul a b) (j + k)
deg-mul zero k a b da db = rw (zero-add k, sym (div-one a) ∙ da, clmul-one-l b) db
deg-mul (suc j) k a b da db =
    rw (suc-add j k, clmul-step a b)
    (deg-xor (clmul (a / 2) b * 2)
    (a % 2 * b) (suc (j + k)) (deg-dbl (clmul (a / 2) b) (j + k) (deg-mul j k (a / 2) b (sym (shr-half a j) ∙ da) db))
    (lt_of_le_of_lt (bit_le a b) (lt_of_lt_of_le (lt-of-deg k db) (pow_mono (suc-le-suc (le-add_left k j))))))

swap : (a b c d : ℕ) → xor a b ≡ xor c d → xor a c ≡ xor b d
swap a b c d e =
    let p : xor a c ≡ xor (xor a b) (xor b c) = simp xors in
    p ∙ rw e (simp xors)

-- ---- division by g of degree k
module _ (g k : ℕ) where
  -- one more bit of f below the remainder r of the others
  mod-step : ℕ → ℕ → ℕ
  mod-step f r = let s = r * 2 + f % 2 in xor s (clmul (s / 2 ^ k) g)

  unfoldable pub rem : ℕ → ℕ
  unfolding fold mod-step xor clmul
  rem f = fold 0 mod-step f

  pub rem-zero : rem 0 ≡ 0
  unfolding rem
  rem-zero = refl

  rem-step : (f : ℕ) → rem f ≡ xor (rem (f / 2) * 2 + f % 2) (clmul ((rem (f / 2) * 2 + f % 2) / 2 ^ k) g)
  unfolding rem mod-step
  rem-step f = fold_step 0 mod-step (rw (zero-div (2 ^ k)) (simp polys)) f

  -- the quotient: its next bit is 1 where the remainder of the bits above, with the next bit, reaches g's degree
  div-step : ℕ → ℕ → ℕ
  div-step f h = h * 2 + (rem (f / 2) * 2 + f % 2) / 2 ^ k

  unfoldable pub quot : ℕ → ℕ
  unfolding fold div-step rem
  quot f = fold 0 div-step f

  quot-zero : quot 0 ≡ 0
  unfolding quot
  quot-zero = refl

  quot-step : (f : ℕ) → quot f ≡ quot (f / 2) * 2 + (rem (f / 2) * 2 + f % 2) / 2 ^ k
  unfolding quot div-step
  quot-step f = fold_step 0 div-step (rw (rem-zero, zero-div (2 ^ k)) refl) f

  module _ (d : Deg g k) where
    carry : (t s : ℕ) → t < 2 → s / 2 ^ k ≡ t → xor s (clmul t g) / 2 ^ k ≡ 0
    carry t s h e =
        rw (xor_shr s (clmul t g) k, e)
        (bit-ind (λ (t : ℕ). xor t (clmul t g / 2 ^ k) ≡ 0) (rw (clmul-zero-l, zero-div) (xor_self 0))
        (rw (clmul-one-l, d) (xor_self 1)) t h)

    pub rem_lt : (f : ℕ) → rem f < 2 ^ k
    rem_lt =
        bin_ind (λ (n : ℕ). rem n < 2 ^ k) (rw rem-zero (pow_pos k))
        (λ n ih. rw (rem-step n) (lt-of-shr k
        (carry ((rem (n / 2) * 2 + n % 2) / 2 ^ k) (rem (n / 2) * 2 + n % 2) ((div-lt_iff_lt-mul (pow_pos k)).1 (omega arith)) refl)))

    division-step : (n q m t : ℕ) → n / 2 ≡ xor (clmul q g) m → n ≡ xor (clmul (xor (q * 2) t) g) (xor (m * 2 + n % 2) (clmul t g))
    division-step n q m t e = sym (split-bit n) ∙ rw e (simp (bit-join, ← xor-dbl, clmul-xor-l, clmul-dbl-l, xors))

    -- a quotient
    pub division : (f : ℕ) → (q : ℕ) × (f ≡ xor (clmul q g) (rem f))
    division =
        bin_ind (λ (n : ℕ). (q : ℕ) × (n ≡ xor (clmul q g) (rem n))) (0, sym (simp (clmul-zero-l, rem-zero, xors)))
        (λ n ih. (
          xor (ih.0 * 2) ((rem (n / 2) * 2 + n % 2) / 2 ^ k),
          rw (rem-step n) (division-step n ih.0 (rem (n / 2)) ((rem (n / 2) * 2 + n % 2) / 2 ^ k) ih.1),
        ))

    bit-sum : (h t : ℕ) → t < 2 → h * 2 + t ≡ xor (h * 2) t
    bit-sum h t l = let e : t % 2 ≡ t = omega arith in rw e at (bit-join t h) ∙ xor_comm t (h * 2)

    quot-go : (n h t : ℕ) → t < 2 → t ≡ (rem (n / 2) * 2 + n % 2) / 2 ^ k → n / 2 ≡ xor (clmul h g) (rem (n / 2))
        → n ≡ xor (clmul (h * 2 + t) g) (rem n)
    quot-go n h t l e ih = rw (rem-step n, bit-sum h t l, ← e) (division-step n h (rem (n / 2)) t ih)

    pub quot_is : (f : ℕ) → f ≡ xor (clmul (quot f) g) (rem f)
    quot_is =
        bin_ind (λ (n : ℕ). n ≡ xor (clmul (quot n) g) (rem n)) (sym (rw (quot-zero, rem-zero, clmul-zero-l g) (xor_self 0)))
        (λ n ih. rw (quot-step n) (quot-go n (quot (n / 2)) ((rem (n / 2) * 2 + n % 2) / 2 ^ k)
        ((div-lt_iff_lt-mul (pow_pos k)).1 (omega (arith, rem_lt (n / 2)))) refl ih))

    -- no multiple of g but 0 lies below its degree
    small-multiple : (q : ℕ) → clmul q g < 2 ^ k → q ≡ 0
    small-multiple q h = go (eq-zero-or-pos q)
      where
        go : (q ≡ 0) ⊎ (0 < q) → q ≡ 0
        go (inl e) = e
        go (inr l) =
            absurd (deg-lt (deg q + k) (deg-mul (deg q) k q g (deg-is q l) d) (lt_of_lt_of_le h (pow_mono (le-add_left k (deg q)))))

    -- the remainder is the only one
    pub unique : (q q' r r' : ℕ) → r < 2 ^ k → r' < 2 ^ k → xor (clmul q g) r ≡ xor (clmul q' g) r' → r ≡ r'
    unique q q' r r' h h' e =
        let p : clmul (xor q q') g ≡ xor r r' = clmul-xor-l q q' g ∙ swap (clmul q g) r (clmul q' g) r' e in
        let z : xor q q' ≡ 0 = small-multiple (xor q q') (rw p (xor_lt k r r' h h')) in
        xor-eq-zero r r' (sym p ∙ rw z (clmul-zero-l g))

    pub rem_of : (f q r : ℕ) → f ≡ xor (clmul q g) r → r < 2 ^ k → rem f ≡ r
    rem_of f q r e h = unique (division f).0 q (rem f) r (rem_lt f) h (sym (division f).1 ∙ e)

    pub rem-small : (f : ℕ) → f < 2 ^ k → rem f ≡ f
    rem-small f h = rem_of f 0 f (sym (simp (clmul-zero-l, xors))) h

    pub rem-md : (f : ℕ) → rem (rem f) ≡ rem f
    rem-md f = rem-small (rem f) (rem_lt f)

    pub rem-multiple : (q : ℕ) → rem (clmul q g) ≡ 0
    rem-multiple q = rem_of (clmul q g) q 0 (sym (xor_zero_r (clmul q g))) (pow_pos k)

    pub rem-xor : (f h : ℕ) → rem (xor f h) ≡ xor (rem f) (rem h)
    rem-xor f h =
        rem_of (xor f h) (xor (division f).0 (division h).0) (xor (rem f) (rem h))
        (ap₂ xor (division f).1 (division h).1 ∙ simp (clmul-xor-l, xors)) (xor_lt k (rem f) (rem h) (rem_lt f) (rem_lt h))

    pub rem-zero-iff : (f : ℕ) → (rem f ≡ 0) ↔ ((q : ℕ) × (f ≡ clmul q g))
    rem-zero-iff f =
        ((λ e. ((division f).0, (division f).1 ∙ rw e (xor_zero_r (clmul (division f).0 g)))), (λ h. rw h.1 (rem-multiple h.0)))

    -- f with its remainder is a multiple
    rem_is : (f : ℕ) → rem f ≡ xor f (clmul (division f).0 g)
    rem_is f = sym (ap (λ (x : ℕ). xor x (clmul (division f).0 g)) (division f).1 ∙ simp xors)

    pub rem-clmul-r : (a b : ℕ) → rem (clmul a (rem b)) ≡ rem (clmul a b)
    rem-clmul-r a b =
        ap (λ (x : ℕ). rem (clmul a x)) (rem_is b)
        ∙ ap rem (clmul-xor-r a b (clmul (division b).0 g) ∙ ap (xor (clmul a b)) (sym (clmul-assoc a (division b).0 g)))
        ∙ rem-xor (clmul a b) (clmul (clmul a (division b).0) g)
        ∙ rw (rem-multiple (clmul a (division b).0)) (xor_zero_r (rem (clmul a b)))

    pub rem-clmul-l : (a b : ℕ) → rem (clmul (rem a) b) ≡ rem (clmul a b)
    rem-clmul-l a b = ap rem (clmul-comm (rem a) b) ∙ rem-clmul-r b a ∙ ap rem (clmul-comm b a)
