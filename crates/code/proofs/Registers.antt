-- The register: fed a polynomial from the empty register, highest power first, cut into any widths,
-- it holds the count and the remainder by g_a.
--   cut c Ls                  the polynomial c in parts of Ls coefficients, highest power first: pairs of a width and a number
--   feedings p r parts        the register after the parts are fed in turn
--   AllDone p r parts         no feeding of them is refused
--   holding a k f             the register of level a with count k and the remainder f
use Rattle.std.specs.Prelude.{◌≡◌, Bool, not, ◌||◌, List, [], ◌∷◌, ℕ, ◌+◌, ◌*◌, ◌/◌, ◌%◌, ◌^◌, ◌≤◌, ◌<◌, Ok}
use Rattle.std.proofs.Math.Path.{refl, ap}
use Rattle.std.proofs.Common.{sym, ◌∙◌, arith, leb→le, ltb→lt, pow_pos, pow_mono, shr-shr}
use Rattle.std.proofs.Math.Bool.{true, false}
use Rattle.std.proofs.Math.Nat as Nat
use Rattle.std.specs.Int.Bits.{xor_shifted}
use Rattle.std.proofs.Math.Dec.{T, leb, ltb, not_T}
use Rattle.std.proofs.Math.Pow.{split}
use Rattle.polynomial.specs.Clmul.{clmul-pow}
use Rattle.polynomial.specs.Digits.{digits, value, value-digits}
use Rattle.polynomial.specs.Division.{Deg, rem, rem-clmul-r, rem_lt, rem-xor, rem-zero}
use Rattle.polynomial.specs.Sums.{All}
use Rattle.polynomial.specs.Xor.{xor, xor_is}
use Rattle.code.specs.declared.Parameters.{Parameters}
use Rattle.code.proofs.Chains.{off', or-zero}
use Rattle.code.specs.Register.{Register, Fed}
use Rattle.code.specs.Accepted.{Rules}
use Rattle.code.proofs.Accepted.{accepted, degree-high, lawful}
use Rattle.code.specs.Calls.{advanced, empty, fed, opened}
use Rattle.code.specs.Code.{degree, gen, remainder}
use Rattle.code.specs.Lists.{◌or_else◌, ◌when◌, sum}
use Rattle.code.specs.Parameters.{Accepted, full, sheet_refusal}
use Rattle.code.specs.Refusals.{bad_width, feed_refusal, open_refusal}
use Rattle.code.specs.Refused.{Width}
use Rattle.code.proofs.Refused.{width-good}
use Rattle.code.specs.Registers.{AllDone, cut, feedings}

abbrev pub holding : ℕ → ℕ → ℕ → Register
holding a k f = record { level = a; count = k; remainder = digits 64 12 f }

empty-holding : (a : ℕ) → empty a ≡ holding a 0 0
unfolding digits
empty-holding a = refl

sum-cons : (L : ℕ) (Ls : List ℕ) → sum (L ∷ Ls) ≡ L + sum Ls
unfolding sum
sum-cons L Ls = refl

sum-nil : sum [] ≡ 0
unfolding sum
sum-nil = refl

-- ---- one part more: f × x^L + u, with the remainder in the place of f
module _ (g k : ℕ) (d : Deg g k) where
  rem-shift : (f L : ℕ) → rem g k (rem g k f * 2 ^ L) ≡ rem g k (f * 2 ^ L)
  rem-shift f L = rw (← clmul-pow L (rem g k f), ← clmul-pow L f) (rem-clmul-r g k d (2 ^ L) f)

  rem-next : (f L u : ℕ) → u < 2 ^ L → rem g k (xor (rem g k f * 2 ^ L) u) ≡ rem g k (f * 2 ^ L + u)
  rem-next f L u h =
      rem-xor g k d (rem g k f * 2 ^ L) u ∙ ap (λ (y : ℕ). xor y (rem g k u)) (rem-shift f L) ∙ sym (rem-xor g k d (f * 2 ^ L) u)
      ∙ ap (rem g k) (sym (xor_is (f * 2 ^ L) u) ∙ xor_shifted f L u h)

-- c without its S lowest coefficients, in two parts
part : (c L S : ℕ) → c / 2 ^ (L + S) * 2 ^ L + c / 2 ^ S % 2 ^ L ≡ c / 2 ^ S
part c L S =
    ap (λ (y : ℕ). y * 2 ^ L + c / 2 ^ S % 2 ^ L) (ap (λ (e : ℕ). c / 2 ^ e) (Nat.add_comm L S) ∙ sym (shr-shr c S L)) ∙ split (c / 2 ^ S) L

module _ (p : Parameters) (A : Accepted p) (a : ℕ) (low : a ≤ p.v) where
  R : Rules p
  R = accepted p A

  d : Deg (gen p a) (degree p a)
  d = (lawful p R).degrees a low

  small : (f : ℕ) → remainder p a f < 2 ^ (64 * 12)
  small f = Nat.lt_of_lt_of_le (rem_lt (gen p a) (degree p a) d f) (pow_mono (degree-high p R a low))

  back : (f : ℕ) → value 64 (digits 64 12 (remainder p a f)) ≡ remainder p a f
  back f = value-digits 64 12 (remainder p a f) (small f)

  no : {P : Type 0} (b : Bool) → (T b → P) → (P → ⊥) → T (not b)
  no b h n = not_T b (λ t. n (h t))

  -- a part that leaves room is not refused
  feed-none : (L u k f : ℕ) → Width L → u < 2 ^ L → k + L ≤ full p → feed_refusal p L (holding a k (remainder p a f)) u ≡ 0
  unfolding feed_refusal
  feed-none L u k f w h b =
      or-zero (sheet_refusal p) (5 when bad_width L or_else 8 when leb (2 ^ L) u or_else 11 when ltb (full p) (k + L)
      or_else 12 when (ltb p.v a || leb (2 ^ degree p a) (value 64 (digits 64 12 (remainder p a f))))) A
      (or-zero (5 when bad_width L) (8 when leb (2 ^ L) u or_else 11 when ltb (full p) (k + L) or_else 12 when (ltb p.v a
      || leb (2 ^ degree p a) (value 64 (digits 64 12 (remainder p a f))))) (off' 5 (bad_width L) (width-good L w))
      (or-zero (8 when leb (2 ^ L) u)
      (11 when ltb (full p) (k + L) or_else 12 when (ltb p.v a || leb (2 ^ degree p a) (value 64 (digits 64 12 (remainder p a f)))))
      (off' 8 (leb (2 ^ L) u) (no (leb (2 ^ L) u) (leb→le (2 ^ L) u) (Nat.not-le_of_lt h)))
      (or-zero (11 when ltb (full p) (k + L)) (12 when (ltb p.v a || leb (2 ^ degree p a) (value 64 (digits 64 12 (remainder p a f)))))
      (off' 11 (ltb (full p) (k + L)) (no (ltb (full p) (k + L)) (ltb→lt (full p) (k + L)) (λ l. Nat.not-le_of_lt l b)))
      (off' 12 (ltb p.v a || leb (2 ^ degree p a) (value 64 (digits 64 12 (remainder p a f))))
      (nor (ltb p.v a) (leb (2 ^ degree p a) (value 64 (digits 64 12 (remainder p a f))))
      (no (ltb p.v a) (ltb→lt p.v a) (λ l. Nat.not-le_of_lt l low))
      (rw (back f) (no (leb (2 ^ degree p a) (remainder p a f)) (leb→le (2 ^ degree p a) (remainder p a f))
      (Nat.not-le_of_lt (rem_lt (gen p a) (degree p a) d f)))))))))
    where
      nor : (x y : Bool) → T (not x) → T (not y) → T (not (x || y))
      nor true y s t = absurd s
      nor false y s t = t

  advance : (L u k f : ℕ) → u < 2 ^ L → advanced p L (holding a k (remainder p a f)) u ≡ holding a (k + L) (remainder p a (f * 2 ^ L + u))
  unfolding advanced
  advance L u k f h =
      ap (λ (y : ℕ). holding a (k + L) y)
      (ap (λ (y : ℕ). remainder p a (xor (y * 2 ^ L) u)) (back f) ∙ rem-next (gen p a) (degree p a) d f L u h)

  fed-one : (L u k f : ℕ) → Width L → u < 2 ^ L → k + L ≤ full p
      → fed p L (holding a k (remainder p a f)) u ≡ record {
        outcome = Ok tt;
        register = holding a (k + L) (remainder p a (f * 2 ^ L + u));
      }
  unfolding fed
  fed-one L u k f w h b =
      rw (feed-none L u k f w h b) (ap (λ (r : Register). record { outcome = Ok tt; register = r }) (advance L u k f h))

  module _ (c : ℕ) where
    -- the register before the parts Ls
    abbrev at : ℕ → List ℕ → Register
    at k Ls = holding a k (remainder p a (c / 2 ^ sum Ls))

    step : (L k : ℕ) (Ls : List ℕ) → Width L → k + sum (L ∷ Ls) ≤ full p
        → fed p L (at k (L ∷ Ls)) (c / 2 ^ sum Ls % 2 ^ L) ≡ record { outcome = Ok tt; register = at (k + L) Ls }
    step L k Ls w h =
        fed-one L (c / 2 ^ sum Ls % 2 ^ L) k (c / 2 ^ sum (L ∷ Ls)) w (Nat.mod-lt (c / 2 ^ sum Ls) (pow_pos L))
        (omega (arith, sum-cons L Ls))
        ∙ ap (λ (f : ℕ). record { outcome = Ok tt; register = holding a (k + L) (remainder p a f) })
        (ap (λ (s : ℕ). c / 2 ^ s * 2 ^ L + c / 2 ^ sum Ls % 2 ^ L) (sum-cons L Ls) ∙ part c L (sum Ls))

    room-left : (L k : ℕ) (Ls : List ℕ) → k + sum (L ∷ Ls) ≤ full p → k + L + sum Ls ≤ full p
    room-left L k Ls h = omega (arith, sum-cons L Ls)

    done-from : (k : ℕ) (Ls : List ℕ) → All Width Ls → k + sum Ls ≤ full p → AllDone p (at k Ls) (cut c Ls)
    done-from k [] w h = tt
    done-from k (L ∷ Ls) w h =
        (ap (λ (r : Fed). r.outcome) (step L k Ls w.0 h), rw (step L k Ls w.0 h) (done-from (k + L) Ls w.1 (room-left L k Ls h)))

    after-from : (k : ℕ) (Ls : List ℕ) → All Width Ls → k + sum Ls ≤ full p
        → feedings p (at k Ls) (cut c Ls) ≡ holding a (k + sum Ls) (remainder p a c)
    after-from k [] w h =
        let s : k ≡ k + sum [] = sym (ap (λ (y : ℕ). k + y) sum-nil ∙ Nat.add-zero k) in
        let f : c / 2 ^ sum [] ≡ c = ap (λ (y : ℕ). c / 2 ^ y) sum-nil ∙ Nat.div-one c in
        ap (λ (y : ℕ). holding a k (remainder p a y)) f ∙ ap (λ (y : ℕ). holding a y (remainder p a c)) s
    after-from k (L ∷ Ls) w h =
        ap (λ (r : Fed). feedings p r.register (cut c Ls)) (step L k Ls w.0 h) ∙ after-from (k + L) Ls w.1 (room-left L k Ls h)
        ∙ ap (λ (s : ℕ). holding a s (remainder p a c)) (Nat.add_assoc k L (sum Ls) ∙ ap (λ (y : ℕ). k + y) (sym (sum-cons L Ls)))

  module _ (c : ℕ) (Ls : List ℕ) (w : All Width Ls) (h : sum Ls ≤ full p) (l : c < 2 ^ sum Ls) where
    begin : empty a ≡ holding a 0 (remainder p a (c / 2 ^ sum Ls))
    begin = empty-holding a ∙ ap (holding a 0) (sym (ap (remainder p a) (Nat.div-eq_of_lt l) ∙ rem-zero (gen p a) (degree p a)))

    pub fed-done : AllDone p (empty a) (cut c Ls)
    fed-done = rw begin (done-from c 0 Ls w (rw (Nat.zero-add (sum Ls)) h))

    pub fed-holds : feedings p (empty a) (cut c Ls) ≡ holding a (sum Ls) (remainder p a c)
    fed-holds =
        rw begin
        (after-from c 0 Ls w (rw (Nat.zero-add (sum Ls)) h) ∙ ap (λ (s : ℕ). holding a s (remainder p a c)) (Nat.zero-add (sum Ls)))

  pub opened-empty : opened p a ≡ record { outcome = Ok tt; register = empty a }
  unfolding opened open_refusal
  opened-empty =
      rw (or-zero (sheet_refusal p) (9 when ltb p.v a) A
      (off' 9 (ltb p.v a) (no (ltb p.v a) (ltb→lt p.v a) (λ l. Nat.not-le_of_lt l low)))) refl

  -- the remainder's words give it back
  pub register-back : (f : ℕ) → value 64 (digits 64 12 (remainder p a f)) ≡ remainder p a f
  register-back f = back f
