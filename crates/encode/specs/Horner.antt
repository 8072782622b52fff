-- The sums of N(k, l) × c_k by Horner's rule.
--   weighted l d cs         Σ N(k, l) × c_k, the list's first word being c_d
--   Over i m a b c b' c'    b' is b × x + a and c' is c × x^2 + b', modulo x^m: of sums up to l = i
--   Sums i m cs a b c       a, b and c are the sums of cs at l = 0, 1 and 2, the first word being c_l, modulo x^m: those up to l = i
use Rattle.std.specs.Prelude.{◌≡◌, List, [], ◌∷◌, ℕ, suc, ◌+◌, ◌-◌, ◌*◌, ◌%◌, ◌^◌, ◌≤◌, ◌<◌, length, get_or}
use Rattle.std.proofs.Common.{sym, ap, ap₂, ◌∙◌, zero-le, suc-le-suc, arith, pow_pos}
use Rattle.std.proofs.Math.Nat as Nat
use Rattle.std.proofs.Math.Pow.{mod-mod-pow}
use Rattle.polynomial.specs.Clmul.{clmul, clmul-assoc, clmul-one-l, clmul-pow, clmul-xor-l}
use Rattle.polynomial.specs.Division.{xor_lt}
use Rattle.polynomial.specs.Xor.{xor, xors, xor_assoc, xor_comm, xor_zero_l}
use Rattle.code.specs.Code.{N, combine}
use Rattle.code.proofs.Encode.{N-diagonal}
use Rattle.code.proofs.Steps.{N-first, N-step, combine-cons, combine-nil}
use Rattle.kernels.specs.Raise.{xor_low}
use Rattle.kernels.specs.Shift.{xor-shl}
use Rattle.kernels.specs.Word.{mod-mul-mod}
use Rattle.encode.specs.Product.{clmul-lt}

abbrev pub weighted : ℕ → ℕ → List ℕ → ℕ
weighted l d cs = combine (λ k. N k l) d cs

-- ---- the sums, one word more at the front
pair : (a b t u s : ℕ) → xor (xor a (b * 2 ^ s)) (xor t (u * 2 ^ s)) ≡ xor (xor a t) (xor b u * 2 ^ s)
pair a b t u s = rw (xor-shl s b u) (simp xors)

moved-l : (n c s : ℕ) → clmul (n * 2 ^ s) c ≡ clmul n c * 2 ^ s
moved-l n c s = ap (λ (y : ℕ). clmul y c) (sym (clmul-pow s n)) ∙ clmul-assoc (2 ^ s) n c ∙ clmul-pow s (clmul n c)

-- every place one higher
next : (l d : ℕ) (cs : List ℕ) → weighted (suc l) (suc d) cs ≡ xor (weighted l d cs) (weighted (suc l) d cs * 2 ^ suc l)
next l d [] =
    rw (combine-nil (λ k. N k (suc l)) (suc d), combine-nil (λ k. N k l) d, combine-nil (λ k. N k (suc l)) d)
    (sym (rw (Nat.zero-mul (2 ^ suc l)) (xor_zero_l 0)))
next l d (c ∷ cs) = step (next l (suc d) cs)
  where
    term : clmul (N (suc d) (suc l)) c ≡ xor (clmul (N d l) c) (clmul (N d (suc l)) c * 2 ^ suc l)
    term =
        ap (λ (y : ℕ). clmul y c) (N-step d l) ∙ clmul-xor-l (N d l) (N d (suc l) * 2 ^ suc l) c
        ∙ ap (xor (clmul (N d l) c)) (moved-l (N d (suc l)) c (suc l))

    step : weighted (suc l) (suc (suc d)) cs ≡ xor (weighted l (suc d) cs) (weighted (suc l) (suc d) cs * 2 ^ suc l)
        → weighted (suc l) (suc d) (c ∷ cs) ≡ xor (weighted l d (c ∷ cs)) (weighted (suc l) d (c ∷ cs) * 2 ^ suc l)
    step ih =
        combine-cons (λ k. N k (suc l)) (suc d) c cs ∙ ap₂ xor term ih
        ∙ pair (clmul (N d l) c) (clmul (N d (suc l)) c) (weighted l (suc d) cs) (weighted (suc l) (suc d) cs) (suc l)
        ∙ sym (ap₂ (λ (x y : ℕ). xor x (y * 2 ^ suc l)) (combine-cons (λ k. N k l) d c cs) (combine-cons (λ k. N k (suc l)) d c cs))

-- at l = 0 the place is nothing
flat : (d e : ℕ) (cs : List ℕ) → weighted 0 d cs ≡ weighted 0 e cs
flat d e [] = combine-nil (λ k. N k 0) d ∙ sym (combine-nil (λ k. N k 0) e)
flat d e (c ∷ cs) = step (flat (suc d) (suc e) cs)
  where
    step : weighted 0 (suc d) cs ≡ weighted 0 (suc e) cs → weighted 0 d (c ∷ cs) ≡ weighted 0 e (c ∷ cs)
    step ih =
        combine-cons (λ k. N k 0) d c cs ∙ ap₂ (λ (n y : ℕ). xor (clmul n c) y) (N-first d ∙ sym (N-first e)) ih
        ∙ sym (combine-cons (λ k. N k 0) e c cs)

front : (l c : ℕ) (cs : List ℕ) → weighted l l (c ∷ cs) ≡ xor c (weighted l (suc l) cs)
front l c cs =
    combine-cons (λ k. N k l) l c cs
    ∙ ap (λ (y : ℕ). xor y (weighted l (suc l) cs)) (ap (λ (n : ℕ). clmul n c) (N-diagonal l) ∙ clmul-one-l c)

horner-first : (c : ℕ) (cs : List ℕ) → weighted 0 0 (c ∷ cs) ≡ xor (weighted 0 0 cs) c
horner-first c cs = front 0 c cs ∙ ap (xor c) (flat 1 0 cs) ∙ xor_comm c (weighted 0 0 cs)

horner-next : (l c : ℕ) (cs : List ℕ)
    → weighted (suc l) (suc l) (c ∷ cs) ≡ xor (weighted l l (c ∷ cs)) (weighted (suc l) (suc l) cs * 2 ^ suc l)
horner-next l c cs =
    front (suc l) c cs ∙ ap (xor c) (next l (suc l) cs)
    ∙ sym (xor_assoc c (weighted l (suc l) cs) (weighted (suc l) (suc l) cs * 2 ^ suc l))
    ∙ ap (λ (y : ℕ). xor y (weighted (suc l) (suc l) cs * 2 ^ suc l)) (sym (front l c cs))

-- ---- three sums in as many buffers of m bits
pub record Sums (i m : ℕ) (cs : List ℕ) (a b c : ℕ) : Type 0 where
  pub first : a ≡ weighted 0 0 cs % 2 ^ m
  pub second : 1 ≤ i → b ≡ weighted 1 1 cs % 2 ^ m
  pub third : 2 ≤ i → c ≡ weighted 2 2 cs % 2 ^ m

none : (l m x : ℕ) → x ≡ 0 → x ≡ weighted l l [] % 2 ^ m
none l m x z = z ∙ sym (rw (combine-nil (λ k. N k l) l) (Nat.zero-mod (2 ^ m)))

pub sums-start : (i m a b c : ℕ) (cs : List ℕ) → cs ≡ [] → a ≡ 0 → b ≡ 0 → c ≡ 0 → Sums i m cs a b c
sums-start i m a b c cs e x y z = rw e (record { first = none 0 m a x; second = λ h. none 1 m b y; third = λ h. none 2 m c z })

twice : (y m : ℕ) → y % 2 ^ m % 2 ^ m ≡ y % 2 ^ m
twice y m = ap (λ (n : ℕ). y % 2 ^ n % 2 ^ m) (sym (Nat.zero-add m)) ∙ mod-mod-pow y 0 m

raised : (l m x a b b' : ℕ) (cs : List ℕ) → b ≡ weighted (suc l) (suc l) cs % 2 ^ m → a ≡ weighted l l (x ∷ cs) % 2 ^ m
    → b' ≡ xor (b * 2 ^ suc l) a % 2 ^ m
    → b' ≡ weighted (suc l) (suc l) (x ∷ cs) % 2 ^ m
raised l m x a b b' cs e f g =
    g ∙ ap₂ (λ (y z : ℕ). xor (y * 2 ^ suc l) z % 2 ^ m) e f
    ∙ xor_low (weighted (suc l) (suc l) cs % 2 ^ m * 2 ^ suc l) (weighted l l (x ∷ cs) % 2 ^ m) m
    ∙ ap₂ xor (mod-mul-mod (weighted (suc l) (suc l) cs) (2 ^ suc l) (2 ^ m)) (twice (weighted l l (x ∷ cs)) m)
    ∙ sym (xor_low (weighted (suc l) (suc l) cs * 2 ^ suc l) (weighted l l (x ∷ cs)) m)
    ∙ ap (λ (y : ℕ). y % 2 ^ m) (xor_comm (weighted (suc l) (suc l) cs * 2 ^ suc l) (weighted l l (x ∷ cs)) ∙ sym (horner-next l x cs))

pub record Over (i m a b c b' c' : ℕ) : Type 0 where
  pub second : 1 ≤ i → b' ≡ xor (b * 2) a % 2 ^ m
  pub third : 2 ≤ i → c' ≡ xor (c * 4) b' % 2 ^ m

-- over buffers of one length
pub over-one : (i j k a b c b' : ℕ) → i ≡ 1 → k ≡ j → b' ≡ xor (b * 2) a % 2 ^ (8 * k) → Over i (8 * j) a b c b' c
over-one i j k a b c b' z e f = record {
  second = λ h. f ∙ ap (λ (n : ℕ). xor (b * 2) a % 2 ^ (8 * n)) e;
  third = λ h. absurd (omega arith);
}

pub over-two : (i j k n a b c b' c' : ℕ) → k ≡ j → n ≡ j → b' ≡ xor (b * 2) a % 2 ^ (8 * k) → c' ≡ xor (c * 4) b' % 2 ^ (8 * n)
    → Over i (8 * j) a b c b' c'
over-two i j k n a b c b' c' e f g h = record {
  second = λ l. g ∙ ap (λ (y : ℕ). xor (b * 2) a % 2 ^ (8 * y)) e;
  third = λ l. h ∙ ap (λ (y : ℕ). xor (c * 4) b' % 2 ^ (8 * y)) f;
}

pub over-room : (i j k a b c b' c' : ℕ) → j ≡ k → Over i (8 * j) a b c b' c' → Over i (8 * k) a b c b' c'
over-room i j k a b c b' c' e o = rw e at o

pub same-room : (x y z j k : ℕ) → j ≡ k → x ≡ xor y (z % 2 ^ (8 * j)) → x ≡ xor y (z % 2 ^ (8 * k))
same-room x y z j k e f = rw e at f

pub sums-room : (i j k a b c : ℕ) (cs : List ℕ) → j ≡ k → Sums i (8 * j) cs a b c → Sums i (8 * k) cs a b c
sums-room i j k a b c cs e s = rw e at s

pub sums_next : (i m x a b c a' b' c' : ℕ) (cs ds : List ℕ) → ds ≡ x ∷ cs → Sums i m cs a b c → a' ≡ xor a (x * 1 % 2 ^ m)
    → Over i m a' b c b' c' → Sums i m ds a' b' c'
sums_next i m x a b c a' b' c' cs ds e s f o =
    rw e (record {
      first = one;
      second = two;
      third = λ k. raised 1 m x b' c c' cs (s.third k) (two (omega arith)) (o.third k);
    })
  where
    one : a' ≡ weighted 0 0 (x ∷ cs) % 2 ^ m
    one =
        f ∙ ap₂ xor s.first (ap (λ (y : ℕ). y % 2 ^ m) (Nat.mul-one x)) ∙ sym (xor_low (weighted 0 0 cs) x m)
        ∙ ap (λ (y : ℕ). y % 2 ^ m) (sym (horner-first x cs))

    two : 1 ≤ i → b' ≡ weighted 1 1 (x ∷ cs) % 2 ^ m
    two k = raised 0 m x a' b b' cs (s.second k) one (o.second k)

-- ---- their sum is what the words add, the first being c_(i + 1)
less : (y m k s : ℕ) → k ≤ m → y % 2 ^ m * 2 ^ s % 2 ^ k ≡ y * 2 ^ s % 2 ^ k
less y m k s h =
    let e : (m - k) + k ≡ m = omega arith in
    sym (mod-mul-mod (y % 2 ^ m) (2 ^ s) (2 ^ k))
    ∙ ap (λ (z : ℕ). z * 2 ^ s % 2 ^ k) (ap (λ (n : ℕ). y % 2 ^ n % 2 ^ k) (sym e) ∙ mod-mod-pow y (m - k) k)
    ∙ mod-mul-mod y (2 ^ s) (2 ^ k)

module _ (i m k x₀ a b c : ℕ) (cs : List ℕ) (s : Sums i m cs a b c) (h : k ≤ m) where
  with_first : (x₁ : ℕ) → x₁ ≡ xor x₀ (a * 1 % 2 ^ k) → x₁ ≡ xor x₀ (weighted 0 1 cs % 2 ^ k)
  with_first x₁ e =
      e ∙ ap (λ (y : ℕ). xor x₀ (y * 2 ^ 0 % 2 ^ k)) s.first
      ∙ ap (xor x₀) (less (weighted 0 0 cs) m k 0 h ∙ ap (λ (y : ℕ). y % 2 ^ k) (Nat.mul-one (weighted 0 0 cs) ∙ flat 0 1 cs))

  more : (l x y z : ℕ) → x ≡ xor x₀ (weighted l (suc l) cs % 2 ^ k) → y ≡ weighted (suc l) (suc l) cs % 2 ^ m
      → z ≡ xor x (y * 2 ^ suc l % 2 ^ k)
      → z ≡ xor x₀ (weighted (suc l) (suc (suc l)) cs % 2 ^ k)
  more l x y z e f g =
      g ∙ ap₂ xor e (ap (λ (u : ℕ). u * 2 ^ suc l % 2 ^ k) f ∙ less (weighted (suc l) (suc l) cs) m k (suc l) h)
      ∙ xor_assoc x₀ (weighted l (suc l) cs % 2 ^ k) (weighted (suc l) (suc l) cs * 2 ^ suc l % 2 ^ k)
      ∙ ap (xor x₀) (sym (xor_low (weighted l (suc l) cs) (weighted (suc l) (suc l) cs * 2 ^ suc l) k)
      ∙ ap (λ (u : ℕ). u % 2 ^ k) (sym (next l (suc l) cs)))

  pub sum_one : (x₁ : ℕ) → i ≡ 0 → x₁ ≡ xor x₀ (a * 1 % 2 ^ k) → x₁ ≡ xor x₀ (weighted i (suc i) cs % 2 ^ k)
  sum_one x₁ z e = with_first x₁ e ∙ ap (λ (j : ℕ). xor x₀ (weighted j (suc j) cs % 2 ^ k)) (sym z)

  pub sum-two : (x₁ x₂ : ℕ) → i ≡ 1 → x₁ ≡ xor x₀ (a * 1 % 2 ^ k) → x₂ ≡ xor x₁ (b * 2 % 2 ^ k)
      → x₂ ≡ xor x₀ (weighted i (suc i) cs % 2 ^ k)
  sum-two x₁ x₂ z e f =
      more 0 x₁ b x₂ (with_first x₁ e) (s.second (omega arith)) f ∙ ap (λ (j : ℕ). xor x₀ (weighted j (suc j) cs % 2 ^ k)) (sym z)

  pub sum-three : (x₁ x₂ x₃ : ℕ) → i ≡ 2 → x₁ ≡ xor x₀ (a * 1 % 2 ^ k) → x₂ ≡ xor x₁ (b * 2 % 2 ^ k) → x₃ ≡ xor x₂ (c * 4 % 2 ^ k)
      → x₃ ≡ xor x₀ (weighted i (suc i) cs % 2 ^ k)
  sum-three x₁ x₂ x₃ z e f g =
      more 1 x₂ c x₃ (more 0 x₁ b x₂ (with_first x₁ e) (s.second (omega arith)) f) (s.third (omega arith)) g
      ∙ ap (λ (j : ℕ). xor x₀ (weighted j (suc j) cs % 2 ^ k)) (sym z)

-- ---- a bound
pub combine-lt : (f : ℕ → ℕ) (j k i n : ℕ) (cs : List ℕ) → ((e : ℕ) → e < n → f e < 2 ^ j) → i + length cs ≤ n
    → ((e : ℕ) → e < length cs → get_or cs e 0 < 2 ^ k) → combine f i cs < 2 ^ (j + k)
combine-lt f j k i n [] h l b = rw (combine-nil f i) (pow_pos (j + k))
combine-lt f j k i n (c ∷ cs) h l b = step (combine-lt f j k (suc i) n cs h (omega arith) (λ e m. b (suc e) (suc-le-suc m)))
  where
    step : combine f (suc i) cs < 2 ^ (j + k) → combine f i (c ∷ cs) < 2 ^ (j + k)
    step r =
        rw (combine-cons f i c cs) (xor_lt (j + k) (clmul (f i) c) (combine f (suc i) cs)
        (clmul-lt j k (f i) c (h i (omega arith)) (b 0 (suc-le-suc zero-le))) r)
