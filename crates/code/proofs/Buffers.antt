-- Divisors, and what the buffers hold: remainders, nested words, syndromes and generators can be read back from what is laid out.
use Rattle.std.specs.Prelude.{◌≡◌, refl, ◌⊎◌, Bool, true, false, cond, List, [], ◌∷◌, ◌++◌, map, ℕ, zero, suc, ◌+◌, ◌-◌, ◌*◌, ◌/◌, ◌^◌, ◌≤◌, ◌<◌, T, leb, length, get_or, take, drop}
use Rattle.std.proofs.Common.{sym, ap, ◌∙◌, ap₂, inl, inr, zero-le, suc-le-suc, arith, le→leb, lit≤, length-append, pow_mono, take_at, drop_at, drop-drop, ext_get_or}
use Rattle.std.proofs.Math.Nat as Nat
use Rattle.std.proofs.lemmas.List.{length-map}
use Rattle.polynomial.specs.Clmul.{clmul, clmul-zero-l}
use Rattle.polynomial.specs.Digits.{digits, length_digits, value, value-digits}
use Rattle.polynomial.specs.Division.{Deg, deg, deg-is, deg-mul, deg-unique, lt-of-deg, quot, quot_is, rem, rem_lt, unity-deg}
use Rattle.polynomial.specs.Sums.{All}
use Rattle.polynomial.specs.Multiple.{Multiple, deg-pos, rem-differ}
use Rattle.polynomial.specs.Xor.{xor, xor_zero_r}
use Rattle.field.specs.Elements.{syndrome}
use Rattle.field.specs.Fields.{Known, by-known, field_of}
use Rattle.generator.proofs.Generator.{generator-divides}
use Rattle.code.specs.declared.Parameters.{Parameters}
use Rattle.code.specs.Accepted.{Rules}
use Rattle.code.proofs.Accepted.{degree-high, lawful, rising, degree-of}
use Rattle.code.specs.Calls.{as_bytes, generator_row, generators, nested_of, nested_word_bytes, as_numbers, number_at}
use Rattle.code.specs.Calls.{remainder_bytes, rows_by, short_bytes, sub_word_of}
use Rattle.code.specs.Code.{degree, divisor, gen, nested, nested_sum, remainder, short_remainder, syndromes}
use Rattle.code.specs.Layout.{words_of}
use Rattle.code.specs.Lists.{range}
use Rattle.code.proofs.Pages.{length-range}
use Rattle.code.specs.Parameters.{Accepted, len, nested_bytes, sheet_refusal, strength}
use Rattle.code.proofs.Placement.{get_or-map-range}
use Rattle.code.proofs.Steps.{degree-eq, gen-eq, nested-eq}

-- ---- the defining equations
divisor-eq : (p : Parameters) (l : ℕ) → divisor p l ≡ quot (gen p 0) (degree p 0) (gen p (p.v - l))
unfolding divisor
divisor-eq p l = refl

short-eq : (p : Parameters) (l : ℕ) (cs : List ℕ) → short_remainder p l cs ≡ rem (divisor p l) (deg (divisor p l)) (nested p l cs)
unfolding short_remainder
short-eq p l cs = refl

pub rows_eq : (p : Parameters) → generators p ≡ rows_by (sheet_refusal p) (map (generator_row p) (range 0 4))
unfolding generators
rows_eq p = refl

pub range-four : range 0 4 ≡ 0 ∷ 1 ∷ 2 ∷ 3 ∷ []
unfolding range
range-four = refl

chosen : (b : Bool) (x y : ℕ) → T b → cond b x y ≡ x
chosen true x y t = refl
chosen false x y t = absurd t

module _ (p : Parameters) (R : Rules p) where
  pub divides-up : (a b : ℕ) → a ≤ b → b ≤ p.v → remainder p a (gen p b) ≡ 0
  divides-up a b h l =
      rw (gen-eq p a, degree-eq p a, gen-eq p b) (generator-divides (field_of p.q) (strength p a) (strength p b) (rising p R a b h l))

  -- ---- the divisor g_(v-l) / g_0
  module _ (l : ℕ) where
    abbrev top : ℕ
    top = p.v - l

    top-low : p.v - l ≤ p.v
    top-low = Nat.sub-le p.v l

    pub divisor-times : clmul (divisor p l) (gen p 0) ≡ gen p (p.v - l)
    divisor-times =
        rw (divisor-eq p l) (sym (quot_is (gen p 0) (degree p 0) (degree-of p R 0 zero-le) (gen p top)
        ∙ rw (divides-up 0 top zero-le top-low) (xor_zero_r (clmul (quot (gen p 0) (degree p 0) (gen p top)) (gen p 0)))))

    divisor-pos : 0 < divisor p l
    divisor-pos = go (Nat.eq-zero-or-pos (divisor p l))
      where
        go : (divisor p l ≡ 0) ⊎ (0 < divisor p l) → 0 < divisor p l
        go (inl z) =
            let e : gen p top ≡ 0 = sym divisor-times ∙ ap (λ (y : ℕ). clmul y (gen p 0)) z ∙ clmul-zero-l (gen p 0) in
            absurd (Nat.not-suc-le-zero {n = 0} (rw e at (deg-pos (gen p top) (degree p top) (degree-of p R top top-low))))
        go (inr h) = h

    pub divisor-deg : Deg (divisor p l) (deg (divisor p l))
    divisor-deg = deg-is (divisor p l) divisor-pos

    divisor-sum : deg (divisor p l) + degree p 0 ≡ degree p (p.v - l)
    divisor-sum =
        deg-unique (gen p top) (deg (divisor p l) + degree p 0) (degree p top)
        (rw (← divisor-times) (deg-mul (deg (divisor p l)) (degree p 0) (divisor p l) (gen p 0) divisor-deg (degree-of p R 0 zero-le)))
        (degree-of p R top top-low)

    pub divisor-degree : deg (divisor p l) ≡ degree p (p.v - l) - degree p 0
    divisor-degree = omega (arith, divisor-sum)

    pub short-lt : (cs : List ℕ) → short_remainder p l cs < 2 ^ deg (divisor p l)
    short-lt cs = rw (short-eq p l cs) (rem_lt (divisor p l) (deg (divisor p l)) divisor-deg (nested p l cs))

    pub short-differ : (cs : List ℕ) → Multiple (divisor p l) (xor (nested p l cs) (short_remainder p l cs))
    short-differ cs = rw (short-eq p l cs) (rem-differ (divisor p l) (deg (divisor p l)) divisor-deg (nested p l cs))

    -- ---- in 96 bytes
    pub short_back : (x : List ℕ) → value 8 (short_bytes p x l) ≡ short_remainder p l (words_of p x)
    unfolding short_bytes
    short_back x =
        value-digits 8 96 (short_remainder p l (words_of p x))
        (Nat.lt_of_lt_of_le (short-lt (words_of p x)) (pow_mono
        (Nat.le_trans (Nat.le_trans (Nat.le_of_eq divisor-degree) (Nat.sub-le (degree p top) (degree p 0))) (degree-high p R top top-low))))

  pub remainder-back : (x : List ℕ) (i : ℕ) → value 8 (remainder_bytes p x i) ≡ remainder p 0 (sub_word_of p x i)
  unfolding remainder_bytes
  remainder-back x i =
      value-digits 8 96
      (remainder p 0 (sub_word_of p x i)) (Nat.lt_of_lt_of_le (rem_lt (gen p 0) (degree p 0) (degree-of p R 0 zero-le) (sub_word_of p x i))
      (pow_mono (degree-high p R 0 zero-le)))

  -- the bytes of a nested word hold its n places
  nested-room : (q : ℕ) → Known q → 2 ^ q - 1 ≤ 8 * (2 ^ q / 8)
  nested-room = by-known (λ q. 2 ^ q - 1 ≤ 8 * (2 ^ q / 8)) (lit≤ tt) (lit≤ tt) (lit≤ tt)

  pub nested-lt : (l : ℕ) (cs : List ℕ) → nested p l cs < 2 ^ len p
  nested-lt l cs = rw (nested-eq p l cs) (rem_lt (2 ^ len p + 1) (len p) (unity-deg (len p) (lawful p R).pos) (nested_sum p l cs))

  pub nested-back : (x : List ℕ) (l : ℕ) → value 8 (nested_word_bytes p x l) ≡ nested_of p x l
  unfolding nested_word_bytes
  nested-back x l =
      value-digits 8 (nested_bytes p) (nested_of p x l) (Nat.lt_of_lt_of_le (nested-lt l (words_of p x)) (pow_mono (nested-room p.q R.known)))

  -- a generator's row
  gen-lt : (a : ℕ) → a ≤ p.v → gen p a < 2 ^ (64 * 13)
  gen-lt a h =
      Nat.lt_of_lt_of_le (lt-of-deg (degree p a) (degree-of p R a h))
      (pow_mono {j = 64 * 13} (Nat.le_trans (suc-le-suc (degree-high p R a h)) (lit≤ {m = 769} {n = 832} tt)))

  four : (a : ℕ) → a ≤ 3 → get_or (map (generator_row p) (range 0 4)) a [] ≡ generator_row p a
  four zero l = rw range-four refl
  four (suc zero) l = rw range-four refl
  four (suc (suc zero)) l = rw range-four refl
  four (suc (suc (suc zero))) l = rw range-four refl
  four (suc (suc (suc (suc a)))) l = absurd (Nat.not-suc-le-zero {n = 0} (omega arith))

  row_is : Accepted p → (a : ℕ) → a ≤ p.v → get_or (generators p) a [] ≡ digits 64 13 (gen p a)
  row_is A a h =
      ap (λ (l : List (List ℕ)). get_or l a []) (rows_eq p ∙ ap (λ (r : ℕ). rows_by r (map (generator_row p) (range 0 4))) A)
      ∙ four a (Nat.le_trans h R.v_high) ∙ ap (digits 64 13) (chosen (leb a p.v) (gen p a) 0 (le→leb a p.v h))

  pub row_back : Accepted p → (a : ℕ) → a ≤ p.v → value 64 (get_or (generators p) a []) ≡ gen p a
  row_back A a h = ap (value 64) (row_is A a h) ∙ value-digits 64 13 (gen p a) (gen-lt a h)

  pub row-length : Accepted p → (a : ℕ) → a ≤ p.v → length (get_or (generators p) a []) ≡ 13
  row-length A a h = ap length (row_is A a h) ∙ length_digits 64 13 (gen p a)

-- ---- lists of syndromes
pub length-syndromes : (p : Parameters) (k c : ℕ) → length (syndromes p k c) ≡ k
unfolding syndromes
length-syndromes p k c = length-map (range 1 k) (λ j. syndrome p.q c j) ∙ length-range 1 k

-- place j holds S_(j+1)
pub syndromes-at : (p : Parameters) (k c j : ℕ) → j < k → get_or (syndromes p k c) j 0 ≡ syndrome p.q c (suc j)
unfolding syndromes
syndromes-at p k c j h =
    get_or-map-range (λ i. syndrome p.q c i) 1 k j h ∙ ap (λ (i : ℕ). syndrome p.q c i) (Nat.suc-add 0 j ∙ ap suc (Nat.zero-add j))

-- as C's bytes: number j stands at bytes 2j and 2j + 1, low byte first
pub bytes-at : (l : List ℕ) → All (λ x. x < 2 ^ 16) l → (j : ℕ) → j < length l → value 8 (take 2 (drop (2 * j) (as_bytes l))) ≡ get_or l j 0
unfolding as_bytes
bytes-at [] h j b = absurd (Nat.not-suc-le-zero b)
bytes-at (x ∷ l) h zero b = ap (value 8) (take_at (digits 8 2 x) (as_bytes l) 2 (length_digits 8 2 x)) ∙ value-digits 8 2 x h.0
bytes-at (x ∷ l) h (suc j) b =
    ap (λ (bs : List ℕ). value 8 (take 2 bs))
    (ap (λ (k : ℕ). drop k (digits 8 2 x ++ as_bytes l)) two ∙ sym (drop-drop (2 * j) 2 (digits 8 2 x ++ as_bytes l))
    ∙ ap (drop (2 * j)) (drop_at (digits 8 2 x) (as_bytes l) 2 (length_digits 8 2 x))) ∙ bytes-at l h.1 j (Nat.le_of_suc-le-suc b)
  where
    two : 2 * suc j ≡ 2 + 2 * j
    two = omega arith

pub length-bytes : (l : List ℕ) → length (as_bytes l) ≡ 2 * length l
unfolding as_bytes
length-bytes [] = refl
length-bytes (x ∷ l) =
    let e : 2 + 2 * length l ≡ 2 * suc (length l) = omega arith in
    length-append (digits 8 2 x) (as_bytes l) ∙ ap₂ ◌+◌ (length_digits 8 2 x) (length-bytes l) ∙ e

-- read back
pub length-numbers : (b : List ℕ) → length (as_numbers b) ≡ length b / 2
unfolding as_numbers
length-numbers b = length-map (range 0 (length b / 2)) (number_at b) ∙ length-range 0 (length b / 2)

pub numbers-at : (b : List ℕ) (j : ℕ) → j < length b / 2 → get_or (as_numbers b) j 0 ≡ number_at b j
unfolding as_numbers
numbers-at b j h = get_or-map-range (number_at b) 0 (length b / 2) j h ∙ ap (number_at b) (Nat.zero-add j)

pub numbers-back : (l : List ℕ) → All (λ x. x < 2 ^ 16) l → as_numbers (as_bytes l) ≡ l
numbers-back l h =
    ext_get_or 0 (as_numbers (as_bytes l)) l size
    (λ j b. let k : j < length l = rw size at b in numbers-at (as_bytes l) j (omega (arith, half)) ∙ bytes-at l h j k)
  where
    half : length (as_bytes l) / 2 ≡ length l
    half = omega (arith, length-bytes l)

    size : length (as_numbers (as_bytes l)) ≡ length l
    size = length-numbers (as_bytes l) ∙ half
