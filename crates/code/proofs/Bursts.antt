-- Bursts: pages that differ in one sub-word alone, within w_v neighbouring places. Nested word 0 of their sum is the difference of
-- that sub-word, so they do not both pass. One place more is too many: g_v in one sub-word and zeros elsewhere pass.
--   single_page p i c    the page of m words, word i of them c, the others zero
use Rattle.std.specs.Prelude.{◌≡◌, ◌≢◌, ◌⊎◌, List, [], ◌∷◌, ℕ, zero, suc, ◌+◌, ◌-◌, ◌*◌, ◌/◌, ◌%◌, ◌^◌, ◌≤◌, ◌<◌, length, get_or}
use Rattle.std.proofs.Common.{sym, ap, ap₂, ◌∙◌, inl, inr, zero-le, suc-le-suc, arith, pow_mono, pow_pos, shl_lt, ext_get_or}
use Rattle.std.proofs.Math.Nat as Nat
use Rattle.std.proofs.Math.Decide.{dec_le, ℕ_discrete}
use Rattle.std.proofs.Math.Pow.{low}
use Rattle.polynomial.specs.Bits.{coefficient}
use Rattle.polynomial.specs.Burst.{Window, burst-zero}
use Rattle.polynomial.specs.Clmul.{clmul, clmul-one-l, clmul-pow, clmul-zero-r}
use Rattle.polynomial.specs.Coefficients.{beyond, coefficient-xor, same_bits}
use Rattle.polynomial.specs.Digits.{low-coefficient}
use Rattle.polynomial.specs.Division.{Deg, lt-of-deg, rem, rem-clmul-r, rem-multiple, rem-small, rem-xor, rem-zero, unity-deg, xor_lt}
use Rattle.polynomial.specs.Multiple.{deg-pos, rem-reduced}
use Rattle.polynomial.specs.Sums.{add, add_at, length-add}
use Rattle.polynomial.specs.Xor.{xor, xor-eq-zero, xor_self, xor_zero_l, xor_zero_r}
use Rattle.field.specs.Fields.{field_of}
use Rattle.generator.proofs.Generator.{generator-cyclic}
use Rattle.code.specs.declared.Parameters.{Parameters}
use Rattle.code.specs.Accepted.{Rules}
use Rattle.code.proofs.Accepted.{degree-of, lawful, n-is, rising, stored-le, stored-room}
use Rattle.code.specs.Code.{combine, degree, gen, nested}
use Rattle.code.specs.Demands.{Burst, InBurst}
use Rattle.code.proofs.Distance.{Passing, nested-add}
use Rattle.code.specs.Layout.{IsBlank, IsPage, coefficient_of, single, word_sizes, words_of}
use Rattle.code.specs.Lists.{join}
use Rattle.code.specs.Pages.{IsWords}
use Rattle.code.proofs.Pages.{join-words, word_lt, words-join, words-many, words-page}
use Rattle.code.specs.Parameters.{len, stored, strength, sub_word_bytes}
use Rattle.code.proofs.Placement.{single-all, single-at, single-else, single-long, sub-word-bit}
use Rattle.code.specs.Steps.{Divides}
use Rattle.code.proofs.Steps.{combine-cons, combine-nil, degree-eq, gen-eq, nested-eq}

-- ---- words that are zero but for one
pub combine-none : (f : ℕ → ℕ) (i : ℕ) (cs : List ℕ) → ((j : ℕ) → j < length cs → get_or cs j 0 ≡ 0) → combine f i cs ≡ 0
combine-none f i [] h = combine-nil f i
combine-none f i (c ∷ cs) h =
    combine-cons f i c cs
    ∙ rw (h 0 (suc-le-suc zero-le), clmul-zero-r (f i), combine-none f (suc i) cs (λ j b. h (suc j) (suc-le-suc b))) (xor_self 0)

combine-one : (f : ℕ → ℕ) (i o : ℕ) (cs : List ℕ) → o < length cs → ((j : ℕ) → j < length cs → j ≢ o → get_or cs j 0 ≡ 0)
    → combine f i cs ≡ clmul (f (i + o)) (get_or cs o 0)
combine-one f i o [] l h = absurd (Nat.not-suc-le-zero l)
combine-one f i zero (c ∷ cs) l h =
    combine-cons f i c cs
    ∙ rw (combine-none f (suc i) cs (λ j b. h (suc j) (suc-le-suc b) (Nat.suc-ne-zero j)), Nat.add-zero i) (xor_zero_r (clmul (f i) c))
combine-one f i (suc o) (c ∷ cs) l h =
    combine-cons f i c cs
    ∙ ap₂ xor (ap (clmul (f i)) (h 0 (suc-le-suc zero-le) (λ e. Nat.suc-ne-zero o (sym e))) ∙ clmul-zero-r (f i))
    (combine-one f (suc i) o cs (Nat.le_of_suc-le-suc l) (λ j b n. h (suc j) (suc-le-suc b) (λ e. n (Nat.suc_inj e))))
    ∙ xor_zero_l (clmul (f (suc i + o)) (get_or cs o 0))
    ∙ ap (λ (k : ℕ). clmul (f k) (get_or cs o 0)) (Nat.suc-add i o ∙ sym (Nat.add-suc i o))

-- nested word l of such words
nested-one : (C : Parameters) (l o : ℕ) (cs : List ℕ) → o < length cs → ((j : ℕ) → j < length cs → j ≢ o → get_or cs j 0 ≡ 0)
    → nested C l cs ≡ rem (2 ^ len C + 1) (len C) (clmul (2 ^ (l * o)) (get_or cs o 0))
nested-one C l o cs h z =
    nested-eq C l cs
    ∙ ap (rem (2 ^ len C + 1) (len C)) (combine-one (λ i. 2 ^ (l * i)) 0 o cs h z ∙ ap (λ (k : ℕ). clmul (2 ^ (l * k)) (get_or cs o 0)) (Nat.zero-add o))

abbrev pub single_page : Parameters → ℕ → ℕ → List ℕ
single_page p i c = join (word_sizes p) (single p i c)

-- ---- l neighbouring bytes of a sub-word are a burst
-- byte r of run j, of b bytes each, lies among bytes o to o + l - 1 of run i only if j is i
same-run : (b i j o l r : ℕ) → r < b → o + l ≤ b → i * b + o ≤ j * b + r → j * b + r < i * b + o + l → (j ≡ i) × (o ≤ r) × (r < o + l)
same-run b i j o l r h c f g =
    let up : j < suc i = Nat.lt_of_mul-lt-mul_right b (omega (arith, Nat.suc-mul i b)) in
    let down : i < suc j = Nat.lt_of_mul-lt-mul_right b (omega (arith, Nat.suc-mul j b)) in
    let e : j ≡ i = omega arith in
    (e, omega (arith, ap (λ (k : ℕ). k * b) e), omega (arith, ap (λ (k : ℕ). k * b) e))

pub bytes-burst : (p : Parameters) (x y : List ℕ) (i o l : ℕ) → o + l ≤ sub_word_bytes p → 8 * l ≤ degree p p.v
    → ((k : ℕ) → (k < i * sub_word_bytes p + o) ⊎ (i * sub_word_bytes p + o + l ≤ k) → get_or x k 0 ≡ get_or y k 0)
    → Burst p x y i (8 * o)
bytes-burst p x y i o l c w same j k h b d = (
  run.0,
  inl (omega (arith, run.1), omega (arith, run.2)),
)
  where
    equal : get_or x (j * sub_word_bytes p + k / 8) 0 ≡ get_or y (j * sub_word_bytes p + k / 8) 0 → ⊥
    equal e = d (ap (λ (f : ℕ). coefficient f (k % 8)) e)

    from : Dec (i * sub_word_bytes p + o ≤ j * sub_word_bytes p + k / 8) → i * sub_word_bytes p + o ≤ j * sub_word_bytes p + k / 8
    from (yes f) = f
    from (no f) = absurd (equal (same (j * sub_word_bytes p + k / 8) (inl (omega arith))))

    to : Dec (i * sub_word_bytes p + o + l ≤ j * sub_word_bytes p + k / 8) → j * sub_word_bytes p + k / 8 < i * sub_word_bytes p + o + l
    to (yes f) = absurd (equal (same (j * sub_word_bytes p + k / 8) (inr f)))
    to (no f) = omega arith

    run : (j ≡ i) × (o ≤ k / 8) × (k / 8 < o + l)
    run = same-run (sub_word_bytes p) i j o l (k / 8) (omega arith) c (from (dec_le _ _)) (to (dec_le _ _))

module _ (p : Parameters) (R : Rules p) where
  -- a page has two sub-words at least: besides i there is another
  pub another : (i : ℕ) → ((j : ℕ) → j < p.m → j ≢ i → ⊥) → ⊥
  another i clash = go (ℕ_discrete i 0)
    where
      go : Dec (i ≡ 0) → ⊥
      go (yes s) = clash 1 (omega (arith, R.v_low, R.m-low)) (λ e. Nat.suc-ne-zero 0 (e ∙ s))
      go (no s) = clash 0 (omega (arith, R.v_low, R.m-low)) (λ e. s (sym e))

  -- every generator divides x^n + 1
  pub cyclic : (a : ℕ) → Divides p a (2 ^ len p + 1)
  cyclic a = rw (gen-eq p a, degree-eq p a, ← n-is p R) (generator-cyclic (field_of p.q) (strength p a))

  -- nested word 0 of words that are zero but for one is that one
  nested-first : (o : ℕ) (cs : List ℕ) → o < length cs → ((j : ℕ) → j < length cs → j ≢ o → get_or cs j 0 ≡ 0) → get_or cs o 0 < 2 ^ len p
      → nested p 0 cs ≡ get_or cs o 0
  nested-first o cs h z b =
      nested-one p 0 o cs h z
      ∙ ap (rem (2 ^ len p + 1) (len p)) (ap (λ (k : ℕ). clmul (2 ^ k) (get_or cs o 0)) (Nat.zero-mul o) ∙ clmul-one-l (get_or cs o 0))
      ∙ rem-small (2 ^ len p + 1) (len p) (unity-deg (len p) (lawful p R).pos) (get_or cs o 0) b

  -- ---- two pages that differ in a burst
  module _ (x y : List ℕ) (hx : IsPage p x) (hy : IsPage p y) (i a : ℕ) (l : i < p.m) (la : a < stored p) (S : Burst p x y i a) where
    abbrev cx : ℕ → ℕ
    cx j = get_or (words_of p x) j 0

    abbrev cy : ℕ → ℕ
    cy j = get_or (words_of p y) j 0

    same-many : length (words_of p x) ≡ length (words_of p y)
    same-many = words-many p x ∙ sym (words-many p y)

    differs : (j k : ℕ) → j < p.m → k < stored p → coefficient (cx j) k ≢ coefficient (cy j) k → (j ≡ i) × InBurst p a k
    differs j k h b d =
        S j k h b (λ e. d (sub-word-bit p R x hx.bytes j k h b ∙ e ∙ sym (sub-word-bit p R y hy.bytes j k h b)))

    -- the other sub-words are the same
    pub others_same : (j : ℕ) → j < p.m → j ≢ i → cx j ≡ cy j
    others_same j h o =
        same_bits (stored p) (cx j) (cy j) (word_lt p R x hx j h) (word_lt p R y hy j h)
        (λ k b. pick k b (ℕ_discrete (coefficient (cx j) k) (coefficient (cy j) k)))
      where
        pick : (k : ℕ) → k < stored p → Dec (coefficient (cx j) k ≡ coefficient (cy j) k) → coefficient (cx j) k ≡ coefficient (cy j) k
        pick k b (yes e) = e
        pick k b (no d) = absurd (o (differs j k h b d).0)

    -- ---- the sum of the pages: the difference e, alone
    abbrev sums : List ℕ
    sums = add (words_of p x) (words_of p y)

    abbrev e : ℕ
    e = xor (cx i) (cy i)

    sums_at : (j : ℕ) → get_or sums j 0 ≡ xor (cx j) (cy j)
    sums_at j = add_at (words_of p x) (words_of p y) j same-many

    many : length sums ≡ p.m
    many = length-add (words_of p x) (words_of p y) same-many ∙ words-many p x

    alone : (j : ℕ) → j < length sums → j ≢ i → get_or sums j 0 ≡ 0
    alone j h o = sums_at j ∙ ap (λ (c : ℕ). xor c (cy j)) (others_same j (rw many at h) o) ∙ xor_self (cy j)

    e-stored : e < 2 ^ stored p
    e-stored = xor_lt (stored p) (cx i) (cy i) (word_lt p R x hx i l) (word_lt p R y hy i l)

    e-lt : e < 2 ^ len p
    e-lt = Nat.lt_of_lt_of_le e-stored (pow_mono (stored-le p R))

    sum-nested : nested p 0 sums ≡ e
    sum-nested = nested-first i sums (rw many l) alone (rw (sums_at i) e-lt) ∙ sums_at i

    -- ---- its ones lie within w_v places of n, going round
    in_window : (k : ℕ) → InBurst p a k → Window (len p) (degree p p.v) a k
    in_window k (inl h) = inl (h.0, omega (arith, h.1))
    in_window k (inr h) = inr (omega (arith, h.1))

    ones_in : (k : ℕ) → k < len p → coefficient e k ≢ 0 → Window (len p) (degree p p.v) a k
    ones_in k b d = go (dec_le (suc k) (stored p))
      where
        even : (c : ℕ) → (c + c) % 2 ≡ 0
        even c = omega arith

        unequal : coefficient (cx i) k ≢ coefficient (cy i) k
        unequal s =
            d (coefficient-xor (cx i) (cy i) k ∙ ap (λ (c : ℕ). (c + coefficient (cy i) k) % 2) s ∙ even (coefficient (cy i) k))

        go : Dec (k < stored p) → Window (len p) (degree p p.v) a k
        go (yes h) = in_window k (differs i k l h unequal).1
        go (no h) = absurd (d (beyond e (stored p) k e-stored (omega arith)))

    -- nested word 0 passes in both only if they are the same page
    pub burst-same : Divides p p.v (nested p 0 (words_of p x)) → Divides p p.v (nested p 0 (words_of p y)) → x ≡ y
    burst-same dx dy =
        sym (join-words p R x hx) ∙ ap (join (word_sizes p)) (ext_get_or 0 (words_of p x) (words_of p y) same-many each)
        ∙ join-words p R y hy
      where
        divides : Divides p p.v e
        divides =
            rw (← sum-nested, nested-add p (lawful p R).pos (lawful p R).degrees 0 (words_of p x) (words_of p y))
            (rem-xor (gen p p.v) (degree p p.v) (degree-of p R p.v (Nat.le_refl p.v)) (nested p 0 (words_of p x)) (nested p 0 (words_of p y))
            ∙ rw (dx, dy) (xor_self 0))

        zero-e : e ≡ 0
        zero-e =
            burst-zero (len p) (degree p p.v) a e (Nat.le_trans (Nat.le_of_suc-le la) (stored-le p R)) e-lt ones_in (gen p p.v)
            (lawful p R).pos (degree-of p R p.v (Nat.le_refl p.v)) (cyclic p.v) divides

        each : (j : ℕ) → j < length (words_of p x) → cx j ≡ cy j
        each j h = go (ℕ_discrete j i)
          where
            go : Dec (j ≡ i) → cx j ≡ cy j
            go (yes s) = rw s (xor-eq-zero (cx i) (cy i) zero-e)
            go (no s) = others_same j (rw (words-many p x) at h) s

  -- ---- a multiple of g_v in sub-word i, and zeros elsewhere
  module _ (i c : ℕ) (l : i < p.m) where
    -- the members' rules: the other levels' generators divide g_v, and moves and reductions keep multiples
    pub single-passing : Divides p p.v c → Passing p (single p i c)
    single-passing d = record {
      words = single-all p i c l (λ f. Divides p 0 f) (rem-zero (gen p 0) (degree p 0)) (lower 0 zero-le);
      nesteds = λ k h. rw (nested-one p k i (single p i c) (rw (single-long p i c) l) (λ j b. single-else p i c j (rw (single-long p i c) at b)), single-at p i c l)
          (moved (p.v - k) (Nat.sub-le p.v k) (2 ^ (k * i)));
    }
      where
        lower : (a : ℕ) → a ≤ p.v → Divides p a c
        lower a h =
            ((lawful p R).roots a h c).1 (λ j q b. ((lawful p R).roots p.v (Nat.le_refl p.v) c).0 d j q
            (omega (arith, rising p R a p.v h (Nat.le_refl p.v))))

        moved : (a : ℕ) → a ≤ p.v → (f : ℕ) → Divides p a (rem (2 ^ len p + 1) (len p) (clmul f c))
        moved a h f =
            rem-reduced (gen p a) (degree p a) (2 ^ len p + 1) (len p) (degree-of p R a h) (unity-deg (len p) (lawful p R).pos) (cyclic a) (clmul f c)
            ∙ sym (rem-clmul-r (gen p a) (degree p a) (degree-of p R a h) f c) ∙ rw (lower a h, clmul-zero-r f) (rem-zero (gen p a) (degree p a))

    -- their page
    module _ (b : c < 2 ^ stored p) where
      single-words : IsWords p (single p i c)
      single-words = record { many = single-long p i c; below = single-all p i c l (λ f. f < 2 ^ stored p) (pow_pos (stored p)) b }

      pub single-is : IsPage p (single_page p i c)
      single-is = words-page p R (single p i c) single-words

      pub single-has : words_of p (single_page p i c) ≡ single p i c
      single-has = words-join p R (single p i c) single-words

      pub single-bit : (j k : ℕ) → j < p.m → k < stored p → coefficient_of p (single_page p i c) j k ≡ coefficient (get_or (single p i c) j 0) k
      single-bit j k h r =
          sym (sub-word-bit p R (single_page p i c) single-is.bytes j k h r)
          ∙ ap (λ (cs : List ℕ). coefficient (get_or cs j 0) k) single-has

      -- there is another sub-word
      pub single-unblank : ¬ IsBlank p (single_page p i c)
      single-unblank o = another i clash
        where
          clash : (j : ℕ) → j < p.m → j ≢ i → ⊥
          clash j h s =
              let r : 0 < stored p = omega (arith, stored-room p R 0 zero-le) in
              let z : ◌≡◌ {A = ℕ} 0 1 = sym (single-bit j 0 h r ∙ ap (λ (f : ℕ). coefficient f 0) (single-else p i c j h s)) ∙ o j 0 h r in
              Nat.suc-ne-zero 0 (sym z)

  -- ---- g_v moved up to x^a
  module _ (i a : ℕ) (l : i < p.m) (b : a + degree p p.v < stored p) where
    deg : Deg (gen p p.v) (degree p p.v)
    deg = degree-of p R p.v (Nat.le_refl p.v)

    abbrev moved : ℕ
    moved = gen p p.v * 2 ^ a

    moved-high : moved < 2 ^ (suc (degree p p.v) + a)
    moved-high = shl_lt (suc (degree p p.v)) a (lt-of-deg (degree p p.v) deg)

    pub moved-lt : moved < 2 ^ stored p
    moved-lt = Nat.lt_of_lt_of_le moved-high (pow_mono (omega arith))

    pub moved-divides : Divides p p.v moved
    moved-divides = rw (← clmul-pow a (gen p p.v)) (rem-multiple (gen p p.v) (degree p p.v) deg (2 ^ a))

    moved-pos : 0 < moved
    moved-pos = Nat.mul-pos (deg-pos (gen p p.v) (degree p p.v) deg) (pow_pos a)

    -- its ones lie within w_v + 1 places
    moved-places : (k : ℕ) → coefficient moved k ≢ 0 → (a ≤ k) × (k < a + (degree p p.v + 1))
    moved-places k d = (go (dec_le a k), up (dec_le (suc k) (a + (degree p p.v + 1))))
      where
        go : Dec (a ≤ k) → a ≤ k
        go (yes h) = h
        go (no h) =
            absurd (d (sym (low-coefficient a moved k (omega arith))
            ∙ ap (λ (f : ℕ). coefficient f k) (ap (λ (f : ℕ). f % 2 ^ a) (sym (Nat.add-zero moved)) ∙ low (gen p p.v) a (pow_pos a))
            ∙ beyond 0 0 k (pow_pos 0) zero-le))

        up : Dec (k < a + (degree p p.v + 1)) → k < a + (degree p p.v + 1)
        up (yes h) = h
        up (no h) = absurd (d (beyond moved (suc (degree p p.v) + a) k moved-high (omega arith)))

    abbrev none : List ℕ
    none = single_page p i 0

    abbrev some : List ℕ
    some = single_page p i moved

    pub apart-pages : none ≢ some
    apart-pages e = Nat.lt_irrefl 0 (rw (← (sym (single-at p i 0 l) ∙ ap (λ (cs : List ℕ). get_or cs i 0) words ∙ single-at p i moved l)) at moved-pos)
      where
        words : single p i 0 ≡ single p i moved
        words = sym (single-has i 0 l (pow_pos (stored p))) ∙ ap (words_of p) e ∙ single-has i moved l moved-lt

    pub apart-places : (j k : ℕ) → j < p.m → k < stored p → coefficient_of p none j k ≢ coefficient_of p some j k
        → (j ≡ i) × (a ≤ k) × (k < a + (degree p p.v + 1))
    apart-places j k h r d = go (ℕ_discrete j i)
      where
        unequal : coefficient (get_or (single p i 0) j 0) k ≢ coefficient (get_or (single p i moved) j 0) k
        unequal e = d (single-bit i 0 l (pow_pos (stored p)) j k h r ∙ e ∙ sym (single-bit i moved l moved-lt j k h r))

        go : Dec (j ≡ i) → (j ≡ i) × (a ≤ k) × (k < a + (degree p p.v + 1))
        go (yes s) =
            let q = moved-places k (λ z. rw s at unequal (ap (λ (f : ℕ). coefficient f k) (single-at p i 0 l) ∙ beyond 0 0 k (pow_pos 0) zero-le
            ∙ sym (ap (λ (f : ℕ). coefficient f k) (single-at p i moved l) ∙ z))) in
            (s, q.0, q.1)
        go (no s) = absurd (unequal (ap (λ (f : ℕ). coefficient f k) (single-else p i 0 j h s ∙ sym (single-else p i moved j h s))))
