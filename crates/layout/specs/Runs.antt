-- Bytes in runs of sizes ks, one run after the other: run i begins at sum (take i ks).
--   run_passes P l at k b   the k bytes of l from `at` on pass, as a number, the test P of b bits
--   test_of ones            the test: the bits are 1, or the number fits in them
--   OnesFound l at end r   r says whether the bytes of l from `at` on, up to `end`, are all 255
use Rattle.std.specs.Prelude.{◌≡◌, refl, Bool, true, false, cond, List, [], ◌∷◌, ◌++◌, ◌⊎◌, ℕ, zero, suc, ◌+◌, ◌-◌, ◌*◌, ◌/◌, ◌%◌, ◌^◌, ◌≤◌, ◌<◌, eqb, ltb, length, get_or, set, take, drop}
use Rattle.std.proofs.Common.{sym, ap, ap₂, ◌∙◌, inl, inr, zero-le, suc-le-suc, arith, eqb→eq, ltb→lt, lt→ltb, lit<, length-drop, take-append-drop, pow-add, drop-drop, get_or-drop, get_or-take, length-take-le, ltb-false, ltb-true, ne_eqb}
use Rattle.std.proofs.Math.Nat as Nat
use Rattle.std.proofs.Math.Dec.{eqb_refl}
use Rattle.std.proofs.Math.Pow.{high, low}
use Rattle.std.proofs.lemmas.Nat.{mod-pow-add}
use Rattle.std.proofs.Math.Seq.{take-length}
use Rattle.polynomial.specs.Bits.{coefficient}
use Rattle.polynomial.specs.Coefficients.{high-coefficient}
use Rattle.polynomial.specs.Digits.{digits, value, value-coefficient}
use Rattle.polynomial.specs.Sums.{all_drop, all_take, at_all}
use Rattle.code.proofs.Blank.{low_ones, ones_low}
use Rattle.code.proofs.Chains.{both_ways, true-false}
use Rattle.code.specs.Layout.{Bytes}
use Rattle.code.specs.Lists.{fits_in, join, ones_in, sum}

-- ---- offsets
pub sum-none : (ks : List ℕ) → sum (take 0 ks) ≡ 0
unfolding sum
sum-none ks = refl

pub sum-all : (ks : List ℕ) (m : ℕ) → length ks ≡ m → sum (take m ks) ≡ sum ks
sum-all ks m e = rw (← e) (ap sum (take-length ks))

pub sum-next : (ks : List ℕ) (i : ℕ) → i < length ks → sum (take (suc i) ks) ≡ sum (take i ks) + get_or ks i 0
unfolding sum
sum-next [] i h = absurd (Nat.not-suc-le-zero h)
sum-next (k ∷ ks) zero h = Nat.add_comm k 0
sum-next (k ∷ ks) (suc i) h =
    ap (λ (y : ℕ). k + y) (sum-next ks i (Nat.le_of_suc-le-suc h)) ∙ sym (Nat.add_assoc k (sum (take i ks)) (get_or ks i 0))

pub sum-le : (ks : List ℕ) (i : ℕ) → sum (take i ks) ≤ sum ks
unfolding sum
sum-le [] zero = zero-le
sum-le [] (suc i) = zero-le
sum-le (k ∷ ks) zero = zero-le
sum-le (k ∷ ks) (suc i) = Nat.add-le-add (Nat.le_refl k) (sum-le ks i)

-- ---- runs cut out and put together
empty : (x : List ℕ) → length x ≡ 0 → x ≡ []
empty [] e = refl
empty (b ∷ x) e = absurd (Nat.suc-ne-zero (length x) e)

pub join-parts : (ks cs x : List ℕ) → length cs ≡ length ks → length x ≡ sum ks
    → ((i : ℕ) → i < length ks → take (get_or ks i 0) (drop (sum (take i ks)) x) ≡ digits 8 (get_or ks i 0) (get_or cs i 0))
    → x ≡ join ks cs
unfolding join sum
join-parts [] cs x e l h = empty x l
join-parts (k ∷ ks) [] x e l h = absurd (Nat.suc-ne-zero (length ks) (sym e))
join-parts (k ∷ ks) (c ∷ cs) x e l h =
    sym (take-append-drop k x) ∙ ap₂ ◌++◌ (h 0 (suc-le-suc zero-le))
    (join-parts ks cs (drop k x) (Nat.suc_inj e) (length-drop k x ∙ omega arith)
    (λ i b. ap (take (get_or ks i 0)) (drop-drop (sum (take i ks)) k x) ∙ h (suc i) (suc-le-suc b)))

-- ---- a number is below 2^b exactly when the last byte of its run is below the bits that are left for it
same_test : (a b c d : ℕ) → (a < b → c < d) → (c < d → a < b) → ltb a b ≡ ltb c d
same_test a b c d f g = both_ways (ltb a b) (ltb c d) (λ t. lt→ltb c d (f (ltb→lt a b t))) (λ t. lt→ltb a b (g (ltb→lt c d t)))

same_numbers : (a b c d : ℕ) → (a ≡ b → c ≡ d) → (c ≡ d → a ≡ b) → eqb a b ≡ eqb c d
same_numbers a b c d f g =
    both_ways (eqb a b) (eqb c d) (λ t. rw (f (eqb→eq a b t)) (eqb_refl d)) (λ t. rw (g (eqb→eq c d t)) (eqb_refl b))

lower-byte : (a x b : ℕ) → x < 256 → ltb (a * 2 ^ 8 + x) (2 ^ (b + 8)) ≡ ltb a (2 ^ b)
lower-byte a x b h = rw (pow-add 2 b 8) (same_test (a * 2 ^ 8 + x) (2 ^ b * 2 ^ 8) a (2 ^ b) (λ l. omega arith) (λ l. omega arith))

pub last_byte : (l : List ℕ) (k b : ℕ) → Bytes l → length l ≡ suc k → 8 * k ≤ b
    → ltb (value 8 l) (2 ^ b) ≡ ltb (get_or l k 0) (2 ^ (b - 8 * k))
unfolding value
last_byte [] k b h e r = absurd (Nat.suc-ne-zero k (sym e))
last_byte (x ∷ []) zero b h e r =
    let z : b ≡ b - 8 * 0 = omega arith in
    ap₂ ltb (Nat.zero-add x) (ap (λ (y : ℕ). 2 ^ y) z)
last_byte (x ∷ []) (suc k) b h e r = absurd (Nat.suc-ne-zero k (sym (Nat.suc_inj e)))
last_byte (x ∷ y ∷ l) zero b h e r = absurd (Nat.suc-ne-zero (length l) (Nat.suc_inj e))
last_byte (x ∷ y ∷ l) (suc k) b h e r =
    let z : b ≡ b - 8 + 8 = omega arith in
    let u : b - 8 - 8 * k ≡ b - 8 * suc k = omega arith in
    ap (λ (n : ℕ). ltb (value 8 (x ∷ y ∷ l)) (2 ^ n)) z
    ∙ lower-byte (value 8 (y ∷ l)) x (b - 8) h.0
    ∙ last_byte (y ∷ l) k (b - 8) h.1 (Nat.suc_inj e) (omega arith)
    ∙ ap (λ (n : ℕ). ltb (get_or (y ∷ l) k 0) (2 ^ n)) u

abbrev pub run_passes : (ℕ → ℕ → Bool) → List ℕ → ℕ → ℕ → ℕ → Bool
run_passes P l at k b = P b (value 8 (take k (drop at l)))

abbrev pub test_of : Bool → ℕ → ℕ → Bool
test_of ones b x = cond ones (ones_in b x) (fits_in b x)

-- the test of a run of as many bytes as b bits take
pub run-test : (l : List ℕ) (at k b u : ℕ) → ((i : ℕ) → get_or l i 0 < 256) → 1 ≤ b → k ≡ (b + 7) / 8 → at + k ≤ length l
    → u ≡ 2 ^ (8 - (8 * k - b))
    → ltb (get_or l (at + k - 1) 0) u ≡ run_passes fits_in l at k b
run-test l at k b u h low f room e =
    let i : at + k - 1 ≡ at + (k - 1) = omega arith in
    let j : 8 - (8 * k - b) ≡ b - 8 * (k - 1) = omega arith in
    let behind : Bytes (drop at l) = all_drop (λ d. d < 256) at l (at_all (λ d. d < 256) l (λ n _. h n)) in
    let run : Bytes (take k (drop at l)) = all_take (λ d. d < 256) k (drop at l) behind in
    let left : k ≤ length (drop at l) = rw (length-drop at l) (omega arith) in
    let size : length (take k (drop at l)) ≡ suc (k - 1) = length-take-le k (drop at l) left ∙ omega arith in
    sym (last_byte (take k (drop at l)) (k - 1) b run size (omega arith)
    ∙ ap₂ ltb (get_or-take k (drop at l) (k - 1) 0 (omega arith) ∙ get_or-drop at l (k - 1) 0 ∙ ap (λ (n : ℕ). get_or l n 0) (sym i))
    (sym (e ∙ ap (λ (n : ℕ). 2 ^ n) j)))

-- ---- a run has its b lowest bits 1 exactly when its bytes below the last are 255 and the last has its bits 1
pub record OnesFound (l : List ℕ) (at end : ℕ) (r : Bool) : Type 0 where
  pub all : r ≡ true → (i : ℕ) → at ≤ i → i < end → get_or l i 0 ≡ 255
  pub none : ((i : ℕ) → at ≤ i → i < end → get_or l i 0 ≡ 255) → r ≡ true

-- bytes that are 255 so far, from `at` to k
pub record OnesSo (l : List ℕ) (at k : ℕ) : Type 0 where
  pub from : at ≤ k
  pub all : (i : ℕ) → at ≤ i → i < k → get_or l i 0 ≡ 255

pub ones-start : (l : List ℕ) (at : ℕ) → OnesSo l at at
ones-start l at = record { from = Nat.le_refl at; all = λ i h j. absurd (Nat.lt_irrefl i (Nat.lt_of_lt_of_le j h)) }

pub ones-turn : (l : List ℕ) (at k : ℕ) → OnesSo l at k → get_or l k 0 ≡ 255 → OnesSo l at (k + 1)
ones-turn l at k s e =
    record { from = omega (arith, s.from); all = λ i h j. go i h (Nat.eq-or-lt_of_le (Nat.le_of_suc-le-suc (omega arith))) }
  where
    go : (i : ℕ) → at ≤ i → (i ≡ k) ⊎ (i < k) → get_or l i 0 ≡ 255
    go i h (inl f) = rw f e
    go i h (inr f) = s.all i h f

pub ones-found : (l : List ℕ) (at k end : ℕ) → OnesSo l at k → k < end → (get_or l k 0 ≡ 255 → ⊥) → OnesFound l at end false
ones-found l at k end s h n = record { all = λ e. absurd (true-false (sym e)); none = λ f. absurd (n (f k s.from h)) }

pub ones-done : (l : List ℕ) (at k end : ℕ) → OnesSo l at k → end ≤ k → OnesFound l at end true
ones-done l at k end s h = record { all = λ e i u j. s.all i u (Nat.lt_of_lt_of_le j h); none = λ f. refl }

-- one part after the other
pub found_first : (l : List ℕ) (at m end : ℕ) → OnesFound l at m false → m ≤ end → OnesFound l at end false
found_first l at m end o h =
    record { all = λ e. absurd (true-false (sym e)); none = λ f. o.none (λ i u j. f i u (Nat.lt_of_lt_of_le j h)) }

pub found-rest : (l : List ℕ) (at m end : ℕ) (r : Bool) → OnesFound l at m true → OnesFound l m end r → at ≤ m → OnesFound l at end r
found-rest l at m end r o u h =
    record { all = λ e i x y. go e i x y (ltb i m) refl; none = λ f. u.none (λ i x y. f i (Nat.le_trans h x) y) }
  where
    go : r ≡ true → (i : ℕ) → at ≤ i → i < end → (t : Bool) → ltb i m ≡ t → get_or l i 0 ≡ 255
    go e i x y true t = o.all refl i x (ltb-true i m t)
    go e i x y false t = u.all e i (ltb-false i m t) y

-- a word is all ones exactly when its 8 bytes are 255
word-bit : (l : List ℕ) (k j : ℕ) → ((i : ℕ) → get_or l i 0 < 256)
    → coefficient (value 8 l / 2 ^ (8 * k)) j ≡ coefficient (get_or l ((8 * k + j) / 8) 0) ((8 * k + j) % 8)
word-bit l k j h =
    sym (high-coefficient (value 8 l) (8 * k) j) ∙ value-coefficient 8 (lit< tt) l (at_all (λ d. d < 256) l (λ n _. h n)) (8 * k + j)

module _ (l : List ℕ) (k w : ℕ) (h : (i : ℕ) → get_or l i 0 < 256) (e : w ≡ value 8 l / 2 ^ (8 * k) % 2 ^ 64) where
  pub word-all : w ≡ 0xFFFFFFFFFFFFFFFF → (i : ℕ) → k ≤ i → i < k + 8 → get_or l i 0 ≡ 255
  word-all t i x y = sym (Nat.mod-eq_of_lt (h i)) ∙ ones_low 8 (get_or l i 0) (λ s d. sym (at s d) ∙ bit s d)
    where
      at : (s : ℕ) → s < 8 → coefficient (value 8 l / 2 ^ (8 * k)) (8 * (i - k) + s) ≡ coefficient (get_or l i 0) s
      at s d =
          let m : (8 * k + (8 * (i - k) + s)) / 8 ≡ i = omega arith in
          let n : (8 * k + (8 * (i - k) + s)) % 8 ≡ s = omega arith in
          word-bit l k (8 * (i - k) + s) h ∙ ap₂ (λ (a b : ℕ). coefficient (get_or l a 0) b) m n

      bit : (s : ℕ) → s < 8 → coefficient (value 8 l / 2 ^ (8 * k)) (8 * (i - k) + s) ≡ 1
      bit s d = low_ones 64 (value 8 l / 2 ^ (8 * k)) (sym e ∙ t) (8 * (i - k) + s) (omega arith)

  pub all-word : ((i : ℕ) → k ≤ i → i < k + 8 → get_or l i 0 ≡ 255) → w ≡ 0xFFFFFFFFFFFFFFFF
  all-word f =
      e ∙ ones_low 64 (value 8 l / 2 ^ (8 * k))
      (λ j d. word-bit l k j h ∙ ap (λ (y : ℕ). coefficient y ((8 * k + j) % 8)) (f ((8 * k + j) / 8) (omega arith) (omega arith))
      ∙ low_ones 8 255 refl ((8 * k + j) % 8) (omega arith))

-- words that are all ones so far
pub words-start : (l : List ℕ) (at : ℕ) → OnesSo l at (at + 8 * 0)
words-start l at = let e : at + 8 * 0 ≡ at = omega arith in rw e (ones-start l at)

module _ (l : List ℕ) (at count i w : ℕ) (h : (j : ℕ) → get_or l j 0 < 256) (e : w ≡ value 8 l / 2 ^ (8 * (at + 8 * i)) % 2 ^ 64)
    (s : OnesSo l at (at + 8 * i)) where
  pub word-turn : w ≡ 0xFFFFFFFFFFFFFFFF → OnesSo l at (at + 8 * (i + 1))
  word-turn t = record { from = omega arith; all = λ j x y. go j x y (ltb j (at + 8 * i)) refl }
    where
      go : (j : ℕ) → at ≤ j → j < at + 8 * (i + 1) → (b : Bool) → ltb j (at + 8 * i) ≡ b → get_or l j 0 ≡ 255
      go j x y true b = s.all j x (ltb-true j (at + 8 * i) b)
      go j x y false b = word-all l (at + 8 * i) w h e t j (ltb-false j (at + 8 * i) b) (omega arith)

  pub word-found : i < count → (w ≡ 0xFFFFFFFFFFFFFFFF → ⊥) → OnesFound l at (at + 8 * count) false
  word-found b n = record {
    all = λ t. absurd (true-false (sym t));
    none = λ f. absurd (n (all-word l (at + 8 * i) w h e (λ j x y. f j (Nat.le_trans s.from x) (omega arith))));
  }

module _ (l : List ℕ) (at k b : ℕ) (h : (i : ℕ) → get_or l i 0 < 256) (low : 1 ≤ b) (f : k ≡ (b + 7) / 8) where
  abbrev number : ℕ
  number = value 8 (take k (drop at l))

  -- bit j of the run
  run-bit : (j : ℕ) → j < 8 * k → coefficient number j ≡ coefficient (get_or l (at + j / 8) 0) (j % 8)
  run-bit j c =
      value-coefficient 8 (lit< tt) (take k (drop at l))
      (all_take (λ d. d < 256) k (drop at l) (all_drop (λ d. d < 256) at l (at_all (λ d. d < 256) l (λ n _. h n)))) j
      ∙ ap (λ (d : ℕ). coefficient d (j % 8)) (get_or-take k (drop at l) (j / 8) 0 (omega arith) ∙ get_or-drop at l (j / 8) 0)

  abbrev last_bits : ℕ
  last_bits = 8 - (8 * k - b)

  -- bit s of byte i of the run
  bit-of : (i s : ℕ) → s < 8 → i * 8 + s < 8 * k → coefficient number (i * 8 + s) ≡ coefficient (get_or l (at + i) 0) s
  bit-of i s c d =
      let e : (i * 8 + s) / 8 ≡ i = omega arith in
      let m : (i * 8 + s) % 8 ≡ s = omega arith in
      run-bit (i * 8 + s) d ∙ ap₂ (λ (x y : ℕ). coefficient (get_or l (at + x) 0) y) e m

  module _ (t : number % 2 ^ b ≡ 2 ^ b - 1) where
    whole-byte : (i : ℕ) → i + 1 < k → get_or l (at + i) 0 ≡ 255
    whole-byte i c =
        sym (Nat.mod-eq_of_lt (h (at + i)))
        ∙ ones_low 8 (get_or l (at + i) 0) (λ s d. sym (bit-of i s d (omega arith)) ∙ low_ones b number t (i * 8 + s) (omega arith))

    last-ones : get_or l (at + (k - 1)) 0 % 2 ^ last_bits ≡ 2 ^ last_bits - 1
    last-ones =
        ones_low last_bits (get_or l (at + (k - 1)) 0)
        (λ s d. sym (bit-of (k - 1) s (omega arith) (omega arith)) ∙ low_ones b number t ((k - 1) * 8 + s) (omega arith))

  ones-of : ((i : ℕ) → i + 1 < k → get_or l (at + i) 0 ≡ 255) → get_or l (at + (k - 1)) 0 % 2 ^ last_bits ≡ 2 ^ last_bits - 1
      → number % 2 ^ b ≡ 2 ^ b - 1
  ones-of u t = ones_low b number (λ j c. run-bit j (omega arith) ∙ go j c (Nat.eq-or-lt_of_le (high j c)))
    where
      high : (j : ℕ) → j < b → j / 8 ≤ k - 1
      high j c = omega arith

      go : (j : ℕ) → j < b → (j / 8 ≡ k - 1) ⊎ (j / 8 < k - 1) → coefficient (get_or l (at + j / 8) 0) (j % 8) ≡ 1
      go j c (inl e) =
          ap (λ (i : ℕ). coefficient (get_or l (at + i) 0) (j % 8)) e ∙ low_ones last_bits (get_or l (at + (k - 1)) 0) t (j % 8) (omega arith)
      go j c (inr d) = ap (λ (x : ℕ). coefficient x (j % 8)) (u (j / 8) (omega arith)) ∙ low_ones 8 255 refl (j % 8) (omega arith)

  -- the test, where the program has looked at the bytes below the last
  module _ (r : Bool) (o : OnesFound l at (at + k - 1) r) where
    pub run-not : r ≡ false → false ≡ run_passes ones_in l at k b
    run-not e =
        sym (ne_eqb (number % 2 ^ b) (2 ^ b - 1)
        (λ t. true-false (sym (o.none (λ i x y. (let j : at + (i - at) ≡ i = omega arith in rw j at (whole-byte t (i - at) (omega arith))))) ∙ e)))

    pub run-top : r ≡ true → (u : ℕ) → u ≡ 2 ^ last_bits → eqb (get_or l (at + k - 1) 0 % u) (u - 1) ≡ run_passes ones_in l at k b
    run-top e u v =
        rw v (same_numbers (get_or l (at + k - 1) 0 % 2 ^ last_bits) (2 ^ last_bits - 1) (number % 2 ^ b) (2 ^ b - 1)
        (λ t. ones-of (λ i c. o.all e (at + i) (omega arith) (omega arith)) (rw last at t)) (λ t. rw last (last-ones t)))
      where
        last : at + k - 1 ≡ at + (k - 1)
        last = omega arith

-- ---- the bits of a run above its b lowest, cleared in its last byte
cut-byte : (a x b : ℕ) → x < 256 → a % 2 ^ b * 2 ^ 8 + x ≡ (a * 2 ^ 8 + x) % 2 ^ (b + 8)
cut-byte a x b h =
    sym (mod-pow-add (a * 2 ^ 8 + x) b 8
    ∙ ap₂ (λ (s t : ℕ). s % 2 ^ b * 2 ^ 8 + t) (high a 8 h) (low a 8 h))

pub cut-last : (l : List ℕ) (k b : ℕ) → Bytes l → length l ≡ suc k → 8 * k ≤ b
    → value 8 (set l k (get_or l k 0 % 2 ^ (b - 8 * k))) ≡ value 8 l % 2 ^ b
unfolding value
cut-last [] k b h e r = absurd (Nat.suc-ne-zero k (sym e))
cut-last (x ∷ []) zero b h e r =
    let z : b - 8 * 0 ≡ b = omega arith in
    Nat.zero-add (x % 2 ^ (b - 8 * 0)) ∙ ap₂ (λ (y n : ℕ). y % 2 ^ n) (sym (Nat.zero-add x)) z
cut-last (x ∷ []) (suc k) b h e r = absurd (Nat.suc-ne-zero k (sym (Nat.suc_inj e)))
cut-last (x ∷ y ∷ l) zero b h e r = absurd (Nat.suc-ne-zero (length l) (Nat.suc_inj e))
cut-last (x ∷ y ∷ l) (suc k) b h e r =
    let z : b - 8 + 8 ≡ b = omega arith in
    let u : b - 8 * suc k ≡ b - 8 - 8 * k = omega arith in
    ap (λ (n : ℕ). value 8 (set (y ∷ l) k (get_or (y ∷ l) k 0 % 2 ^ n)) * 2 ^ 8 + x) u
    ∙ ap (λ (n : ℕ). n * 2 ^ 8 + x) (cut-last (y ∷ l) k (b - 8) h.1 (Nat.suc_inj e) (omega arith))
    ∙ cut-byte (value 8 (y ∷ l)) x (b - 8) h.0
    ∙ ap (λ (n : ℕ). (value 8 (y ∷ l) * 2 ^ 8 + x) % 2 ^ n) z

pub cut-run : (l : List ℕ) (b u : ℕ) → ((i : ℕ) → get_or l i 0 < 256) → 1 ≤ b → length l ≡ (b + 7) / 8 → u ≡ 2 ^ (8 - (8 * length l - b))
    → value 8 (set l (length l - 1) (get_or l (length l - 1) 0 % u)) ≡ value 8 l % 2 ^ b
cut-run l b u h low f e =
    let j : 8 - (8 * length l - b) ≡ b - 8 * (length l - 1) = omega arith in
    ap (λ (n : ℕ). value 8 (set l (length l - 1) (get_or l (length l - 1) 0 % n))) (e ∙ ap (λ (n : ℕ). 2 ^ n) j)
    ∙ cut-last l (length l - 1) b (at_all (λ d. d < 256) l (λ n _. h n)) (omega arith) (omega arith)
