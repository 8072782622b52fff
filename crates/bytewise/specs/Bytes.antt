-- The table of a generator with a byte for a digit: 2,048 rows of six words, 256 for each byte of the word that is to be reduced.
--   half                  384, the places of six words; shut, since a number of 2 ^ 384's size stops `omega`
--   six_at b at            the six words of b from `at` on
--   upper_at t at          the upper six words of the row of t, a table of hex digits, that stands at `at`
--   low_row n, high_row n   the rows of such a table for the two digits of row n's byte
--   Widened t b           row n of b, moved up by half, is the sum of these two rows of t
--   Wide b                so it is, t being the table of a multiple of x^half
--   Six b b' at x         the row at `at` is x in b'; the rows below are those of b
use Rattle.std.specs.Prelude.{◌≡◌, refl, List, ℕ, ◌+◌, ◌*◌, ◌/◌, ◌%◌, ◌^◌, ◌≤◌, ◌<◌, length, get_or, take, drop, set}
use Rattle.std.proofs.Common.{sym, ap, ap₂, ◌∙◌, subst, arith, length-drop, pow-add, pow_mono, drop-drop, get_or-drop, length-take-le, take-add, below_more}
use Rattle.std.proofs.Math.Nat as Nat
use Rattle.std.specs.Int.Bits.{bit_xor}
use Rattle.polynomial.specs.Digits.{value}
use Rattle.polynomial.specs.Division.{xor_lt}
use Rattle.polynomial.specs.Xor.{xor, xors, xor_assoc, xor_is, xor_zero_r}
use Rattle.kernels.specs.Shift.{xor_block, xor-shl}
use Rattle.kernels.specs.Value.{Bounded, bounded-drop, set-xor, take-lt, take_more, take-xor, value-append, value-lt, value-nil}
use Rattle.reduction.specs.Build.{Putting, next_word, window}
use Rattle.reduction.specs.Table.{MovedUp, RemainderBy, four, row, row-clear, row_at}

unfoldable pub half : ℕ
half = 384

pub half_is : half ≡ 64 * 6
unfolding half
half_is = refl

unfoldable pub six_at : List ℕ → ℕ → ℕ
six_at b at = value 64 (take 6 (drop at b))

abbrev pub upper_at : List ℕ → ℕ → ℕ
upper_at t at = six_at t (at + 6)

abbrev pub low_row : ℕ → ℕ
low_row n = 32 * (n / 256) + n % 16

abbrev pub high_row : ℕ → ℕ
high_row n = 32 * (n / 256) + 16 + n / 16 % 16

pub record Widened (t b : List ℕ) : Type 0 where
  pub rows : (n : ℕ) → n < 2048 → six_at b (n * 6) * 2 ^ half ≡ xor (row t (low_row n)) (row t (high_row n))

pub record Wide (b : List ℕ) : Type 0 where
  pub words : length b ≡ 12288
  pub hex : List ℕ
  pub widened : Widened hex b
  pub moved : MovedUp hex half

-- ---- one row is written
pub record Six (b b' : List ℕ) (at x : ℕ) : Type 0 where
  pub here : six_at b' at ≡ x
  pub below : (i : ℕ) → i + 6 ≤ at → six_at b' i ≡ six_at b i

-- the sum of the first j words from a on and from c on
abbrev pub sums : List ℕ → ℕ → ℕ → ℕ → ℕ
sums t a c j = xor (value 64 (take j (drop a t))) (value 64 (take j (drop c t)))

-- one word more of each
sums-more : (t : List ℕ) (a c j : ℕ) → Bounded 64 t → a + j < length t → c + j < length t
    → xor (get_or t (a + j) 0) (get_or t (c + j) 0) * 2 ^ (64 * j) + sums t a c j ≡ sums t a c (j + 1)
sums-more t a c j b h l =
    sym (ap₂ xor (more a h) (more c l)
    ∙ xor_block (64 * j) (get_or t (a + j) 0) (get_or t (c + j) 0) (value 64 (take j (drop a t))) (value 64 (take j (drop c t))) (small a h) (small c l))
  where
    inside : (i : ℕ) → i + j < length t → j < length (drop i t)
    inside i k = rw (length-drop i t) (omega arith)

    more : (i : ℕ) → i + j < length t → value 64 (take (j + 1) (drop i t)) ≡ get_or t (i + j) 0 * 2 ^ (64 * j) + value 64 (take j (drop i t))
    more i k =
        take_more 64 (drop i t) j (inside i k) ∙ ap (λ (x : ℕ). x * 2 ^ (64 * j) + value 64 (take j (drop i t))) (get_or-drop i t j 0)

    small : (i : ℕ) → i + j < length t → value 64 (take j (drop i t)) < 2 ^ (64 * j)
    small i k = take-lt 64 (drop i t) (bounded-drop 64 t b i) j (omega (arith, inside i k))

pub six-turn : (b₀ b t : List ℕ) (at a c j : ℕ) → Bounded 64 t → at + j < length b → a + j < length t → c + j < length t
    → Putting b₀ b at j (sums t a c j)
    → Putting b₀ (set b (at + j) (bit_xor (get_or t (a + j) 0) (get_or t (c + j) 0))) at (j + 1) (sums t a c (j + 1))
six-turn b₀ b t at a c j d h l k p =
    subst (Putting b₀ (set b (at + j) (bit_xor (get_or t (a + j) 0) (get_or t (c + j) 0))) at (j + 1))
    (ap (λ (x : ℕ). x * 2 ^ (64 * j) + sums t a c j) (xor_is (get_or t (a + j) 0) (get_or t (c + j) 0)) ∙ sums-more t a c j d l k)
    (next_word b₀ b at j (bit_xor (get_or t (a + j) 0) (get_or t (c + j) 0)) (sums t a c j) h p)

pub six-done : (b₀ b t : List ℕ) (at a c j : ℕ) → j ≡ 6 → Putting b₀ b at j (sums t a c j) → Six b₀ b at (xor (six_at t a) (six_at t c))
unfolding six_at
six-done b₀ b t at a c j e p = record {
  here = rw e at p.done;
  below = λ i h. ap (value 64) (sym (window 6 i at b h) ∙ ap (λ (l : List ℕ). take 6 (drop i l)) p.before ∙ window 6 i at b₀ h);
}

-- ---- the table, row by row
pub upper-row : (t : List ℕ) → MovedUp t half → Bounded 64 t → length t ≡ 3072 → (n at : ℕ) → n < 256 → at ≡ n * 12
    → upper_at t at * 2 ^ half ≡ row t n
unfolding six_at row row_at
upper-row t M d l n at h e =
    rw (e, half_is) (sym (ap (value 64) (take-add 6 6 (drop (n * 12) t)) ∙ value-append 64 (take 6 (drop (n * 12) t)) (take 6 (drop 6 (drop (n * 12) t)))
    ∙ ap₂ ◌+◌ (ap₂ (λ (m : List ℕ) (i : ℕ). value 64 (take 6 m) * 2 ^ (64 * i)) (drop-drop 6 (n * 12) t) six) clear
    ∙ Nat.add-zero (value 64 (take 6 (drop (n * 12 + 6) t)) * 2 ^ (64 * 6))))
  where
    six : length (take 6 (drop (n * 12) t)) ≡ 6
    six = length-take-le 6 (drop (n * 12) t) (rw (length-drop (n * 12) t) (omega arith))

    clear : value 64 (take 6 (drop (n * 12) t)) ≡ 0
    clear = row-clear t 6 (rw half_is at M) d l (omega arith) n (n * 12) h refl

abbrev pub WideRows : List ℕ → List ℕ → ℕ → Type 0
WideRows t b n = (i : ℕ) → i < n → six_at b (i * 6) * 2 ^ half ≡ xor (row t (low_row i)) (row t (high_row i))

pub wide-next : (t b b' : List ℕ) (n a c : ℕ) → MovedUp t half → Bounded 64 t → length t ≡ 3072 → n < 2048
    → a ≡ low_row n * 12 → c ≡ high_row n * 12 → Six b b' (n * 6) (xor (upper_at t a) (upper_at t c)) → WideRows t b n → WideRows t b' (n + 1)
wide-next t b b' n a c M d l h e f s R =
    below_more (λ (i : ℕ). six_at b' (i * 6) * 2 ^ half ≡ xor (row t (low_row i)) (row t (high_row i))) n
    (λ i k. ap (λ (x : ℕ). x * 2 ^ half) (s.below (i * 6) (omega arith)) ∙ R i k)
    (ap (λ (x : ℕ). x * 2 ^ half) s.here ∙ xor-shl half (upper_at t a) (upper_at t c)
    ∙ ap₂ xor (upper-row t M d l (low_row n) a (omega arith) e) (upper-row t M d l (high_row n) c (omega arith) f))

-- ---- rows added to the upper six words of v
pub add_start : (b : List ℕ) (a c n : ℕ) → n ≡ xor n (sums b a c 0 * 2 ^ half)
add_start b a c n = sym (rw (value-nil 64) (ap (λ (x : ℕ). xor n (x * 2 ^ half)) none ∙ rw (Nat.zero-mul (2 ^ half)) (xor_zero_r n)))
  where
    none : xor 0 0 ≡ 0
    none = xor_zero_r 0

pub add_turn : (b : List ℕ) (a c n : ℕ) (v : List ℕ) (j : ℕ) → Bounded 64 v → Bounded 64 b → 6 + j < length v → a + j < length b → c + j < length b
    → value 64 v ≡ xor n (sums b a c j * 2 ^ half)
    → value 64 (set v (6 + j) (bit_xor (bit_xor (get_or v (6 + j) 0) (get_or b (a + j) 0)) (get_or b (c + j) 0))) ≡ xor n (sums b a c (j + 1) * 2 ^ half)
add_turn b a c n v j dv db lv la lc e =
    ap (λ (x : ℕ). value 64 (set v (6 + j) x)) (shape (get_or v (6 + j) 0) (get_or b (a + j) 0) (get_or b (c + j) 0))
    ∙ set-xor 64 v dv (6 + j) _ lv (xor_lt 64 _ _ (db (a + j)) (db (c + j)))
    ∙ rw (e, place, more a la, more c lc) (simp (xor-shl, xors))
  where
    shape : (x y z : ℕ) → bit_xor (bit_xor x y) z ≡ xor x (xor y z)
    shape x y z = simp (xor_is, xor_assoc)

    more : (i : ℕ) → i + j < length b
        → value 64 (take (j + 1) (drop i b)) ≡ xor (get_or b (i + j) 0 * 2 ^ (64 * j)) (value 64 (take j (drop i b)))
    more i l =
        take-xor 64 (drop i b) (bounded-drop 64 b db i) j (rw (length-drop i b) (omega arith))
        ∙ ap (λ (x : ℕ). xor (x * 2 ^ (64 * j)) (value 64 (take j (drop i b)))) (get_or-drop i b j 0)

    up : 64 * (6 + j) ≡ 64 * j + half
    up = omega (arith, half_is)

    place : xor (get_or b (a + j) 0) (get_or b (c + j) 0) * 2 ^ (64 * (6 + j)) ≡ xor (get_or b (a + j) 0) (get_or b (c + j) 0) * 2 ^ (64 * j) * 2 ^ half
    place =
        ap (λ (x : ℕ). xor (get_or b (a + j) 0) (get_or b (c + j) 0) * x) (ap (λ (x : ℕ). 2 ^ x) up ∙ pow-add 2 (64 * j) half)
        ∙ sym (Nat.mul_assoc (xor (get_or b (a + j) 0) (get_or b (c + j) 0)) (2 ^ (64 * j)) (2 ^ half))

pub add_done : (b : List ℕ) (a c n m j : ℕ) → j ≡ 6 → m ≡ xor n (sums b a c j * 2 ^ half) → m ≡ xor n (xor (six_at b a) (six_at b c) * 2 ^ half)
unfolding six_at
add_done b a c n m j h s = rw h at s

-- two rows of bytes are four of hex digits
pub two-four : (t b : List ℕ) → Widened t b → (k u : ℕ) → k < 4
    → xor (six_at b (k * 3072 + u % 256 * 6)) (six_at b (k * 3072 + 1536 + u / 256 % 256 * 6)) * 2 ^ half ≡ four t (64 * k) u
unfolding four
two-four t b W k u h =
    xor-shl half (six_at b (k * 3072 + u % 256 * 6)) (six_at b (k * 3072 + 1536 + u / 256 % 256 * 6))
    ∙ ap₂ xor (one (512 * k + u % 256) (k * 3072 + u % 256 * 6) (64 * k + u % 16) (64 * k + 16 + u / 16 % 16) (omega arith) (omega arith) (omega arith) (omega arith))
    (one (512 * k + 256 + u / 256 % 256) (k * 3072 + 1536 + u / 256 % 256 * 6) (64 * k + 32 + u / 256 % 16) (64 * k + 48 + u / 4096 % 16) (omega arith) (omega arith) (omega arith) (omega arith))
    ∙ xor_assoc _ _ _
  where
    one : (n at i j : ℕ) → n < 2048 → at ≡ n * 6 → low_row n ≡ i → high_row n ≡ j → six_at b at * 2 ^ half ≡ xor (row t i) (row t j)
    one n at i j l e f g = ap (λ (x : ℕ). six_at b x * 2 ^ half) e ∙ W.rows n l ∙ ap₂ (λ (x y : ℕ). xor (row t x) (row t y)) f g

-- ---- the remainder of s, all of which stands below x^n
pub whole-remainder : (t s : List ℕ) (p n r : ℕ) → Bounded 8 s → 8 * length s ≤ n → RemainderBy t p (value 8 s % 2 ^ n) r
    → RemainderBy t p (value 8 s) r
whole-remainder t s p n r d h q =
    subst (λ (f : ℕ). RemainderBy t p f r)
    (Nat.mod-eq_of_lt (Nat.lt_of_lt_of_le (value-lt 8 s d) (pow_mono {i = 8 * length s} {j = n} h))) q
