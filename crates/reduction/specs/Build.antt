-- How a table comes about, row by row. G is the generator, D = 768.
--   Put t t' at n          the row at `at` is n in t'; the rows below are those of t
--   Putting t₀ t at j n    the same with j words of the row written, whose number is n
--   Rows G t n             the first n rows of t are those of G's table
--   Begun t n              so it is by some G
--   Grown t t' n n'        where t has n rows of a table, t' has n'
--   PowerOfTwo m           m is 2 ^ s for some s
use Rattle.std.specs.Prelude.{◌≡◌, refl, List, [], ◌∷◌, ℕ, zero, suc, ◌+◌, ◌-◌, ◌*◌, ◌/◌, ◌%◌, ◌^◌, ◌≤◌, ◌<◌, length, get_or, take, drop, set, replicate}
use Rattle.std.proofs.Common.{sym, ap₂, ◌∙◌, subst, zero-mul, one-mul, zero-add, add-one, arith, length-drop, pow_pos, pow-add, pow_mono, shr_lt, shl_lt, get_or-drop, get_or-take, take_all, take-take, below_more}
use Rattle.std.proofs.Math.Path.{ap}
use Rattle.std.proofs.Math.Nat as Nat
use Rattle.std.proofs.Math.Pow.{high, split}
use Rattle.std.proofs.lemmas.List.{take-set-le, drop-set-add}
use Rattle.polynomial.specs.Clmul.{clmul-one-l}
use Rattle.polynomial.specs.Digits.{value, value-at}
use Rattle.polynomial.specs.Division.{Deg, rem, rem_of, rem_lt, rem-zero}
use Rattle.polynomial.specs.Xor.{xor, xors, xor_comm}
use Rattle.kernels.specs.Move.{moved-top}
use Rattle.kernels.specs.Remainder.{rem-add, rem-shift, rem-top}
use Rattle.kernels.specs.Row.{D, by-top, low-lt}
use Rattle.kernels.specs.Shift.{join, xor-shl}
use Rattle.kernels.specs.Value.{Bounded, value-nil, take_more, take_more_set, bounded-all, bounded-take, bounded-drop}
use Rattle.reduction.specs.Table.{Table, row_at, row, hex, hex-at}

-- ---- one row is written
pub record Put (t t' : List ℕ) (at n : ℕ) : Type 0 where
  pub here : row_at t' at ≡ n
  pub below : (i : ℕ) → i + 12 ≤ at → row_at t' i ≡ row_at t i

pub window : (n i m : ℕ) (l : List ℕ) → i + n ≤ m → take n (drop i (take m l)) ≡ take n (drop i l)
window n zero m l h = take-take n m l (rw (zero-add n) at h)
window n (suc i) zero l h = absurd (Nat.not-suc-le-zero (rw (Nat.suc-add i n) at h))
window n (suc i) (suc m) [] h = refl
window n (suc i) (suc m) (x ∷ xs) h = window n i m xs (Nat.le_of_suc-le-suc (rw (Nat.suc-add i n) at h))

same_rows : (t t' : List ℕ) (at : ℕ) → take at t' ≡ take at t → (i : ℕ) → i + 12 ≤ at → row_at t' i ≡ row_at t i
unfolding row_at
same_rows t t' at e i h =
    ap (value 64) (sym (window 12 i at t' h) ∙ ap (λ (l : List ℕ). take 12 (drop i l)) e ∙ window 12 i at t h)

-- with j words written, which say n so far
pub record Putting (t₀ t : List ℕ) (at j n : ℕ) : Type 0 where
  pub before : take at t ≡ take at t₀
  pub done : value 64 (take j (drop at t)) ≡ n

pub next_word : (t₀ t : List ℕ) (at j v n : ℕ) → at + j < length t → Putting t₀ t at j n
    → Putting t₀ (set t (at + j) v) at (j + 1) (v * 2 ^ (64 * j) + n)
next_word t₀ t at j v n h p = record {
  before = take-set-le at t (at + j) v (omega arith) ∙ p.before;
  done =
      ap (λ (l : List ℕ). value 64 (take (j + 1) l)) (drop-set-add at t j v)
      ∙ take_more_set 64 (drop at t) j v (rw (length-drop at t) (omega arith)) ∙ ap (λ (x : ℕ). v * 2 ^ (64 * j) + x) p.done;
}

pub put-start : (t : List ℕ) (at : ℕ) → Putting t t at 0 0
put-start t at = record { before = refl; done = value-nil 64 }

pub clear-turn : (t₀ t : List ℕ) (at j : ℕ) → at + j < length t → Putting t₀ t at j 0 → Putting t₀ (set t (at + j) 0) at (j + 1) 0
clear-turn t₀ t at j h p =
    subst (Putting t₀ (set t (at + j) 0) at (j + 1)) (rw (zero-mul (2 ^ (64 * j))) refl) (next_word t₀ t at j 0 0 h p)

pub put-done : (t₀ t : List ℕ) (at j n : ℕ) → j ≡ 12 → Putting t₀ t at j n → Put t₀ t at n
unfolding row_at
put-done t₀ t at j n e p = record { here = rw e at p.done; below = same_rows t₀ t at p.before }

pub put-turn : (t₀ t v : List ℕ) (at j : ℕ) → at + j < length t → j < length v → Putting t₀ t at j (value 64 (take j v))
    → Putting t₀ (set t (at + j) (get_or v j 0)) at (j + 1) (value 64 (take (j + 1) v))
put-turn t₀ t v at j h l p =
    subst (Putting t₀ (set t (at + j) (get_or v j 0)) at (j + 1)) (sym (take_more 64 v j l))
    (next_word t₀ t at j (get_or v j 0) (value 64 (take j v)) h p)

pub put-end : (t₀ t v : List ℕ) (at j : ℕ) → length v ≡ 12 → j ≡ 12 → Putting t₀ t at j (value 64 (take j v)) → Put t₀ t at (value 64 v)
put-end t₀ t v at j l e p =
    subst (Put t₀ t at) (ap (value 64) (take_all j v (omega arith))) (put-done t₀ t at j (value 64 (take j v)) e p)

-- a row is made aside from two parts
pub aside : (x y a b : ℕ) → y ≡ xor (value 64 (replicate 12 0)) a → x ≡ xor y b → x ≡ xor a b
unfolding value
aside x y a b e f = f ∙ ap (λ (z : ℕ). xor z b) (e ∙ simp xors)

-- ---- the first n rows of a table are there
abbrev pub Rows : ℕ → List ℕ → ℕ → Type 0
Rows G t n = (i : ℕ) → i < n → row t i ≡ rem G D (hex i * 2 ^ D)

pub record Begun (t : List ℕ) (n : ℕ) : Type 0 where
  pub words : length t ≡ 3072
  pub G : ℕ
  pub deg : Deg G D
  pub rows : Rows G t n

pub record Grown (t t' : List ℕ) (n n' : ℕ) : Type 0 where
  pub grow : (G : ℕ) → Deg G D → Rows G t n → Rows G t' n'

pub grown-start : (t : List ℕ) (n : ℕ) → Grown t t n n
grown-start t n = record { grow = λ G d R. R }

pub grown-on : (t t' t'' : List ℕ) (n n' n'' : ℕ) → Grown t t' n n' → Grown t' t'' n' n'' → Grown t t'' n n''
grown-on t t' t'' n n' n'' f g = record { grow = λ G d R. g.grow G d (f.grow G d R) }

pub begun-on : (t t' : List ℕ) (n n' : ℕ) → Begun t n → length t' ≡ 3072 → Grown t t' n n' → Begun t' n'
begun-on t t' n n' B l f = record { words = l; G = B.G; deg = B.deg; rows = f.grow B.G B.deg B.rows }

-- row n is put
grown-put : (t t' : List ℕ) (n x : ℕ) → Put t t' (n * 12) x → ((G : ℕ) → Deg G D → Rows G t n → x ≡ rem G D (hex n * 2 ^ D))
    → Grown t t' n (n + 1)
unfolding row
grown-put t t' n x p f = record {
  grow = λ G d R.
      below_more (λ (i : ℕ). row_at t' (i * 12) ≡ rem G D (hex i * 2 ^ D)) n
      (λ i l. p.below (i * 12) (omega arith) ∙ R i l) (p.here ∙ f G d R);
}

hex-zero : (k : ℕ) → hex (16 * k) ≡ 0
hex-zero k = ap hex (sym (Nat.add-zero (16 * k))) ∙ hex-at k 0 (omega arith) ∙ zero-mul (2 ^ (4 * k))

pub grown-clear : (t t' : List ℕ) (k : ℕ) → Put t t' (192 * k) 0 → Grown t t' (16 * k) (16 * k + 1)
grown-clear t t' k p =
    let e : 192 * k ≡ 16 * k * 12 = omega arith in
    grown-put t t' (16 * k) 0 (rw e at p)
    (λ G d R. sym (rw (hex-zero k, zero-mul) (rem-zero G D)))

pub grown-sum : (t t' : List ℕ) (a b n x : ℕ) → a < n → b < n → hex n ≡ xor (hex a) (hex b)
    → x ≡ xor (row_at t (a * 12)) (row_at t (b * 12)) → Put t t' (n * 12) x → Grown t t' n (n + 1)
unfolding row
grown-sum t t' a b n x ha hb e s p =
    grown-put t t' n x p (λ G d R. rw e (s ∙ ap₂ xor (R a ha) (R b hb) ∙ rem-add G D d D (hex a) (hex b)))

-- row i moved up by s places: what passes x^768 is below 2 ^ s, and its row is there
top_lt : (x s : ℕ) → x < 2 ^ D → x * 2 ^ s / 2 ^ D < 2 ^ s
top_lt x s h = shr_lt s D (rw (Nat.add_comm s D) (shl_lt D s h))

pub top-is : (t : List ℕ) (n i s : ℕ) → Bounded 64 t → Begun t n → n < 256 → i < n → s ≤ 4
    → (get_or t (i * 12 + 11) 0 / 2 ^ (64 - s) ≡ row_at t (i * 12) * 2 ^ s / 2 ^ D) × (get_or t (i * 12 + 11) 0 / 2 ^ (64 - s) < 16)
unfolding row row_at
top-is t n i s b B hn h hs =
    let e : get_or t (i * 12 + 11) 0 / 2 ^ (64 - s) ≡ row_at t (i * 12) * 2 ^ s / 2 ^ D =
    ap (λ (x : ℕ). x / 2 ^ (64 - s)) (sym (get_or-drop (i * 12) t 11 0))
    ∙ moved-top (drop (i * 12) t) s (bounded-drop 64 t b (i * 12)) (rw (length-drop (i * 12) t, B.words) (omega arith)) (omega arith) in (
      e,
      rw e (Nat.lt_of_lt_of_le (top_lt (row_at t (i * 12)) s (rw (B.rows i h) (rem_lt B.G D B.deg (hex i * 2 ^ D))))
          (pow_mono {i = s} {j = 4} hs)),
    )

module _ (G : ℕ) (d : Deg G D) (t : List ℕ) (n i s : ℕ) (R : Rows G t n) (h : i < n) where
  abbrev y : ℕ
  y = row_at t (i * 12)

  abbrev top : ℕ
  top = y * 2 ^ s / 2 ^ D

  small : top < 2 ^ s
  unfolding row
  small = top_lt y s (rw (R i h) (rem_lt G D d (hex i * 2 ^ D)))

  its-row : s ≤ 4 → 2 ^ s ≤ n → row_at t (top * 12) ≡ rem G D (top * 2 ^ D)
  unfolding row
  its-row hs hn =
      R top (Nat.lt_of_lt_of_le small hn)
      ∙ ap (λ (z : ℕ). rem G D (z * 2 ^ D))
      (ap hex (sym (zero-add top)) ∙ hex-at 0 top (Nat.lt_of_lt_of_le small (pow_mono {i = s} {j = 4} hs)) ∙ Nat.mul-one top)

  moved-is : s ≤ 4 → 2 ^ s ≤ n → xor (row_at t (top * 12)) (y * 2 ^ s % 2 ^ D) ≡ rem G D (hex i * 2 ^ s * 2 ^ D)
  unfolding row
  moved-is hs hn =
      ap (λ (z : ℕ). xor z (y * 2 ^ s % 2 ^ D)) (its-row hs hn) ∙ xor_comm (rem G D (top * 2 ^ D)) (y * 2 ^ s % 2 ^ D)
      ∙ rem-top G D d top (y * 2 ^ s % 2 ^ D) (Nat.mod-lt (y * 2 ^ s) (pow_pos D)) ∙ ap (rem G D) (split (y * 2 ^ s) D)
      ∙ ap (λ (z : ℕ). rem G D (z * 2 ^ s)) (R i h) ∙ rem-shift G D d s (hex i * 2 ^ D)
      ∙ ap (rem G D) (Nat.mul_right_comm (hex i) (2 ^ D) (2 ^ s))

pub grown-move : (t t' : List ℕ) (i s n x : ℕ) → i < n → s ≤ 4 → 2 ^ s ≤ n → hex n ≡ hex i * 2 ^ s
    → x ≡ xor (row_at t (row_at t (i * 12) * 2 ^ s / 2 ^ D * 12)) (row_at t (i * 12) * 2 ^ s % 2 ^ D)
    → Put t t' (n * 12) x → Grown t t' n (n + 1)
grown-move t t' i s n x h hs hn e f p = grown-put t t' n x p (λ G d R. rw e (f ∙ moved-is G d t n i s R h hs hn))

-- the word before the row of a digit 1 is the last of a row of 0
pub word-before : (t : List ℕ) (n i : ℕ) → Bounded 64 t → Begun t n → i < n → i % 16 ≡ 1 → get_or t (i * 12 - 1) 0 ≡ 0
unfolding row row_at
word-before t n i b B h e =
    let k = i / 16 in
    let at : 16 * k * 12 + 11 ≡ i * 12 - 1 = omega arith in
    let l = drop (16 * k * 12) t in
    let z : value 64 (take 12 l) ≡ 0 = B.rows (16 * k) (omega arith) ∙ rw (hex-zero k, zero-mul) (rem-zero B.G D) in
    ap (λ (k : ℕ). get_or t k 0) (sym at) ∙ sym (get_or-drop (16 * k * 12) t 11 0) ∙ sym (get_or-take 12 l 11 0 (omega arith))
    ∙ sym (value-at 64 (take 12 l) (bounded-all 64 (take 12 l) (bounded-take 64 l (bounded-drop 64 t b (16 * k * 12)) 12)) 11)
    ∙ ap (λ (x : ℕ). x / 2 ^ (64 * 11) % 2 ^ 64) z ∙ ap (λ (x : ℕ). x % 2 ^ 64) (Nat.zero-div (2 ^ (64 * 11)))

-- ---- the digits that rows stand for
pub record PowerOfTwo (m : ℕ) : Type 0 where
  pub exponent : ℕ
  pub is : m ≡ 2 ^ exponent

pub few : (s m : ℕ) → m ≡ 2 ^ s → 1 ≤ s → s < 4 → (2 ≤ m) × (m ≤ 8)
few s m e l h = rw e (pow_mono {i = 1} {j = s} l, pow_mono {i = s} {j = 3} (omega arith))

pub next_power : (s m : ℕ) → m ≡ 2 ^ s → m * 2 ≡ 2 ^ (s + 1)
next_power s m e = ap (λ (x : ℕ). x * 2) e ∙ sym (Nat.pow-suc 2 s) ∙ ap (λ (n : ℕ). 2 ^ n) (sym (add-one s))

hex-sum-at : (k m b : ℕ) → m + b < 16 → xor b m ≡ m + b → hex (16 * k + m + b) ≡ xor (hex (16 * k + b)) (hex (16 * k + m))
hex-sum-at k m b h e =
    ap hex (Nat.add_assoc (16 * k) m b) ∙ hex-at k (m + b) h ∙ ap (λ (z : ℕ). z * 2 ^ (4 * k)) (sym e) ∙ xor-shl (4 * k) b m
    ∙ sym (ap₂ xor (hex-at k b (omega arith)) (hex-at k m (omega arith)))

pub hex-sum : (k m b : ℕ) → m ≤ 8 → b < m → PowerOfTwo m → hex (16 * k + m + b) ≡ xor (hex (16 * k + b)) (hex (16 * k + m))
hex-sum k m b l h P = hex-sum-at k m b (omega arith) (rw P.is (double P.exponent b (rw (← P.is) h)))
  where
    double : (s b : ℕ) → b < 2 ^ s → xor b (2 ^ s) ≡ 2 ^ s + b
    double s b h =
        xor_comm b (2 ^ s) ∙ sym (ap (λ (x : ℕ). x + b) (sym (one-mul (2 ^ s))) ∙ join 1 s b h ∙ ap (λ (x : ℕ). xor x b) (one-mul (2 ^ s)))

hex-one : (k : ℕ) → hex (16 * k + 1) ≡ 2 ^ (4 * k)
hex-one k = hex-at k 1 (omega arith) ∙ one-mul (2 ^ (4 * k))

pub hex-move : (k m s : ℕ) → m ≡ 2 ^ s → m < 16 → hex (16 * k + m) ≡ hex (16 * k + 1) * 2 ^ s
hex-move k m s e h =
    hex-at k m h ∙ ap (λ (z : ℕ). z * 2 ^ (4 * k)) e ∙ Nat.mul_comm (2 ^ s) (2 ^ (4 * k)) ∙ ap (λ (z : ℕ). z * 2 ^ s) (sym (hex-one k))

pub hex-next : (k : ℕ) → 1 ≤ k → hex (16 * k + 1) ≡ hex (16 * k - 15) * 2 ^ 4
hex-next k h =
    let e : 16 * (k - 1) + 1 ≡ 16 * k - 15 = omega arith in
    let f : 4 * k ≡ 4 * (k - 1) + 4 = omega arith in
    hex-one k ∙ ap (λ (n : ℕ). 2 ^ n) f ∙ pow-add 2 (4 * (k - 1)) 4 ∙ ap (λ (z : ℕ). z * 2 ^ 4) (sym (hex-one (k - 1)) ∙ ap hex e)

-- ---- the rows of 0 and 1 at place 0: x^768 modulo G is G without its highest coefficient
pub rows_start : (t t₁ t₂ g : List ℕ) → Bounded 64 g → length g ≡ 13 → Deg (value 64 g) D → Put t t₁ 0 0
    → Put t₁ t₂ 12 (value 64 (take 12 g)) → Rows (value 64 g) t₂ 2
unfolding row
rows_start t t₁ t₂ g b l d p q zero h = q.below 0 (omega arith) ∙ p.here ∙ sym (rw (hex-zero 0, zero-mul) (rem-zero (value 64 g) D))
rows_start t t₁ t₂ g b l d p q (suc zero) h =
    q.here ∙ sym (ap (λ (z : ℕ). rem (value 64 g) D (z * 2 ^ D)) (hex-one 0)
    ∙ rem_of (value 64 g) D d (1 * 2 ^ D) 1 low (is ∙ ap (λ (z : ℕ). xor z low) (sym (clmul-one-l (value 64 g)))) (low-lt g b l))
  where
    low : ℕ
    low = value 64 (take 12 g)

    top : get_or g 12 0 ≡ 1
    top = sym (high (get_or g 12 0) D (low-lt g b l)) ∙ ap (λ (z : ℕ). z / 2 ^ D) (sym (by-top g l)) ∙ d

    is : 1 * 2 ^ D ≡ xor (value 64 g) low
    is = sym (ap (λ (z : ℕ). xor z low) (by-top g l ∙ ap (λ (z : ℕ). z * 2 ^ D + low) top ∙ join 1 D low (low-lt g b l)) ∙ simp xors)
rows_start t t₁ t₂ g b l d p q (suc (suc i)) h = absurd (Nat.not-suc-le-zero (Nat.le_of_suc-le-suc (Nat.le_of_suc-le-suc h)))

pub rows-done : (G : ℕ) (t : List ℕ) (k : ℕ) → Deg G D → k ≡ 16 → Rows G t (16 * k) → Table G t
rows-done G t k d e R = record { deg = d; rows = λ n l. R n (omega arith) }
