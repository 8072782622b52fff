-- The table of a generator G of degree 768: 256 rows of 12 words, 16 for each hex digit of the word that is to be reduced.
--   row_at t at      the 12 words from `at` on
--   row t n         row n
--   hex n           the digit n % 16 at the digits' place n / 16: what row n stands for
--   Table G t       t is G's table: row n is the remainder of hex n · x^768
--   Clear t at f    the f words from `at` on are 0
--   MovedUp t s     t is the table of a multiple of x^s
--   four t base v   the sum of the four rows that v's four lowest hex digits choose, from row `base` on
--   Reduced t f r   r is below 2^768, and is the remainder of f by whichever G has t as its table
--   RemainderBy t s f r    r is the remainder of f by whichever g, moved up by s to degree 768, has t as its table
use Rattle.std.specs.Prelude.{◌≡◌, refl, List, ℕ, ◌+◌, ◌-◌, ◌*◌, ◌/◌, ◌%◌, ◌^◌, ◌≤◌, ◌<◌, length, take, drop}
use Rattle.std.proofs.Common.{sym, ap, ap₂, ◌∙◌, mul_assoc, mul-one, arith, length-drop, pow-add, shr_lt, take-take, length-take-le}
use Rattle.std.proofs.Math.Nat as Nat
use Rattle.polynomial.specs.Digits.{value}
use Rattle.polynomial.specs.Division.{Deg, rem}
use Rattle.polynomial.specs.Xor.{xor, xors}
use Rattle.kernels.specs.Remainder.{rem-four, rem-down, rem-low}
use Rattle.kernels.specs.Row.{D, D-is}
use Rattle.kernels.specs.Shift.{xor-shl, part, low-less, up-all}
use Rattle.kernels.specs.Value.{Bounded, bounded-take, bounded-drop, take-mod}

unfoldable pub row_at : List ℕ → ℕ → ℕ
row_at t at = value 64 (take 12 (drop at t))

unfoldable pub row : List ℕ → ℕ → ℕ
row t n = row_at t (n * 12)

unfoldable pub hex : ℕ → ℕ
hex n = n % 16 * 2 ^ (4 * (n / 16))

pub record Table (G : ℕ) (t : List ℕ) : Type 0 where
  pub deg : Deg G D
  pub rows : (n : ℕ) → n < 256 → row t n ≡ rem G D (hex n * 2 ^ D)

unfoldable pub four : List ℕ → ℕ → ℕ → ℕ
four t base v =
    xor (row t (base + v % 16))
    (xor (row t (base + 16 + v / 16 % 16)) (xor (row t (base + 32 + v / 256 % 16)) (row t (base + 48 + v / 4096 % 16))))

pub four-at : (t : List ℕ) (k v : ℕ)
    → xor (row_at t (k * 768 + v % 16 * 12)) (xor (row_at t (k * 768 + 192 + v / 16 % 16 * 12))
    (xor (row_at t (k * 768 + 384 + v / 256 % 16 * 12)) (row_at t (k * 768 + 576 + v / 4096 % 16 * 12))))
    ≡ four t (64 * k) v
unfolding four row
four-at t k v =
    let a : k * 768 + v % 16 * 12 ≡ (64 * k + v % 16) * 12 = omega arith in
    let b : k * 768 + 192 + v / 16 % 16 * 12 ≡ (64 * k + 16 + v / 16 % 16) * 12 = omega arith in
    let c : k * 768 + 384 + v / 256 % 16 * 12 ≡ (64 * k + 32 + v / 256 % 16) * 12 = omega arith in
    let e : k * 768 + 576 + v / 4096 % 16 * 12 ≡ (64 * k + 48 + v / 4096 % 16) * 12 = omega arith in
    rw (a, b, c, e) refl

pub hex-at : (k b : ℕ) → b < 16 → hex (16 * k + b) ≡ b * 2 ^ (4 * k)
unfolding hex
hex-at k b h =
    let e : (16 * k + b) % 16 ≡ b = omega arith in
    let f : (16 * k + b) / 16 ≡ k = omega arith in
    rw (e, f) refl

-- ---- the words that are 0
abbrev pub Clear : List ℕ → ℕ → ℕ → Type 0
Clear t at f = value 64 (take f (drop at t)) ≡ 0

pub record MovedUp (t : List ℕ) (s : ℕ) : Type 0 where
  pub G : ℕ
  pub table : Table G t
  pub low : G % 2 ^ s ≡ 0

pub moved_up : (g s : ℕ) (t : List ℕ) → Table (g * 2 ^ s) t → MovedUp t s
moved_up g s t T = record { G = g * 2 ^ s; table = T; low = Nat.mul-mod_left g (2 ^ s) }

pub moved-less : (t : List ℕ) (s k : ℕ) → k ≤ s → MovedUp t s → MovedUp t k
moved-less t s k h M = record { G = M.G; table = M.table; low = low-less M.G s k h M.low }

pub row-clear : (t : List ℕ) (f : ℕ) → MovedUp t (64 * f) → Bounded 64 t → length t ≡ 3072 → f ≤ 12 → (n at : ℕ) → n < 256 → at ≡ n * 12
    → Clear t at f
unfolding row row_at
row-clear t f M d l h n at i e =
    rw e (ap (value 64) (sym (take-take f 12 (drop (n * 12) t) h))
    ∙ take-mod 64 (take 12 (drop (n * 12) t)) (bounded-take 64 (drop (n * 12) t) (bounded-drop 64 t d (n * 12)) 12) f
    (rw (length-take-le 12 (drop (n * 12) t) (rw (length-drop (n * 12) t) (omega arith))) h)
    ∙ ap (λ (x : ℕ). x % 2 ^ (64 * f)) (M.table.rows n i)
    ∙ rem-low M.G D (64 * f) (hex n * 2 ^ D) M.table.deg k M.low (up-all (hex n) D (64 * f) k))
  where
    k : 64 * f ≤ D
    k = omega (arith, D-is)

pub record Reduced (t : List ℕ) (v r : ℕ) : Type 0 where
  pub small : r < 2 ^ D
  pub rest : (G : ℕ) → Table G t → r ≡ rem G D v

pub reduced-low : (t : List ℕ) (s v r : ℕ) → s < 768 → MovedUp t s → v % 2 ^ s ≡ 0 → Reduced t v r → r % 2 ^ s ≡ 0
reduced-low t s v r h M z q =
    ap (λ (x : ℕ). x % 2 ^ s) (q.rest M.G M.table) ∙ rem-low M.G D s v M.table.deg (omega (arith, D-is)) M.low z

row-at : (G : ℕ) (t : List ℕ) → Table G t → (s k i b n : ℕ) → n ≡ 16 * k + b → k < 16 → b < 16 → 4 * k ≡ i + s
    → row t n ≡ rem G D (b * 2 ^ i * 2 ^ s * 2 ^ D)
row-at G t T s k i b n e hk hb f =
    ap (row t) e ∙ T.rows (16 * k + b) (omega arith)
    ∙ ap (λ (x : ℕ). rem G D (x * 2 ^ D))
    (hex-at k b hb ∙ ap (λ (m : ℕ). b * 2 ^ m) f ∙ ap (λ (m : ℕ). b * m) (pow-add 2 i s) ∙ sym (mul_assoc b (2 ^ i) (2 ^ s)))

digits4 : (v : ℕ) → xor (v % 16 * 2 ^ 0) (xor (v / 16 % 16 * 2 ^ 4) (xor (v / 256 % 16 * 2 ^ 8) (v / 4096 % 16 * 2 ^ 12))) ≡ v % 65536
digits4 v =
    let p = part v 4 12 in
    let q = part v 4 8 in
    let r = part v 4 4 in
    sym (p ∙ ap (xor (v / 4096 % 16 * 2 ^ 12)) (q ∙ ap (xor (v / 256 % 16 * 2 ^ 8)) r) ∙ rw (mul-one (v % 16)) (simp xors))

-- the four rows add up to the remainder of four digits
pub quarter : (G : ℕ) (t : List ℕ) → Table G t → (q v : ℕ) → q < 4 → four t (64 * q) v ≡ rem G D (v % 65536 * 2 ^ (16 * q) * 2 ^ D)
unfolding four
quarter G t T q v h =
    ap₂ xor (row-at G t T (16 * q) (4 * q) 0 (v % 16) _ (omega arith) (omega arith) (omega arith) (omega arith))
    (ap₂ xor (row-at G t T (16 * q) (4 * q + 1) 4 (v / 16 % 16) _ (omega arith) (omega arith) (omega arith) (omega arith))
    (ap₂ xor (row-at G t T (16 * q) (4 * q + 2) 8 (v / 256 % 16) _ (omega arith) (omega arith) (omega arith) (omega arith))
    (row-at G t T (16 * q) (4 * q + 3) 12 (v / 4096 % 16) _ (omega arith) (omega arith) (omega arith) (omega arith))))
    ∙ rem-four G D T.deg D (v % 16 * 2 ^ 0 * 2 ^ (16 * q)) (v / 16 % 16 * 2 ^ 4 * 2 ^ (16 * q)) (v / 256 % 16 * 2 ^ 8 * 2 ^ (16 * q))
    (v / 4096 % 16 * 2 ^ 12 * 2 ^ (16 * q))
    ∙ ap (λ (x : ℕ). rem G D (x * 2 ^ D)) (sym (simp xor-shl) ∙ ap (λ (x : ℕ). x * 2 ^ (16 * q)) (digits4 v))

-- ---- a generator g of any degree w, moved up by s to degree 768
pub record RemainderBy (t : List ℕ) (s f r : ℕ) : Type 0 where
  pub small : r < 2 ^ (D - s)
  pub rest : (g w : ℕ) → Deg g w → w + s ≡ D → Table (g * 2 ^ s) t → r ≡ rem g w f

pub lowered : (t : List ℕ) (s f r : ℕ) → s ≤ 768 → Reduced t (f * 2 ^ s) r → RemainderBy t s f (r / 2 ^ s)
lowered t s f r h q =
    let e : (D - s) + s ≡ D = omega (arith, D-is) in
    record {
      small = shr_lt (D - s) s (rw e q.small);
      rest = λ g w d k T.
          ap (λ (x : ℕ). x / 2 ^ s) (q.rest (g * 2 ^ s) T ∙ ap (λ (n : ℕ). rem (g * 2 ^ s) n (f * 2 ^ s)) (sym k)) ∙ rem-down g w s d f;
    }
