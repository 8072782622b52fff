-- Bytes added in place, from the lowest on.
--   Added l₀ l at y i       the i lowest bytes of y are added to l₀ from byte `at` on, which makes l
--   Adding l₀ l at v i u    v is being added to l₀ from byte `at` on, which has made l: u is left, to go to byte i
use Rattle.std.specs.Prelude.{◌≡◌, refl, List, ◌++◌, ℕ, zero, suc, ◌+◌, ◌-◌, ◌*◌, ◌/◌, ◌%◌, ◌^◌, ◌≤◌, ◌<◌, length, get_or, take, drop, set}
use Rattle.std.proofs.Common.{sym, ap, ap₂, ◌∙◌, add-zero, zero-add, add_assoc, add_comm, zero-mul, add-mul, mul_assoc, mod-lt, mod-eq_of_lt, lt_of_lt_of_le, mul-one, div-one, arith, length-set, pow_mono, pow_pos, pow-add, shr-shr, shr_lt}
use Rattle.std.proofs.Math.Nat.{mod-one}
use Rattle.std.specs.Int.Bits.{bit_xor}
use Rattle.std.proofs.Math.Pow.{split}
use Rattle.polynomial.specs.Digits.{digits, value}
use Rattle.polynomial.specs.Division.{xor_lt}
use Rattle.polynomial.specs.Xor.{xor_comm, xor, xor_is, xor_zero_l, xor_zero_r, xor_assoc}
use Rattle.kernels.specs.Shift.{xor_block, part, join, up-down, xor-shl}
use Rattle.kernels.specs.Value.{Bounded, take-mod, set-xor, drop-shr, value-split}
use Rattle.kernels.specs.Write.{put-take, put-drop}

-- c bits from x^p on
xor-field : (x v c p : ℕ) → v < 2 ^ c → xor x (v * 2 ^ p) ≡ x / 2 ^ (p + c) * 2 ^ (p + c) + (xor (x / 2 ^ p % 2 ^ c) v * 2 ^ p + x % 2 ^ p)
xor-field x v c p h =
    ap₂ xor (sym (split x p)) (sym (add-zero (v * 2 ^ p))) ∙ xor_block p (x / 2 ^ p) v (x % 2 ^ p) 0 (mod-lt x (pow_pos p)) (pow_pos p)
    ∙ ap₂ (λ (a b : ℕ). a * 2 ^ p + b)
    (ap₂ xor (sym (split (x / 2 ^ p) c)) (sym (rw (zero-mul (2 ^ c)) (zero-add v)))
    ∙ xor_block c (x / 2 ^ p / 2 ^ c) 0 (x / 2 ^ p % 2 ^ c) v (mod-lt (x / 2 ^ p) (pow_pos c)) h
    ∙ ap₂ (λ (a b : ℕ). a * 2 ^ c + b) (xor_zero_r (x / 2 ^ p / 2 ^ c) ∙ shr-shr x p c) refl)
    (xor_zero_r (x % 2 ^ p))
    ∙ ap (λ (n : ℕ). n + x % 2 ^ p) (add-mul (x / 2 ^ (p + c) * 2 ^ c) (xor (x / 2 ^ p % 2 ^ c) v) (2 ^ p)
    ∙ ap (λ (n : ℕ). n + xor (x / 2 ^ p % 2 ^ c) v * 2 ^ p) (mul_assoc (x / 2 ^ (p + c)) (2 ^ c) (2 ^ p)
    ∙ ap (λ (n : ℕ). x / 2 ^ (p + c) * n) (sym (pow-add 2 c p) ∙ ap (λ (n : ℕ). 2 ^ n) (add_comm c p))))
    ∙ add_assoc (x / 2 ^ (p + c) * 2 ^ (p + c)) (xor (x / 2 ^ p % 2 ^ c) v * 2 ^ p) (x % 2 ^ p)

-- a word is read, has v added and is put back
pub add-word-law : (l l' : List ℕ) (at v w : ℕ) → Bounded 8 l → at + 8 ≤ length l → length l' ≡ length l → v < 2 ^ 64
    → w ≡ value 8 l / 2 ^ (8 * at) % 2 ^ 64
    → l' ≡ take at l ++ digits 8 8 (bit_xor w v) ++ drop (at + 8) l → value 8 l' ≡ xor (value 8 l) (v * 2 ^ (8 * at))
add-word-law l l' at v w b h k hv e f =
    value-split 8 (at + 8) l' (omega arith)
    ∙ ap₂ (λ (x y : ℕ). x * 2 ^ (8 * (at + 8)) + y) (ap (value 8) (put-drop l l' at (bit_xor w v) h f) ∙ sym (drop-shr 8 (at + 8) l b))
    (put-take l l' at (bit_xor w v) h f (rw (xor_is w v) (xor_lt 64 w v (rw e (mod-lt (value 8 l / 2 ^ (8 * at)) (pow_pos 64))) hv))
    ∙ ap₂ (λ (x y : ℕ). x * 2 ^ (8 * at) + y) (xor_is w v ∙ ap (λ (x : ℕ). xor x v) e) (take-mod 8 l b at (omega arith)))
    ∙ ap (λ (n : ℕ). value 8 l / 2 ^ n * 2 ^ n + (xor (value 8 l / 2 ^ (8 * at) % 2 ^ 64) v * 2 ^ (8 * at) + value 8 l % 2 ^ (8 * at))) g
    ∙ sym (xor-field (value 8 l) v 64 (8 * at) hv)
  where
    g : 8 * (at + 8) ≡ 8 * at + 64
    g = omega arith

-- up by i bytes and then by `at`
up-bytes : (x at i : ℕ) → x * 2 ^ (8 * (at + i)) ≡ x * 2 ^ (8 * i) * 2 ^ (8 * at)
up-bytes x at i =
    let k : 8 * (at + i) ≡ 8 * i + 8 * at = omega arith in
    ap (λ (n : ℕ). x * 2 ^ n) k ∙ ap (λ (n : ℕ). x * n) (pow-add 2 (8 * i) (8 * at)) ∙ sym (mul_assoc x (2 ^ (8 * i)) (2 ^ (8 * at)))

-- j bytes of y from byte i on are added beside the i below, all from byte `at` on
pub bytes-law : (a₀ a a' at y i j n v : ℕ) → i + j ≡ n → a ≡ xor a₀ (y % 2 ^ (8 * i) * 2 ^ (8 * at)) → v ≡ y / 2 ^ (8 * i) % 2 ^ (8 * j)
    → a' ≡ xor a (v * 2 ^ (8 * (at + i))) → a' ≡ xor a₀ (y % 2 ^ (8 * n) * 2 ^ (8 * at))
bytes-law a₀ a a' at y i j n v h e d f =
    let g : 8 * j + 8 * i ≡ 8 * n = omega arith in
    f ∙ ap₂ xor e (up-bytes v at i ∙ ap (λ (x : ℕ). x * 2 ^ (8 * i) * 2 ^ (8 * at)) d)
    ∙ xor_assoc a₀ (y % 2 ^ (8 * i) * 2 ^ (8 * at)) (y / 2 ^ (8 * i) % 2 ^ (8 * j) * 2 ^ (8 * i) * 2 ^ (8 * at))
    ∙ ap (xor a₀) (sym (xor-shl (8 * at) (y % 2 ^ (8 * i)) (y / 2 ^ (8 * i) % 2 ^ (8 * j) * 2 ^ (8 * i)))
    ∙ ap (λ (x : ℕ). x * 2 ^ (8 * at))
    (xor_comm (y % 2 ^ (8 * i)) (y / 2 ^ (8 * i) % 2 ^ (8 * j) * 2 ^ (8 * i)) ∙ sym (part y (8 * j) (8 * i)) ∙ ap (λ (m : ℕ). y % 2 ^ m) g))

-- ---- words of y, from the lowest on
pub record Added (l₀ l : List ℕ) (at y i : ℕ) : Type 0 where
  pub within : at + i ≤ length l
  pub same : length l ≡ length l₀
  pub done : value 8 l ≡ xor (value 8 l₀) (y % 2 ^ (8 * i) * 2 ^ (8 * at))

pub added-start : (l : List ℕ) (at y : ℕ) → at ≤ length l → Added l l at y 0
added-start l at y h = record {
  within = omega arith;
  same = refl;
  done = sym (rw (mod-one y, zero-mul (2 ^ (8 * at))) (xor_zero_r (value 8 l)));
}

pub added-word : (l₀ l l' : List ℕ) (at y k v : ℕ) → value 8 l' ≡ xor (value 8 l) (v * 2 ^ (8 * (at + 8 * k))) → at + 8 * k + 8 ≤ length l
    → length l' ≡ length l → v ≡ y / 2 ^ (8 * (8 * k)) % 2 ^ 64 → Added l₀ l at y (8 * k) → Added l₀ l' at y (8 * (k + 1))
added-word l₀ l l' at y k v f h g e p = record {
  within = omega arith;
  same = g ∙ p.same;
  done = bytes-law (value 8 l₀) (value 8 l) (value 8 l') at y (8 * k) 8 (8 * (k + 1)) v (omega arith) p.done e f;
}

-- the same from byte 0 on
pub added-low-word : (l₀ l l' : List ℕ) (y k v : ℕ) → value 8 l' ≡ xor (value 8 l) (v * 2 ^ (8 * (8 * k))) → 8 * k + 8 ≤ length l
    → length l' ≡ length l → v ≡ y / 2 ^ (8 * (8 * k)) % 2 ^ 64 → Added l₀ l 0 y (8 * k) → Added l₀ l' 0 y (8 * (k + 1))
added-low-word l₀ l l' y k v f h g e p =
    added-word l₀ l l' 0 y k v (f ∙ ap (λ (n : ℕ). xor (value 8 l) (v * 2 ^ (8 * n))) (sym (zero-add (8 * k)))) (omega arith) g e p

pub added-low-done : (l₀ l : List ℕ) (y k n : ℕ) → k ≡ n → Added l₀ l 0 y (8 * k) → value 8 l ≡ xor (value 8 l₀) (y % 2 ^ (8 * (8 * n)))
added-low-done l₀ l y k n e p = p.done ∙ ap (xor (value 8 l₀)) (mul-one (y % 2 ^ (8 * (8 * k))) ∙ ap (λ (m : ℕ). y % 2 ^ (8 * (8 * m))) e)

-- c bits of z from x^q on, which is byte i from x^p on
pub next-bits : (z p q i c v : ℕ) → q ≡ p + 8 * i → v ≡ z / 2 ^ q % 2 ^ c → v ≡ z / 2 ^ p / 2 ^ (8 * i) % 2 ^ c
next-bits z p q i c v h e = e ∙ ap (λ (n : ℕ). n % 2 ^ c) (ap (λ (n : ℕ). z / 2 ^ n) h ∙ sym (shr-shr z p (8 * i)))

-- ---- y added in parts, from byte 0 on
pub all-law : (a₀ a y m n : ℕ) → m ≡ n → a ≡ xor a₀ (y / 1 % 2 ^ (8 * m) * 1) → a ≡ xor a₀ (y % 2 ^ (8 * n))
all-law a₀ a y m n h e = e ∙ ap (xor a₀) (mul-one (y / 1 % 2 ^ (8 * m)) ∙ ap₂ (λ (x k : ℕ). x % 2 ^ (8 * k)) (div-one y) h)

part-law : (a₀ a a' y i j n v : ℕ) → i + j ≡ n → a ≡ xor a₀ (y % 2 ^ (8 * i)) → v ≡ y / 2 ^ (8 * i) % 2 ^ (8 * j)
    → a' ≡ xor a (v * 2 ^ (8 * i)) → a' ≡ xor a₀ (y % 2 ^ (8 * n))
part-law a₀ a a' y i j n v h e d f =
    bytes-law a₀ a a' 0 y i j n v h (e ∙ ap (xor a₀) (sym (mul-one (y % 2 ^ (8 * i))))) d (rw zero-add f)
    ∙ ap (xor a₀) (mul-one (y % 2 ^ (8 * n)))

-- x as it stands: j bytes, and the k that are left
pub low-law : (x r j k n a₀ a₁ a₂ : ℕ) → r ≡ 8 * j → j + k ≡ n → a₁ ≡ xor a₀ (x % 2 ^ (8 * j))
    → a₂ ≡ xor a₁ (x * 1 / 2 ^ r % 2 ^ (8 * k) * 2 ^ (8 * j)) → a₂ ≡ xor a₀ (x % 2 ^ (8 * n))
low-law x r j k n a₀ a₁ a₂ f g e₁ e₂ = part-law a₀ a₁ a₂ x j k n _ g e₁ (ap₂ (λ (y m : ℕ). y / 2 ^ m % 2 ^ (8 * k)) (mul-one x) f) e₂

-- a number of l bytes is the same, cut to n or to m
pub same-cut : (x l n m : ℕ) → x < 2 ^ (8 * l) → l ≤ n → l ≤ m → x % 2 ^ (8 * n) ≡ x % 2 ^ (8 * m)
same-cut x l n m h a b =
    mod-eq_of_lt (lt_of_lt_of_le h (pow_mono {i = 8 * l} {j = 8 * n} (omega arith)))
    ∙ sym (mod-eq_of_lt (lt_of_lt_of_le h (pow_mono {i = 8 * l} {j = 8 * m} (omega arith))))

pub up_none : (a₀ a x s n : ℕ) → s ≡ 0 → a ≡ xor a₀ (x % 2 ^ n) → a ≡ xor a₀ (x * 2 ^ s % 2 ^ n)
up_none a₀ a x s n z e = e ∙ ap (λ (y : ℕ). xor a₀ (y % 2 ^ n)) (sym (ap (λ (k : ℕ). x * 2 ^ k) z ∙ mul-one x))

-- x moved up by s: i bytes, j bytes that begin with x's bit p, and the k that are left
pub up-law : (x s p i j k n a₀ a₁ a₂ a₃ : ℕ) → s + p ≡ 8 * i → i + j + k ≡ n → a₁ ≡ xor a₀ (x * 2 ^ s / 1 % 2 ^ (8 * i) * 1)
    → a₂ ≡ xor a₁ (x / 2 ^ p % 2 ^ (8 * j) * 2 ^ (8 * i))
    → a₃ ≡ xor a₂ (x * 2 ^ s / 2 ^ (8 * (i + j)) % 2 ^ (8 * k) * 2 ^ (8 * (i + j))) → a₃ ≡ xor a₀ (x * 2 ^ s % 2 ^ (8 * n))
up-law x s p i j k n a₀ a₁ a₂ a₃ h g e₁ e₂ e₃ =
    part-law a₀ a₂ a₃ (x * 2 ^ s) (i + j) k n _ g
    (part-law a₀ a₁ a₂ (x * 2 ^ s) i j (i + j) _ refl (all-law a₀ a₁ (x * 2 ^ s) i i refl e₁)
    (ap (λ (m : ℕ). m % 2 ^ (8 * j)) (sym (up-down x s (8 * i) (omega arith) ∙ ap (λ (m : ℕ). x / 2 ^ m) q))) e₂)
    refl e₃
  where
    q : 8 * i - s ≡ p
    q = omega arith

-- x moved down by w: j bytes, and the k that are left
pub down-law : (x w q r j k n a₁ a₂ : ℕ) → q ≡ w → r ≡ w + 8 * j → j + k ≡ n → a₁ ≡ xor 0 (x / 2 ^ q % 2 ^ (8 * j) * 1)
    → a₂ ≡ xor a₁ (x * 1 / 2 ^ r % 2 ^ (8 * k) * 2 ^ (8 * j)) → a₂ ≡ x / 2 ^ w % 2 ^ (8 * n)
down-law x w q r j k n a₁ a₂ f h g e₁ e₂ =
    part-law 0 a₁ a₂ (x / 2 ^ w) j k n _ g (e₁ ∙ ap (xor 0) (mul-one (x / 2 ^ q % 2 ^ (8 * j)) ∙ ap (λ (m : ℕ). x / 2 ^ m % 2 ^ (8 * j)) f))
    (next-bits x w r j (8 * k) _ h (ap (λ (m : ℕ). m / 2 ^ r % 2 ^ (8 * k)) (mul-one x))) e₂
    ∙ xor_zero_l (x / 2 ^ w % 2 ^ (8 * n))

-- ---- bytes of v from byte `at` on: i bytes are reached, and u is left
pub record Adding (l₀ l : List ℕ) (at v i u : ℕ) : Type 0 where
  pub same : length l ≡ length l₀
  pub within : i ≤ length l
  pub left : u < 2 ^ (8 * (length l - i))
  pub done : xor (value 8 l) (u * 2 ^ (8 * i)) ≡ xor (value 8 l₀) (v * 2 ^ (8 * at))

pub adding-start : (l : List ℕ) (at v : ℕ) → at ≤ length l → v < 2 ^ (8 * (length l - at)) → Adding l l at v at v
adding-start l at v h b = record { same = refl; within = h; left = b; done = refl }

-- something is left, so that a byte is there for it
pub adding-in : (l₀ l : List ℕ) (at v i u : ℕ) → (u ≡ 0 → ⊥) → Adding l₀ l at v i u → i < length l
adding-in l₀ l at v i u z p = go (length l - i) refl
  where
    go : (n : ℕ) → length l - i ≡ n → i < length l
    go zero e =
        let o : u < 1 = rw e at p.left in
        absurd (z (omega arith))
    go (suc n) e = omega arith

pub adding-turn : (l₀ l : List ℕ) (at v i u : ℕ) → Bounded 8 l → (u ≡ 0 → ⊥) → Adding l₀ l at v i u
    → Adding l₀ (set l i (bit_xor (get_or l i 0) (u % 256))) at v (i + 1) (u / 256)
adding-turn l₀ l at v i u b z p =
    let h = adding-in l₀ l at v i u z p in
    record {
      same = length-set l i _ ∙ p.same;
      within = simp length-set (omega arith);
      left = simp length-set (shr_lt (8 * (length l - (i + 1))) 8 (rw (room h) p.left));
      done =
          ap₂ xor (ap (λ (x : ℕ). value 8 (set l i x)) (xor_is (get_or l i 0) (u % 256)) ∙ set-xor 8 l b i (u % 256) h (mod-lt u (pow_pos 8)))
          (up-bytes (u / 256) i 1)
          ∙ xor_assoc (value 8 l) (u % 256 * 2 ^ (8 * i)) (u / 256 * 256 * 2 ^ (8 * i))
          ∙ ap (xor (value 8 l)) (sym (xor-shl (8 * i) (u % 256) (u / 256 * 256))
          ∙ ap (λ (x : ℕ). x * 2 ^ (8 * i))
          (xor_comm (u % 256) (u / 256 * 256) ∙ sym (join (u / 256) 8 (u % 256) (mod-lt u (pow_pos 8))) ∙ split u 8))
          ∙ p.done;
    }
  where
    room : i < length l → 8 * (length l - (i + 1)) + 8 ≡ 8 * (length l - i)
    room h = omega arith

pub adding-done : (l₀ l : List ℕ) (at v i u : ℕ) → u ≡ 0 → Adding l₀ l at v i u → value 8 l ≡ xor (value 8 l₀) (v * 2 ^ (8 * at))
adding-done l₀ l at v i u z p = sym (ap (xor (value 8 l)) (rw z (zero-mul (2 ^ (8 * i)))) ∙ xor_zero_r (value 8 l)) ∙ p.done
