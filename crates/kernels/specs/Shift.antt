-- Numbers moved up and down by bits, and sums of numbers that do not overlap. Up by k places is * 2 ^ k, down by k is / 2 ^ k.
use Rattle.std.specs.Prelude.{◌≡◌, ℕ, ◌+◌, ◌-◌, ◌*◌, ◌/◌, ◌%◌, ◌^◌, ◌≤◌, ◌<◌}
use Rattle.std.proofs.Common.{sym, ap, ap₂, ◌∙◌, mod-lt, arith, pow-add, shr-shr, shl_exact, pow_pos}
use Rattle.std.proofs.Math.Nat as Nat
use Rattle.std.specs.Int.Bits as Bits
use Rattle.std.proofs.lemmas.Nat.{shl-shr, mod-pow-add}
use Rattle.std.proofs.Math.Pow.{mod-mod-pow, split}
use Rattle.polynomial.specs.Clmul.{clmul-pow, clmul-xor-r}
use Rattle.polynomial.specs.Xor.{xor}

-- ---- sums
pub join : (a k b : ℕ) → b < 2 ^ k → a * 2 ^ k + b ≡ xor (a * 2 ^ k) b
unfolding xor
join a k b h = sym (Bits.xor_shifted a k b h)

pub xor_block : (k a b r s : ℕ) → r < 2 ^ k → s < 2 ^ k → xor (a * 2 ^ k + r) (b * 2 ^ k + s) ≡ xor a b * 2 ^ k + xor r s
unfolding xor
xor_block k a b r s = Bits.xor_block k a b r s

pub xor-shl : (k a b : ℕ) → xor a b * 2 ^ k ≡ xor (a * 2 ^ k) (b * 2 ^ k)
xor-shl k a b = sym (clmul-pow k (xor a b)) ∙ clmul-xor-r (2 ^ k) a b ∙ ap₂ xor (clmul-pow k a) (clmul-pow k b)

-- the bits from k on, and those below
pub part : (v j k : ℕ) → v % 2 ^ (j + k) ≡ xor ((v / 2 ^ k % 2 ^ j) * 2 ^ k) (v % 2 ^ k)
part v j k = mod-pow-add v j k ∙ join (v / 2 ^ k % 2 ^ j) k (v % 2 ^ k) (mod-lt v (pow_pos k))

-- ---- up by k within j + k bits
pub up-mod : (x j k : ℕ) → x * 2 ^ k % 2 ^ (j + k) ≡ x % 2 ^ j * 2 ^ k
up-mod x j k = mod-pow-add (x * 2 ^ k) j k ∙ rw (shl-shr x k, Nat.mul-mod_left x (2 ^ k)) (Nat.add-zero (x % 2 ^ j * 2 ^ k))

-- ---- up by s and then down by p
pub up-down : (x s p : ℕ) → s ≤ p → x * 2 ^ s / 2 ^ p ≡ x / 2 ^ (p - s)
up-down x s p h =
    let e : s + (p - s) ≡ p = omega arith in
    ap (λ (n : ℕ). x * 2 ^ s / 2 ^ n) (sym e) ∙ sym (shr-shr (x * 2 ^ s) s (p - s)) ∙ ap (λ (n : ℕ). n / 2 ^ (p - s)) (shl-shr x s)

pub up_up : (x s p : ℕ) → p ≤ s → x * 2 ^ s / 2 ^ p ≡ x * 2 ^ (s - p)
up_up x s p h =
    let e : (s - p) + p ≡ s = omega arith in
    ap (λ (n : ℕ). x * 2 ^ n / 2 ^ p) (sym e) ∙ ap (λ (n : ℕ). x * n / 2 ^ p) (pow-add 2 (s - p) p)
    ∙ ap (λ (n : ℕ). n / 2 ^ p) (sym (Nat.mul_assoc x (2 ^ (s - p)) (2 ^ p))) ∙ shl-shr (x * 2 ^ (s - p)) p

-- the c lowest bits of x moved up by d: all 0 where d reaches c
pub up-all : (x d c : ℕ) → c ≤ d → x * 2 ^ d % 2 ^ c ≡ 0
up-all x d c h =
    let e : (d - c) + c ≡ d = omega arith in
    ap (λ (n : ℕ). x * 2 ^ n % 2 ^ c) (sym e)
    ∙ ap (λ (n : ℕ). n % 2 ^ c) (ap (λ (n : ℕ). x * n) (pow-add 2 (d - c) c) ∙ sym (Nat.mul_assoc x (2 ^ (d - c)) (2 ^ c)))
    ∙ Nat.mul-mod_left (x * 2 ^ (d - c)) (2 ^ c)

-- else its c - d lowest, moved up, which fit a word
pub up-some : (x d c : ℕ) → d ≤ c → c ≤ 64 → x % 2 ^ (c - d) * 2 ^ d % 2 ^ 64 ≡ x * 2 ^ d % 2 ^ c
up-some x d c h k =
    let e : (c - d) + d ≡ c = omega arith in
    shl_exact (c - d) d 64 (mod-lt x (pow_pos (c - d))) (omega arith) ∙ sym (ap (λ (n : ℕ). x * 2 ^ d % 2 ^ n) (sym e) ∙ up-mod x (c - d) d)

-- ---- multiples of 2 ^ k
pub whole : (x k : ℕ) → x % 2 ^ k ≡ 0 → x / 2 ^ k * 2 ^ k ≡ x
whole x k z = sym (Nat.add-zero (x / 2 ^ k * 2 ^ k)) ∙ ap (λ (y : ℕ). x / 2 ^ k * 2 ^ k + y) (sym z) ∙ split x k

pub low-less : (x s k : ℕ) → k ≤ s → x % 2 ^ s ≡ 0 → x % 2 ^ k ≡ 0
low-less x s k h z =
    let e : (s - k) + k ≡ s = omega arith in
    sym (mod-mod-pow x (s - k) k) ∙ rw (e, z) (Nat.zero-mod (2 ^ k))

-- moved up by l, and a number added at place k
pub low-fed : (x u l k : ℕ) → x % 2 ^ k ≡ 0 → xor (x * 2 ^ l) (u * 2 ^ k) % 2 ^ k ≡ 0
low-fed x u l k z =
    ap (λ (y : ℕ). y % 2 ^ k) (ap (λ (y : ℕ). xor (y * 2 ^ l) (u * 2 ^ k)) (sym (whole x k z))
    ∙ ap (λ (y : ℕ). xor y (u * 2 ^ k)) (Nat.mul_right_comm (x / 2 ^ k) (2 ^ k) (2 ^ l))
    ∙ sym (xor-shl k (x / 2 ^ k * 2 ^ l) u)) ∙ Nat.mul-mod_left (xor (x / 2 ^ k * 2 ^ l) u) (2 ^ k)
