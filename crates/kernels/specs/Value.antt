-- Laws of `value` (polynomial.specs.Digits) on lists that are cut, written and added in place.
--   Bounded w l    each element of l is a digit of w bits
use Rattle.std.specs.Prelude.{◌≡◌, List, [], ◌∷◌, ◌++◌, ℕ, zero, suc, ◌+◌, ◌*◌, ◌/◌, ◌%◌, ◌^◌, ◌≤◌, ◌<◌, length, get_or, take, drop, set}
use Rattle.std.proofs.Math.Path.{refl}
use Rattle.std.proofs.Common.{sym, ap, ap₂, ◌∙◌, zero-le, suc-le-suc, add-zero, zero-add, zero-mul, mul-one, mul-zero, mul_assoc, add-mul, add_assoc, add_comm, not-suc-le-zero, le_of_suc-le-suc, mul-suc, div-one, add-one, one-add, arith, take-append-drop, pow_pos, pow-add, shr-shr, take-suc-set, take-suc, length-take-le, drop-drop, get_or-drop, drop-set-lt}
use Rattle.std.proofs.Math.Nat.{pow-zero}
use Rattle.std.proofs.Math.Arith.{digits_lt, digits_div}
use Rattle.std.specs.Int.Bits.{bit_xor}
use Rattle.std.proofs.Math.Pow.{low}
use Rattle.polynomial.specs.Digits.{value}
use Rattle.polynomial.specs.Sums.{All, at_all}
use Rattle.polynomial.specs.Xor.{xor, xors, xor_is, xor_zero_r}
use Rattle.kernels.specs.Shift.{join, xor_block}

module _ (w : ℕ) where
  abbrev pub Bounded : List ℕ → Type 0
  Bounded l = (i : ℕ) → get_or l i 0 < 2 ^ w

  pub bounded-all : (l : List ℕ) → Bounded l → All (λ d. d < 2 ^ w) l
  bounded-all l b = at_all (λ d. d < 2 ^ w) l (λ i h. b i)

  pub bounded-take : (l : List ℕ) → Bounded l → (i : ℕ) → Bounded (take i l)
  bounded-take [] b zero n = b n
  bounded-take [] b (suc i) n = b n
  bounded-take (x ∷ l) b zero n = pow_pos w
  bounded-take (x ∷ l) b (suc i) zero = b 0
  bounded-take (x ∷ l) b (suc i) (suc n) = bounded-take l (λ j. b (suc j)) i n

  pub bounded-drop : (l : List ℕ) → Bounded l → (i : ℕ) → Bounded (drop i l)
  bounded-drop l b i n = rw (get_or-drop i l n 0) (b (i + n))

  pub bounded-set : (l : List ℕ) → Bounded l → (i v : ℕ) → v < 2 ^ w → Bounded (set l i v)
  bounded-set [] b i v h n = b n
  bounded-set (x ∷ l) b zero v h zero = h
  bounded-set (x ∷ l) b zero v h (suc n) = b (suc n)
  bounded-set (x ∷ l) b (suc i) v h zero = b 0
  bounded-set (x ∷ l) b (suc i) v h (suc n) = bounded-set l (λ j. b (suc j)) i v h n

  -- ---- lists put together and cut
  pub value-nil : value w [] ≡ 0
  unfolding value
  value-nil = refl

  pub value-cons : (x : ℕ) (l : List ℕ) → value w (x ∷ l) ≡ value w l * 2 ^ w + x
  unfolding value
  value-cons x l = refl

  value-one : (x : ℕ) → value w (x ∷ []) ≡ x
  value-one x = value-cons x [] ∙ rw (value-nil, zero-mul) (zero-add x)

  pow-next : (n : ℕ) → 2 ^ (w * suc n) ≡ 2 ^ (w * n) * 2 ^ w
  pow-next n = rw (mul-suc w n) (pow-add 2 (w * n) w)

  pub value-append : (l m : List ℕ) → value w (l ++ m) ≡ value w m * 2 ^ (w * length l) + value w l
  value-append [] m = rw (mul-zero w, pow-zero, value-nil) (sym (add-zero (value w m * 1) ∙ mul-one (value w m)))
  value-append (x ∷ l) m =
      rw (value-cons x (l ++ m), value-append l m, value-cons x l, pow-next (length l)) (simp (add-mul, mul_assoc, add_assoc))

  value-snoc : (l : List ℕ) (x : ℕ) → value w (l ++ (x ∷ [])) ≡ x * 2 ^ (w * length l) + value w l
  value-snoc l x = value-append l (x ∷ []) ∙ rw (value-one x) refl

  pub value-split : (i : ℕ) (l : List ℕ) → i ≤ length l → value w l ≡ value w (drop i l) * 2 ^ (w * i) + value w (take i l)
  value-split i l h =
      ap (value w) (sym (take-append-drop i l)) ∙ value-append (take i l) (drop i l)
      ∙ ap (λ (n : ℕ). value w (drop i l) * 2 ^ (w * n) + value w (take i l)) (length-take-le i l h)

  -- one digit more
  pub take_more : (l : List ℕ) (i : ℕ) → i < length l → value w (take (i + 1) l) ≡ get_or l i 0 * 2 ^ (w * i) + value w (take i l)
  take_more l i h =
      rw (add-one, take-suc l i 0 h) (value-snoc (take i l) (get_or l i 0)
      ∙ ap (λ (n : ℕ). get_or l i 0 * 2 ^ (w * n) + value w (take i l)) (length-take-le i l (omega arith)))

  -- the same, where it has just been written
  pub take_more_set : (l : List ℕ) (i v : ℕ) → i < length l → value w (take (i + 1) (set l i v)) ≡ v * 2 ^ (w * i) + value w (take i l)
  take_more_set l i v h =
      rw (add-one, take-suc-set l i v h) (value-snoc (take i l) v
      ∙ ap (λ (n : ℕ). v * 2 ^ (w * n) + value w (take i l)) (length-take-le i l (omega arith)))

  -- ---- bounds
  pub value-lt : (l : List ℕ) → Bounded l → value w l < 2 ^ (w * length l)
  value-lt [] b = rw (value-nil, mul-zero w, pow-zero) (suc-le-suc zero-le)
  value-lt (x ∷ l) b = rw (value-cons x l, pow-next (length l)) (digits_lt (value-lt l (λ i. b (suc i))) (b 0))

  pub take-lt : (l : List ℕ) → Bounded l → (i : ℕ) → i ≤ length l → value w (take i l) < 2 ^ (w * i)
  take-lt l b i h = rw (length-take-le i l h) at (value-lt (take i l) (bounded-take l b i))

  pub take-mod : (l : List ℕ) → Bounded l → (i : ℕ) → i ≤ length l → value w (take i l) ≡ value w l % 2 ^ (w * i)
  take-mod l b i h = sym (ap (λ (n : ℕ). n % 2 ^ (w * i)) (value-split i l h) ∙ low (value w (drop i l)) (w * i) (take-lt l b i h))

  -- ---- sums
  pub take-xor : (l : List ℕ) → Bounded l → (i : ℕ) → i < length l
      → value w (take (i + 1) l) ≡ xor (get_or l i 0 * 2 ^ (w * i)) (value w (take i l))
  take-xor l b i h = take_more l i h ∙ join (get_or l i 0) (w * i) (value w (take i l)) (take-lt l b i (omega arith))

  -- one digit has x added
  pub set-xor : (l : List ℕ) → Bounded l → (i x : ℕ) → i < length l → x < 2 ^ w
      → value w (set l i (xor (get_or l i 0) x)) ≡ xor (value w l) (x * 2 ^ (w * i))
  set-xor [] b i x h hx = absurd (not-suc-le-zero h)
  set-xor (y ∷ l) b zero x h hx =
      rw (value-cons (xor y x) l, value-cons y l, mul-zero w, pow-zero, mul-one x)
      (sym (ap (xor (value w l * 2 ^ w + y)) (sym (zero-add x) ∙ ap (λ (n : ℕ). n + x) (sym (zero-mul (2 ^ w))))
      ∙ xor_block w (value w l) 0 y x (b 0) hx ∙ rw (xor_zero_r (value w l)) refl))
  set-xor (y ∷ l) b (suc i) x h hx =
      rw (value-cons y (set l i (xor (get_or l i 0) x)), value-cons y l, set-xor l (λ j. b (suc j)) i x (le_of_suc-le-suc h) hx, pow-next i)
      (sym (ap (xor (value w l * 2 ^ w + y)) (sym (mul_assoc x (2 ^ (w * i)) (2 ^ w)) ∙ sym (add-zero (x * 2 ^ (w * i) * 2 ^ w)))
      ∙ xor_block w (value w l) (x * 2 ^ (w * i)) y 0 (b 0) (pow_pos w) ∙ rw (xor_zero_r y) refl))

  -- ---- the digits from i on
  first-digit : (l : List ℕ) → value w l ≡ value w (drop 1 l) * 2 ^ w + get_or l 0 0
  first-digit [] = sym (rw (value-nil, zero-mul) refl)
  first-digit (x ∷ l) = value-cons x l

  pub drop-shr : (i : ℕ) (l : List ℕ) → Bounded l → value w l / 2 ^ (w * i) ≡ value w (drop i l)
  drop-shr zero l b = rw (mul-zero w, pow-zero) (div-one (value w l))
  drop-shr (suc i) l b =
      rw (mul-suc w i, add_comm (w * i) w) (sym (shr-shr (value w l) w (w * i))
      ∙ ap (λ (n : ℕ). n / 2 ^ (w * i)) (ap (λ (n : ℕ). n / 2 ^ w) (first-digit l) ∙ digits_div (value w (drop 1 l)) (b 0))
      ∙ drop-shr i (drop 1 l) (bounded-drop l b 1) ∙ ap (value w) (drop-drop i 1 l ∙ ap (λ (n : ℕ). drop n l) (one-add i)))

  pub digit_at : (l : List ℕ) (i : ℕ) → value w (drop i l) ≡ value w (drop (i + 1) l) * 2 ^ w + get_or l i 0
  digit_at l i =
      let z : i + 0 ≡ i = omega arith in
      first-digit (drop i l)
      ∙ ap₂ (λ (m : List ℕ) (n : ℕ). value w m * 2 ^ w + n) (drop-drop 1 i l) (get_or-drop i l 0 0 ∙ ap (λ (n : ℕ). get_or l n 0) z)

-- ---- a loop that writes from the front leaves what lies ahead
pub drop-next : (r r₀ : List ℕ) (i v : ℕ) → drop i r ≡ drop i r₀ → drop (i + 1) (set r i v) ≡ drop (i + 1) r₀
drop-next r r₀ i v e = drop-set-lt (i + 1) r i v (omega arith) ∙ sym (drop-drop 1 i r) ∙ ap (drop 1) e ∙ drop-drop 1 i r₀

pub same_at : (r r₀ : List ℕ) (i : ℕ) → drop i r ≡ drop i r₀ → get_or r i 0 ≡ get_or r₀ i 0
same_at r r₀ i e =
    let z : i + 0 ≡ i = omega arith in
    ap (λ (n : ℕ). get_or r n 0) (sym z) ∙ sym (get_or-drop i r 0 0) ∙ ap (λ (l : List ℕ). get_or l 0 0) e ∙ get_or-drop i r₀ 0 0
    ∙ ap (λ (n : ℕ). get_or r₀ n 0) z

-- ---- a digit of r has one digit added
pub add_turn : (k n : ℕ) (r A : List ℕ) (j : ℕ) → Bounded k r → Bounded k A → j < length r → j < length A
    → value k r ≡ xor n (value k (take j A))
    → value k (set r j (bit_xor (get_or r j 0) (get_or A j 0))) ≡ xor n (value k (take (j + 1) A))
add_turn k n r A j hr ha lr la e =
    ap (λ (x : ℕ). value k (set r j x)) (xor_is (get_or r j 0) (get_or A j 0))
    ∙ set-xor k r hr j (get_or A j 0) lr (ha j) ∙ rw (take-xor k A ha j la, e) (simp xors)
