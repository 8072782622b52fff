-- The BCH bound: a binary word of n bits with at most t ones, that vanishes at α, α², .., α^t, for an α of order at least n, is zero.
--   weight c       the number of ones of c
--   ones F α n c p the ones of c among its n lowest bits as Vandermonde's pairs (p α^k, p α^k)
use Rattle.std.specs.Prelude.{◌≡◌, ◌≢◌, List, [], ◌∷◌, ℕ, zero, suc, ◌+◌, ◌/◌, ◌%◌, ◌^◌, ◌≤◌, ◌<◌, length}
use Rattle.std.proofs.Math.Path.{refl}
use Rattle.std.proofs.Common.{sym, ap, ◌∙◌, zero-le, suc-le-suc, arith}
use Rattle.std.proofs.Math.Nat as N
use Rattle.std.proofs.Math.Arith.{lt-one}
use Rattle.polynomial.specs.Bits.{fold, fold_step, half_lt}
use Rattle.polynomial.specs.Sums.{All}
use Rattle.polynomial.specs.Xor.{bit-ind, halves}
use Rattle.field.specs.Eval.{eval, eval-eq, eval-zero, bit, bit0, bit1}
use Rattle.field.specs.Field.{Field2, ring, add-self, mul_comm, mul-one, mul-add, mul-zero}
use Rattle.field.specs.Field.{add-eq-zero, mul-eq-zero, pow, pow-zero, pow-suc, mul-pow}
use Rattle.field.specs.Vandermonde.{Distinct, sum, sum-nil, sum-cons, vandermonde}

-- the number of ones
weight-step : ℕ → ℕ → ℕ
weight-step c r = c % 2 + r

unfoldable pub weight : ℕ → ℕ
unfolding fold weight-step
weight c = fold 0 weight-step c

pub weight-zero : weight 0 ≡ 0
unfolding weight
weight-zero = refl

pub weight-eq : (c : ℕ) → weight c ≡ c % 2 + weight (c / 2)
unfolding weight weight-step
weight-eq c = fold_step 0 weight-step refl c

module _ (F : Field2) where
  open F use {K, 𝟘, 𝟙, ◌⊕◌, ◌⊗◌, one≢zero}

  infixl 65 ◌⊕◌
  infixl 70 ◌⊗◌
  -- the ones of c, each as a node with itself as weight; p stands for the lowest bit
  abbrev add-one-of : ℕ → K → List (K × K) → List (K × K)
  add-one-of zero p l = l
  add-one-of (suc b) p l = (p, p) ∷ l

  module _ (α : K) where
    unfoldable pub ones : ℕ → ℕ → K → List (K × K)
    ones zero c p = []
    ones (suc n) c p = add-one-of (c % 2) p (ones n (c / 2) (p ⊗ α))

    ones-zero : (c : ℕ) (p : K) → ones zero c p ≡ []
    unfolding ones
    ones-zero c p = refl

    ones-suc : (n c : ℕ) (p : K) → ones (suc n) c p ≡ add-one-of (c % 2) p (ones n (c / 2) (p ⊗ α))
    unfolding ones
    ones-suc n c p = refl

    sum-add : (b j : ℕ) (p : K) (l : List (K × K)) → b < 2 → sum F (add-one-of b p l) j ≡ bit F b ⊗ pow F p (suc j) ⊕ sum F l j
    sum-add b j p l h =
        bit-ind (λ (b : ℕ). sum F (add-one-of b p l) j ≡ bit F b ⊗ pow F p (suc j) ⊕ sum F l j)
        (simp (bit0, ring)) (simp (sum-cons, bit1, pow-suc, ring)) b h

    sum_ones : (n c j : ℕ) (p : K) → c < 2 ^ n → sum F (ones n c p) j ≡ pow F p (suc j) ⊗ eval F c (pow F α (suc j))
    sum_ones zero c j p h = rw (ones-zero, lt-one h) (simp (sum-nil, eval-zero, ring))
    sum_ones (suc n) c j p h =
        rw (
          ones-suc n c p,
          sum-add (c % 2) j p (ones n (c / 2) (p ⊗ α)) (omega arith),
          sum_ones n (c / 2) j (p ⊗ α) (half_lt c n h),
          eval-eq F c (pow F α (suc j)),
        )
        (simp (mul-pow, ring))

    length-add : (b : ℕ) (p : K) (l : List (K × K)) → b < 2 → length (add-one-of b p l) ≡ b + length l
    length-add b p l h = bit-ind (λ (b : ℕ). length (add-one-of b p l) ≡ b + length l) (omega arith) (omega arith) b h

    length-ones : (n c : ℕ) (p : K) → c < 2 ^ n → length (ones n c p) ≡ weight c
    length-ones zero c p h = rw (ones-zero, lt-one h) (sym weight-zero)
    length-ones (suc n) c p h =
        rw (ones-suc n c p, length-add (c % 2) p (ones n (c / 2) (p ⊗ α)) (omega arith), length-ones n (c / 2) (p ⊗ α) (half_lt c n h))
        (sym (weight-eq c))

    nonzero : (x y : K) → x ≢ 𝟘 → y ≢ 𝟘 → x ⊗ y ≢ 𝟘
    nonzero x y hx hy e = hx (mul-eq-zero F x y e hy)

    all-add : (P : K × K → Type 0) (b : ℕ) (p : K) (l : List (K × K)) → P (p, p) → All P l → All P (add-one-of b p l)
    all-add P zero p l h a = a
    all-add P (suc b) p l h a = (h, a)

    none-add : (P : K × K → Type 0) (b : ℕ) (p : K) (l : List (K × K)) → (P (p, p) → ⊥) → All P (add-one-of b p l) → (b ≡ 0) × All P l
    none-add P zero p l h a = (refl, a)
    none-add P (suc b) p l h a = absurd (h a.0)

    distinct-add : (b : ℕ) (p : K) (l : List (K × K)) → All (λ q. q.0 ≢ p) l → Distinct F l → Distinct F (add-one-of b p l)
    distinct-add zero p l h d = d
    distinct-add (suc b) p l h d = (h, d)

    pow-next : (p : K) (s : ℕ) → p ⊗ pow F α s ⊗ α ≡ p ⊗ pow F α (suc s)
    pow-next p s = simp (pow-suc, ring)

    pow-first : (p : K) → p ⊗ α ≡ p ⊗ pow F α 1
    pow-first p = sym (ap (λ (x : K). p ⊗ x) (pow-suc F α zero ∙ rw (pow-zero F α) (mul-one F α)))

    module _ (α0 : α ≢ 𝟘) where
      -- all weights zero: no ones
      none : (n c : ℕ) (p : K) → p ≢ 𝟘 → c < 2 ^ n → All (λ q. q.1 ≡ 𝟘) (ones n c p) → c ≡ 0
      none zero c p p0 h a = lt-one h
      none (suc n) c p p0 h a =
          let w : (c % 2 ≡ 0) × All (λ q. q.1 ≡ 𝟘) (ones n (c / 2) (p ⊗ α)) =
          none-add (λ q. q.1 ≡ 𝟘) (c % 2) p (ones n (c / 2) (p ⊗ α)) p0 (rw (ones-suc n c p) at a) in
          halves (none n (c / 2) (p ⊗ α) (nonzero p α p0 α0) (half_lt c n h) w.1) w.0

      module _ (n : ℕ) (order : (i : ℕ) → 0 < i → i < n → pow F α i ≢ 𝟙) where
        -- p (α^i + 1) = 0
        ne : (p : K) → p ≢ 𝟘 → (i : ℕ) → 0 < i → i < n → p ⊗ pow F α i ≢ p
        ne p p0 i h l e =
            order i h l (add-eq-zero F (pow F α i) 𝟙
            (mul-eq-zero F (pow F α i ⊕ 𝟙) p
            (mul_comm F (pow F α i ⊕ 𝟙) p ∙ mul-add F p (pow F α i) 𝟙 ∙ rw (e, mul-one F p) (add-self F p)) p0))

        all-ne : (m c s : ℕ) (p : K) → p ≢ 𝟘 → 0 < s → s + m ≤ n → All (λ q. q.0 ≢ p) (ones m c (p ⊗ pow F α s))
        all-ne zero c s p p0 hs h = rw (ones-zero c (p ⊗ pow F α s)) tt
        all-ne (suc m) c s p p0 hs h =
            rw (ones-suc m c (p ⊗ pow F α s), pow-next p s)
            (all-add (λ q. q.0 ≢ p) (c % 2) (p ⊗ pow F α s) (ones m (c / 2) (p ⊗ pow F α (suc s))) (ne p p0 s hs (omega arith))
            (all-ne m (c / 2) (suc s) p p0 (suc-le-suc zero-le) (omega arith)))

        distinct : (m c : ℕ) (p : K) → p ≢ 𝟘 → m ≤ n → Distinct F (ones m c p)
        distinct zero c p p0 h = rw (ones-zero c p) tt
        distinct (suc m) c p p0 h =
            rw (ones-suc m c p)
            (distinct-add (c % 2) p (ones m (c / 2) (p ⊗ α)) (rw (pow-first p) (all-ne m (c / 2) 1 p p0 (suc-le-suc zero-le) (omega arith)))
            (distinct m (c / 2) (p ⊗ α) (nonzero p α p0 α0) (omega arith)))

        -- THE THEOREM
        pub bch : (t c : ℕ) → c < 2 ^ n → weight c ≤ t → ((j : ℕ) → j < t → eval F c (pow F α (suc j)) ≡ 𝟘) → c ≡ 0
        bch t c h w v =
            none n c 𝟙 one≢zero h (vandermonde F (ones n c 𝟙) (distinct n c 𝟙 one≢zero (omega arith))
            (λ j l. sum_ones n c j 𝟙 h ∙ rw (v j (omega (arith, length-ones n c 𝟙 h))) (mul-zero F (pow F 𝟙 (suc j)))))
