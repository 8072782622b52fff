-- The equal form: nested words by the nesting coefficients, through Newton's interpolation at each root.
--   gap F x z k      (z + 1)(z + x) .. (z + x^(k - 1))
--   form F x z k i   Newton's form of z^i, cut at k terms
--   mix F x cs z k   Σ newton l cs × gap l at x, l below k
use Rattle.std.specs.Prelude.{◌≡◌, ◌≢◌, ◌↔◌, ◌⊎◌, List, [], ◌∷◌}
use Rattle.std.proofs.Math.Path.{refl, sym, ap₂, fun_ext}
use Rattle.std.proofs.Common.{ap, ◌∙◌, inl, inr, arith}
use Prim.Native.Nat.{ℕ, zero, suc, ◌-◌, ◌*◌, ◌^◌, ◌≤◌, ◌<◌, zero-le}
use Rattle.std.proofs.Math.Nat as Nat
use Rattle.polynomial.specs.Sums.{All}
use Rattle.polynomial.specs.Xor.{xor}
use Rattle.field.specs.Eval.{eval, eval-one, eval-shift, eval_xor, eval-zero}
use Rattle.field.specs.Field.{Field2, add-eq-zero, add-zero, mul-add, mul-eq-zero}
use Rattle.field.specs.Field.{pow, pow-mul, pow-suc, pow-zero, ring, zero-add, zero-mul}
use Rattle.code.specs.declared.Parameters.{Parameters}
use Rattle.code.specs.Code.{N, nested, newton}
use Rattle.code.proofs.Distance.{Passing, pow-differ, root-apart, root-unity, root≢zero}
use Rattle.code.specs.Parameters.{len, strength}
use Rattle.code.specs.Steps.{Divides}
use Rattle.code.proofs.Steps.{N-first, N-start, N-step}
use Rattle.code.proofs.Values.{Lawful, eval-combine, eval-nested, weigh, weigh-cons, weigh-nil}

pub record EqualForm (C : Parameters) (cs : List ℕ) : Type 0 where
  pub words : All (λ c. Divides C 0 c) cs
  pub newtons : (l : ℕ) → l < C.v → Divides C (C.v - l) (newton l cs)

module _ (F : Field2) where
  open F use {K, 𝟘, 𝟙, ◌⊕◌, ◌⊗◌}

  infixl 65 ◌⊕◌
  infixl 70 ◌⊗◌
  weigh-add : (x : K) (f h : ℕ → K) (i : ℕ) (cs : List ℕ) → weigh F x (λ k. f k ⊕ h k) i cs ≡ weigh F x f i cs ⊕ weigh F x h i cs
  weigh-add x f h i [] = simp (weigh-nil, ring)
  weigh-add x f h i (c ∷ cs) = simp (weigh-cons, weigh-add x f h (suc i) cs, ring)

  weigh-scale : (x : K) (f : ℕ → K) (r : K) (i : ℕ) (cs : List ℕ) → weigh F x (λ k. f k ⊗ r) i cs ≡ weigh F x f i cs ⊗ r
  weigh-scale x f r i [] = simp (weigh-nil, ring)
  weigh-scale x f r i (c ∷ cs) =
      weigh-cons F x (λ k. f k ⊗ r) i c cs ∙ ap (λ (y : K). f i ⊗ r ⊗ eval F c x ⊕ y) (weigh-scale x f r (suc i) cs)
      ∙ simp (weigh-cons, ring)

  weigh-zero : (x : K) (i : ℕ) (cs : List ℕ) → weigh F x (λ k. 𝟘) i cs ≡ 𝟘
  weigh-zero x i [] = weigh-nil F x (λ k. 𝟘) i
  weigh-zero x i (c ∷ cs) = simp (weigh-cons, weigh-zero x (suc i) cs, ring)

  module _ (x z : K) where
    -- (z + 1)(z + x) .. (z + x^(k - 1))
    unfoldable pub gap : ℕ → K
    gap zero = 𝟙
    gap (suc k) = gap k ⊗ (z ⊕ pow F x k)

    gap-zero : gap zero ≡ 𝟙
    unfolding gap
    gap-zero = refl

    gap-suc : (k : ℕ) → gap (suc k) ≡ gap k ⊗ (z ⊕ pow F x k)
    unfolding gap
    gap-suc k = refl

    -- Newton's form of z^i, cut at k terms
    unfoldable pub form : ℕ → ℕ → K
    unfolding gap
    form zero i = 𝟘
    form (suc k) i = form k i ⊕ eval F (N i k) x ⊗ gap k

    form-zero : (i : ℕ) → form zero i ≡ 𝟘
    unfolding form
    form-zero i = refl

    form-suc : (k i : ℕ) → form (suc k) i ≡ form k i ⊕ eval F (N i k) x ⊗ gap k
    unfolding form
    form-suc k i = refl

    gap-one : gap 1 ≡ z ⊕ 𝟙
    gap-one = gap-suc zero ∙ simp (gap-zero, pow-zero, ring)

    form-one : (i : ℕ) → form 1 i ≡ 𝟙
    form-one i = form-suc zero i ∙ simp (form-zero, gap-zero, N-first, eval-one, ring)

    -- times z
    form-next-step : (k i : ℕ) → z ⊗ form (suc k) i ≡ form (suc k) (suc i) ⊕ eval F (N i k) x ⊗ gap (suc k)
        → z ⊗ form (suc (suc k)) i ≡ form (suc (suc k)) (suc i) ⊕ eval F (N i (suc k)) x ⊗ gap (suc (suc k))
    form-next-step k i ih =
        let rule : N (suc i) (suc k) ≡ xor (N i k) (N i (suc k) * 2 ^ suc k) = N-step i k in
        ap (λ (y : K). z ⊗ y) (form-suc (suc k) i) ∙ mul-add F z (form (suc k) i) (eval F (N i (suc k)) x ⊗ gap (suc k)) ∙ rw ih
        (rw (form-suc (suc k) (suc i), rule) (simp (eval_xor, eval-shift, gap-suc, ring)))

    form-next : (k i : ℕ) → z ⊗ form (suc k) i ≡ form (suc k) (suc i) ⊕ eval F (N i k) x ⊗ gap (suc k)
    form-next zero i = simp (form-one, gap-one, N-first, eval-one, ring)
    form-next (suc k) i = form-next-step k i (form-next k i)

    form-start : (k : ℕ) → form (suc k) zero ≡ 𝟙
    form-start zero = form-one zero
    form-start (suc k) = form-suc (suc k) zero ∙ simp (N-start, eval-zero, form-start k, ring)

  -- Newton: x^(l i) is the sum of N(i, k)(x) × (x^l + 1) .. (x^l + x^(k - 1)), k = 0 .. l
  pub newton-form : (x : K) (l i : ℕ) → pow F x (l * i) ≡ form x (pow F x l) (suc l) i
  newton-form x l zero = simp (Nat.mul-zero, pow-zero, form-start)
  newton-form x l (suc i) = go (newton-form x l i)
    where
      z : K
      z = pow F x l

      stop : gap x z (suc l) ≡ 𝟘
      stop = gap-suc x z l ∙ simp ring

      go : pow F x (l * i) ≡ form x z (suc l) i → pow F x (l * suc i) ≡ form x z (suc l) (suc i)
      go ih =
          pow-mul F x l (suc i) ∙ pow-suc F z i ∙ ap (λ (y : K). z ⊗ y) (sym (pow-mul F x l i) ∙ ih)
          ∙ form-next x z l i ∙ rw stop (simp ring)

  module _ (x : K) (cs : List ℕ) where
    -- the sum of newton k × gap k below k terms
    unfoldable pub mix : K → ℕ → K
    unfolding gap
    mix z zero = 𝟘
    mix z (suc k) = mix z k ⊕ eval F (newton k cs) x ⊗ gap x z k

    mix-suc : (z : K) (k : ℕ) → mix z (suc k) ≡ mix z k ⊕ eval F (newton k cs) x ⊗ gap x z k
    unfolding mix
    mix-suc z k = refl

    mix-is : (z : K) (k : ℕ) → mix z k ≡ weigh F x (form x z k) 0 cs
    unfolding mix form
    mix-is z zero = sym (weigh-zero x 0 cs)
    mix-is z (suc k) =
        ap₂ ◌⊕◌ (mix-is z k) (ap (λ (y : K). y ⊗ gap x z k) (eval-combine F x (λ i. N i k) 0 cs)
        ∙ sym (weigh-scale x (λ i. eval F (N i k) x) (gap x z k) 0 cs))
        ∙ sym (weigh-add x (form x z k) (λ i. eval F (N i k) x ⊗ gap x z k) 0 cs)

    mix-zero : (z : K) (k : ℕ) → ((l : ℕ) → l < k → eval F (newton l cs) x ≡ 𝟘) → mix z k ≡ 𝟘
    unfolding mix
    mix-zero z zero h = refl
    mix-zero z (suc k) h =
        ap₂ ◌⊕◌ (mix-zero z k (λ l b. h l (Nat.le_step b)))
        (ap (λ (y : K). y ⊗ gap x z k) (h k (Nat.le_refl (suc k))) ∙ zero-mul F (gap x z k)) ∙ add-zero F 𝟘

    module _ (C : Parameters) (pos : 0 < len C) (unity : pow F x (len C) ≡ 𝟙) where
      -- nested word l is the sum of the newton k × gap k, k = 0 .. l
      pub nested-newton : (l : ℕ) → eval F (nested C l cs) x ≡ mix (pow F x l) l ⊕ eval F (newton l cs) x ⊗ gap x (pow F x l) l
      nested-newton l =
          eval-nested F C pos x unity l cs ∙ ap (λ (f : ℕ → K). weigh F x f 0 cs) (fun_ext (newton-form x l))
          ∙ sym (mix-is (pow F x l) (suc l)) ∙ mix-suc (pow F x l) l

      pub nested-of-newton : (l : ℕ) → ((k : ℕ) → k ≤ l → eval F (newton k cs) x ≡ 𝟘) → eval F (nested C l cs) x ≡ 𝟘
      nested-of-newton l h =
          nested-newton l ∙ rw (mix-zero (pow F x l) l (λ k b. h k (Nat.le_of_suc-le b)), h l (Nat.le_refl l)) (simp ring)

      module _ (x0 : x ≢ 𝟘) (m : ℕ) (sep : (d : ℕ) → 0 < d → d < m → pow F x d ≢ 𝟙) where
        gap≢zero : (l k : ℕ) → k ≤ l → l < m → gap x (pow F x l) k ≢ 𝟘
        gap≢zero l zero h b e = F.one≢zero (sym (gap-zero x (pow F x l)) ∙ e)
        gap≢zero l (suc k) h b e =
            gap≢zero l k (Nat.le_of_suc-le h) b
            (mul-eq-zero F (gap x (pow F x l) k) (pow F x l ⊕ pow F x k) (sym (gap-suc x (pow F x l) k) ∙ e)
            (λ z.
            pow-differ F x x0 k l (Nat.le_of_suc-le h) (sep (l - k) (omega arith) (omega arith)) (add-eq-zero F (pow F x l) (pow F x k) z)))

        newton-last : (l : ℕ) → l < m → ((k : ℕ) → k < l → eval F (newton k cs) x ≡ 𝟘) → eval F (nested C l cs) x ≡ 𝟘
            → eval F (newton l cs) x ≡ 𝟘
        newton-last l b h e =
            mul-eq-zero F (eval F (newton l cs) x) (gap x (pow F x l) l)
            (sym (zero-add F (eval F (newton l cs) x ⊗ gap x (pow F x l) l)) ∙ rw (mix-zero (pow F x l) l h) at (sym (nested-newton l)) ∙ e)
            (gap≢zero l l (Nat.le_refl l) b)

        pub newton-of-nested : (l : ℕ) → l ≤ m → ((k : ℕ) → k < l → eval F (nested C k cs) x ≡ 𝟘) → (k : ℕ) → k < l
            → eval F (newton k cs) x ≡ 𝟘
        newton-of-nested zero b h k r = absurd (Nat.not-suc-le-zero r)
        newton-of-nested (suc l) b h k r =
            go (newton-of-nested l (Nat.le_of_suc-le b) (λ k r. h k (Nat.le_step r))) (Nat.eq-or-lt_of_le (Nat.le_of_suc-le-suc r))
          where
            go : ((k : ℕ) → k < l → eval F (newton k cs) x ≡ 𝟘) → (k ≡ l) ⊎ (k < l) → eval F (newton k cs) x ≡ 𝟘
            go ih (inl e) = rw e (newton-last l b ih (h l (Nat.le_refl (suc l))))
            go ih (inr q) = ih k q

module _ (F : Field2) (α : F.K) (C : Parameters) (L : Lawful F α C) (cs : List ℕ) where
  -- a root of level v - l is one of every level v - k, k ≤ l
  lower : (l k : ℕ) → l < C.v → k ≤ l → (j : ℕ) → j ≤ 2 * strength C (C.v - l) → j ≤ 2 * strength C (C.v - k)
  lower l k h r j q = omega (arith, L.rising (C.v - l) (C.v - k) (omega arith) (omega arith))

  -- the nesting coefficients' sums are multiples exactly when the nested words are
  pub newtons-of : ((l : ℕ) → l < C.v → Divides C (C.v - l) (nested C l cs)) → (l : ℕ) → l < C.v → Divides C (C.v - l) (newton l cs)
  newtons-of M l h = (L.roots (C.v - l) (omega arith) (newton l cs)).1 (λ j p q.
      newton-of-nested F (pow F α j) cs C L.pos (root-unity F α C L j) (root≢zero F α C L j) C.m
      (root-apart F α C L j p (rw Nat.sub-zero at (lower l 0 h zero-le j q))) (suc l) (omega (arith, L.shape.1))
      (λ k r. (L.roots (C.v - k) (omega arith) (nested C k cs)).0 (M k (omega arith)) j p (lower l k h (Nat.le_of_suc-le-suc r) j q)) l
      (Nat.le_refl (suc l)))

  pub nesteds-of : ((l : ℕ) → l < C.v → Divides C (C.v - l) (newton l cs)) → (l : ℕ) → l < C.v → Divides C (C.v - l) (nested C l cs)
  nesteds-of E l h = (L.roots (C.v - l) (omega arith) (nested C l cs)).1 (λ j p q.
      nested-of-newton F (pow F α j) cs C L.pos (root-unity F α C L j) l
      (λ k r. (L.roots (C.v - k) (omega arith) (newton k cs)).0 (E k (omega arith)) j p (lower l k h r j q)))

  pub member-equal : Passing C cs ↔ EqualForm C cs
  member-equal = (
    (λ M. record { words = M.words; newtons = newtons-of M.nesteds }),
    (λ E. record { words = E.words; nesteds = nesteds-of E.newtons }),
  )
