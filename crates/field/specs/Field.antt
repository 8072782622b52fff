-- A field of characteristic 2, as a record of its operations and laws.
--   Field2       the record: K its elements, 𝟘 𝟙 _⊕_ _⊗_ inv its operations
--   ring         the laws of a commutative ring of characteristic 2 as a set: `simp ring` decides its equations
--   pow F x k    x to the power k
use Rattle.std.specs.Prelude.{◌≡◌, ◌≢◌, ℕ, zero, suc, ◌+◌, ◌*◌}
use Rattle.std.proofs.Math.Path.{refl}
use Rattle.std.proofs.Common.{sym, ap, ap₂, ◌∙◌}
use Rattle.std.proofs.Math.Nat as Nat

pub record Field2 : Type 1 where
  infixl 65 ◌⊕◌
  infixl 70 ◌⊗◌
  pub K : Type 0
  pub 𝟘 : K
  pub 𝟙 : K
  pub ◌⊕◌ : K → K → K
  pub ◌⊗◌ : K → K → K
  pub inv : K → K
  pub ⊕-assoc : (a b c : K) → a ⊕ b ⊕ c ≡ a ⊕ (b ⊕ c)
  pub ⊕-comm : (a b : K) → a ⊕ b ≡ b ⊕ a
  pub ⊕-zero : (a : K) → a ⊕ 𝟘 ≡ a
  pub ⊕-self : (a : K) → a ⊕ a ≡ 𝟘
  pub ⊗-assoc : (a b c : K) → a ⊗ b ⊗ c ≡ a ⊗ (b ⊗ c)
  pub ⊗-comm : (a b : K) → a ⊗ b ≡ b ⊗ a
  pub ⊗-one : (a : K) → a ⊗ 𝟙 ≡ a
  pub ⊗-⊕ : (a b c : K) → a ⊗ (b ⊕ c) ≡ a ⊗ b ⊕ a ⊗ c
  pub ⊗-inv : (a : K) → a ≢ 𝟘 → a ⊗ inv a ≡ 𝟙
  pub one≢zero : 𝟙 ≢ 𝟘
  pub dec_eq : (a b : K) → Dec (a ≡ b)

module _ (F : Field2) where
  open F use {K, 𝟘, 𝟙, ◌⊕◌, ◌⊗◌, inv, ⊗-inv}

  infixl 65 ◌⊕◌
  infixl 70 ◌⊗◌
  pub add_assoc : (a b c : K) → a ⊕ b ⊕ c ≡ a ⊕ (b ⊕ c)
  add_assoc = F.⊕-assoc

  pub add_comm : (a b : K) → a ⊕ b ≡ b ⊕ a
  add_comm = F.⊕-comm

  pub add_left_comm : (a b c : K) → a ⊕ (b ⊕ c) ≡ b ⊕ (a ⊕ c)
  add_left_comm a b c = sym (add_assoc a b c) ∙ rw (add_comm a b) (add_assoc b a c)

  pub add-zero : (a : K) → a ⊕ 𝟘 ≡ a
  add-zero = F.⊕-zero

  pub zero-add : (a : K) → 𝟘 ⊕ a ≡ a
  zero-add a = add_comm 𝟘 a ∙ add-zero a

  pub add-self : (a : K) → a ⊕ a ≡ 𝟘
  add-self = F.⊕-self

  pub add-cancel : (a b : K) → a ⊕ (a ⊕ b) ≡ b
  add-cancel a b = sym (add_assoc a a b) ∙ rw (add-self a) (zero-add b)

  pub mul_assoc : (a b c : K) → a ⊗ b ⊗ c ≡ a ⊗ (b ⊗ c)
  mul_assoc = F.⊗-assoc

  pub mul_comm : (a b : K) → a ⊗ b ≡ b ⊗ a
  mul_comm = F.⊗-comm

  pub mul_left_comm : (a b c : K) → a ⊗ (b ⊗ c) ≡ b ⊗ (a ⊗ c)
  mul_left_comm a b c = sym (mul_assoc a b c) ∙ rw (mul_comm a b) (mul_assoc b a c)

  pub mul-one : (a : K) → a ⊗ 𝟙 ≡ a
  mul-one = F.⊗-one

  pub one-mul : (a : K) → 𝟙 ⊗ a ≡ a
  one-mul a = mul_comm 𝟙 a ∙ mul-one a

  pub mul-add : (a b c : K) → a ⊗ (b ⊕ c) ≡ a ⊗ b ⊕ a ⊗ c
  mul-add = F.⊗-⊕

  pub add-mul : (a b c : K) → (a ⊕ b) ⊗ c ≡ a ⊗ c ⊕ b ⊗ c
  add-mul a b c = mul_comm (a ⊕ b) c ∙ mul-add c a b ∙ ap₂ ◌⊕◌ (mul_comm c a) (mul_comm c b)

  pub mul-zero : (a : K) → a ⊗ 𝟘 ≡ 𝟘
  mul-zero a = ap (λ (x : K). a ⊗ x) (sym (add-self 𝟘)) ∙ mul-add a 𝟘 𝟘 ∙ add-self (a ⊗ 𝟘)

  pub zero-mul : (a : K) → 𝟘 ⊗ a ≡ 𝟘
  zero-mul a = mul_comm 𝟘 a ∙ mul-zero a

  -- what a commutative ring of characteristic 2 proves
  pub ruleset ring = (
    add_assoc,
    add_comm,
    add_left_comm,
    add-zero,
    zero-add,
    add-self,
    add-cancel,
    mul_assoc,
    mul_comm,
    mul_left_comm,
    mul-one,
    one-mul,
    mul-add,
    add-mul,
    mul-zero,
    zero-mul,
  )

  pub add-eq-zero : (a b : K) → a ⊕ b ≡ 𝟘 → a ≡ b
  add-eq-zero a b e = sym (add-zero a) ∙ rw (← e) (add-cancel a b)

  pub mul-eq-zero : (a b : K) → a ⊗ b ≡ 𝟘 → b ≢ 𝟘 → a ≡ 𝟘
  mul-eq-zero a b e h = sym (mul-one a) ∙ rw (← ⊗-inv b h) (sym (mul_assoc a b (inv b)) ∙ rw e (zero-mul (inv b)))

  unfoldable pub pow : K → ℕ → K
  pow x zero = 𝟙
  pow x (suc n) = x ⊗ pow x n

  pub pow-zero : (x : K) → pow x zero ≡ 𝟙
  unfolding pow
  pow-zero x = refl

  pub pow-suc : (x : K) (n : ℕ) → pow x (suc n) ≡ x ⊗ pow x n
  unfolding pow
  pow-suc x n = refl

  -- ---- powers
  pub pow-add : (x : K) (i j : ℕ) → pow x (i + j) ≡ pow x i ⊗ pow x j
  pow-add x zero j = simp (Nat.zero-add, pow-zero, ring)
  pow-add x (suc i) j = simp (Nat.suc-add, pow-suc, pow-add x i j, ring)

  pub pow-mul : (x : K) (i j : ℕ) → pow x (i * j) ≡ pow (pow x i) j
  pow-mul x i zero = simp (Nat.mul-zero, pow-zero)
  pow-mul x i (suc j) = simp (Nat.mul-suc, pow-add, pow-suc, pow-mul x i j, ring)

  pub mul-pow : (x y : K) (j : ℕ) → pow (x ⊗ y) j ≡ pow x j ⊗ pow y j
  mul-pow x y zero = simp (pow-zero, ring)
  mul-pow x y (suc j) = simp (pow-suc, mul-pow x y j, ring)

  pub pow-one : (j : ℕ) → pow 𝟙 j ≡ 𝟙
  pow-one zero = pow-zero 𝟙
  pow-one (suc j) = simp (pow-suc, pow-one j, ring)

  pub pow-swap : (x : K) (i j : ℕ) → pow (pow x i) j ≡ pow (pow x j) i
  pow-swap x i j = sym (pow-mul x i j) ∙ rw (Nat.mul_comm i j) (pow-mul x j i)

  pub pow≢zero : (x : K) → x ≢ 𝟘 → (j : ℕ) → pow x j ≢ 𝟘
  pow≢zero x h zero e = F.one≢zero (sym (pow-zero x) ∙ e)
  pow≢zero x h (suc j) e = h (mul-eq-zero x (pow x j) (sym (pow-suc x j) ∙ e) (pow≢zero x h j))

  pub cancel : (x y : K) → x ≢ 𝟘 → x ⊗ y ≡ x → y ≡ 𝟙
  cancel x y h e = add-eq-zero y 𝟙 (mul-eq-zero (y ⊕ 𝟙) x (mul_comm (y ⊕ 𝟙) x ∙ mul-add x y 𝟙 ∙ rw (e, mul-one x) (add-self x)) h)
