-- The fields GF(2^q) with an element α of order n = 2^q - 1, as one record: everything later is shown over it.
--   BinaryField       the record: field, its size 2^q = n + 1, its polynomial, elements as numbers (num), and α, the class of x
--   passes g q        the computed test of a field polynomial g of degree q; make turns it into the field
--   Known q           q is 4, 8 or 12
--   field_polynomial q 19, 285 and 4179: the field polynomial of q = 4, 8 and 12
--   field_of q         the field of q
use Rattle.std.specs.Prelude.{◌≡◌, refl, ◌≢◌, ◌⊎◌, Bool, true, false, ◌&&◌, ℕ, zero, suc, ◌+◌, ◌-◌, ◌*◌, ◌/◌, ◌^◌, ◌≤◌, ◌<◌, T, eqb, ltb}
use Rattle.std.proofs.Common.{sym, ap, ◌∙◌, inl, inr, not-suc-le-zero, suc-add, add-suc, eq-or-lt_of_le, arith, eqb→eq, ltb→lt, pow_mono}
use Rattle.std.proofs.Math.Nat as N
use Rattle.std.proofs.Math.Dec.{eqb_refl}
use Rattle.std.proofs.Math.Pow.{suc_ones}
use Rattle.polynomial.specs.Clmul.{clmul, clmul-pow}
use Rattle.polynomial.specs.Division.{Deg, rem, rem-small}
use Rattle.polynomial.specs.Xor.{xor}
use Rattle.field.specs.Extension.{El, gf, of, el-eq, lt}
use Rattle.field.specs.Field.{Field2, pow, pow-zero, pow-suc}
use Rattle.field.specs.Irreducible.{NoFactor, test, test-is, no-half, both}

pub record BinaryField : Type 1 where
  -- the field, its size 2^q = n + 1, and the polynomial by which its products are reduced
  pub field : Field2
  pub q : ℕ
  pub n : ℕ
  pub poly : ℕ
  pub size : 2 ^ q ≡ suc n
  pub degree : Deg poly q
  -- an element as a number: bit k is the coefficient of x^k
  pub num : field.K → ℕ
  pub num-lt : (a : field.K) → num a < 2 ^ q
  pub num-inj : (a b : field.K) → num a ≡ num b → a ≡ b
  pub num-zero : num field.𝟘 ≡ 0
  pub num-one : num field.𝟙 ≡ 1
  pub num-add : (a b : field.K) → num (field.◌⊕◌ a b) ≡ xor (num a) (num b)
  pub num-mul : (a b : field.K) → num (field.◌⊗◌ a b) ≡ rem poly q (clmul (num a) (num b))
  -- the class of x, and its order
  pub α : field.K
  pub num-α : num α ≡ 2
  pub whole : pow field α n ≡ field.𝟙
  pub order : (i : ℕ) → 0 < i → i < n → pow field α i ≢ field.𝟙

-- ---- the computed test of an order: of x, x*2, x*4, .. the first m are not 1, and the next is
unfoldable pub cycle : ℕ → ℕ → ℕ → ℕ → Bool
unfolding rem
cycle g k zero x = eqb x 1
cycle g k (suc m) x = elim (eqb x 1) [ true ↦ false | false ↦ cycle g k m (rem g k (x * 2)) ]

pub cycle-zero : (g k x : ℕ) → T (cycle g k zero x) → x ≡ 1
unfolding cycle
cycle-zero g k x t = eqb→eq x 1 t

abbrev Step : ℕ → Bool → Bool → Type 0
Step x b r = T (elim b [ true ↦ false | false ↦ r ])

step : (x : ℕ) (b r : Bool) → (x ≡ 1 → T b) → Step x b r → (x ≢ 1) × T r
step x true r h t = absurd t
step x false r h t = (h, t)

pub cycle-suc : (g k m x : ℕ) → T (cycle g k (suc m) x) → (x ≢ 1) × T (cycle g k m (rem g k (x * 2)))
unfolding cycle
cycle-suc g k m x t = step x (eqb x 1) (cycle g k m (rem g k (x * 2))) (λ e. rw e (eqb_refl 1)) t

-- ---- a field from a polynomial that passes the tests
module _ (g q n : ℕ) (d : Deg g q) (size : 2 ^ q ≡ suc n) (two : 1 < q) (nf : NoFactor g (2 ^ q)) where
  pub pos : 0 < q
  pos = omega arith

  abbrev pub F : Field2
  F = gf g q d pos nf

  pub two-lt : 2 < 2 ^ q
  two-lt = omega (arith, pow_mono {i = 2} two)

  abbrev pub x : El q
  x = of g q d pos nf 2 two-lt

  next : (i : ℕ) → (pow F x (suc i)).0 ≡ rem g q ((pow F x i).0 * 2)
  next i = ap (λ (a : El q). a.0) (pow-suc F x i) ∙ ap (rem g q) (clmul-pow 1 (pow F x i).0)

  first : (pow F x 1).0 ≡ 2
  first = next 0 ∙ rw (pow-zero F x) (rem-small g q d 2 two-lt)

  pub end : (m i : ℕ) → T (cycle g q m (pow F x i).0) → (pow F x (i + m)).0 ≡ 1
  end zero i t = rw N.add-zero (cycle-zero g q (pow F x i).0 t)
  end (suc m) i t = rw (add-suc i m, ← suc-add i m) (end m (suc i) (rw (next i) (cycle-suc g q m (pow F x i).0 t).1))

  pub before : (m i j : ℕ) → T (cycle g q m (pow F x i).0) → i ≤ j → j < i + m → (pow F x j).0 ≢ 1
  before zero i j t h l = absurd (not-suc-le-zero {n = 0} (omega arith))
  before (suc m) i j t h l =
      go (λ k. before m (suc i) j (rw (next i) (cycle-suc g q m (pow F x i).0 t).1) k (omega arith)) (eq-or-lt_of_le h)
    where
      go : (i < j → (pow F x j).0 ≢ 1) → (i ≡ j) ⊎ (i < j) → (pow F x j).0 ≢ 1
      go ih (inl e) = rw (← e) (cycle-suc g q m (pow F x i).0 t).0
      go ih (inr k) = ih k

  module _ (t : T (cycle g q (n - 1) 2)) where
    pub t1 : T (cycle g q (n - 1) (pow F x 1).0)
    t1 = rw first t

    pub big : 0 < n
    big = omega (arith, two-lt)

    abbrev pub binary : BinaryField
    binary = record {
      field = F;
      q = q;
      n = n;
      poly = g;
      size = size;
      degree = d;
      num = λ a. a.0;
      num-lt = λ a. lt g q d pos nf a;
      num-inj = λ a b e. el-eq g q d pos nf e;
      num-zero = refl;
      num-one = refl;
      num-add = λ a b. refl;
      num-mul = λ a b. refl;
      α = x;
      num-α = refl;
      whole = el-eq g q d pos nf (rw (N.add-sub_of_le big) at (end (n - 1) 1 t1));
      order = λ i h l e. before (n - 1) 1 i t1 h (omega (arith, big)) (ap (λ (a : El q). a.0) e);
    }

-- ---- the computed test of a field polynomial g of degree q: no factor of up to half the degree, and x has order 2^q - 1
unfoldable pub passes : ℕ → ℕ → Bool
unfolding test cycle
passes g q = eqb (g / 2 ^ q) 1 && ltb 1 q && test g (2 ^ (q / 2 + 1)) && cycle g q (2 ^ q - 1 - 1) 2

pub record Passed (g q : ℕ) : Type 0 where
  pub degree : Deg g q
  pub two : 1 < q
  pub factors : T (test g (2 ^ (q / 2 + 1)))
  pub order : T (cycle g q (2 ^ q - 1 - 1) 2)

pub passes-is : (g q : ℕ) → T (passes g q) → Passed g q
unfolding passes
passes-is g q t =
    let c = both (eqb (g / 2 ^ q) 1 && ltb 1 q && test g (2 ^ (q / 2 + 1))) (cycle g q (2 ^ q - 1 - 1) 2) t in
    let b = both (eqb (g / 2 ^ q) 1 && ltb 1 q) (test g (2 ^ (q / 2 + 1))) c.0 in
    let a = both (eqb (g / 2 ^ q) 1) (ltb 1 q) b.0 in
    record { degree = eqb→eq (g / 2 ^ q) 1 a.0; two = ltb→lt 1 q a.1; factors = b.1; order = c.1 }

pub irreducible : (g q : ℕ) → Passed g q → NoFactor g (2 ^ q)
irreducible g q p = no-half g q (q / 2 + 1) p.degree (omega arith) (test-is g (2 ^ (q / 2 + 1)) p.factors)

abbrev pub make : (g q : ℕ) → Passed g q → BinaryField
make g q p = binary g q (2 ^ q - 1) p.degree (sym (suc_ones q)) p.two (irreducible g q p) p.order

-- ---- the three fields of the code: a table from q to polynomial and exponent, read by the tests q = 4 and q = 8
abbrev pub Known : ℕ → Type 0
Known q = (q ≡ 4) ⊎ ((q ≡ 8) ⊎ (q ≡ 12))

-- what holds at 4, 8 and 12 holds at q
pub by-known : (P : ℕ → Type 0) → P 4 → P 8 → P 12 → (q : ℕ) → Known q → P q
by-known P a b c q (inl e) = rw e a
by-known P a b c q (inr (inl e)) = rw e b
by-known P a b c q (inr (inr e)) = rw e c

abbrev pub polynomial_by : Bool → Bool → ℕ
polynomial_by true b = 19
polynomial_by false true = 285
polynomial_by false false = 4179

abbrev pub exponent_by : Bool → Bool → ℕ
exponent_by true b = 4
exponent_by false true = 8
exponent_by false false = 12

unfoldable pub field_polynomial : ℕ → ℕ
field_polynomial q = polynomial_by (eqb q 4) (eqb q 8)

tested : (a b : Bool) → T (passes (polynomial_by a b) (exponent_by a b))
unfolding passes
tested true b = tt
tested false true = tt
tested false false = tt

pub passed : (a b : Bool) → Passed (polynomial_by a b) (exponent_by a b)
passed a b = passes-is (polynomial_by a b) (exponent_by a b) (tested a b)

-- for another q than 4, 8 and 12 it is that of 12: no definition is stuck there
unfoldable pub field_of : ℕ → BinaryField
field_of q = make (polynomial_by (eqb q 4) (eqb q 8)) (exponent_by (eqb q 4) (eqb q 8)) (passed (eqb q 4) (eqb q 8))

pub field_of-polynomial : (q : ℕ) → (field_of q).poly ≡ field_polynomial q
unfolding field_of field_polynomial
field_of-polynomial q = refl

pub field_of-exponent : (q : ℕ) → Known q → (field_of q).q ≡ q
unfolding field_of
field_of-exponent = by-known (λ q. (field_of q).q ≡ q) refl refl refl

pub field_of-length : (q : ℕ) → Known q → (field_of q).n ≡ 2 ^ q - 1
field_of-length q h = omega (arith, rw (field_of-exponent q h) at (field_of q).size)

-- the field polynomial has degree q and no factor
pub polynomial-degree : (q : ℕ) → Known q → Deg (field_polynomial q) q
polynomial-degree q h = rw (field_of-polynomial q, field_of-exponent q h) at (field_of q).degree

no-factor : (q : ℕ) → NoFactor (field_polynomial q) (2 ^ (field_of q).q)
unfolding field_polynomial field_of
no-factor q = irreducible (polynomial_by (eqb q 4) (eqb q 8)) (exponent_by (eqb q 4) (eqb q 8)) (passed (eqb q 4) (eqb q 8))

pub polynomial-irreducible : (q : ℕ) → Known q → NoFactor (field_polynomial q) (2 ^ q)
polynomial-irreducible q h = rw (field_of-exponent q h) at (no-factor q)
