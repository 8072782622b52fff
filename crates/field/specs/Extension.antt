-- GF(2^k): the remainders by an irreducible polynomial g of degree k.
--   El k       its elements: numbers below 2^k
--   gf g k ..  the field
use Rattle.std.specs.Prelude.{◌≡◌, ◌≢◌, ◌⊎◌, ℕ, zero, ◌^◌, ◌<◌, T, ltb}
use Rattle.std.proofs.Common.{sym, ap, ◌∙◌, inl, inr, eq-zero-or-pos, arith, pow_pos, ltb→lt, lt→ltb}
use mathlib.Core.HLevel.{Σ_prop_path, Σ_prop_discrete}
use Rattle.std.proofs.Math.Decide.{ℕ_discrete}
use Rattle.std.proofs.Math.Pow.{pow-lt}
use Rattle.std.proofs.Math.Dec.{T_prop}
use Rattle.polynomial.specs.Clmul.{clmul, clmul-xor-r, clmul-one-r, clmul-comm, clmul-assoc}
use Rattle.polynomial.specs.Division.{Deg, rem, rem_lt, rem-small, rem-xor, rem-clmul-l, rem-clmul-r, xor_lt}
use Rattle.polynomial.specs.Xor.{xor, xor_zero_r, xor_self, xor_comm, xor_assoc}
use Rattle.field.specs.Field.{Field2}
use Rattle.field.specs.Irreducible.{NoFactor, inverse}

abbrev pub El : ℕ → Type 0
El k = (n : ℕ) × T (ltb n (2 ^ k))

module _ (g k : ℕ) (d : Deg g k) (pos : 0 < k) (nf : NoFactor g (2 ^ k)) where
  pub el-eq : {a b : El k} → a.0 ≡ b.0 → a ≡ b
  el-eq e = Σ_prop_path (λ n. T_prop (ltb n (2 ^ k))) e

  -- any polynomial as an element
  abbrev pub red : ℕ → El k
  red n = (rem g k n, lt→ltb (rem g k n) (2 ^ k) (rem_lt g k d n))

  pub lt : (a : El k) → a.0 < 2 ^ k
  lt a = ltb→lt a.0 (2 ^ k) a.1

  abbrev pub add : El k → El k → El k
  add a b = (xor a.0 b.0, lt→ltb (xor a.0 b.0) (2 ^ k) (xor_lt k a.0 b.0 (lt a) (lt b)))

  abbrev pub mul : El k → El k → El k
  mul a b = red (clmul a.0 b.0)

  abbrev pub of : (n : ℕ) → n < 2 ^ k → El k
  of n h = (n, lt→ltb n (2 ^ k) h)

  pub one-lt : 1 < 2 ^ k
  one-lt = pow-lt {i = 0} pos

  abbrev pub recip-of : (a : El k) → (a.0 ≡ 0) ⊎ (0 < a.0) → El k
  recip-of a (inl e) = a
  recip-of a (inr p) = red (inverse g k d nf a.0 p (lt a)).0

  recip-of-is : (a : El k) (s : (a.0 ≡ 0) ⊎ (0 < a.0)) → (a.0 ≡ 0 → ⊥) → rem g k (clmul a.0 (recip-of a s).0) ≡ 1
  recip-of-is a (inl e) h = absurd (h e)
  recip-of-is a (inr p) h = rem-clmul-r g k d a.0 (inverse g k d nf a.0 p (lt a)).0 ∙ (inverse g k d nf a.0 p (lt a)).1

  abbrev pub recip : El k → El k
  recip a = recip-of a (eq-zero-or-pos a.0)

  pub recip-is : (a : El k) → (a.0 ≡ 0 → ⊥) → rem g k (clmul a.0 (recip a).0) ≡ 1
  recip-is a h = recip-of-is a (eq-zero-or-pos a.0) h

  abbrev pub gf : Field2
  gf = record {
    K = El k;
    𝟘 = of 0 (pow_pos k);
    𝟙 = of 1 one-lt;
    ◌⊕◌ = add;
    ◌⊗◌ = mul;
    inv = recip;
    ⊕-assoc = λ a b c. el-eq (xor_assoc a.0 b.0 c.0);
    ⊕-comm = λ a b. el-eq (xor_comm a.0 b.0);
    ⊕-zero = λ a. el-eq (xor_zero_r a.0);
    ⊕-self = λ a. el-eq (xor_self a.0);
    ⊗-assoc = λ a b c. el-eq (rem-clmul-l g k d (clmul a.0 b.0) c.0 ∙ ap (rem g k) (clmul-assoc a.0 b.0 c.0)
        ∙ sym (rem-clmul-r g k d a.0 (clmul b.0 c.0)));
    ⊗-comm = λ a b. el-eq (ap (rem g k) (clmul-comm a.0 b.0));
    ⊗-one = λ a. el-eq (ap (rem g k) (clmul-one-r a.0) ∙ rem-small g k d a.0 (lt a));
    ⊗-⊕ = λ a b c. el-eq (ap (rem g k) (clmul-xor-r a.0 b.0 c.0) ∙ rem-xor g k d (clmul a.0 b.0) (clmul a.0 c.0));
    ⊗-inv = λ a h. el-eq (recip-is a (λ e. h (el-eq e)));
    one≢zero = λ e. (let z : ◌≡◌ {A = ℕ} 1 0 = ap (λ (x : El k). x.0) e in omega arith);
    dec_eq = Σ_prop_discrete (λ n. T_prop (ltb n (2 ^ k))) ℕ_discrete;
  }
