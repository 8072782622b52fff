-- Sums in a list, worked on in place.
--   Taking q y a l b    the first l of the sums a have the node y taken out
use Rattle.std.specs.Prelude.{◌≡◌, refl, ◌⊎◌, List, map, ℕ, suc, ◌+◌, ◌^◌, ◌≤◌, ◌<◌, length, get_or, set}
use Rattle.std.proofs.Common.{sym, ap, ap₂, ◌∙◌, inl, inr, zero-le, add-one, arith, length-set, pow_pos, get_or-set_same, get_or-set_other}
use Rattle.std.proofs.Math.Nat as Nat
use Rattle.std.proofs.Math.Decide.{dec_le}
use Rattle.std.specs.Int.Bits.{bit_xor}
use Rattle.std.proofs.Math.ListN.{get_or-eq_default}
use Rattle.polynomial.specs.Division.{xor_lt}
use Rattle.polynomial.specs.Xor.{xor, xor_is}
use Rattle.field.specs.Elements.{times}
use Rattle.field.specs.Fields.{Known, field_of}
use Rattle.code.proofs.Filled.{map_at, map-length}
use Rattle.code.specs.Lists.{range}
use Rattle.element.specs.Exponents.{times-lt}
use Rattle.massey.specs.Entries.{Below, Product, below_set, el-times, number}
use Rattle.unmix.specs.Nodes.{TakenOut}

-- a list that is filled with elements' numbers
pub below-map : (q : ℕ) (f : ℕ → ℕ) (n : ℕ) (l : List ℕ) → ((i : ℕ) → f i < 2 ^ q) → l ≡ map f (range 0 n) → Below q l
below-map q f n l h e = record { lt = λ i. go i (dec_le (suc i) n) }
  where
    go : (i : ℕ) → Dec (suc i ≤ n) → get_or l i 0 < 2 ^ q
    go i (yes b) = rw (map_at f n l e i b) (h i)
    go i (no b) = rw (get_or-eq_default l 0 {n = i} (omega (arith, map-length f n l e))) (pow_pos q)

-- a product as a number
pub product-times : {q a b r : ℕ} → Known q → a < 2 ^ q → b < 2 ^ q → Product q a b r → r ≡ times q a b
product-times {q} {a} {b} {r} known ha hb P =
    sym (number q known r P.small) ∙ ap (field_of q).num (P.is ∙ sym (el-times q known a b ha hb)) ∙ number q known (times q a b) (times-lt q known a b)

-- ---- a node taken out, entry by entry
pub record Taking (q y : ℕ) (a : List ℕ) (l : ℕ) (b : List ℕ) : Type 0 where
  pub size : length b ≡ length a
  pub within : l ≤ length a
  pub small : Below q b
  pub done : (k : ℕ) → k < l → get_or b k 0 ≡ xor (get_or a (suc k) 0) (times q y (get_or a k 0))
  pub rest : (k : ℕ) → l ≤ k → get_or b k 0 ≡ get_or a k 0

pub taking-first : (q y : ℕ) (a : List ℕ) → Below q a → Taking q y a 0 a
taking-first q y a h = record { size = refl; within = zero-le; small = h; done = λ k b. absurd (Nat.not-suc-le-zero b); rest = λ k b. refl }

pub taking-next : {q y : ℕ} {a : List ℕ} {l : ℕ} {b : List ℕ} → Known q → y < 2 ^ q → Taking q y a l b → l + 1 < length a → (x : ℕ)
    → Product q y (get_or b l 0) x → Taking q y a (l + 1) (set b l (bit_xor (get_or b (l + 1) 0) x))
taking-next {q} {y} {a} {l} {b} known hy T h x P = record {
  size = length-set b l z ∙ T.size;
  within = Nat.le_of_lt h;
  small = below_set l z here T.small (rw (xor_is (get_or b (l + 1) 0) x) (xor_lt q (get_or b (l + 1) 0) x (T.small.lt (l + 1)) P.small));
  done = λ k m. go k (Nat.eq-or-lt_of_le (omega arith));
  rest = λ k m. get_or-set_other b l k z 0 (omega arith) ∙ T.rest k (omega arith);
}
  where
    z : ℕ
    z = bit_xor (get_or b (l + 1) 0) x

    here : l < length b
    here = omega (arith, T.size)

    is : z ≡ xor (get_or a (suc l) 0) (times q y (get_or a l 0))
    is =
        xor_is (get_or b (l + 1) 0) x
        ∙ ap₂ xor (T.rest (l + 1) (omega arith) ∙ ap (λ (k : ℕ). get_or a k 0) (add-one l))
        (product-times known hy (T.small.lt l) P ∙ ap (times q y) (T.rest l (Nat.le_refl l)))

    go : (k : ℕ) → (k ≡ l) ⊎ (k < l) → get_or (set b l z) k 0 ≡ xor (get_or a (suc k) 0) (times q y (get_or a k 0))
    go k (inl e) = rw e (get_or-set_same b l z 0 here ∙ is)
    go k (inr m) = get_or-set_other b l k z 0 (omega arith) ∙ T.done k m

pub taking-last : {q y : ℕ} {a : List ℕ} {l : ℕ} {b : List ℕ} → Taking q y a l b → length a ≤ l + 1 → TakenOut q y a b
taking-last T h = record { small = T.small; size = T.size; lower = λ k m. T.done k (omega arith) }
