-- Values of a polynomial at the inverse nodes, term by term.
--   node q k            1 / α^k
--   term q d i k        d x^i at x = node q k
--   Chain q t k e       e is the exponent of t k
--   Adding q a t k b    b is a, with t h added in each entry h below k
--   part q s y i        the sum of the first i terms of s at y
--   Values q t m z b    entry k of b, k < z, is the sum of t 0 k, .., t (m - 1) k
use Rattle.std.specs.Prelude.{◌≡◌, refl, ◌≢◌, ◌⊎◌, List, [], ◌∷◌, ℕ, zero, suc, ◌+◌, ◌-◌, ◌%◌, ◌^◌, ◌≤◌, ◌<◌, length, get_or, set, replicate}
use Rattle.std.proofs.Common.{sym, ap, ap₂, ◌∙◌, inl, inr, zero-le, add-one, arith, length-set, get_or-set_same, get_or-set_other}
use Rattle.std.proofs.Math.Nat as Nat
use Rattle.std.specs.Int.Bits.{bit_xor}
use Rattle.std.proofs.Math.ListN.{get_or-eq_default}
use Rattle.polynomial.specs.Division.{xor_lt}
use Rattle.polynomial.specs.Xor.{xor_is}
use Rattle.field.specs.Elements.{element-num, power, power-num}
use Rattle.field.specs.Eval.{total, total-suc, total-zero}
use Rattle.field.specs.Field.{ring, mul-one, mul-pow, pow, pow-add, pow-one, pow-suc, pow-swap, pow-zero, pow≢zero}
use Rattle.field.specs.Fields.{Known, field_of, field_of-length}
use Rattle.field.specs.Powers.{pow-mod, α≢0}
use Rattle.field.specs.Roots.{value, value-cons, value-nil}
use Rattle.tables.specs.Powers.{power-lt}
use Rattle.element.specs.declared.Field.{Field}
use Rattle.element.specs.Lent.{Tables, exponent_lt, power-room, root_in}
use Rattle.field.specs.Inverse.{recip, recip-eq, recip-is, recip-unique}
use Rattle.massey.specs.Entries.{Below, F, K, at, below_set, el, el-xor, el-zero, mul2, plus2}
use Rattle.massey.specs.Steps.{Zeroed, zeroed-below}

-- ---- inverse nodes
module _ (q : ℕ) where
  abbrev pub α : K q
  α = (field_of q).α

  abbrev pub β : K q
  β = recip (field_of q) (field_of q).α

  abbrev pub node : ℕ → K q
  node k = pow (F q) β k

  -- 1 / α^k
  pub node-is : (k : ℕ) → node k ≡ recip (field_of q) (pow (F q) α k)
  node-is k =
      ap (λ (x : K q). pow (F q) x k) (recip-eq (field_of q) α) ∙ pow-swap (F q) α ((field_of q).n - 1) k ∙ sym (recip-eq (field_of q) (pow (F q) α k))

  -- α^(n - i) is its power i
  pub back : (i : ℕ) → i ≤ (field_of q).n → pow (F q) α ((field_of q).n - i) ≡ pow (F q) β i
  back i h =
      let a : K q = pow (F q) α i in
      let n : a ≢ (F q).𝟘 = pow≢zero (F q) α (α≢0 (field_of q)) i in
      recip-unique (field_of q) a (pow (F q) α ((field_of q).n - i)) (sym (pow-add (F q) α i ((field_of q).n - i)) ∙ ap (pow (F q) α) (Nat.add-sub_of_le h) ∙ (field_of q).whole) n
      ∙ sym (recip-unique (field_of q) a (pow (F q) β i) (sym (mul-pow (F q) α β i) ∙ ap (λ (x : K q). pow (F q) x i) (recip-is (field_of q) α (α≢0 (field_of q))) ∙ pow-one (F q) i) n)

  abbrev pub term : K q → ℕ → ℕ → K q
  term d i k = mul2 q d (pow (F q) (node k) i)

  term-first : (d : K q) (i : ℕ) → term d i 0 ≡ d
  term-first d i = ap (mul2 q d) (ap (λ (x : K q). pow (F q) x i) (pow-zero (F q) β) ∙ pow-one (F q) i) ∙ mul-one (F q) d

  term-next : (d : K q) (i k : ℕ) → term d i (suc k) ≡ mul2 q (term d i k) (pow (F q) β i)
  term-next d i k = ap (λ (x : K q). mul2 q d (pow (F q) x i)) (pow-suc (F q) β k) ∙ ap (mul2 q d) (mul-pow (F q) β (node k) i) ∙ turn d (pow (F q) β i) (pow (F q) (node k) i)
    where
      turn : (a b c : K q) → mul2 q a (mul2 q b c) ≡ mul2 q (mul2 q a c) b
      turn a b c = simp ring

  -- ---- the exponent of a term, from place to place
  pub record Chain (t : ℕ → K q) (k e : ℕ) : Type 0 where
    pub below : e < 2 ^ q - 1
    pub exponent : pow (F q) α e ≡ t k

  module _ (known : Known q) where
    pub el-power : (e : ℕ) → el q (power q e) ≡ pow (F q) α e
    el-power e = ap (el q) (sym (power-num q known e)) ∙ element-num (field_of q) (pow (F q) α e)

    pub chain_first : (e i : ℕ) → e < 2 ^ q - 1 → Chain (term (pow (F q) α e) i) 0 e
    chain_first e i h = record { below = h; exponent = sym (term-first (pow (F q) α e) i) }

    pub chain_next : (d : K q) (i k e f : ℕ) → i < 2 ^ q - 1 → Chain (term d i) k e → f ≡ (e + (2 ^ q - 1 - i)) % (2 ^ q - 1) → Chain (term d i) (k + 1) f
    chain_next d i k e f h c w =
        let n : (field_of q).n ≡ 2 ^ q - 1 = field_of-length q known in
        record {
          below = exponent_lt q known f (e + (2 ^ q - 1 - i)) w;
          exponent =
              rw (add-one k) (ap (pow (F q) α) (w ∙ ap (λ (n : ℕ). (e + (n - i)) % n) (sym n)) ∙ pow-mod (field_of q) (e + ((field_of q).n - i))
              ∙ pow-add (F q) α e ((field_of q).n - i) ∙ ap₂ (mul2 q) c.exponent (back i (omega arith)) ∙ sym (term-next d i k));
        }

-- the entry of the lent powers at the exponent
module _ (f : Field) (p l : List ℕ) (T : Tables f p l) {t : ℕ → K f.q} {k e : ℕ} (c : Chain f.q t k e) where
  entry : get_or p e 0 ≡ power f.q e
  entry = (root_in p e).root f.q T.powers c.below

  pub chain-small : get_or p e 0 < 2 ^ f.q
  chain-small = rw entry (power-lt f.q T.field.known e)

  pub chain-is : el f.q (get_or p e 0) ≡ t k
  chain-is = ap (el f.q) entry ∙ el-power f.q T.field.known e ∙ c.exponent

  pub chain-room : e < length p
  chain-room = Nat.lt_of_lt_of_le c.below (power-room f p l T)

-- ---- something added in every entry
pub record Adding (q : ℕ) (a : List ℕ) (t : ℕ → K q) (k : ℕ) (b : List ℕ) : Type 0 where
  pub size : length b ≡ length a
  pub small : Below q b
  pub done : (h : ℕ) → h < k → at q b h ≡ plus2 q (at q a h) (t h)
  pub rest : (h : ℕ) → k ≤ h → get_or b h 0 ≡ get_or a h 0

pub adding-first : (q : ℕ) (a : List ℕ) (t : ℕ → K q) → Below q a → Adding q a t 0 a
adding-first q a t s = record { size = refl; small = s; done = λ h b. absurd (Nat.not-suc-le-zero b); rest = λ h b. refl }

pub adding-next : {q : ℕ} {a : List ℕ} {t : ℕ → K q} {k : ℕ} {b : List ℕ} (x : ℕ) → Adding q a t k b → k < length a → x < 2 ^ q → el q x ≡ t k
    → Adding q a t (k + 1) (set b k (bit_xor (get_or b k 0) x))
adding-next {q} {a} {t} {k} {b} x U h s w = record {
  size = length-set b k (bit_xor (get_or b k 0) x) ∙ U.size;
  small = below_set k (bit_xor (get_or b k 0) x) (omega (arith, U.size)) U.small (rw (xor_is (get_or b k 0) x) (xor_lt q (get_or b k 0) x (U.small.lt k) s));
  done = λ h b. go h (Nat.eq-or-lt_of_le (omega arith));
  rest = λ h c. get_or-set_other b k h (bit_xor (get_or b k 0) x) 0 (omega arith) ∙ U.rest h (omega arith);
}
  where
    here : at q (set b k (bit_xor (get_or b k 0) x)) k ≡ plus2 q (at q a k) (t k)
    here =
        ap (el q) (get_or-set_same b k (bit_xor (get_or b k 0) x) 0 (omega (arith, U.size)) ∙ xor_is (get_or b k 0) x) ∙ el-xor q (get_or b k 0) x
        ∙ ap₂ (plus2 q) (ap (el q) (U.rest k (Nat.le_refl k))) w

    go : (h : ℕ) → (h ≡ k) ⊎ (h < k) → at q (set b k (bit_xor (get_or b k 0) x)) h ≡ plus2 q (at q a h) (t h)
    go h (inl c) = rw c here
    go h (inr c) = ap (el q) (get_or-set_other b k h (bit_xor (get_or b k 0) x) 0 (omega arith)) ∙ U.done h c

pub adding-same : {q : ℕ} {a : List ℕ} {t u : ℕ → K q} {k : ℕ} {b : List ℕ} → ((h : ℕ) → t h ≡ u h) → Adding q a t k b → Adding q a u k b
adding-same {q} {a} e U = record { size = U.size; small = U.small; done = λ h l. U.done h l ∙ ap (plus2 q (at q a h)) (e h); rest = U.rest }

pub adding-last : {q : ℕ} {a : List ℕ} {t : ℕ → K q} {k : ℕ} {b : List ℕ} (z : ℕ) → k ≡ z → Adding q a t k b → Adding q a t z b
adding-last z e U = rw e at U

-- ---- sums of terms
abbrev pub part : (q : ℕ) → (ℕ → K q) → K q → ℕ → K q
part q s y i = total (F q) i (λ h. mul2 q (s h) (pow (F q) y h))

pub record Values (q : ℕ) (t : ℕ → ℕ → K q) (m z : ℕ) (b : List ℕ) : Type 0 where
  pub small : Below q b
  pub is : (k : ℕ) → k < z → at q b k ≡ total (F q) m (λ j. t j k)

pub zeroed : (n : ℕ) → Zeroed (replicate n 0)
zeroed zero i = get_or-eq_default [] 0 {n = i} zero-le
zeroed (suc n) zero = refl
zeroed (suc n) (suc i) = zeroed n i

pub values-first : (q : ℕ) (t : ℕ → ℕ → K q) (z : ℕ) (b : List ℕ) → Zeroed b → Values q t 0 z b
values-first q t z b h = record { small = zeroed-below q b h; is = λ k l. ap (el q) (h k) ∙ el-zero q ∙ sym (total-zero (F q) (λ j. t j k)) }

-- five terms more
pub values-next : {q : ℕ} {t : ℕ → ℕ → K q} {m z : ℕ} {b c : List ℕ} (g : ℕ → K q) → Values q t m z b → Adding q b g z c
    → ((k : ℕ) → g k ≡ plus2 q (t m k) (plus2 q (t (m + 1) k) (plus2 q (t (m + 2) k) (plus2 q (t (m + 3) k) (t (m + 4) k))))) → Values q t (m + 5) z c
values-next {q} {t} {m} {z} {b} {c} g W A e = record { small = A.small; is = λ k h. A.done k h ∙ ap₂ (plus2 q) (W.is k h) (e k) ∙ sym (more (λ j. t j k)) }
  where
    next : (n i : ℕ) (f : ℕ → K q) → i ≡ suc n → total (F q) i f ≡ plus2 q (total (F q) n f) (f n)
    next n i f e = rw e (total-suc (F q) n f)

    turn : (a b c d e f : K q) → plus2 q (plus2 q (plus2 q (plus2 q (plus2 q a b) c) d) e) f ≡ plus2 q a (plus2 q b (plus2 q c (plus2 q d (plus2 q e f))))
    turn a b c d e f = simp ring

    more : (f : ℕ → K q) → total (F q) (m + 5) f ≡ plus2 q (total (F q) m f) (plus2 q (f m) (plus2 q (f (m + 1)) (plus2 q (f (m + 2)) (plus2 q (f (m + 3)) (f (m + 4))))))
    more f =
        next (m + 4) (m + 5) f (omega arith) ∙ ap (λ (x : K q). plus2 q x (f (m + 4))) (next (m + 3) (m + 4) f (omega arith)
        ∙ ap (λ (x : K q). plus2 q x (f (m + 3))) (next (m + 2) (m + 3) f (omega arith)
        ∙ ap (λ (x : K q). plus2 q x (f (m + 2))) (next (m + 1) (m + 2) f (omega arith) ∙ ap (λ (x : K q). plus2 q x (f (m + 1))) (next m (m + 1) f (add-one m)))))
        ∙ turn (total (F q) m f) (f m) (f (m + 1)) (f (m + 2)) (f (m + 3)) (f (m + 4))

pub values-last : {q : ℕ} {t : ℕ → ℕ → K q} {m z : ℕ} {b : List ℕ} (n : ℕ) → m ≡ n → Values q t m z b → Values q t n z b
values-last n e W = rw e at W

-- ---- and the value is the sum of its terms
module _ (q : ℕ) where
  front : (n : ℕ) (f : ℕ → K q) → total (F q) (suc n) f ≡ plus2 q (f 0) (total (F q) n (λ h. f (suc h)))
  front zero f = total-suc (F q) 0 f ∙ simp (total-zero, ring)
  front (suc n) f = total-suc (F q) (suc n) f ∙ ap (λ (x : K q). plus2 q x (f (suc n))) (front n f) ∙ simp (total-suc, ring)

  pub scaled : (y : K q) (n : ℕ) (f : ℕ → K q) → mul2 q y (total (F q) n f) ≡ total (F q) n (λ h. mul2 q y (f h))
  scaled y zero f = simp (total-zero, ring)
  scaled y (suc n) f = ap (mul2 q y) (total-suc (F q) n f) ∙ simp (total-suc, ← scaled y n f, ring)

  none : (y : K q) (n : ℕ) → part q (λ h. (F q).𝟘) y n ≡ (F q).𝟘
  none y zero = total-zero (F q) (λ h. mul2 q (F q).𝟘 (pow (F q) y h))
  none y (suc n) = total-suc (F q) n (λ h. mul2 q (F q).𝟘 (pow (F q) y h)) ∙ ap (λ (x : K q). plus2 q x (mul2 q (F q).𝟘 (pow (F q) y n))) (none y n) ∙ simp ring

  pub value-part : (l : List (K q)) (y : K q) (n : ℕ) → length l ≤ n → value (F q) l y ≡ part q (λ h. get_or l h (F q).𝟘) y n
  value-part [] y n h = value-nil (F q) y ∙ sym (none y n)
  value-part (c ∷ l) y zero h = absurd (Nat.not-suc-le-zero h)
  value-part (c ∷ l) y (suc n) h =
      value-cons (F q) c l y ∙ ap (λ (x : K q). plus2 q c (mul2 q y x)) (value-part l y n (Nat.le_of_suc-le-suc h))
      ∙ ap₂ (plus2 q) (sym (ap (mul2 q c) (pow-zero (F q) y) ∙ mul-one (F q) c)) (scaled y n (λ h. mul2 q (get_or l h (F q).𝟘) (pow (F q) y h)) ∙ simp (pow-suc, ring))
      ∙ sym (front n (λ h. mul2 q (get_or (c ∷ l) h (F q).𝟘) (pow (F q) y h)))
