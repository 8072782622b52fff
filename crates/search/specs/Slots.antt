-- Terms as the search runs through them: an exponent, an index and what is added.
--   slot q s k        what the slot s gives at place k: d x^i with d = α^e, plus w
--   Sound q s         e and i are below n, and w is an element's number
--   Holds q s t       s gives t k at every place k
--   Run q s k p       p is the exponent of its power at place k; Running: of five
--   five q a b .. k   what five slots give, in all
--   cut q s l i       coefficient i of s, 0 for i above l
--   nth q s l i k     its term
--   group q s l i k   the terms i, i + 3, .., i + 12, in all
use Rattle.std.specs.Prelude.{◌≡◌, Bool, cond, List, ℕ, ◌+◌, ◌-◌, ◌%◌, ◌^◌, ◌≤◌, ◌<◌, leb, get_or}
use Rattle.std.proofs.Common.{sym, ap, ap₂, ◌∙◌, arith, le-leb}
use Rattle.std.specs.Int.Bits.{bit_xor}
use Rattle.std.proofs.lemmas.Bool.{lt-leb}
use Rattle.polynomial.specs.Division.{xor_lt}
use Rattle.polynomial.specs.Xor.{xor_is}
use Rattle.field.specs.Field.{ring, add-self, mul-one, pow, pow-zero, zero-add, zero-mul}
use Rattle.field.specs.Fields.{Known}
use Rattle.element.specs.Fields.{size-least}
use Rattle.element.specs.declared.Field.{Field}
use Rattle.element.specs.Lent.{LogOf, Tables}
use Rattle.massey.specs.Entries.{F, K, at, el, el-one, el-xor, el-zero, mul2, plus2}
use Rattle.search.specs.declared.Slot.{Slot}
use Rattle.search.specs.Values.{Chain, chain_first, chain-is, chain_next, chain-small, el-power, node, term, α}

abbrev pub slot : (q : ℕ) → Slot → ℕ → K q
slot q s k = plus2 q (el q s.w) (term q (pow (F q) (α q) s.e) s.i k)

pub record Sound (q : ℕ) (s : Slot) : Type 0 where
  pub below : s.e < 2 ^ q - 1
  pub index : s.i < 2 ^ q - 1
  pub bit : s.w < 2 ^ q

pub record Holds (q : ℕ) (s : Slot) (t : ℕ → K q) : Type 0 where
  pub sound : Sound q s
  pub is : (k : ℕ) → slot q s k ≡ t k

abbrev pub five : (q : ℕ) → Slot → Slot → Slot → Slot → Slot → ℕ → K q
five q a b c d e k = plus2 q (slot q a k) (plus2 q (slot q b k) (plus2 q (slot q c k) (plus2 q (slot q d k) (slot q e k))))

abbrev pub cut : (q : ℕ) → List ℕ → ℕ → ℕ → K q
cut q s l i = cond (leb i l) (at q s i) (F q).𝟘

abbrev pub nth : (q : ℕ) → List ℕ → ℕ → ℕ → ℕ → K q
nth q s l i k = term q (cut q s l i) i k

abbrev pub group : (q : ℕ) → List ℕ → ℕ → ℕ → ℕ → K q
group q s l i k = plus2 q (nth q s l i k) (plus2 q (nth q s l (i + 3) k) (plus2 q (nth q s l (i + 6) k) (plus2 q (nth q s l (i + 9) k) (nth q s l (i + 12) k))))

module _ (q : ℕ) (s : List ℕ) (l i : ℕ) where
  pub cut_in : i ≤ l → cut q s l i ≡ at q s i
  cut_in h = ap (λ (b : Bool). cond b (at q s i) (F q).𝟘) (le-leb i l h)

  pub cut_off : l < i → cut q s l i ≡ (F q).𝟘
  cut_off h = ap (λ (b : Bool). cond b (at q s i) (F q).𝟘) (lt-leb i l h)

-- ---- slots
module _ (q : ℕ) (known : Known q) (s : List ℕ) (l i : ℕ) where
  pub slot_is : (e : ℕ) → i ≤ l → i < 2 ^ q - 1 → LogOf q (get_or s i 0) e → Holds q (record { e = e; i = i; w = 0 }) (λ k. nth q s l i k)
  slot_is e h b L = record {
    sound = record { below = L.below; index = b; bit = omega (arith, size-least q known) };
    is = λ k. ap₂ (plus2 q) (el-zero q) (ap (λ (d : K q). term q d i k) (sym (el-power q known e) ∙ ap (el q) L.power ∙ sym (cut_in q s l i h))) ∙ zero-add (F q) (nth q s l i k);
  }

  none : cut q s l i ≡ (F q).𝟘 → Holds q (record { e = 0; i = 0; w = 1 }) (λ k. nth q s l i k)
  none z = record {
    sound = record { below = omega (arith, size-least q known); index = omega (arith, size-least q known); bit = omega (arith, size-least q known) };
    is = λ k. ap₂ (plus2 q) (el-one q) (ap₂ (mul2 q) (pow-zero (F q) (α q)) (pow-zero (F q) (node q k)) ∙ mul-one (F q) (F q).𝟙) ∙ add-self (F q) (F q).𝟙
        ∙ sym (ap (λ (d : K q). term q d i k) z ∙ zero-mul (F q) (pow (F q) (node q k) i));
  }

  pub slot-past : l < i → Holds q (record { e = 0; i = 0; w = 1 }) (λ k. nth q s l i k)
  slot-past h = none (cut_off q s l i h)

  pub slot-zero : i ≤ l → get_or s i 0 ≡ 0 → Holds q (record { e = 0; i = 0; w = 1 }) (λ k. nth q s l i k)
  slot-zero h e = none (cut_in q s l i h ∙ ap (el q) e ∙ el-zero q)

-- ---- five at once
pub el-bits : (q a b : ℕ) → el q (bit_xor a b) ≡ plus2 q (el q a) (el q b)
el-bits q a b = ap (el q) (xor_is a b) ∙ el-xor q a b

pub bits-lt : (q a b : ℕ) → a < 2 ^ q → b < 2 ^ q → bit_xor a b < 2 ^ q
bits-lt q a b h k = rw (xor_is a b) (xor_lt q a b h k)

abbrev pub sum5 : ℕ → ℕ → ℕ → ℕ → ℕ → ℕ
sum5 a b c d e = bit_xor (bit_xor (bit_xor (bit_xor a b) c) d) e

pub sum5-lt : (q a b c d e : ℕ) → a < 2 ^ q → b < 2 ^ q → c < 2 ^ q → d < 2 ^ q → e < 2 ^ q → sum5 a b c d e < 2 ^ q
sum5-lt q a b c d e ha hb hc hd he =
    bits-lt q (bit_xor (bit_xor (bit_xor a b) c) d) e (bits-lt q (bit_xor (bit_xor a b) c) d (bits-lt q (bit_xor a b) c (bits-lt q a b ha hb) hc) hd) he

sum5-el : (q a b c d e : ℕ) → el q (sum5 a b c d e) ≡ plus2 q (plus2 q (plus2 q (plus2 q (el q a) (el q b)) (el q c)) (el q d)) (el q e)
sum5-el q a b c d e =
    el-bits q (bit_xor (bit_xor (bit_xor a b) c) d) e
    ∙ ap (λ (x : K q). plus2 q x (el q e)) (el-bits q (bit_xor (bit_xor a b) c) d
    ∙ ap (λ (x : K q). plus2 q x (el q d)) (el-bits q (bit_xor a b) c ∙ ap (λ (x : K q). plus2 q x (el q c)) (el-bits q a b)))

-- the exponent p of a slot's power at place k
abbrev pub Run : (q : ℕ) → Slot → ℕ → ℕ → Type 0
Run q s k p = Chain q (term q (pow (F q) (α q) s.e) s.i) k p

pub record Running (q : ℕ) (a b c d e : Slot) (k p₁ p₂ p₃ p₄ p₅ : ℕ) : Type 0 where
  pub first : Run q a k p₁
  pub second : Run q b k p₂
  pub third : Run q c k p₃
  pub fourth : Run q d k p₄
  pub fifth : Run q e k p₅

pub run-first : (q : ℕ) → Known q → (s : Slot) → Sound q s → Run q s 0 s.e
run-first q known s h = chain_first q known s.e s.i h.below

pub run-next : {q : ℕ} → Known q → {s : Slot} {k p : ℕ} (r : ℕ) → Sound q s → Run q s k p → r ≡ (p + (2 ^ q - 1 - s.i)) % (2 ^ q - 1) → Run q s (k + 1) r
run-next {q} known {s} {k} {p} r h R w = chain_next q known (pow (F q) (α q) s.e) s.i k p r h.index R w

-- v is what the five add, and x the sum of their powers
module _ (f : Field) (t l : List ℕ) (T : Tables f t l) {a b c d e : Slot} {k p₁ p₂ p₃ p₄ p₅ : ℕ} (R : Running f.q a b c d e k p₁ p₂ p₃ p₄ p₅) (v x : ℕ)
    (hv : v ≡ sum5 a.w b.w c.w d.w e.w) (hx : x ≡ sum5 (get_or t p₁ 0) (get_or t p₂ 0) (get_or t p₃ 0) (get_or t p₄ 0) (get_or t p₅ 0)) where
  pub five-is : el f.q (bit_xor v x) ≡ five f.q a b c d e k
  five-is =
      el-bits f.q v x
      ∙ ap₂ (plus2 f.q) (ap (el f.q) hv ∙ sum5-el f.q a.w b.w c.w d.w e.w)
      (ap (el f.q) hx ∙ sum5-el f.q (get_or t p₁ 0) (get_or t p₂ 0) (get_or t p₃ 0) (get_or t p₄ 0) (get_or t p₅ 0)
      ∙ ap₂ (plus2 f.q) (ap₂ (plus2 f.q) (ap₂ (plus2 f.q) (ap₂ (plus2 f.q) (chain-is f t l T R.first) (chain-is f t l T R.second)) (chain-is f t l T R.third))
      (chain-is f t l T R.fourth)) (chain-is f t l T R.fifth))
      ∙ turn (el f.q a.w) (el f.q b.w) (el f.q c.w) (el f.q d.w) (el f.q e.w) (power-of a) (power-of b) (power-of c) (power-of d) (power-of e)
    where
      power-of : Slot → K f.q
      power-of s = term f.q (pow (F f.q) (α f.q) s.e) s.i k

      turn : (a b c d e x₁ x₂ x₃ x₄ x₅ : K f.q)
          → plus2 f.q (plus2 f.q (plus2 f.q (plus2 f.q (plus2 f.q a b) c) d) e) (plus2 f.q (plus2 f.q (plus2 f.q (plus2 f.q x₁ x₂) x₃) x₄) x₅)
          ≡ plus2 f.q (plus2 f.q a x₁) (plus2 f.q (plus2 f.q b x₂) (plus2 f.q (plus2 f.q c x₃) (plus2 f.q (plus2 f.q d x₄) (plus2 f.q e x₅))))
      turn a b c d e x₁ x₂ x₃ x₄ x₅ = simp ring

  pub five-lt : Sound f.q a → Sound f.q b → Sound f.q c → Sound f.q d → Sound f.q e → bit_xor v x < 2 ^ f.q
  five-lt ha hb hc hd he =
      bits-lt f.q v x (rw hv (sum5-lt f.q a.w b.w c.w d.w e.w ha.bit hb.bit hc.bit hd.bit he.bit))
      (rw hx (sum5-lt f.q (get_or t p₁ 0) (get_or t p₂ 0) (get_or t p₃ 0) (get_or t p₄ 0) (get_or t p₅ 0) (chain-small f t l T R.first) (chain-small f t l T R.second)
      (chain-small f t l T R.third) (chain-small f t l T R.fourth) (chain-small f t l T R.fifth)))

-- the slots of a group
pub group-five : (q : ℕ) (s : List ℕ) (l i : ℕ) (a b c d e : Slot) → Holds q a (λ k. nth q s l i k) → Holds q b (λ k. nth q s l (i + 3) k) → Holds q c (λ k. nth q s l (i + 6) k)
    → Holds q d (λ k. nth q s l (i + 9) k) → Holds q e (λ k. nth q s l (i + 12) k) → (k : ℕ) → five q a b c d e k ≡ group q s l i k
group-five q s l i a b c d e ha hb hc hd he k = ap₂ (plus2 q) (ha.is k) (ap₂ (plus2 q) (hb.is k) (ap₂ (plus2 q) (hc.is k) (ap₂ (plus2 q) (hd.is k) (he.is k))))
