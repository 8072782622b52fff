-- The weight at a node, the other nodes being taken out one by one.
--   Unmixing q j i ks a c b d    b are the sums a with the first c nodes of ks taken out, and d is the product of the node of i plus each
use Rattle.std.specs.Prelude.{◌≡◌, refl, ◌≢◌, List, map, ℕ, suc, ◌+◌, ◌-◌, ◌*◌, ◌%◌, ◌^◌, ◌≤◌, ◌<◌, length, get_or, drop}
use Rattle.std.proofs.Common.{sym, ap, ap₂, ◌∙◌, zero-le, add-one, arith, length-drop, drop_of_length-le, pow_pos, drop-cons}
use Rattle.std.proofs.Math.Nat as Nat
use Rattle.std.specs.Int.Bits.{bit_xor}
use Rattle.std.proofs.lemmas.List.{length-map}
use Rattle.polynomial.specs.Xor.{xor_is}
use Rattle.field.specs.Elements.{element-num, element-zero, power, power-num, times}
use Rattle.field.specs.Field.{ring, add-eq-zero, mul-eq-zero, mul-one, mul-pow, pow, pow-mul, pow≢zero, zero-mul}
use Rattle.field.specs.Fields.{BinaryField, Known, field_of}
use Rattle.field.specs.Inverse.{recip, recip-eq, recip-is, recip-unique}
use Rattle.field.specs.Powers.{α≢0}
use Rattle.field.specs.Unmix.{unmix, unmix-agree, unmix-cons, unmix-nil}
use Rattle.tables.specs.Powers.{power-lt}
use Rattle.code.proofs.Filled.{map_at}
use Rattle.code.specs.Lists.{range}
use Rattle.code.specs.Nest.{node}
use Rattle.element.specs.declared.Field.{Field}
use Rattle.element.specs.Exponents.{power-mod, times_power}
use Rattle.element.specs.Fields.{size-least}
use Rattle.element.specs.Lent.{LogOf, Tables, exponent_lt, power-room, root_in}
use Rattle.massey.specs.Entries.{Below, Product, at, el, el-one, el-small, el-times, el-xor, el-zero, number, plus2}
use Rattle.unmix.specs.Nodes.{Divided, TakenOut, unmixed_at, weight_at, weight_at-eq}

-- ---- inverses
module _ (B : BinaryField) where
  open B.field use {K, 𝟙, ◌⊗◌, one≢zero}

  infixl 70 ◌⊗◌
  recip-one : recip B 𝟙 ≡ 𝟙
  recip-one = sym (recip-unique B 𝟙 𝟙 (mul-one B.field 𝟙) one≢zero)

  recip-mul : (a b : K) → recip B (a ⊗ b) ≡ recip B a ⊗ recip B b
  recip-mul a b = recip-eq B (a ⊗ b) ∙ mul-pow B.field a b (B.n - 1) ∙ sym (ap₂ ◌⊗◌ (recip-eq B a) (recip-eq B b))

-- ---- as many sums are asked for as there are nodes
pub weight-agree : (q j i : ℕ) (ks : List ℕ) (N M : ℕ → ℕ) → ((l : ℕ) → l ≤ length ks → N l ≡ M l) → weight_at q j i ks N ≡ weight_at q j i ks M
weight-agree q j i ks N M h =
    let B = field_of q in
    weight_at-eq q j i ks N
    ∙ ap B.num (unmix-agree B (node B j i) (map (node B j) ks) (λ l. el q (N l)) (λ l. el q (M l)) (λ l b. ap (el q) (h l (rw (length-map ks (node B j)) at b))))
    ∙ sym (weight_at-eq q j i ks M)

-- the sums of a column of rows
pub unmixed-is : (q : ℕ) (rows ks : List ℕ) (i k : ℕ) (a : List ℕ) (r : ℕ) → a ≡ map (λ l. get_or rows (64 * l + k) 0) (range 0 (length ks + 1))
    → r ≡ weight_at q (2 * k + 1) i ks (λ l. get_or a l 0) → r ≡ unmixed_at q rows ks i k
unmixed-is q rows ks i k a r e w =
    let N : ℕ → ℕ = λ l. get_or rows (64 * l + k) 0 in
    w ∙ weight-agree q (2 * k + 1) i ks (λ l. get_or a l 0) N (λ l h. map_at N (length ks + 1) a e l (omega arith))

-- ---- nodes, by the table of powers
pub node-small : (j i : ℕ) → j < 128 → i < 8 → j * i ≤ 1024
node-small j i hj hi = Nat.mul-le-mul (Nat.le_of_lt hj) (Nat.le_of_lt hi)

pub node-room : {f : Field} {p l : List ℕ} → Tables f p l → (e : ℕ) → e % f.order < length p
node-room {f} {p} {l} T e =
    let o : f.order ≡ 2 ^ f.q - 1 = T.field.order in
    Nat.lt_of_lt_of_le (Nat.mod-lt e (omega (arith, size-least f.q T.field.known))) (rw o (power-room f p l T))

-- powers are above 0
power-above : (q : ℕ) → Known q → (k : ℕ) → 0 < power q k
power-above q known k =
    let B = field_of q in
    Nat.pos_of_ne-zero (λ e. pow≢zero B.field B.α (α≢0 B) k
    (sym (element-num B (pow B.field B.α k)) ∙ ap (el q) (power-num q known k ∙ e) ∙ element-zero B))

-- the entry j i, counted modulo the order, of the powers
pub node-is : {f : Field} {p l : List ℕ} → Tables f p l → (j i : ℕ)
    → (get_or p (j * i % f.order) 0 ≡ power f.q (j * i)) × (0 < get_or p (j * i % f.order) 0) × (get_or p (j * i % f.order) 0 < 2 ^ f.q)
node-is {f} {p} T j i =
    let known = T.field.known in
    let n = 2 ^ f.q - 1 in
    let e : get_or p (j * i % f.order) 0 ≡ power f.q (j * i) =
    ap (λ (m : ℕ). get_or p (j * i % m) 0) T.field.order
    ∙ (root_in p (j * i % n)).root f.q T.powers (exponent_lt f.q known (j * i % n) (j * i) refl) ∙ power-mod f.q known (j * i) in
    (e, rw e (power-above f.q known (j * i)), rw e (power-lt f.q known (j * i)))

module _ (q : ℕ) (known : Known q) where
  abbrev B : BinaryField
  B = field_of q

  open (field_of q).field use {K, 𝟘, ◌⊕◌, ◌⊗◌}

  infixl 65 ◌⊕◌
  infixl 70 ◌⊗◌
  power-node : (j i : ℕ) → power q (j * i) ≡ B.num (node B j i)
  power-node j i = sym (power-num q known (j * i)) ∙ ap B.num (pow-mul B.field B.α j i)

  el-node : (j i x : ℕ) → x ≡ power q (j * i) → el q x ≡ node B j i
  el-node j i x e = ap (el q) (e ∙ power-node j i) ∙ element-num B (node B j i)

  node-apart : (j k i : ℕ) → power q (j * k) ≢ power q (j * i) → node B j i ⊕ node B j k ≢ 𝟘
  node-apart j k i n e = n (power-node j k ∙ ap B.num (sym (add-eq-zero B.field (node B j i) (node B j k) e)) ∙ sym (power-node j i))

  el-above : (d : ℕ) → 0 < d → d < 2 ^ q → el q d ≢ 𝟘
  el-above d o h e = Nat.lt_irrefl 0 (rw (el-small q known d h e) at o)

  -- ---- quotients, by logs
  pub quotient-zero : (a d : ℕ) → a ≡ 0 → Divided q a d 0
  quotient-zero a d e = record {
    small = pow_pos q;
    is = el-zero q ∙ sym (ap (λ (x : K). x ⊗ recip B (el q d)) (ap (el q) e ∙ el-zero q) ∙ zero-mul B.field (recip B (el q d)));
  }

  divided : (a d r : ℕ) → 0 < d → d < 2 ^ q → r < 2 ^ q → times q d r ≡ a → Divided q a d r
  divided a d r o hd hr e = record { small = hr; is = sym go }
    where
      back : (x y z : K) → x ⊗ y ⊗ z ≡ y ⊗ (x ⊗ z)
      back x y z = simp ring

      go : el q a ⊗ recip B (el q d) ≡ el q r
      go =
          ap (λ (x : K). x ⊗ recip B (el q d)) (ap (el q) (sym e) ∙ el-times q known d r hd hr) ∙ back (el q d) (el q r) (recip B (el q d))
          ∙ ap (λ (x : K). el q r ⊗ x) (recip-is B (el q d) (el-above d o hd)) ∙ mul-one B.field (el q r)

  pub quotient_is : (a d i k e r : ℕ) → 0 < d → d < 2 ^ q → LogOf q a i → LogOf q d k → e ≡ (i + (2 ^ q - 1) - k) % (2 ^ q - 1) → r ≡ power q e → Divided q a d r
  quotient_is a d i k e r o hd I L w v =
      let n = 2 ^ q - 1 in
      let hi : i < n = I.below in
      let hk : k < n = L.below in
      let s : k + (i + n - k) ≡ i + n = omega arith in
      let c : (k + e) % n ≡ i =
      ap (λ (x : ℕ). (k + x) % n) w ∙ Nat.add-mod-mod k (i + n - k) n ∙ ap (λ (x : ℕ). x % n) s ∙ Nat.add-mod_right i n ∙ Nat.mod-eq_of_lt hi in
      divided a d r o hd (rw v (power-lt q known e)) (ap₂ (times q) (sym L.power) v ∙ times_power q known k e ∙ ap (power q) c ∙ I.power)

-- ---- nodes taken out
pub record Unmixing (q j i : ℕ) (ks a : List ℕ) (c : ℕ) (b : List ℕ) (d : ℕ) : Type 0 where
  pub within : c ≤ length ks
  pub size : length b ≡ length a
  pub small : Below q b
  pub above : 0 < d
  pub below : d < 2 ^ q
  pub is : unmix (field_of q) (node (field_of q) j i) (map (node (field_of q) j) ks) (at q a)
      ≡ (field_of q).field.◌⊗◌ (unmix (field_of q) (node (field_of q) j i) (map (node (field_of q) j) (drop c ks)) (at q b)) (recip (field_of q) (el q d))

module _ (q : ℕ) (known : Known q) (j i : ℕ) (ks a : List ℕ) where
  open (field_of q).field use {K, ◌⊕◌, ◌⊗◌}

  infixl 65 ◌⊕◌
  infixl 70 ◌⊗◌
  abbrev X : K
  X = node (field_of q) j i

  abbrev Ys : List ℕ → List K
  Ys l = map (node (field_of q) j) l

  pub unmixing-first : Below q a → Unmixing q j i ks a 0 a 1
  unmixing-first h = record {
    within = zero-le;
    size = refl;
    small = h;
    above = omega arith;
    below = omega (arith, size-least q known);
    is = sym (ap (λ (u : K). unmix (field_of q) X (Ys ks) (at q a) ⊗ u) (ap (recip (field_of q)) (el-one q) ∙ recip-one (field_of q)) ∙ mul-one (field_of q).field (unmix (field_of q) X (Ys ks) (at q a)));
  }

  module _ {c : ℕ} {b : List ℕ} {d : ℕ} (U : Unmixing q j i ks a c b d) where
    pub unmixing-last : (r : ℕ) → length ks ≤ c → Divided q (get_or b 0 0) d r → r ≡ weight_at q j i ks (λ l. get_or a l 0)
    unmixing-last r h D =
        sym (number q known r D.small)
        ∙ ap (field_of q).num (D.is ∙ sym (U.is ∙ ap (λ (u : K). u ⊗ recip (field_of q) (el q d)) (ap (λ (l : List ℕ). unmix (field_of q) X (Ys l) (at q b)) (drop_of_length-le ks h) ∙ unmix-nil (field_of q) X (at q b))))
        ∙ sym (weight_at-eq q j i ks (λ l. get_or a l 0))

    module _ (long : length a ≡ suc (length ks)) (h : c < length ks) (x y : ℕ) (ex : x ≡ power q (j * i)) (ey : y ≡ power q (j * get_or ks c 0))
        (n : power q (j * get_or ks c 0) ≢ power q (j * i)) {b' : List ℕ} {d' : ℕ} (T : TakenOut q y b b') (P : Product q d (bit_xor x y) d') where
      abbrev Y : K
      Y = node (field_of q) j (get_or ks c 0)

      entry : (l : ℕ) → l ≤ length (Ys (drop (suc c) ks)) → at q b (suc l) ⊕ Y ⊗ at q b l ≡ at q b' l
      entry l m =
          let k : l ≤ length ks - suc c = rw (length-map (drop (suc c) ks) (node (field_of q) j), length-drop (suc c) ks) at m in
          let hy : y < 2 ^ q = rw ey (power-lt q known (j * get_or ks c 0)) in
          sym (ap (el q) (T.lower l (omega (arith, U.size))) ∙ el-xor q (get_or b (suc l) 0) (times q y (get_or b l 0))
          ∙ ap (λ (u : K). at q b (suc l) ⊕ u) (el-times q known y (get_or b l 0) hy (U.small.lt l) ∙ ap (λ (u : K). u ⊗ at q b l) (el-node q known j (get_or ks c 0) y ey)))

      factor : el q d' ≡ el q d ⊗ (X ⊕ Y)
      factor = P.is ∙ ap (λ (u : K). el q d ⊗ u) (ap (el q) (xor_is x y) ∙ el-xor q x y ∙ ap₂ (plus2 q) (el-node q known j i x ex) (el-node q known j (get_or ks c 0) y ey))

      nonzero : d' ≢ 0
      nonzero e =
          el-above q known d U.above U.below
          (mul-eq-zero (field_of q).field (el q d) (X ⊕ Y) (sym factor ∙ ap (el q) e ∙ el-zero q) (node-apart q known j (get_or ks c 0) i n))

      regroup : (u v w : K) → u ⊗ v ⊗ w ≡ u ⊗ (w ⊗ v)
      regroup u v w = simp ring

      pub unmixing-next : Unmixing q j i ks a (c + 1) b' d'
      unmixing-next = record {
        within = omega arith;
        size = T.size ∙ U.size;
        small = T.small;
        above = Nat.pos_of_ne-zero nonzero;
        below = P.small;
        is = rw (add-one c) (U.is
            ∙ ap (λ (u : K). u ⊗ recip (field_of q) (el q d)) (ap (λ (l : List ℕ). unmix (field_of q) X (Ys l) (at q b)) (drop-cons ks c 0 h)
            ∙ unmix-cons (field_of q) X Y (Ys (drop (suc c) ks)) (at q b)
            ∙ ap (λ (u : K). u ⊗ recip (field_of q) (X ⊕ Y)) (unmix-agree (field_of q) X (Ys (drop (suc c) ks)) (λ l. at q b (suc l) ⊕ Y ⊗ at q b l) (at q b') entry))
            ∙ regroup (unmix (field_of q) X (Ys (drop (suc c) ks)) (at q b')) (recip (field_of q) (X ⊕ Y)) (recip (field_of q) (el q d))
            ∙ ap (λ (u : K). unmix (field_of q) X (Ys (drop (suc c) ks)) (at q b') ⊗ u) (sym (ap (recip (field_of q)) factor ∙ recip-mul (field_of q) (el q d) (X ⊕ Y))));
      }
