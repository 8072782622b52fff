-- A polynomial at three places at once: its terms by their indices modulo 3, and the cube roots of 1.
--   every q s l c j k         the term c + 3 j at place k
--   mixed q w a b c           a + w (b + c)
--   Turned q w a b c r        the three numbers of r are a + (b + c), mixed + b and mixed + c
--   Filled q w a b c h k o    so are the entries i, h + i and 2 h + i of o, from the entries i of a, b and c, for i < k
use Rattle.std.specs.Prelude.{◌≡◌, refl, ◌≢◌, ◌⊎◌, List, ℕ, zero, suc, ◌+◌, ◌-◌, ◌*◌, ◌/◌, ◌^◌, ◌≤◌, ◌<◌, length, get_or, set}
use Rattle.std.proofs.Common.{sym, ap, ap₂, ◌∙◌, inl, inr, arith, length-set, get_or-set_same, get_or-set_other}
use Rattle.std.proofs.Math.Nat as Nat
use Rattle.std.proofs.Math.Decide.{dec_le}
use Rattle.std.specs.Int.Bits.{bit_xor}
use Rattle.field.specs.Elements.{power, times}
use Rattle.field.specs.Eval.{total, total-suc, total-zero}
use Rattle.field.specs.Field.{Field2, ring, add_assoc, add-eq-zero, add-self, add-zero, mul_assoc, mul-eq-zero, mul-one, mul-pow, zero-mul, pow, pow-add, pow-mul, pow-one, pow-suc, pow-zero}
use Rattle.field.specs.Fields.{Known, by-known, field_of, field_of-length}
use Rattle.element.specs.Exponents.{times-lt}
use Rattle.element.specs.Fields.{size-least}
use Rattle.massey.specs.Entries.{Below, F, K, at, below_set, el, el-times, mul2, plus2}
use Rattle.search.specs.declared.Three.{Three}
use Rattle.search.specs.Slots.{bits-lt, cut, cut_in, cut_off, el-bits, group, nth}
use Rattle.search.specs.Values.{Values, back, el-power, node, scaled, term, α, β}

abbrev pub every : (q : ℕ) → List ℕ → ℕ → ℕ → ℕ → ℕ → K q
every q s l c j k = nth q s l (c + 3 * j) k

-- five of them stand in a group
pub group-is : (q : ℕ) (s : List ℕ) (l c m k : ℕ)
    → group q s l (c + 3 * m) k
    ≡ plus2 q (every q s l c m k) (plus2 q (every q s l c (m + 1) k) (plus2 q (every q s l c (m + 2) k) (plus2 q (every q s l c (m + 3) k) (every q s l c (m + 4) k))))
group-is q s l c m k =
    let e₁ : c + 3 * m + 3 ≡ c + 3 * (m + 1) = omega arith in
    let e₂ : c + 3 * m + 6 ≡ c + 3 * (m + 2) = omega arith in
    let e₃ : c + 3 * m + 9 ≡ c + 3 * (m + 3) = omega arith in
    let e₄ : c + 3 * m + 12 ≡ c + 3 * (m + 4) = omega arith in
    ap (plus2 q (every q s l c m k)) (ap₂ (plus2 q) (same e₁) (ap₂ (plus2 q) (same e₂) (ap₂ (plus2 q) (same e₃) (same e₄))))
  where
    same : {i j : ℕ} → i ≡ j → nth q s l i k ≡ nth q s l j k
    same e = ap (λ (i : ℕ). nth q s l i k) e

-- ---- three places
abbrev pub mixed : (q : ℕ) → K q → K q → K q → K q → K q
mixed q w a b c = plus2 q a (mul2 q w (plus2 q b c))

pub record Turned (q w a b c : ℕ) (r : Three) : Type 0 where
  pub small : (r.x < 2 ^ q) × (r.y < 2 ^ q) × (r.z < 2 ^ q)
  pub first : el q r.x ≡ plus2 q (el q a) (plus2 q (el q b) (el q c))
  pub second : el q r.y ≡ plus2 q (mixed q (el q w) (el q a) (el q b) (el q c)) (el q b)
  pub third : el q r.z ≡ plus2 q (mixed q (el q w) (el q a) (el q b) (el q c)) (el q c)

pub turned : (q : ℕ) → Known q → (w a b c p : ℕ) → w < 2 ^ q → a < 2 ^ q → b < 2 ^ q → c < 2 ^ q → p ≡ times q w (bit_xor b c)
    → Turned q w a b c (record { x = bit_xor a (bit_xor b c); y = bit_xor a (bit_xor p b); z = bit_xor a (bit_xor p c) })
turned q known w a b c p hw ha hb hc e =
    let s : bit_xor b c < 2 ^ q = bits-lt q b c hb hc in
    let d : p < 2 ^ q = rw e (times-lt q known w (bit_xor b c)) in
    let v : el q p ≡ mul2 q (el q w) (plus2 q (el q b) (el q c)) = ap (el q) e ∙ el-times q known w (bit_xor b c) hw s ∙ ap (mul2 q (el q w)) (el-bits q b c) in
    record {
      small = (bits-lt q a (bit_xor b c) ha s, bits-lt q a (bit_xor p b) ha (bits-lt q p b d hb), bits-lt q a (bit_xor p c) ha (bits-lt q p c d hc));
      first = el-bits q a (bit_xor b c) ∙ ap (plus2 q (el q a)) (el-bits q b c);
      second = mix b v;
      third = mix c v;
    }
  where
    mix : (x : ℕ) → el q p ≡ mul2 q (el q w) (plus2 q (el q b) (el q c)) → el q (bit_xor a (bit_xor p x)) ≡ plus2 q (mixed q (el q w) (el q a) (el q b) (el q c)) (el q x)
    mix x v =
        el-bits q a (bit_xor p x) ∙ ap (plus2 q (el q a)) (el-bits q p x ∙ ap (λ (y : K q). plus2 q y (el q x)) v)
        ∙ sym (add_assoc (F q) (el q a) (mul2 q (el q w) (plus2 q (el q b) (el q c))) (el q x))

pub record Filled (q w : ℕ) (a b c : List ℕ) (h k : ℕ) (o : List ℕ) : Type 0 where
  pub small : Below q o
  pub first : (i : ℕ) → i < k → at q o i ≡ plus2 q (at q a i) (plus2 q (at q b i) (at q c i))
  pub second : (i : ℕ) → i < k → at q o (h + i) ≡ plus2 q (mixed q (el q w) (at q a i) (at q b i) (at q c i)) (at q b i)
  pub third : (i : ℕ) → i < k → at q o (2 * h + i) ≡ plus2 q (mixed q (el q w) (at q a i) (at q b i) (at q c i)) (at q c i)

pub filled-first : (q w : ℕ) (a b c : List ℕ) (h : ℕ) (o : List ℕ) → Below q o → Filled q w a b c h 0 o
filled-first q w a b c h o s = record {
  small = s;
  first = λ i l. absurd (Nat.not-suc-le-zero l);
  second = λ i l. absurd (Nat.not-suc-le-zero l);
  third = λ i l. absurd (Nat.not-suc-le-zero l);
}

-- an entry after three are set
module _ (o : List ℕ) (i j k x y z : ℕ) (li : i < length o) (lj : j < length o) (lk : k < length o) where
  abbrev o₁ : List ℕ
  o₁ = set o i x

  abbrev o₂ : List ℕ
  o₂ = set (set o i x) j y

  abbrev o₃ : List ℕ
  o₃ = set (set (set o i x) j y) k z

  size₁ : length o₁ ≡ length o
  size₁ = length-set o i x

  size₂ : length o₂ ≡ length o
  size₂ = length-set o₁ j y ∙ size₁

  pub set3-below : (q : ℕ) → Below q o → x < 2 ^ q → y < 2 ^ q → z < 2 ^ q → Below q o₃
  set3-below q b hx hy hz = below_set k z (omega (arith, size₂)) (below_set j y (omega (arith, size₁)) (below_set i x li b hx) hy) hz

  -- at the last, the second, the first, and elsewhere
  pub set3-k : get_or o₃ k 0 ≡ z
  set3-k = get_or-set_same o₂ k z 0 (omega (arith, size₂))

  pub set3-j : j ≢ k → get_or o₃ j 0 ≡ y
  set3-j n = get_or-set_other o₂ k j z 0 n ∙ get_or-set_same o₁ j y 0 (omega (arith, size₁))

  pub set3-i : i ≢ k → i ≢ j → get_or o₃ i 0 ≡ x
  set3-i n m = get_or-set_other o₂ k i z 0 n ∙ get_or-set_other o₁ j i y 0 m ∙ get_or-set_same o i x 0 li

  pub set3-off : (h : ℕ) → h ≢ k → h ≢ j → h ≢ i → get_or o₃ h 0 ≡ get_or o h 0
  set3-off h a b c = get_or-set_other o₂ k h z 0 a ∙ get_or-set_other o₁ j h y 0 b ∙ get_or-set_other o i h x 0 c

pub filled_next : {q w : ℕ} {a b c : List ℕ} {h k : ℕ} {o : List ℕ} (r : Three) → k < h → 3 * h ≤ length o → Filled q w a b c h k o → Turned q w (get_or a k 0) (get_or b k 0) (get_or c k 0) r
    → Filled q w a b c h (k + 1) (set (set (set o k r.x) (h + k) r.y) (2 * h + k) r.z)
filled_next {q} {w} {a} {b} {c} {h} {k} {o} r l m W T = record {
  small = set3-below o k (h + k) (2 * h + k) r.x r.y r.z lx ly lz q W.small T.small.0 T.small.1 T.small.2;
  first = λ i n. go₁ i (Nat.eq-or-lt_of_le (omega arith));
  second = λ i n. go₂ i (Nat.eq-or-lt_of_le (omega arith));
  third = λ i n. go₃ i (Nat.eq-or-lt_of_le (omega arith));
}
  where
    lx : k < length o
    lx = omega arith

    ly : h + k < length o
    ly = omega arith

    lz : 2 * h + k < length o
    lz = omega arith

    s : List ℕ
    s = set (set (set o k r.x) (h + k) r.y) (2 * h + k) r.z

    off : (i : ℕ) → i ≢ 2 * h + k → i ≢ h + k → i ≢ k → at q s i ≡ at q o i
    off i a b c = ap (el q) (set3-off o k (h + k) (2 * h + k) r.x r.y r.z lx ly lz i a b c)

    go₁ : (i : ℕ) → (i ≡ k) ⊎ (i < k) → at q s i ≡ plus2 q (at q a i) (plus2 q (at q b i) (at q c i))
    go₁ i (inl e) = rw e (ap (el q) (set3-i o k (h + k) (2 * h + k) r.x r.y r.z lx ly lz (λ d. omega arith) (λ d. omega arith)) ∙ T.first)
    go₁ i (inr e) = off i (λ d. omega arith) (λ d. omega arith) (λ d. omega arith) ∙ W.first i e

    go₂ : (i : ℕ) → (i ≡ k) ⊎ (i < k) → at q s (h + i) ≡ plus2 q (mixed q (el q w) (at q a i) (at q b i) (at q c i)) (at q b i)
    go₂ i (inl e) = rw e (ap (el q) (set3-j o k (h + k) (2 * h + k) r.x r.y r.z lx ly lz (λ d. omega arith)) ∙ T.second)
    go₂ i (inr e) = off (h + i) (λ d. omega arith) (λ d. omega arith) (λ d. omega arith) ∙ W.second i e

    go₃ : (i : ℕ) → (i ≡ k) ⊎ (i < k) → at q s (2 * h + i) ≡ plus2 q (mixed q (el q w) (at q a i) (at q b i) (at q c i)) (at q c i)
    go₃ i (inl e) = rw e (ap (el q) (set3-k o k (h + k) (2 * h + k) r.x r.y r.z lx ly lz) ∙ T.third)
    go₃ i (inr e) = off (2 * h + i) (λ d. omega arith) (λ d. omega arith) (λ d. omega arith) ∙ W.third i e

pub filled-last : {q w : ℕ} {a b c : List ℕ} {h k : ℕ} {o : List ℕ} → k ≡ h → Filled q w a b c h k o → Filled q w a b c h h o
filled-last e W = rw e at W

-- n is a multiple of 3
pub third-order : (q n : ℕ) → Known q → n ≡ 2 ^ q - 1 → 3 * (n / 3) ≡ 2 ^ q - 1
third-order q n known e = rw e (by-known (λ q. 3 * ((2 ^ q - 1) / 3) ≡ 2 ^ q - 1) refl refl refl q known)

-- ---- at x / w and x / w², where 1 / w = w + 1
module _ (G : Field2) where
  open G use {𝟙, ◌⊕◌, ◌⊗◌}

  infixl 65 ◌⊕◌
  infixl 70 ◌⊗◌
  turn_one : (w a b c : G.K) → 𝟙 ⊗ a ⊕ ((w ⊕ 𝟙) ⊗ b ⊕ w ⊗ c) ≡ a ⊕ w ⊗ (b ⊕ c) ⊕ b
  turn_one w a b c = simp ring

  turn_two : (w a b c : G.K) → 𝟙 ⊗ 𝟙 ⊗ a ⊕ (w ⊗ b ⊕ (w ⊕ 𝟙) ⊗ c) ≡ a ⊕ w ⊗ (b ⊕ c) ⊕ c
  turn_two w a b c = simp ring

-- ---- sums by their indices modulo 3
module _ (q : ℕ) where
  abbrev sum3 : K q → K q → K q → K q
  sum3 a b c = plus2 q a (plus2 q b c)

  total-same : (n : ℕ) (f g : ℕ → K q) → ((j : ℕ) → f j ≡ g j) → total (F q) n f ≡ total (F q) n g
  total-same zero f g e = total-zero (F q) f ∙ sym (total-zero (F q) g)
  total-same (suc n) f g e = total-suc (F q) n f ∙ ap₂ (plus2 q) (total-same n f g e) (e n) ∙ sym (total-suc (F q) n g)

  thirds : (t : ℕ → K q) (m : ℕ) → total (F q) (3 * m) t ≡ sum3 (total (F q) m (λ j. t (0 + 3 * j))) (total (F q) m (λ j. t (1 + 3 * j))) (total (F q) m (λ j. t (2 + 3 * j)))
  thirds t zero = total-zero (F q) t ∙ sym (ap₂ (plus2 q) (total-zero (F q) (λ j. t (0 + 3 * j))) (ap₂ (plus2 q) (total-zero (F q) (λ j. t (1 + 3 * j))) (total-zero (F q) (λ j. t (2 + 3 * j)))) ∙ simp ring)
  thirds t (suc m) = step t m (thirds t m)
    where
      turn : (a b c x y z : K q) → plus2 q (plus2 q (plus2 q (sum3 a b c) x) y) z ≡ sum3 (plus2 q a x) (plus2 q b y) (plus2 q c z)
      turn a b c x y z = simp ring

      next : (t : ℕ → K q) (n i j : ℕ) → i ≡ suc n → n ≡ j → total (F q) i t ≡ plus2 q (total (F q) n t) (t j)
      next t n i j e d = rw (e, ← d) (total-suc (F q) n t)

      step : (t : ℕ → K q) (m : ℕ) → total (F q) (3 * m) t ≡ sum3 (total (F q) m (λ j. t (0 + 3 * j))) (total (F q) m (λ j. t (1 + 3 * j))) (total (F q) m (λ j. t (2 + 3 * j)))
          → total (F q) (3 * suc m) t ≡ sum3 (total (F q) (suc m) (λ j. t (0 + 3 * j))) (total (F q) (suc m) (λ j. t (1 + 3 * j))) (total (F q) (suc m) (λ j. t (2 + 3 * j)))
      step t m ih =
          next t (3 * m + 2) (3 * suc m) (2 + 3 * m) (omega arith) (omega arith)
          ∙ ap (λ (x : K q). plus2 q x (t (2 + 3 * m))) (next t (3 * m + 1) (3 * m + 2) (1 + 3 * m) (omega arith) (omega arith)
          ∙ ap (λ (x : K q). plus2 q x (t (1 + 3 * m))) (next t (3 * m) (3 * m + 1) (0 + 3 * m) (omega arith) (omega arith) ∙ ap (λ (x : K q). plus2 q x (t (0 + 3 * m))) ih))
          ∙ turn (total (F q) m (λ j. t (0 + 3 * j))) (total (F q) m (λ j. t (1 + 3 * j))) (total (F q) m (λ j. t (2 + 3 * j))) (t (0 + 3 * m)) (t (1 + 3 * m)) (t (2 + 3 * m))
          ∙ sym (ap₂ (plus2 q) (total-suc (F q) m (λ j. t (0 + 3 * j))) (ap₂ (plus2 q) (total-suc (F q) m (λ j. t (1 + 3 * j))) (total-suc (F q) m (λ j. t (2 + 3 * j)))))

  -- no term stands above l
  module _ (s : List ℕ) (l k : ℕ) where
    low : (n : ℕ) → n ≤ suc l → total (F q) n (λ i. nth q s l i k) ≡ total (F q) n (λ i. term q (at q s i) i k)
    low zero h = total-zero (F q) (λ i. nth q s l i k) ∙ sym (total-zero (F q) (λ i. term q (at q s i) i k))
    low (suc n) h =
        total-suc (F q) n (λ i. nth q s l i k)
        ∙ ap₂ (plus2 q) (low n (Nat.le_of_suc-le h)) (ap (λ (d : K q). term q d n k) (cut_in q s l n (Nat.le_of_suc-le-suc h))) ∙ sym (total-suc (F q) n (λ i. term q (at q s i) i k))

    high : (x : ℕ) → total (F q) (suc l + x) (λ i. nth q s l i k) ≡ total (F q) (suc l) (λ i. nth q s l i k)
    high zero = ap (λ (n : ℕ). total (F q) n (λ i. nth q s l i k)) (Nat.add-zero (suc l))
    high (suc x) =
        ap (λ (n : ℕ). total (F q) n (λ i. nth q s l i k)) (Nat.add-suc (suc l) x) ∙ total-suc (F q) (suc l + x) (λ i. nth q s l i k)
        ∙ ap₂ (plus2 q) (high x) (ap (λ (d : K q). term q d (suc l + x) k) (cut_off q s l (suc l + x) (omega arith)) ∙ zero-mul (F q) (pow (F q) (node q k) (suc l + x)))
        ∙ add-zero (F q) (total (F q) (suc l) (λ i. nth q s l i k))

    whole : (m : ℕ) → l < 3 * m → total (F q) (3 * m) (λ i. nth q s l i k) ≡ total (F q) (suc l) (λ i. term q (at q s i) i k)
    whole m h =
        let e : 3 * m ≡ suc l + (3 * m - suc l) = omega arith in
        ap (λ (n : ℕ). total (F q) n (λ i. nth q s l i k)) e ∙ high (3 * m - suc l) ∙ low (suc l) (Nat.le_refl (suc l))

  -- ---- a third of the way on
  module _ (known : Known q) (h : ℕ) (n3 : 3 * h ≡ 2 ^ q - 1) where
    abbrev ω : K q
    ω = pow (F q) (α q) h

    abbrev u : K q
    u = pow (F q) (β q) h

    order : (field_of q).n ≡ 3 * h
    order = field_of-length q known ∙ sym n3

    cube : mul2 q ω (mul2 q ω ω) ≡ (F q).𝟙
    cube =
        let e : 3 * h ≡ h + (h + h) = omega arith in
        sym (pow-add (F q) (α q) h (h + h) ∙ ap (mul2 q ω) (pow-add (F q) (α q) h h)) ∙ ap (pow (F q) (α q)) (sym e ∙ sym order) ∙ (field_of q).whole

    nontrivial : plus2 q ω (F q).𝟙 ≢ (F q).𝟘
    nontrivial e = (field_of q).order h (omega (arith, n3, size-least q known)) (omega (arith, n3, order, size-least q known)) (add-eq-zero (F q) ω (F q).𝟙 e)

    -- ω² + ω + 1 = 0
    square : mul2 q ω ω ≡ plus2 q ω (F q).𝟙
    square =
        add-eq-zero (F q) (mul2 q ω ω) (plus2 q ω (F q).𝟙)
        (mul-eq-zero (F q) (plus2 q (mul2 q ω ω) (plus2 q ω (F q).𝟙)) (plus2 q ω (F q).𝟙) (factor ω ∙ ap (λ (x : K q). plus2 q x (F q).𝟙) cube ∙ add-self (F q) (F q).𝟙) nontrivial)
      where
        factor : (x : K q) → mul2 q (plus2 q (mul2 q x x) (plus2 q x (F q).𝟙)) (plus2 q x (F q).𝟙) ≡ plus2 q (mul2 q x (mul2 q x x)) (F q).𝟙
        factor x = simp ring

    -- 1 / ω = ω²
    inverse : u ≡ plus2 q ω (F q).𝟙
    inverse =
        let e : (field_of q).n - h ≡ h + h = omega (arith, order) in
        sym (back q h (omega (arith, order))) ∙ ap (pow (F q) (α q)) e ∙ pow-add (F q) (α q) h h ∙ square

    inverse2 : mul2 q u u ≡ ω
    inverse2 = ap₂ (mul2 q) inverse inverse ∙ double ω ∙ ap (λ (x : K q). plus2 q x (F q).𝟙) square ∙ back1 ω
      where
        double : (x : K q) → mul2 q (plus2 q x (F q).𝟙) (plus2 q x (F q).𝟙) ≡ plus2 q (mul2 q x x) (F q).𝟙
        double x = simp ring

        back1 : (x : K q) → plus2 q (plus2 q x (F q).𝟙) (F q).𝟙 ≡ x
        back1 x = simp ring

    cube-u : pow (F q) u 3 ≡ (F q).𝟙
    cube-u =
        let e : h * 3 ≡ (field_of q).n = omega (arith, order) in
        sym (pow-mul (F q) (β q) h 3) ∙ ap (pow (F q) (β q)) e ∙ sym (back q (field_of q).n (Nat.le_refl (field_of q).n))
        ∙ ap (pow (F q) (α q)) (Nat.sub_self (field_of q).n) ∙ pow-zero (F q) (α q)

    first-power : pow (F q) u 1 ≡ u
    first-power = pow-suc (F q) u 0 ∙ ap (mul2 q u) (pow-zero (F q) u) ∙ mul-one (F q) u

    second-power : pow (F q) u 2 ≡ ω
    second-power = pow-suc (F q) u 1 ∙ ap (mul2 q u) first-power ∙ inverse2

    on-term : (d : K q) (c j k : ℕ) → term q d (c + 3 * j) (h + k) ≡ mul2 q (pow (F q) u c) (term q d (c + 3 * j) k)
    on-term d c j k =
        ap (λ (x : K q). mul2 q d (pow (F q) x (c + 3 * j))) (pow-add (F q) (β q) h k) ∙ ap (mul2 q d) (mul-pow (F q) u (node q k) (c + 3 * j))
        ∙ ap (λ (x : K q). mul2 q d (mul2 q x (pow (F q) (node q k) (c + 3 * j)))) (pow-add (F q) u c (3 * j)
        ∙ ap (mul2 q (pow (F q) u c)) (pow-mul (F q) u 3 j ∙ ap (λ (x : K q). pow (F q) x j) cube-u ∙ pow-one (F q) j) ∙ mul-one (F q) (pow (F q) u c))
        ∙ turn d (pow (F q) u c) (pow (F q) (node q k) (c + 3 * j))
      where
        turn : (a b c : K q) → mul2 q a (mul2 q b c) ≡ mul2 q b (mul2 q a c)
        turn a b c = simp ring

    module _ (s : List ℕ) (l m : ℕ) where
      -- the terms c, c + 3, .. at place k
      abbrev S : ℕ → ℕ → K q
      S c k = total (F q) m (λ j. every q s l c j k)

      on-sum : (c k : ℕ) → S c (h + k) ≡ mul2 q (pow (F q) u c) (S c k)
      on-sum c k =
          total-same m (λ j. every q s l c j (h + k)) (λ j. mul2 q (pow (F q) u c) (every q s l c j k)) (λ j. on-term (cut q s l (c + 3 * j)) c j k)
          ∙ sym (scaled q (pow (F q) u c) m (λ j. every q s l c j k))

      -- all terms at place k
      abbrev W : ℕ → K q
      W k = total (F q) (suc l) (λ i. term q (at q s i) i k)

      module _ (e : l < 3 * m) (k : ℕ) where
        here : W k ≡ sum3 (S 0 k) (S 1 k) (S 2 k)
        here = sym (whole s l k m e) ∙ thirds (λ i. nth q s l i k) m

      module _ (e : l < 3 * m) (k : ℕ) where
        one_on : W (h + k) ≡ plus2 q (mixed q ω (S 0 k) (S 1 k) (S 2 k)) (S 1 k)
        one_on =
            here e (h + k)
            ∙ ap₂ (plus2 q) (on-sum 0 k ∙ ap (λ (x : K q). mul2 q x (S 0 k)) (pow-zero (F q) u))
            (ap₂ (plus2 q) (on-sum 1 k ∙ ap (λ (x : K q). mul2 q x (S 1 k)) (first-power ∙ inverse)) (on-sum 2 k ∙ ap (λ (x : K q). mul2 q x (S 2 k)) second-power))
            ∙ turn_one (F q) ω (S 0 k) (S 1 k) (S 2 k)

        two-on : W (2 * h + k) ≡ plus2 q (mixed q ω (S 0 k) (S 1 k) (S 2 k)) (S 2 k)
        two-on =
            let d : 2 * h + k ≡ h + (h + k) = omega arith in
            ap W d ∙ here e (h + (h + k))
            ∙ ap₂ (plus2 q) (twice 0 (F q).𝟙 (pow-zero (F q) u))
            (ap₂ (plus2 q) (twice 1 u first-power ∙ ap (λ (x : K q). mul2 q x (S 1 k)) inverse2) (twice 2 ω second-power ∙ ap (λ (x : K q). mul2 q x (S 2 k)) square))
            ∙ turn_two (F q) ω (S 0 k) (S 1 k) (S 2 k)
          where
            twice : (c : ℕ) (x : K q) → pow (F q) u c ≡ x → S c (h + (h + k)) ≡ mul2 q (mul2 q x x) (S c k)
            twice c x v =
                on-sum c (h + k) ∙ ap₂ (mul2 q) v (on-sum c k ∙ ap (λ (y : K q). mul2 q y (S c k)) v) ∙ sym (mul_assoc (F q) x x (S c k))

      -- the entries are the values
      pub all-values : l < 3 * m → {a b c o : List ℕ} → Values q (every q s l 0) m h a → Values q (every q s l 1) m h b → Values q (every q s l 2) m h c
          → Filled q (power q h) a b c h h o → (z : ℕ) → z ≤ 3 * h → Values q (λ j k. term q (at q s j) j k) (suc l) z o
      all-values e {a} {b} {c} {o} A B C W z n = record { small = W.small; is = λ k d. go k (omega arith) (dec_le (suc k) h) (dec_le (suc k) (2 * h)) }
        where
          mix : (k : ℕ) → k < h → mixed q (el q (power q h)) (at q a k) (at q b k) (at q c k) ≡ mixed q ω (S 0 k) (S 1 k) (S 2 k)
          mix k d = ap₂ (plus2 q) (A.is k d) (ap₂ (mul2 q) (el-power q known h) (ap₂ (plus2 q) (B.is k d) (C.is k d)))

          second : (k : ℕ) → k < h → at q o (h + k) ≡ total (F q) (suc l) (λ i. term q (at q s i) i (h + k))
          second k d = W.second k d ∙ ap₂ (plus2 q) (mix k d) (B.is k d) ∙ sym (one_on e k)

          third : (k : ℕ) → k < h → at q o (2 * h + k) ≡ total (F q) (suc l) (λ i. term q (at q s i) i (2 * h + k))
          third k d = W.third k d ∙ ap₂ (plus2 q) (mix k d) (C.is k d) ∙ sym (two-on e k)

          go : (k : ℕ) → k < 3 * h → Dec (suc k ≤ h) → Dec (suc k ≤ 2 * h) → at q o k ≡ total (F q) (suc l) (λ i. term q (at q s i) i k)
          go k n (yes d) x = W.first k d ∙ ap₂ (plus2 q) (A.is k d) (ap₂ (plus2 q) (B.is k d) (C.is k d)) ∙ sym (here e k)
          go k n (no d) (yes x) = let v : h + (k - h) ≡ k = omega arith in rw v at (second (k - h) (omega arith))
          go k n (no d) (no x) = let v : 2 * h + (k - 2 * h) ≡ k = omega arith in rw v at (third (k - 2 * h) (omega arith))
