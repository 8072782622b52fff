-- Arrays that follow the states of Berlekamp's and Massey's algorithm, turn by turn.
--   Follows q a l       the entries of a are the numbers of the coefficients l
--   After q s r l a o   a and o follow locator and helper after r turns on the sums s, and l is the bound
--   Turned, Done        what a turn and the whole give: such arrays, or a number above t where a bound passes t
use Rattle.std.specs.Prelude.{◌≡◌, refl, Bool, true, false, ◌≢◌, List, [], ◌∷◌, ℕ, zero, suc, ◌+◌, ◌-◌, ◌*◌, ◌%◌, ◌^◌, ◌≤◌, ◌<◌, T, eqb, leb, length, get_or, set}
use Rattle.std.proofs.Common.{sym, ap, ap₂, ◌∙◌, arith, length-set, pow_pos, get_or-set_same, get_or-set_other}
use Rattle.std.proofs.Math.Nat as Nat
use Rattle.field.specs.Elements.{power, power_zero, times}
use Rattle.field.specs.Fields.{Known, field_of}
use Rattle.element.specs.Exponents.{times_power, times-zero-r}
use Rattle.element.specs.Fields.{size-least}
use Rattle.element.specs.Lent.{LogOf}
use Rattle.locator.specs.Follow.{discrepancy, entry-plus, entry-scale, terms, terms-agree}
use Rattle.field.specs.Inverse.{recip, recip-unique}
use Rattle.locator.specs.Kept.{Says, kept, says-le, says-zero}
use Rattle.locator.specs.Massey.{State, massey, massey-suc, massey-zero, turn}
use Rattle.locator.specs.Series.{conv, plus, scale}
use Rattle.massey.specs.Entries.{Added, Below, Dot, F, K, at, below_set, el, el-one, el-small, el-times, el-zero, mul2, plus2}
use Rattle.massey.specs.Loops.{Jumped, Shifted, shifted-below}

-- ---- one turn, by cases
module _ (q r : ℕ) (s : State (K q)) (δ : K q) where
  turn-zero : (a b : Bool) → Says a (δ ≡ (F q).𝟘) → δ ≡ (F q).𝟘 → turn (field_of q) r s δ a b ≡ record { locator = s.locator; helper = (F q).𝟘 ∷ s.helper; bound = s.bound }
  turn-zero true b z e = refl
  turn-zero false b z e = absurd (z e)

  turn_near : (a b : Bool) → Says a (δ ≡ (F q).𝟘) → Says b (suc r ≤ 2 * s.bound) → δ ≢ (F q).𝟘 → suc r ≤ 2 * s.bound
      → turn (field_of q) r s δ a b ≡ record { locator = plus (F q) s.locator (scale (F q) δ s.helper); helper = (F q).𝟘 ∷ s.helper; bound = s.bound }
  turn_near true b z y e h = absurd (e z)
  turn_near false true z y e h = refl
  turn_near false false z y e h = absurd (y h)

  turn-jump : (a b : Bool) → Says a (δ ≡ (F q).𝟘) → Says b (suc r ≤ 2 * s.bound) → δ ≢ (F q).𝟘 → ¬ (suc r ≤ 2 * s.bound)
      → turn (field_of q) r s δ a b ≡ record { locator = plus (F q) s.locator (scale (F q) δ s.helper); helper = (F q).𝟘 ∷ scale (F q) (recip (field_of q) δ) s.locator; bound = suc r - s.bound }
  turn-jump true b z y e h = absurd (e z)
  turn-jump false true z y e h = absurd (h y)
  turn-jump false false z y e h = refl

-- ---- an array follows a list, entry by entry
pub record Follows (q : ℕ) (a : List ℕ) (l : List (K q)) : Type 0 where
  pub small : Below q a
  pub entry : (i : ℕ) → i < length a → at q a i ≡ get_or l i (F q).𝟘

pub record After (q : ℕ) (s : List ℕ) (r l : ℕ) (a o : List ℕ) : Type 0 where
  pub same : length a ≡ length o
  pub locators : Follows q a (massey (field_of q) (at q s) r).locator
  pub helpers : Follows q o (massey (field_of q) (at q s) r).helper
  pub bounds : l ≡ (massey (field_of q) (at q s) r).bound

abbrev pub Zeroed : List ℕ → Type 0
Zeroed a = (i : ℕ) → get_or a i 0 ≡ 0

pub zeroed-below : (q : ℕ) (a : List ℕ) → Zeroed a → Below q a
zeroed-below q a z = record { lt = λ i. rw (z i) (pow_pos q) }

-- to a state that is the next
record Follow (q : ℕ) (m : State (K q)) (l : ℕ) (a o : List ℕ) : Type 0 where
  pub same : length a ≡ length o
  pub locators : Follows q a m.locator
  pub helpers : Follows q o m.helper
  pub bounds : l ≡ m.bound

after-of : (q : ℕ) (s : List ℕ) (r l : ℕ) (a o : List ℕ) (m : State (K q)) → massey (field_of q) (at q s) r ≡ m → Follow q m l a o → After q s r l a o
after-of q s r l a o m e I = go (rw (← e) at I)
  where
    go : Follow q (massey (field_of q) (at q s) r) l a o → After q s r l a o
    go I = record { same = I.same; locators = I.locators; helpers = I.helpers; bounds = I.bounds }

pub follow-first : (q : ℕ) → Known q → (s a o : List ℕ) → Zeroed a → Zeroed o → 0 < length a → length a ≡ length o → After q s 0 0 (set a 0 1) o
follow-first q known s a o za zo p e =
    after-of q s 0 0 (set a 0 1) o (record { locator = (F q).𝟙 ∷ []; helper = []; bound = 0 }) (massey-zero (field_of q) (at q s)) (record {
      same = length-set a 0 1 ∙ e;
      locators = record { small = below_set 0 1 p (zeroed-below q a za) (omega (arith, size-least q known)); entry = go };
      helpers = record { small = zeroed-below q o zo; entry = λ i h. ap (el q) (zo i) ∙ el-zero q };
      bounds = refl;
    })
  where
    go : (i : ℕ) → i < length (set a 0 1) → at q (set a 0 1) i ≡ get_or ((F q).𝟙 ∷ []) i (F q).𝟘
    go zero h = ap (el q) (get_or-set_same a 0 1 0 p) ∙ el-one q
    go (suc i) h = ap (el q) (get_or-set_other a 0 (suc i) 1 0 (omega arith) ∙ za (suc i)) ∙ el-zero q

shifted-follows : {q : ℕ} {o b : List ℕ} {h : List (K q)} → Follows q o h → Shifted o b → Follows q b ((F q).𝟘 ∷ h)
shifted-follows {q} {o} {b} {h} f S = record { small = shifted-below f.small S; entry = go }
  where
    go : (i : ℕ) → i < length b → at q b i ≡ get_or ((F q).𝟘 ∷ h) i (F q).𝟘
    go zero l = ap (el q) (S.is zero (rw S.size at l)) ∙ el-zero q
    go (suc i) l =
        let l' : suc i < length o = rw S.size at l in
        ap (el q) (S.is (suc i) l') ∙ f.entry i (Nat.le_of_suc-le l')

sum-follows : {q : ℕ} {a o : List ℕ} {g h : List (K q)} (b : List ℕ) (d : ℕ) (δ : K q) → Below q b → Follows q a g → Follows q o h → length a ≡ length o → length b ≡ length a → el q d ≡ δ
    → ((k : ℕ) → at q b k ≡ plus2 q (at q a k) (mul2 q (el q d) (at q o k))) → Follows q b (plus (F q) g (scale (F q) δ h))
sum-follows {q} {a} {o} {g} {h} b d δ s f k e e' w A = record { small = s; entry = go }
  where
    go : (i : ℕ) → i < length b → at q b i ≡ get_or (plus (F q) g (scale (F q) δ h)) i (F q).𝟘
    go i l =
        let l' : i < length a = rw e' at l in
        A i ∙ ap₂ (plus2 q) (f.entry i l') (ap₂ (mul2 q) w (k.entry i (rw e at l'))) ∙ sym (entry-plus (F q) δ g h i)

multiple-follows : {q : ℕ} {a : List ℕ} {g : List (K q)} (p : List ℕ) (e : ℕ) (δ : K q) → Below q p → Follows q a g → length p ≡ length a → el q e ≡ δ
    → ((k : ℕ) → at q p k ≡ mul2 q (el q e) (at q a k)) → Follows q p (scale (F q) δ g)
multiple-follows {q} {a} {g} p e δ s f z w A = record { small = s; entry = λ i l. A i ∙ ap₂ (mul2 q) w (f.entry i (rw z at l)) ∙ sym (entry-scale (F q) δ g i) }

-- the exponent n - k, counted modulo n, is the inverse's
pub inverse-is : (q : ℕ) → Known q → (d k e r : ℕ) → LogOf q d k → e ≡ (2 ^ q - 1 - k) % (2 ^ q - 1) → r ≡ power q e → times q d r ≡ 1
inverse-is q known d k e r L w v =
    let h : k < 2 ^ q - 1 = L.below in
    let n : 0 < 2 ^ q - 1 = omega arith in
    let c : (k + e) % (2 ^ q - 1) ≡ 0 =
    ap (λ (x : ℕ). (k + x) % (2 ^ q - 1)) w ∙ Nat.add-mod-mod k (2 ^ q - 1 - k) (2 ^ q - 1) ∙ ap (λ (x : ℕ). x % (2 ^ q - 1)) (Nat.add-sub_of_le (Nat.le_of_lt h)) ∙ Nat.mod_self (2 ^ q - 1) in
    ap₂ (times q) (sym L.power) v ∙ times_power q known k e ∙ ap (power q) c ∙ power_zero q

pub inverse-pos : (q d e : ℕ) → times q d e ≡ 1 → 0 < e
inverse-pos q d zero w = let z : ◌≡◌ {A = ℕ} 0 1 = sym (times-zero-r q d) ∙ w in absurd (Nat.suc-ne-zero 0 (sym z))
inverse-pos q d (suc e) w = omega arith

module _ {q : ℕ} (known : Known q) {s : List ℕ} {r l : ℕ} {a o : List ℕ} (I : After q s r l a o) (n : l < length a) {d : ℕ} (D : Dot q s a r (suc l) d) where
  abbrev m : State (K q)
  m = massey (field_of q) (at q s) r

  abbrev δ : K q
  δ = conv (F q) (at q s) (massey (field_of q) (at q s) r).locator r

  is : el q d ≡ δ
  is = D.is ∙ terms-agree (F q) (at q s) (at q a) (λ h. get_or m.locator h (F q).𝟘) r (suc l) (λ i h. I.locators.entry i (omega arith))
      ∙ ap (λ (b : ℕ). terms (F q) (at q s) (λ h. get_or m.locator h (F q).𝟘) r (suc b)) I.bounds ∙ sym (discrepancy (field_of q) (at q s) r)

  nonzero : d ≢ 0 → δ ≢ (F q).𝟘
  nonzero h e = h (el-small q known d D.small (is ∙ e))

  test : Bool
  test = eqb ((field_of q).num δ) 0

  next-zero : d ≡ 0 → massey (field_of q) (at q s) (suc r) ≡ record { locator = m.locator; helper = (F q).𝟘 ∷ m.helper; bound = m.bound }
  next-zero e =
      massey-suc (field_of q) (at q s) r
      ∙ turn-zero q r m δ (eqb ((field_of q).num δ) 0) (leb (suc r) (2 * m.bound)) (says-zero (field_of q) δ) (sym is ∙ ap (el q) e ∙ el-zero q)

  next-near : d ≢ 0 → r < 2 * l
      → massey (field_of q) (at q s) (suc r) ≡ record { locator = plus (F q) m.locator (scale (F q) δ m.helper); helper = (F q).𝟘 ∷ m.helper; bound = m.bound }
  next-near e h =
      massey-suc (field_of q) (at q s) r
      ∙ turn_near q r m δ (eqb ((field_of q).num δ) 0) (leb (suc r) (2 * m.bound)) (says-zero (field_of q) δ) (says-le (suc r) (2 * m.bound)) (nonzero e) (rw I.bounds at h)

  next-jump : d ≢ 0 → 2 * l ≤ r
      → massey (field_of q) (at q s) (suc r)
      ≡ record { locator = plus (F q) m.locator (scale (F q) δ m.helper); helper = (F q).𝟘 ∷ scale (F q) (recip (field_of q) δ) m.locator; bound = suc r - m.bound }
  next-jump e h =
      massey-suc (field_of q) (at q s) r
      ∙ turn-jump q r m δ (eqb ((field_of q).num δ) 0) (leb (suc r) (2 * m.bound)) (says-zero (field_of q) δ) (says-le (suc r) (2 * m.bound)) (nonzero e) (λ k. Nat.not-le_of_lt k (rw I.bounds at h))

  pub step-zero : d ≡ 0 → {p : List ℕ} → Shifted o p → After q s (suc r) l a p
  step-zero e {p} S =
      after-of q s (suc r) l a p (record { locator = m.locator; helper = (F q).𝟘 ∷ m.helper; bound = m.bound }) (next-zero e)
      (record { same = I.same ∙ sym S.size; locators = I.locators; helpers = shifted-follows I.helpers S; bounds = I.bounds })

  pub step-near : d ≢ 0 → r < 2 * l → {b p : List ℕ} → Added q a o d b → length b ≡ length a → Shifted o p → After q s (suc r) l b p
  step-near e h {b} {p} A z S =
      after-of q s (suc r) l b p (record { locator = plus (F q) m.locator (scale (F q) δ m.helper); helper = (F q).𝟘 ∷ m.helper; bound = m.bound }) (next-near e h)
      (record { same = z ∙ I.same ∙ sym S.size; locators = sum-follows b d δ A.small I.locators I.helpers I.same z is A.is; helpers = shifted-follows I.helpers S; bounds = I.bounds })

  pub step-jump : d ≢ 0 → 2 * l ≤ r → {e' : ℕ} {b u p : List ℕ} → Jumped q a o d e' b u → (times q d e' ≡ 1) × (e' < 2 ^ q) → length b ≡ length a → Shifted u p
      → After q s (suc r) (suc r - l) b p
  step-jump e h {e'} {b} {u} {p} G v z S =
      let w : el q e' ≡ recip (field_of q) δ =
      recip-unique (field_of q) δ (el q e') (ap (λ (x : K q). mul2 q x (el q e')) (sym is) ∙ sym (el-times q known d e' D.small v.1) ∙ ap (el q) v.0 ∙ el-one q) (nonzero e) in
      after-of q s (suc r) (suc r - l) b p
      (record { locator = plus (F q) m.locator (scale (F q) δ m.helper); helper = (F q).𝟘 ∷ scale (F q) (recip (field_of q) δ) m.locator; bound = suc r - m.bound }) (next-jump e h)
      (record {
        same = z ∙ I.same ∙ sym (S.size ∙ G.size);
        locators = sum-follows b d δ G.small I.locators I.helpers I.same z is G.sum;
        helpers = shifted-follows (multiple-follows u e' (recip (field_of q) δ) G.small' I.locators (G.size ∙ sym I.same) w G.multiple) S;
        bounds = ap (λ (x : ℕ). suc r - x) I.bounds;
      })

  -- a jump above t
  pub step-far : d ≢ 0 → 2 * l ≤ r → (massey (field_of q) (at q s) (suc r)).bound ≡ suc r - l
  step-far e h = ap (λ (m : State (K q)). m.bound) (next-jump e h) ∙ ap (λ (x : ℕ). suc r - x) (sym I.bounds)

-- what the call gives: the locator of 2 t sums with its bound, or a number above t where some bound is above t
pub record Done (q : ℕ) (s : List ℕ) (t l : ℕ) (a o : List ℕ) : Type 0 where
  pub found : l ≤ t → After q s (2 * t) l a o
  pub far : t < l → (r : ℕ) × (r ≤ 2 * t) × (t < (massey (field_of q) (at q s) r).bound)

-- what a turn gives
pub record Turned (q : ℕ) (s : List ℕ) (t r b : ℕ) (a o : List ℕ) : Type 0 where
  pub near : b ≤ t → After q s (suc r) b a o
  pub far : t < b → t < (massey (field_of q) (at q s) (suc r)).bound

pub turned-near : {q : ℕ} {s : List ℕ} {t r b : ℕ} {a o : List ℕ} → b ≤ t → After q s (suc r) b a o → Turned q s t r b a o
turned-near h A = record { near = λ l. A; far = λ l. absurd (Nat.not-le_of_lt l h) }

pub turned-far : {q : ℕ} {s : List ℕ} {t r b : ℕ} {a o : List ℕ} → t < b → t < (massey (field_of q) (at q s) (suc r)).bound → Turned q s t r b a o
turned-far h A = record { near = λ l. absurd (Nat.not-le_of_lt h l); far = λ l. A }

pub done-near : {q : ℕ} {s : List ℕ} {t r l : ℕ} {a o : List ℕ} → r ≡ 2 * t → l ≤ t → After q s r l a o → Done q s t l a o
done-near e h A = record { found = λ l. rw e at A; far = λ l. absurd (Nat.not-le_of_lt l h) }

pub done-far : {q : ℕ} {s : List ℕ} {t r b : ℕ} {a o : List ℕ} → r < 2 * t → t < b → Turned q s t r b a o → Done q s t b a o
done-far {q} {s} {t} {r} {b} h f T = record { found = λ l. absurd (Nat.not-le_of_lt f l); far = λ l. (suc r, h, T.far f) }

pub after-reach : {q : ℕ} {s : List ℕ} {r l : ℕ} {a o : List ℕ} → After q s r l a o → l ≤ r
after-reach {q} {s} {r} {l} A = rw A.bounds (kept (field_of q) (at q s) r).reach

pub turned-jump : {q : ℕ} {s : List ℕ} {t r : ℕ} (l : ℕ) {a o : List ℕ} → r + 1 - l ≤ t → After q s (suc r) (suc r - l) a o → Turned q s t r (r + 1 - l) a o
turned-jump {q} {s} {t} {r} l h A = let e : r + 1 - l ≡ suc r - l = omega arith in turned-near h (rw e A)

pub turned-off : {q : ℕ} {s : List ℕ} {t r : ℕ} (l : ℕ) {a o : List ℕ} → t < r + 1 - l → (massey (field_of q) (at q s) (suc r)).bound ≡ suc r - l → Turned q s t r (t + 1) a o
turned-off {q} {s} {t} {r} l h e = turned-far (omega arith) (rw e (omega arith))

pub after_next : {q : ℕ} {s : List ℕ} {r l : ℕ} {a o : List ℕ} → After q s (suc r) l a o → After q s (r + 1) l a o
after_next {q} {s} {r} A = let e : r + 1 ≡ suc r = omega arith in rw e A
