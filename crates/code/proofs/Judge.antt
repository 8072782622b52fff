-- Members by their words, and what judge names.
--   First Q i o f    f is the first number from i on, below o, that passes the test Q, or o if none does
use Rattle.std.specs.Prelude.{◌≡◌, refl, ◌≢◌, ◌↔◌, ◌⊎◌, Bool, true, false, not, cond, List, ℕ, zero, suc, ◌+◌, ◌-◌, ◌≤◌, ◌<◌, T, eqb, ltb, length, get_or}
use Rattle.std.proofs.Common.{sym, ap, ◌∙◌, inl, inr, zero-le, arith, eqb→eq, ltb→lt, lt→ltb, nltb→le, T_not}
use Rattle.std.proofs.Math.Nat as Nat
use Rattle.std.proofs.Math.Dec.{not_T}
use Rattle.polynomial.specs.Division.{rem-zero-iff}
use Rattle.polynomial.specs.Sums.{all-at, at_all}
use Rattle.polynomial.specs.Multiple.{Multiple}
use Rattle.code.specs.declared.Parameters.{Parameters}
use Rattle.code.specs.declared.Verdict.{Verdict}
use Rattle.code.specs.declared.Verdict.TheVariants.{Member, SubWord, NestedWord}
use Rattle.code.specs.Accepted.{Rules}
use Rattle.code.proofs.Accepted.{lawful}
use Rattle.code.specs.Code.{IsMember, degree, failing, failing_nested, gen, nested, remainder, verdict}
use Rattle.code.proofs.Distance.{Passing}
use Rattle.code.specs.Lists.{first, range}
use Rattle.code.specs.Steps.{Divides}

pub not-lt : {a b : ℕ} → (a < b → ⊥) → b ≤ a
not-lt h = Nat.le_of_suc-le-suc (Nat.lt_of_not-le h)

-- ---- the first that passes a test
pub record First (Q : ℕ → Bool) (i o f : ℕ) : Type 0 where
  pub high : f ≤ o
  pub before : (x : ℕ) → i ≤ x → x < f → T (not (Q x))
  pub at : f < o → T (Q f)

first_step : (Q : ℕ → Bool) (i o f : ℕ) (b : Bool) → Q i ≡ b → i < o → First Q (suc i) o f → First Q i o (cond b i f)
first_step Q i o f true e l r = record {
  high = omega arith;
  before = λ x h k. absurd (Nat.not-suc-le-zero {n = 0} (omega arith));
  at = λ _. rw e tt;
}
first_step Q i o f false e l r = record { high = r.high; before = λ x h k. go x k (Nat.eq-or-lt_of_le h); at = r.at }
  where
    go : (x : ℕ) → x < f → (i ≡ x) ⊎ (i < x) → T (not (Q x))
    go x k (inl h) = rw (← h, e) tt
    go x k (inr h) = r.before x h k

pub first-is : (Q : ℕ → Bool) (i k o : ℕ) → i + k ≡ o → First Q i o (first Q (range i k) o)
unfolding first range
first-is Q i zero o e = record {
  high = Nat.le_refl o;
  before = λ x h k. absurd (Nat.not-suc-le-zero {n = 0} (omega arith));
  at = λ h. absurd (Nat.not-suc-le-zero {n = 0} (omega arith));
}
first-is Q i (suc k) o e = first_step Q i o (first Q (range (suc i) k) o) (Q i) refl (omega arith) (first-is Q (suc i) k o (omega arith))

-- the least x below o that passes, if one does: it is the first
pub first-only : (Q : ℕ → Bool) (o f x : ℕ) → First Q 0 o f → x < o → T (Q x) → ((k : ℕ) → k < x → T (not (Q k))) → f ≡ x
first-only Q o f x r l t h = Nat.le_antisymm (not-lt late) (not-lt early)
  where
    late : x < f → ⊥
    late k = T_not (Q x) (r.before x zero-le k) t

    early : f < x → ⊥
    early k = T_not (Q f) (h f k) (r.at (omega arith))

pub first-none : (Q : ℕ → Bool) (o f : ℕ) → First Q 0 o f → ((k : ℕ) → k < o → T (not (Q k))) → o ≤ f
first-none Q o f r h = not-lt (λ l. T_not (Q f) (h f l) (r.at l))

-- ---- a verdict by two tests
abbrev judged : Bool → Bool → ℕ → ℕ → Verdict
judged b c f g = cond b (SubWord f) (cond c (NestedWord g) Member)

judged-member : (b c : Bool) (f g : ℕ) → judged b c f g ≡ Member → T (not b) × T (not c)
judged-member true c f g e = let z : ◌≡◌ {A = ℕ} 0 1 = cc in absurd (Nat.not-suc-le-zero {n = 0} (omega arith))
judged-member false true f g e = let z : ◌≡◌ {A = ℕ} 0 1 = cc in absurd (Nat.not-suc-le-zero {n = 0} (omega arith))
judged-member false false f g e = (tt, tt)

judged-sub : (b c : Bool) (f g i : ℕ) → judged b c f g ≡ SubWord i → T b × (f ≡ i)
judged-sub true c f g i e = (tt, (cc))
judged-sub false true f g i e = let z : ◌≡◌ {A = ℕ} 0 1 = cc in absurd (Nat.not-suc-le-zero {n = 0} (omega arith))
judged-sub false false f g i e = let z : ◌≡◌ {A = ℕ} 0 1 = cc in absurd (Nat.not-suc-le-zero {n = 0} (omega arith))

judged-nested : (b c : Bool) (f g l : ℕ) → judged b c f g ≡ NestedWord l → T (not b) × T c × (g ≡ l)
judged-nested true c f g l e = let z : ◌≡◌ {A = ℕ} 0 1 = cc in absurd (Nat.not-suc-le-zero {n = 0} (omega arith))
judged-nested false true f g l e = (tt, tt, (cc))
judged-nested false false f g l e = let z : ◌≡◌ {A = ℕ} 0 1 = cc in absurd (Nat.not-suc-le-zero {n = 0} (omega arith))

to-member : (b c : Bool) (f g : ℕ) → T (not b) → T (not c) → judged b c f g ≡ Member
to-member true c f g h k = absurd h
to-member false true f g h k = absurd k
to-member false false f g h k = refl

to-sub : (b c : Bool) (f g : ℕ) → T b → judged b c f g ≡ SubWord f
to-sub true c f g h = refl
to-sub false c f g h = absurd h

to-nested : (b c : Bool) (f g : ℕ) → T (not b) → T c → judged b c f g ≡ NestedWord g
to-nested true c f g h k = absurd h
to-nested false true f g h k = refl
to-nested false false f g h k = absurd k

-- ---- zero tests
pub is_zero : (x : ℕ) → T (not (not (eqb x 0))) → x ≡ 0
is_zero x t = eqb→eq x 0 (again (eqb x 0) t)
  where
    again : (b : Bool) → T (not (not b)) → T b
    again true t = tt
    again false t = absurd t

pub zero_is : (x : ℕ) → x ≡ 0 → T (not (not (eqb x 0)))
zero_is x e = rw e tt

pub nonzero-is : (x : ℕ) → x ≢ 0 → T (not (eqb x 0))
nonzero-is x h = not_T (eqb x 0) (λ t. h (eqb→eq x 0 t))

ltb_no : (m n : ℕ) → n ≤ m → T (not (ltb m n))
ltb_no m n h = not_T (ltb m n) (λ t. (let l : m < n = ltb→lt m n t in absurd (Nat.not-suc-le-zero {n = 0} (omega arith))))

-- the test that word i fails at level lev i
abbrev fails : Parameters → (ℕ → ℕ) → (ℕ → ℕ) → ℕ → Bool
fails p lev word i = not (eqb (remainder p (lev i) (word i)) 0)

abbrev Ok : Parameters → (ℕ → ℕ) → (ℕ → ℕ) → ℕ → Type 0
Ok p lev word i = Multiple (gen p (lev i)) (word i)

failing-is : (p : Parameters) (cs : List ℕ) → First (fails p (λ _. 0) (λ i. get_or cs i 0)) 0 p.m (failing p cs)
unfolding failing
failing-is p cs = first-is (fails p (λ _. 0) (λ i. get_or cs i 0)) 0 p.m p.m (Nat.zero-add p.m)

failing_nested-is : (p : Parameters) (cs : List ℕ) → First (fails p (λ l. p.v - l) (λ l. nested p l cs)) 0 p.v (failing_nested p cs)
unfolding failing_nested
failing_nested-is p cs = first-is (fails p (λ l. p.v - l) (λ l. nested p l cs)) 0 p.v p.v (Nat.zero-add p.v)

verdict-eq : (p : Parameters) (cs : List ℕ)
    → verdict p cs ≡ judged (ltb (failing p cs) p.m) (ltb (failing_nested p cs) p.v) (failing p cs) (failing_nested p cs)
unfolding verdict
verdict-eq p cs = refl

-- by the two searches
pub answer-sub : (p : Parameters) (cs : List ℕ) (i : ℕ) → i ≡ failing p cs → i < p.m → SubWord i ≡ verdict p cs
answer-sub p cs i e h =
    ap SubWord e ∙ sym (verdict-eq p cs ∙ to-sub (ltb (failing p cs) p.m) (ltb (failing_nested p cs) p.v) (failing p cs)
    (failing_nested p cs) (lt→ltb (failing p cs) p.m (rw (← e) h)))

pub answer-nested : (p : Parameters) (cs : List ℕ) (i l : ℕ) → i ≡ failing p cs → p.m ≤ i → l ≡ failing_nested p cs → l < p.v
    → NestedWord l ≡ verdict p cs
answer-nested p cs i l e h f k =
    ap NestedWord f
    ∙ sym (verdict-eq p cs ∙ to-nested (ltb (failing p cs) p.m) (ltb (failing_nested p cs) p.v) (failing p cs) (failing_nested p cs)
    (ltb_no (failing p cs) p.m (rw (← e) h)) (lt→ltb (failing_nested p cs) p.v (rw (← f) k)))

pub answer-member : (p : Parameters) (cs : List ℕ) (i l : ℕ) → i ≡ failing p cs → p.m ≤ i → l ≡ failing_nested p cs → p.v ≤ l
    → Member ≡ verdict p cs
answer-member p cs i l e h f k =
    sym (verdict-eq p cs ∙ to-member (ltb (failing p cs) p.m) (ltb (failing_nested p cs) p.v) (failing p cs) (failing_nested p cs)
    (ltb_no (failing p cs) p.m (rw (← e) h)) (ltb_no (failing_nested p cs) p.v (rw (← f) k)))

module _ (p : Parameters) (R : Rules p) where
  -- a word is a multiple of g_a exactly when its remainder is 0
  pub multiple-iff : (a : ℕ) → a ≤ p.v → (c : ℕ) → (remainder p a c ≡ 0) ↔ Multiple (gen p a) c
  multiple-iff a h c = rem-zero-iff (gen p a) (degree p a) ((lawful p R).degrees a h) c

  module _ (lev word : ℕ → ℕ) (low : (i : ℕ) → lev i ≤ p.v) (o f : ℕ) (r : First (fails p lev word) 0 o f) where
    ok : (i : ℕ) → T (not (fails p lev word i)) → Ok p lev word i
    ok i t = (multiple-iff (lev i) (low i) (word i)).0 (is_zero (remainder p (lev i) (word i)) t)

    pass : (i : ℕ) → Ok p lev word i → T (not (fails p lev word i))
    pass i h = zero_is (remainder p (lev i) (word i)) ((multiple-iff (lev i) (low i) (word i)).1 h)

    fail : (i : ℕ) → (Ok p lev word i → ⊥) → T (fails p lev word i)
    fail i h = nonzero-is (remainder p (lev i) (word i)) (λ e. h ((multiple-iff (lev i) (low i) (word i)).0 e))

    all-ok : T (not (ltb f o)) → (i : ℕ) → i < o → Ok p lev word i
    all-ok t i l = ok i (r.before i zero-le (omega (arith, nltb→le f o t)))

    ok-all : ((i : ℕ) → i < o → Ok p lev word i) → T (not (ltb f o))
    ok-all h = ltb_no f o (first-none (fails p lev word) o f r (λ k l. pass k (h k l)))

    found : T (ltb f o) → (f < o) × (¬ Ok p lev word f) × ((k : ℕ) → k < f → Ok p lev word k)
    found t =
        let l : f < o = ltb→lt f o t in
        (l, (λ h. T_not (fails p lev word f) (pass f h) (r.at l)), (λ k h. ok k (r.before k zero-le h)))

    found-is : (i : ℕ) → i < o → (¬ Ok p lev word i) → ((k : ℕ) → k < i → Ok p lev word k) → f ≡ i
    found-is i l h k = first-only (fails p lev word) o f i r l (fail i h) (λ j m. pass j (k j m))

  module _ (cs : List ℕ) where
    abbrev sub : ℕ → ℕ
    sub i = get_or cs i 0

    abbrev nest : ℕ → ℕ
    nest l = nested p l cs

    abbrev lev : ℕ → ℕ
    lev l = p.v - l

    abbrev f : ℕ
    f = failing p cs

    abbrev g : ℕ
    g = failing_nested p cs

    abbrev b : Bool
    b = ltb f p.m

    abbrev c : Bool
    c = ltb g p.v

    level0 : ℕ → 0 ≤ p.v
    level0 i = zero-le

    pub verdict-member : (verdict p cs ≡ Member) ↔ IsMember p cs
    verdict-member = (to, back)
      where
        to : verdict p cs ≡ Member → IsMember p cs
        to e =
            let t = judged-member b c f g (sym (verdict-eq p cs) ∙ e) in
            record {
              sub_words = all-ok (λ _. 0) sub level0 p.m f (failing-is p cs) t.0;
              nested-words = all-ok lev nest (Nat.sub-le p.v) p.v g (failing_nested-is p cs) t.1;
            }

        back : IsMember p cs → verdict p cs ≡ Member
        back M =
            verdict-eq p cs ∙ to-member b c f g (ok-all (λ _. 0) sub level0 p.m f (failing-is p cs) M.sub_words)
            (ok-all lev nest (Nat.sub-le p.v) p.v g (failing_nested-is p cs) M.nested-words)

    pub verdict-sub : (i : ℕ) → (verdict p cs ≡ SubWord i)
        ↔ ((i < p.m) × (¬ Multiple (gen p 0) (get_or cs i 0)) × ((k : ℕ) → k < i → Multiple (gen p 0) (get_or cs k 0)))
    verdict-sub i = (to, back)
      where
        to : verdict p cs ≡ SubWord i
            → (i < p.m) × (¬ Multiple (gen p 0) (get_or cs i 0)) × ((k : ℕ) → k < i → Multiple (gen p 0) (get_or cs k 0))
        to e =
            let t = judged-sub b c f g i (sym (verdict-eq p cs) ∙ e) in
            rw t.1 at (found (λ _. 0) sub level0 p.m f (failing-is p cs) t.0)

        back : (i < p.m) × (¬ Multiple (gen p 0) (get_or cs i 0)) × ((k : ℕ) → k < i → Multiple (gen p 0) (get_or cs k 0))
            → verdict p cs ≡ SubWord i
        back h =
            let e : f ≡ i = found-is (λ _. 0) sub level0 p.m f (failing-is p cs) i h.0 h.1 h.2 in
            verdict-eq p cs ∙ to-sub b c f g (lt→ltb f p.m (rw e h.0)) ∙ ap SubWord e

    pub verdict-nested : (l : ℕ) → (verdict p cs ≡ NestedWord l)
        ↔ ((l < p.v) × ((i : ℕ) → i < p.m → Multiple (gen p 0) (get_or cs i 0))
        × (¬ Multiple (gen p (p.v - l)) (nested p l cs))
        × ((k : ℕ) → k < l → Multiple (gen p (p.v - k)) (nested p k cs)))
    verdict-nested l = (to, back)
      where
        to : verdict p cs ≡ NestedWord l → (l < p.v) × ((i : ℕ) → i < p.m → Multiple (gen p 0) (get_or cs i 0))
            × (¬ Multiple (gen p (p.v - l)) (nested p l cs)) × ((k : ℕ) → k < l → Multiple (gen p (p.v - k)) (nested p k cs))
        to e =
            let t = judged-nested b c f g l (sym (verdict-eq p cs) ∙ e) in
            let n = rw t.2 at (found lev nest (Nat.sub-le p.v) p.v g (failing_nested-is p cs) t.1) in
            (n.0, all-ok (λ _. 0) sub level0 p.m f (failing-is p cs) t.0, n.1, n.2)

        back : (l < p.v) × ((i : ℕ) → i < p.m → Multiple (gen p 0) (get_or cs i 0))
            × (¬ Multiple (gen p (p.v - l)) (nested p l cs)) × ((k : ℕ) → k < l → Multiple (gen p (p.v - k)) (nested p k cs))
            → verdict p cs ≡ NestedWord l
        back h =
            let e : g ≡ l = found-is lev nest (Nat.sub-le p.v) p.v g (failing_nested-is p cs) l h.0 h.2 h.3 in
            verdict-eq p cs
            ∙ to-nested b c f g (ok-all (λ _. 0) sub level0 p.m f (failing-is p cs) h.1) (lt→ltb g p.v (rw e h.0))
            ∙ ap NestedWord e

    -- ---- members by their words pass by their remainders
    pub member-passing : IsMember p cs → length cs ≡ p.m → Passing p cs
    member-passing M e = record {
      words = at_all (λ c. Divides p 0 c) cs (λ i l. (multiple-iff 0 zero-le (get_or cs i 0)).1 (M.sub_words i (omega arith)));
      nesteds = λ l h. (multiple-iff (p.v - l) (Nat.sub-le p.v l) (nested p l cs)).1 (M.nested-words l h);
    }

    pub passing-member : Passing p cs → length cs ≡ p.m → IsMember p cs
    passing-member M e = record {
      sub_words = λ i l. (multiple-iff 0 zero-le (get_or cs i 0)).0 (all-at (λ c. Divides p 0 c) cs M.words i (omega arith));
      nested-words = λ l h. (multiple-iff (p.v - l) (Nat.sub-le p.v l) (nested p l cs)).0 (M.nesteds l h);
    }
