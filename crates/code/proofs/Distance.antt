-- The distance of the code: Vandermonde over the words that are not zero, and the BCH bound in each.
--   Passing C cs      the words and the nested words of cs have remainder 0
--   page_weight cs     the number of ones of a page
--   nonzeross cs       the number of words that are not zero
use Rattle.std.specs.Prelude.{◌≡◌, ◌≢◌, ◌⊎◌, List, [], ◌∷◌, length}
use Rattle.std.proofs.Math.Path.{refl}
use Rattle.std.proofs.Common.{sym, ap, ap₂, ◌∙◌, inl, inr, arith}
use Prim.Native.Nat.{ℕ, zero, suc, ◌+◌, ◌-◌, ◌*◌, ◌^◌, ◌≤◌, ◌<◌, zero-le, suc-le-suc}
use Rattle.std.proofs.Math.Nat as Nat
use Rattle.std.proofs.Math.Decide.{dec_le}
use Rattle.polynomial.specs.Division.{Deg, rem-xor, unity-deg, xor_lt}
use Rattle.polynomial.specs.Sums.{All, add, length-add}
use Rattle.polynomial.specs.Xor.{xor, xor-eq-zero, xor_self}
use Rattle.field.specs.Bch.{bch, weight}
use Rattle.field.specs.Eval.{eval, eval-zero}
use Rattle.field.specs.Field.{Field2, add-eq-zero, add-self, mul-add, mul_comm, mul-eq-zero}
use Rattle.field.specs.Field.{mul-one, pow, pow-add, pow-mul, pow-one, pow-swap, pow≢zero, ring}
use Rattle.field.specs.Vandermonde.{Distinct, sum, sum-cons, sum-nil, vandermonde}
use Rattle.code.specs.declared.Parameters.{Parameters}
use Rattle.code.specs.Code.{degree, distance, gen, least, nested}
use Rattle.code.specs.Parameters.{len, strength}
use Rattle.code.specs.Steps.{Divides}
use Rattle.code.proofs.Steps.{combine-add, nested-eq}
use Rattle.code.proofs.Values.{Lawful, eval-nested, weigh, weigh-cons, weigh-nil}

pub record Passing (C : Parameters) (cs : List ℕ) : Type 0 where
  pub words : All (λ c. Divides C 0 c) cs
  pub nesteds : (l : ℕ) → l < C.v → Divides C (C.v - l) (nested C l cs)

abbrev pub page_weight : List ℕ → ℕ
page_weight [] = 0
page_weight (c ∷ cs) = weight c + page_weight cs

abbrev pub nonzeros : List ℕ → ℕ
nonzeros [] = 0
nonzeros (zero ∷ cs) = nonzeros cs
nonzeros (suc c ∷ cs) = suc (nonzeros cs)

module _ (F : Field2) where
  open F use {K, 𝟘, 𝟙, ◌⊕◌, ◌⊗◌}

  infixl 65 ◌⊕◌
  infixl 70 ◌⊗◌
  -- the words that are not zero as Vandermonde's pairs: node x^i, weight c_i(x)
  abbrev support : K → ℕ → List ℕ → List (K × K)
  support x i [] = []
  support x i (zero ∷ cs) = support x (suc i) cs
  support x i (suc c ∷ cs) = (pow F x i, eval F (suc c) x) ∷ support x (suc i) cs

  length-support : (x : K) (i : ℕ) (cs : List ℕ) → length (support x i cs) ≡ nonzeros cs
  length-support x i [] = refl
  length-support x i (zero ∷ cs) = length-support x (suc i) cs
  length-support x i (suc c ∷ cs) = ap suc (length-support x (suc i) cs)

  sum-support : (x : K) (l i : ℕ) (cs : List ℕ) → sum F (support x i cs) l ≡ weigh F x (λ i. pow F x (l * i)) i cs
  sum-support x l i [] = simp (sum-nil, weigh-nil)
  sum-support x l i (zero ∷ cs) = simp (weigh-cons, eval-zero, sum-support x l (suc i) cs, ring)
  sum-support x l i (suc c ∷ cs) = simp (sum-cons, weigh-cons, sum-support x l (suc i) cs, pow-mul, pow-swap F x i l, ring)

  support-zero : (x : K) (i : ℕ) (cs : List ℕ) → All (λ q. q.1 ≡ 𝟘) (support x i cs) → All (λ c. eval F c x ≡ 𝟘) cs
  support-zero x i [] h = tt
  support-zero x i (zero ∷ cs) h = (eval-zero F x, support-zero x (suc i) cs h)
  support-zero x i (suc c ∷ cs) h = (h.0, support-zero x (suc i) cs h.1)

  -- powers x^i, x^k with x^(k - i) ≠ 1 differ
  pub pow_apart : (x : K) → x ≢ 𝟘 → (i d : ℕ) → pow F x d ≢ 𝟙 → pow F x (i + d) ≢ pow F x i
  pow_apart x x0 i d h e =
      h (add-eq-zero F (pow F x d) 𝟙 (mul-eq-zero F (pow F x d ⊕ 𝟙) (pow F x i)
      (mul_comm F (pow F x d ⊕ 𝟙) (pow F x i) ∙ mul-add F (pow F x i) (pow F x d) 𝟙
      ∙ rw (← pow-add F x i d, e, mul-one F (pow F x i)) (add-self F (pow F x i))) (pow≢zero F x x0 i)))

  pub pow-differ : (x : K) → x ≢ 𝟘 → (i k : ℕ) → i ≤ k → pow F x (k - i) ≢ 𝟙 → pow F x k ≢ pow F x i
  pow-differ x x0 i k h s e = pow_apart x x0 i (k - i) s (rw (Nat.add-sub_of_le h) e)

  module _ (x : K) (x0 : x ≢ 𝟘) (m : ℕ) (sep : (d : ℕ) → 0 < d → d < m → pow F x d ≢ 𝟙) where
    apart : (i k : ℕ) (cs : List ℕ) → i < k → k + length cs ≤ m → All (λ q. q.0 ≢ pow F x i) (support x k cs)
    apart i k [] h l = tt
    apart i k (zero ∷ cs) h l = apart i (suc k) cs (omega arith) (omega arith)
    apart i k (suc c ∷ cs) h l =
        (pow-differ x x0 i k (omega arith) (sep (k - i) (omega arith) (omega arith)), apart i (suc k) cs (omega arith) (omega arith))

    distinct : (i : ℕ) (cs : List ℕ) → i + length cs ≤ m → Distinct F (support x i cs)
    distinct i [] l = tt
    distinct i (zero ∷ cs) l = distinct (suc i) cs (omega arith)
    distinct i (suc c ∷ cs) l = (apart i (suc i) cs (omega arith) (omega arith), distinct (suc i) cs (omega arith))

    -- as many power sums as words that are not zero vanish: so does every word
    vanish : (cs : List ℕ) → length cs ≤ m → ((l : ℕ) → l < nonzeros cs → weigh F x (λ i. pow F x (l * i)) 0 cs ≡ 𝟘)
        → All (λ c. eval F c x ≡ 𝟘) cs
    vanish cs h z =
        support-zero x 0 cs (vandermonde F (support x 0 cs) (distinct 0 cs (omega arith))
        (λ l b. sum-support x l 0 cs ∙ z l (rw (length-support x 0 cs) at b)))

  module _ (α : K) (C : Parameters) (L : Lawful F α C) where
    -- ---- the roots α^j
    pub root-unity : (j : ℕ) → pow F (pow F α j) (len C) ≡ 𝟙
    root-unity j = pow-swap F α j (len C) ∙ rw L.unity (pow-one F j)

    pub root≢zero : (j : ℕ) → pow F α j ≢ 𝟘
    root≢zero j = pow≢zero F α L.α≢zero j

    pub root-apart : (j : ℕ) → 0 < j → j ≤ 2 * strength C C.v → (d : ℕ) → 0 < d → d < C.m → pow F (pow F α j) d ≢ 𝟙
    root-apart j p h d q b e = L.no-clash d j q b p h (pow-mul F α d j ∙ pow-swap F α d j ∙ e)

    -- nested words at the roots
    pub eval-nested-root : (l j : ℕ) (cs : List ℕ)
        → eval F (nested C l cs) (pow F α j) ≡ weigh F (pow F α j) (λ i. pow F (pow F α j) (l * i)) 0 cs
    eval-nested-root l j cs = eval-nested F C L.pos (pow F α j) (root-unity j) l cs

    -- ---- words that vanish at α to α^T have more than T ones, or none
    heavy-word : (T c : ℕ) → c < 2 ^ len C → c ≢ 0 → ((j : ℕ) → 0 < j → j ≤ T → eval F c (pow F α j) ≡ 𝟘) → T < weight c
    heavy-word T c h n z =
        Nat.lt_of_not-le (λ l. n (bch F α L.α≢zero (len C) L.order T c h l (λ j b. z (suc j) (suc-le-suc zero-le) b)))

    heavy : (T : ℕ) (cs : List ℕ) → All (λ c. c < 2 ^ len C) cs → ((j : ℕ) → 0 < j → j ≤ T → All (λ c. eval F c (pow F α j) ≡ 𝟘) cs)
        → nonzeros cs * (T + 1) ≤ page_weight cs
    heavy T [] s z = omega arith
    heavy T (zero ∷ cs) s z = omega (arith, heavy T cs s.1 (λ j p h. (z j p h).1))
    heavy T (suc c ∷ cs) s z =
        omega (arith, heavy T cs s.1 (λ j p h. (z j p h).1), heavy-word T (suc c) s.0 (Nat.suc-ne-zero c) (λ j p h. (z j p h).0))

    -- a page all of whose words are multiples at level a
    multiples-vanish : (a : ℕ) → a ≤ C.v → (cs : List ℕ) → All (λ c. Divides C a c) cs → (j : ℕ) → 0 < j → j ≤ 2 * strength C a
        → All (λ c. eval F c (pow F α j) ≡ 𝟘) cs
    multiples-vanish a h [] s j p b = tt
    multiples-vanish a h (c ∷ cs) s j p b = ((L.roots a h c).0 s.0 j p b, multiples-vanish a h cs s.1 j p b)

    -- many words: all of the words are multiples at level 0
    pub weight-many : (cs : List ℕ) → All (λ c. c < 2 ^ len C) cs → Passing C cs → C.v < nonzeros cs
        → (C.v + 1) * (2 * strength C 0 + 1) ≤ page_weight cs
    weight-many cs s M h =
        Nat.le_trans (Nat.mul-le-mul_right (2 * strength C 0 + 1) (omega arith))
        (heavy (2 * strength C 0) cs s (multiples-vanish 0 zero-le cs M.words))

    -- nested words 0 .. b vanish where level v - b does
    nested-vanish : (cs : List ℕ) → Passing C cs → (b : ℕ) → b < C.v → (j : ℕ) → 0 < j → j ≤ 2 * strength C (C.v - b) → (l : ℕ) → l ≤ b
        → weigh F (pow F α j) (λ i. pow F (pow F α j) (l * i)) 0 cs ≡ 𝟘
    nested-vanish cs M b h j p q l r =
        sym (eval-nested-root l j cs)
        ∙ (L.roots (C.v - l) (omega arith) (nested C l cs)).0 (M.nesteds l (omega arith)) j p
        (omega (arith, L.rising (C.v - b) (C.v - l) (omega arith) (omega arith)))

    -- few words: b + 1 of them, at most v
    pub weight-few : (cs : List ℕ) → length cs ≤ C.m → All (λ c. c < 2 ^ len C) cs → Passing C cs → (b : ℕ) → nonzeros cs ≡ suc b
        → suc b ≤ C.v → suc b * (2 * strength C (C.v - b) + 1) ≤ page_weight cs
    weight-few cs k s M b e h =
        rw e at (heavy (2 * strength C (C.v - b)) cs s (λ j p q.
        vanish (pow F α j) (root≢zero j) C.m (root-apart j p (omega (arith, L.rising (C.v - b) C.v (omega arith) (omega arith)))) cs k
        (λ l r. nested-vanish cs M b h j p q l (omega arith))))

-- ---- the distance is at most each of its formulas
pub least-many : (C : Parameters) (k : ℕ) → least C k ≤ (C.v + 1) * (2 * strength C 0 + 1)
least-many C zero = Nat.le_refl ((C.v + 1) * (2 * strength C 0 + 1))
least-many C (suc k) = Nat.le_trans (Nat.min-le_right (suc k * (2 * strength C (C.v - k) + 1)) (least C k)) (least-many C k)

pub least-few : (C : Parameters) (k b : ℕ) → suc b ≤ k → least C k ≤ suc b * (2 * strength C (C.v - b) + 1)
least-few C zero b h = absurd (Nat.not-suc-le-zero h)
least-few C (suc k) b h = go (least-few C k b) (Nat.eq-or-lt_of_le (Nat.le_of_suc-le-suc h))
  where
    go : (suc b ≤ k → least C k ≤ suc b * (2 * strength C (C.v - b) + 1)) → (b ≡ k) ⊎ (b < k)
        → least C (suc k) ≤ suc b * (2 * strength C (C.v - b) + 1)
    go ih (inl e) = rw e (Nat.min-le_left (suc k * (2 * strength C (C.v - k) + 1)) (least C k))
    go ih (inr l) = Nat.le_trans (Nat.min-le_right (suc k * (2 * strength C (C.v - k) + 1)) (least C k)) (ih l)

-- ---- pages are equal when their sum has no word but zero
pub same : (cs ds : List ℕ) → length cs ≡ length ds → nonzeros (add cs ds) ≡ 0 → cs ≡ ds
same [] [] e z = refl
same [] (d ∷ ds) e z = absurd (Nat.suc-ne-zero (length ds) (sym e))
same (c ∷ cs) [] e z = absurd (Nat.suc-ne-zero (length cs) e)
same (c ∷ cs) (d ∷ ds) e z = go (xor c d) refl z (same cs ds (Nat.suc_inj e))
  where
    go : (x : ℕ) → xor c d ≡ x → nonzeros (x ∷ add cs ds) ≡ 0 → (nonzeros (add cs ds) ≡ 0 → cs ≡ ds) → c ∷ cs ≡ d ∷ ds
    go zero p z ih = ap₂ ◌∷◌ (xor-eq-zero c d p) (ih z)
    go (suc x) p z ih = absurd (Nat.suc-ne-zero (nonzeros (add cs ds)) z)

pub add-lt : (n : ℕ) (cs ds : List ℕ) → All (λ c. c < 2 ^ n) cs → All (λ c. c < 2 ^ n) ds → All (λ c. c < 2 ^ n) (add cs ds)
add-lt n [] ds a b = b
add-lt n (c ∷ cs) [] a b = a
add-lt n (c ∷ cs) (d ∷ ds) a b = (xor_lt n c d a.0 b.0, add-lt n cs ds a.1 b.1)

module _ (C : Parameters) (pos : 0 < len C) (deg : (a : ℕ) → a ≤ C.v → Deg (gen C a) (degree C a)) where
  -- ---- sums of members
  sum-multiple : (a : ℕ) → a ≤ C.v → (f h : ℕ) → Divides C a f → Divides C a h → Divides C a (xor f h)
  sum-multiple a l f h p q = rem-xor (gen C a) (degree C a) (deg a l) f h ∙ rw (p, q) (xor_self 0)

  add-multiples : (cs ds : List ℕ) → All (λ c. Divides C 0 c) cs → All (λ c. Divides C 0 c) ds → All (λ c. Divides C 0 c) (add cs ds)
  add-multiples [] ds a b = b
  add-multiples (c ∷ cs) [] a b = a
  add-multiples (c ∷ cs) (d ∷ ds) a b = (sum-multiple 0 zero-le c d a.0 b.0, add-multiples cs ds a.1 b.1)

  pub nested-add : (l : ℕ) (cs ds : List ℕ) → nested C l (add cs ds) ≡ xor (nested C l cs) (nested C l ds)
  nested-add l cs ds = simp (nested-eq, combine-add, rem-xor (2 ^ len C + 1) (len C) (unity-deg (len C) pos))

  -- P3: the sum of two members is a member
  pub member-add : (cs ds : List ℕ) → Passing C cs → Passing C ds → Passing C (add cs ds)
  member-add cs ds M M' = record {
    words = add-multiples cs ds M.words M'.words;
    nesteds = λ l h.
        rw (nested-add l cs ds) (sum-multiple (C.v - l) (omega arith) (nested C l cs) (nested C l ds) (M.nesteds l h) (M'.nesteds l h));
  }

module _ (F : Field2) (α : F.K) (C : Parameters) (L : Lawful F α C) where
  -- P2: a member page that is not zero has at least the design distance of ones
  pub weight-member : (cs : List ℕ) → length cs ≤ C.m → All (λ c. c < 2 ^ len C) cs → Passing C cs → nonzeros cs ≢ 0
      → distance C ≤ page_weight cs
  unfolding distance
  weight-member cs k s M h = go (nonzeros cs) refl
    where
      go : (b : ℕ) → nonzeros cs ≡ b → distance C ≤ page_weight cs
      go zero e = absurd (h e)
      go (suc b) e = or (dec_le (suc b) C.v)
        where
          or : Dec (suc b ≤ C.v) → distance C ≤ page_weight cs
          or (yes l) = Nat.le_trans (least-few C C.v b l) (weight-few F α C L cs k s M b e l)
          or (no l) = Nat.le_trans (least-many C C.v) (weight-many F α C L cs s M (omega arith))

  -- two member pages that differ do so in at least the design distance of places
  pub distance-member : (cs ds : List ℕ) → length cs ≡ length ds → length cs ≤ C.m → All (λ c. c < 2 ^ len C) cs
      → All (λ c. c < 2 ^ len C) ds → Passing C cs → Passing C ds → cs ≢ ds → distance C ≤ page_weight (add cs ds)
  distance-member cs ds e k a b M M' h =
      weight-member (add cs ds) (rw (length-add cs ds e) k) (add-lt (len C) cs ds a b) (member-add C L.pos L.degrees cs ds M M')
      (λ z. h (same cs ds e z))
