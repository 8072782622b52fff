-- Encoding: its pages are the members, their data are the given data, and it respects sums.
--   Triangular C i cs    the rule of each word from number i on, given the later words
--   Sized C i ds         the data of each word from number i on has at most the block's bits
use Rattle.std.specs.Prelude.{◌≡◌, refl, ◌↔◌, ◌⊎◌, List, [], ◌∷◌, ℕ, zero, suc, ◌-◌, ◌*◌, ◌/◌, ◌%◌, ◌^◌, ◌≤◌, ◌<◌, length}
use Rattle.std.proofs.Common.{sym, ap, ap₂, ◌∙◌, inl, inr, zero-le, arith, pow_pos, pow_mono, shl_lt, shr_lt}
use Rattle.std.proofs.Math.Nat as Nat
use Rattle.std.specs.Int.Bits.{xor_shifted}
use Rattle.std.proofs.lemmas.Nat.{shl-shr}
use Rattle.std.proofs.Math.Pow.{split, low}
use Rattle.polynomial.specs.Clmul.{clmul, clmul-one-l, clmul-pow, clmul-xor-r, clmul-zero-l, clmul-zero-r}
use Rattle.polynomial.specs.Division.{Deg, rem, rem-clmul-r, rem_lt, rem-md, rem-small, rem-xor, rem-zero, xor_lt, xor_shr}
use Rattle.polynomial.specs.Sums.{All, add, add-nil}
use Rattle.polynomial.specs.Xor.{xor, xor-eq-zero, xor_is, xor_self, xor_zero_l, xor_zero_r, xors}
use Rattle.field.specs.Field.{Field2}
use Rattle.code.specs.declared.Parameters.{Parameters}
use Rattle.code.specs.Code.{N, carried, checked, combine, data_from, data_place, data_words, degree, encode, encode_from, gen, remainder}
use Rattle.code.proofs.Distance.{Passing}
use Rattle.code.specs.Layout.{data_bits}
use Rattle.code.proofs.Newton.{member-equal}
use Rattle.code.specs.Parameters.{stored, unshortened}
use Rattle.code.specs.Steps.{Divides}
use Rattle.code.proofs.Steps.{N-first, N-start, N-step, carried-suc, carried-zero, checked-eq}
use Rattle.code.proofs.Steps.{combine-add, combine-cons, combine-nil, data-cons, data-nil, encode-cons, encode-nil}
use Rattle.code.proofs.Values.{Lawful}

-- ---- N is triangular, with 1 on the diagonal
pub N-above : (i l : ℕ) → i < l → N i l ≡ 0
N-above zero zero h = absurd (Nat.not-suc-le-zero h)
N-above zero (suc l) h = N-start l
N-above (suc i) zero h = absurd (Nat.not-suc-le-zero h)
N-above (suc i) (suc l) h =
    N-step i l ∙ ap₂ xor (N-above i l (Nat.le_of_suc-le-suc h))
    (ap (λ (y : ℕ). y * 2 ^ suc l) (N-above i (suc l) (Nat.le_step (Nat.le_of_suc-le-suc h))) ∙ Nat.zero-mul (2 ^ suc l)) ∙ xor_self 0

pub N-diagonal : (i : ℕ) → N i i ≡ 1
N-diagonal zero = N-first 0
N-diagonal (suc i) =
    N-step i i ∙ ap₂ xor (N-diagonal i) (ap (λ (y : ℕ). y * 2 ^ suc i) (N-above i (suc i) (Nat.le_refl (suc i))) ∙ Nat.zero-mul (2 ^ suc i))
    ∙ xor_zero_r 1

-- a word is its data above its check bits
pub data-check : (c k : ℕ) → c ≡ xor (c / 2 ^ k * 2 ^ k) (c % 2 ^ k)
data-check c k =
    sym (sym (xor_is (c / 2 ^ k * 2 ^ k) (c % 2 ^ k)) ∙ xor_shifted (c / 2 ^ k) k (c % 2 ^ k) (Nat.mod-lt c (pow_pos k)) ∙ split c k)

pub shift-xor : (d e k : ℕ) → xor d e * 2 ^ k ≡ xor (d * 2 ^ k) (e * 2 ^ k)
shift-xor d e k = simp (← clmul-pow, clmul-xor-r)

carried-pos : (a i : ℕ) (cs : List ℕ) → 0 < a → carried a i cs ≡ combine (λ k. N k i) (suc i) cs
carried-pos zero i cs h = absurd (Nat.not-suc-le-zero h)
carried-pos (suc a) i cs h = carried-suc a i cs

carried-add : (a i : ℕ) (cs ds : List ℕ) → carried a i (add cs ds) ≡ xor (carried a i cs) (carried a i ds)
carried-add zero i cs ds = simp (carried-zero, xors)
carried-add (suc a) i cs ds = simp (carried-suc, combine-add)

abbrev pub Triangular : Parameters → ℕ → List ℕ → Type 0
Triangular C i [] = Unit {0}
Triangular C i (c ∷ cs) = Divides C (C.v - i) (xor c (carried (C.v - i) i cs)) × Triangular C (suc i) cs

abbrev pub Sized : Parameters → ℕ → List ℕ → Type 0
Sized C i [] = Unit {0}
Sized C i (d ∷ ds) = d < 2 ^ data_bits C i × Sized C (suc i) ds

module _ (C : Parameters) (deg : (a : ℕ) → a ≤ C.v → Deg (gen C a) (degree C a)) where
  -- the degree of word i's generator
  at : (i : ℕ) → Deg (gen C (C.v - i)) (degree C (C.v - i))
  at i = deg (C.v - i) (Nat.sub-le C.v i)

  sum_of : (a : ℕ) → a ≤ C.v → (f h : ℕ) → Divides C a (xor f h) → Divides C a h → Divides C a f
  sum_of a l f h p q =
      xor-eq-zero (rem (gen C a) (degree C a) f) 0
      (ap (xor (rem (gen C a) (degree C a) f)) (sym q) ∙ sym (rem-xor (gen C a) (degree C a) (deg a l) f h) ∙ p)

  combine-multiple : (f : ℕ → ℕ) (i : ℕ) (cs : List ℕ) → All (λ c. Divides C 0 c) cs → Divides C 0 (combine f i cs)
  combine-multiple f i [] s = rw combine-nil (rem-zero (gen C 0) (degree C 0))
  combine-multiple f i (c ∷ cs) s =
      rw (combine-cons f i c cs) (rem-xor (gen C 0) (degree C 0) (deg 0 zero-le) (clmul (f i) c) (combine f (suc i) cs)
      ∙ ap₂ xor (sym (rem-clmul-r (gen C 0) (degree C 0) (deg 0 zero-le) (f i) c) ∙ rw s.0 (times_zero (f i)))
      (combine-multiple f (suc i) cs s.1) ∙ xor_self 0)
    where
      times_zero : (y : ℕ) → rem (gen C 0) (degree C 0) (clmul y 0) ≡ 0
      times_zero y = simp (clmul-zero-r, rem-zero)

  carried-multiple : (a i : ℕ) (cs : List ℕ) → All (λ c. Divides C 0 c) cs → Divides C 0 (carried a i cs)
  carried-multiple zero i cs s = rw carried-zero (rem-zero (gen C 0) (degree C 0))
  carried-multiple (suc a) i cs s = rw (carried-suc a i cs) (combine-multiple (λ k. N k i) (suc i) cs s)

  -- ---- one word
  module _ (a : ℕ) (l : a ≤ C.v) where
    checked-multiple : (u f : ℕ) → Divides C a (xor (checked C a u f) f)
    checked-multiple u f =
        ap (λ (y : ℕ). rem (gen C a) (degree C a) (xor y f)) (checked-eq C a u f)
        ∙ ap (rem (gen C a) (degree C a)) (swap u (rem (gen C a) (degree C a) (xor u f)) f)
        ∙ rem-xor (gen C a) (degree C a) (deg a l) (xor u f) (rem (gen C a) (degree C a) (xor u f))
        ∙ rw (rem-md (gen C a) (degree C a) (deg a l) (xor u f)) (xor_self (rem (gen C a) (degree C a) (xor u f)))
      where
        swap : (x y z : ℕ) → xor (xor x y) z ≡ xor (xor x z) y
        swap x y z = simp xors

    -- the data stand from x^w on
    pub checked-data : (d f : ℕ) → checked C a (d * 2 ^ data_place (degree C a)) f / 2 ^ degree C a ≡ d
    checked-data d f =
        rw (
          checked-eq C a (d * 2 ^ degree C a) f,
          xor_shr (d * 2 ^ degree C a) (rem (gen C a) (degree C a) (xor (d * 2 ^ degree C a) f)) (degree C a),
          shl-shr d (degree C a),
          Nat.div-eq_of_lt (rem_lt (gen C a) (degree C a) (deg a l) (xor (d * 2 ^ degree C a) f)),
        )
        (xor_zero_r d)

    -- the check bits stand below
    pub checked-low : (d f : ℕ)
        → checked C a (d * 2 ^ data_place (degree C a)) f % 2 ^ degree C a ≡ remainder C a (xor (d * 2 ^ degree C a) f)
    checked-low d f =
        ap (λ (y : ℕ). y % 2 ^ degree C a)
        (checked-eq C a (d * 2 ^ degree C a) f ∙ sym (xor_is (d * 2 ^ degree C a) (remainder C a (xor (d * 2 ^ degree C a) f)))
        ∙ xor_shifted d (degree C a) (remainder C a (xor (d * 2 ^ degree C a) f))
        (rem_lt (gen C a) (degree C a) (deg a l) (xor (d * 2 ^ degree C a) f)))
        ∙ low d (degree C a) (rem_lt (gen C a) (degree C a) (deg a l) (xor (d * 2 ^ degree C a) f))

    checked-lt : (d f : ℕ) → degree C a ≤ stored C → d < 2 ^ (stored C - degree C a) → checked C a (d * 2 ^ degree C a) f < 2 ^ stored C
    checked-lt d f h b =
        rw (checked-eq C a (d * 2 ^ degree C a) f)
        (xor_lt (stored C) (d * 2 ^ degree C a) (rem (gen C a) (degree C a) (xor (d * 2 ^ degree C a) f))
        (rw (Nat.sub-add_cancel h) at (shl_lt (stored C - degree C a) (degree C a) b))
        (Nat.lt_of_lt_of_le (rem_lt (gen C a) (degree C a) (deg a l) (xor (d * 2 ^ degree C a) f)) (pow_mono h)))

    checked-unique : (c f : ℕ) → Divides C a (xor c f) → checked C a (c / 2 ^ degree C a * 2 ^ degree C a) f ≡ c
    checked-unique c f h = checked-eq C a u f ∙ rw check (sym (data-check c (degree C a)))
      where
        u : ℕ
        u = c / 2 ^ degree C a * 2 ^ degree C a

        p : ℕ
        p = c % 2 ^ degree C a

        move : (x y z : ℕ) → xor x z ≡ xor (xor (xor x y) z) y
        move x y z = simp xors

        check : rem (gen C a) (degree C a) (xor u f) ≡ p
        check =
            ap (rem (gen C a) (degree C a)) (move u p f ∙ ap (λ (y : ℕ). xor (xor y f) p) (sym (data-check c (degree C a))))
            ∙ rem-xor (gen C a) (degree C a) (deg a l) (xor c f) p
            ∙ rw (h, rem-small (gen C a) (degree C a) (deg a l) p (Nat.mod-lt c (pow_pos (degree C a)))) (xor_zero_l p)

    checked-add : (u u' f f' : ℕ) → checked C a (xor u u') (xor f f') ≡ xor (checked C a u f) (checked C a u' f')
    checked-add u u' f f' =
        let e : xor (xor u u') (xor f f') ≡ xor (xor u f) (xor u' f') = simp xors in
        rw (
          checked-eq C a (xor u u') (xor f f'),
          checked-eq C a u f,
          checked-eq C a u' f',
          e,
          rem-xor (gen C a) (degree C a) (deg a l) (xor u f) (xor u' f'),
        ) (simp xors)

  -- ---- all words
  encode-triangular : (i : ℕ) (ds : List ℕ) → Triangular C i (encode_from C i ds)
  encode-triangular i [] = rw (encode-nil C i) tt
  encode-triangular i (d ∷ ds) =
      rw (encode-cons C i d ds) (
        checked-multiple (C.v - i) (Nat.sub-le C.v i) (d * 2 ^ degree C (C.v - i)) (carried (C.v - i) i (encode_from C (suc i) ds)),
        encode-triangular (suc i) ds,
      )

  data-encode-step : (i d : ℕ) (ds : List ℕ) → data_from C (suc i) (encode_from C (suc i) ds) ≡ ds
      → data_from C i (encode_from C i (d ∷ ds)) ≡ d ∷ ds
  data-encode-step i d ds ih =
      rw (encode-cons C i d ds, data-cons C i, ih)
      (ap (λ (y : ℕ). y ∷ ds) (checked-data (C.v - i) (Nat.sub-le C.v i) d (carried (C.v - i) i (encode_from C (suc i) ds))))

  data-encode_from : (i : ℕ) (ds : List ℕ) → data_from C i (encode_from C i ds) ≡ ds
  data-encode_from i [] = rw (encode-nil C i) (data-nil C i)
  data-encode_from i (d ∷ ds) = data-encode-step i d ds (data-encode_from (suc i) ds)

  encode-data-step : (i c : ℕ) (cs : List ℕ) → encode_from C (suc i) (data_from C (suc i) cs) ≡ cs
      → Divides C (C.v - i) (xor c (carried (C.v - i) i cs)) → encode_from C i (data_from C i (c ∷ cs)) ≡ c ∷ cs
  encode-data-step i c cs ih h =
      rw (data-cons C i c cs, encode-cons C i, ih)
      (ap (λ (y : ℕ). y ∷ cs) (checked-unique (C.v - i) (Nat.sub-le C.v i) c (carried (C.v - i) i cs) h))

  encode-data_from : (i : ℕ) (cs : List ℕ) → Triangular C i cs → encode_from C i (data_from C i cs) ≡ cs
  encode-data_from i [] h = rw (data-nil C i) (encode-nil C i)
  encode-data_from i (c ∷ cs) h = encode-data-step i c cs (encode-data_from (suc i) cs h.1) h.0

  encode-lt-from : ((a : ℕ) → a ≤ C.v → degree C a ≤ stored C) → (i : ℕ) (ds : List ℕ) → Sized C i ds
      → All (λ c. c < 2 ^ stored C) (encode_from C i ds)
  encode-lt-from W i [] h = rw (encode-nil C i) tt
  encode-lt-from W i (d ∷ ds) h =
      rw (encode-cons C i d ds) (
        checked-lt (C.v - i) (Nat.sub-le C.v i) d (carried (C.v - i) i (encode_from C (suc i) ds)) (W (C.v - i) (Nat.sub-le C.v i)) h.0,
        encode-lt-from W (suc i) ds h.1,
      )

  encode-add-step : (i d e : ℕ) (ds es : List ℕ)
      → encode_from C (suc i) (add ds es) ≡ add (encode_from C (suc i) ds) (encode_from C (suc i) es)
      → encode_from C i (xor d e ∷ add ds es) ≡ add (encode_from C i (d ∷ ds)) (encode_from C i (e ∷ es))
  encode-add-step i d e ds es ih =
      rw (encode-cons C i (xor d e) (add ds es), encode-cons C i d ds, encode-cons C i e es, ih)
      (ap (λ (y : ℕ). y ∷ add (encode_from C (suc i) ds) (encode_from C (suc i) es))
      (rw (shift-xor d e (degree C (C.v - i)), carried-add (C.v - i) i (encode_from C (suc i) ds) (encode_from C (suc i) es))
      (checked-add (C.v - i) (Nat.sub-le C.v i) (d * 2 ^ degree C (C.v - i)) (e * 2 ^ degree C (C.v - i))
      (carried (C.v - i) i (encode_from C (suc i) ds)) (carried (C.v - i) i (encode_from C (suc i) es)))))

  encode-add-from : (i : ℕ) (ds es : List ℕ) → encode_from C i (add ds es) ≡ add (encode_from C i ds) (encode_from C i es)
  encode-add-from i [] es = rw (encode-nil C i) refl
  encode-add-from i (d ∷ ds) [] = rw (encode-nil C i) (sym (add-nil (encode_from C i (d ∷ ds))))
  encode-add-from i (d ∷ ds) (e ∷ es) = encode-add-step i d e ds es (encode-add-from (suc i) ds es)

  -- ---- the triangular rules and the equal form
  newton-of-triangular : (i l : ℕ) (cs : List ℕ) → i ≤ l → l < C.v → Triangular C i cs → Divides C (C.v - l) (combine (λ k. N k l) i cs)
  newton-of-triangular i l [] h b s = rw combine-nil (rem-zero (gen C (C.v - l)) (degree C (C.v - l)))
  newton-of-triangular i l (c ∷ cs) h b s = go (λ h. newton-of-triangular (suc i) l cs h b s.1) (Nat.eq-or-lt_of_le h)
    where
      here : Divides C (C.v - i) (xor c (combine (λ k. N k i) (suc i) cs)) → i ≡ l → Divides C (C.v - l) (combine (λ k. N k l) i (c ∷ cs))
      here m e = rw (← e, combine-cons (λ k. N k i) i c cs, N-diagonal i, clmul-one-l c) m

      go : (suc i ≤ l → Divides C (C.v - l) (combine (λ k. N k l) (suc i) cs)) → (i ≡ l) ⊎ (i < l)
          → Divides C (C.v - l) (combine (λ k. N k l) i (c ∷ cs))
      go ih (inl e) = here (rw (carried-pos (C.v - i) i cs (omega arith)) at s.0) e
      go ih (inr m) =
          rw (combine-cons (λ k. N k l) i c cs, N-above i l m, clmul-zero-l c, xor_zero_l (combine (λ k. N k l) (suc i) cs)) (ih m)

  triangular-of-newton : (i : ℕ) (cs : List ℕ) → All (λ c. Divides C 0 c) cs
      → ((l : ℕ) → i ≤ l → l < C.v → Divides C (C.v - l) (combine (λ k. N k l) i cs)) → Triangular C i cs
  triangular-of-newton i [] s h = tt
  triangular-of-newton i (c ∷ cs) s h = (go (C.v - i) refl, triangular-of-newton (suc i) cs s.1 later)
    where
      go : (a : ℕ) → C.v - i ≡ a → Divides C a (xor c (carried a i cs))
      go zero e = rw (carried-zero i cs, xor_zero_r c) s.0
      go (suc a) e =
          rw (carried-suc a i cs)
          (rw (combine-cons (λ k. N k i) i c cs, N-diagonal i, clmul-one-l c, e) at (h i (Nat.le_refl i) (omega arith)))

      later : (l : ℕ) → suc i ≤ l → l < C.v → Divides C (C.v - l) (combine (λ k. N k l) (suc i) cs)
      later l m b =
          rw (
            combine-cons (λ k. N k l) i c cs,
            N-above i l m,
            clmul-zero-l c,
            xor_zero_l (combine (λ k. N k l) (suc i) cs),
          ) at (h l (Nat.le_of_suc-le m) b)

  -- the page of a sum is the sum of the pages
  pub encode-add : (ds es : List ℕ) → encode C (add ds es) ≡ add (encode C ds) (encode C es)
  unfolding encode
  encode-add ds es = encode-add-from 0 ds es

  -- its data are the given data
  pub data-encode : (ds : List ℕ) → data_words C (encode C ds) ≡ ds
  unfolding encode data_words
  data-encode ds = data-encode_from 0 ds

  -- blocks that fit give words of the stored places
  pub encode-lt : ((a : ℕ) → a ≤ C.v → degree C a ≤ stored C) → (ds : List ℕ) → Sized C 0 ds → All (λ c. c < 2 ^ stored C) (encode C ds)
  unfolding encode
  encode-lt W ds h = encode-lt-from W 0 ds h

unshortened-from : (C : Parameters) (i : ℕ) (ds : List ℕ) → encode_from C i ds ≡ encode_from (unshortened C) i ds
unfolding encode_from checked gen degree
unshortened-from C i [] = refl
unshortened-from C i (d ∷ ds) = rw (unshortened-from C (suc i) ds) refl

-- s is nowhere read
pub unshortened-words : (C : Parameters) (ds : List ℕ) → encode C ds ≡ encode (unshortened C) ds
unfolding encode
unshortened-words C ds = unshortened-from C 0 ds

length-encode : (C : Parameters) (i : ℕ) (ds : List ℕ) → length (encode_from C i ds) ≡ length ds
length-encode C i [] = rw (encode-nil C i) refl
length-encode C i (d ∷ ds) = rw (encode-cons C i d ds) (ap suc (length-encode C (suc i) ds))

pub encode-length : (C : Parameters) (ds : List ℕ) → length (encode C ds) ≡ length ds
unfolding encode
encode-length C ds = length-encode C 0 ds

data-fits-from : (C : Parameters) → ((a : ℕ) → a ≤ C.v → degree C a ≤ stored C) → (i : ℕ) (cs : List ℕ) → All (λ c. c < 2 ^ stored C) cs
    → Sized C i (data_from C i cs)
data-fits-from C W i [] s = rw (data-nil C i) tt
data-fits-from C W i (c ∷ cs) s =
    rw (data-cons C i c cs) (
      shr_lt (stored C - degree C (C.v - i)) (degree C (C.v - i)) (rw (Nat.sub-add_cancel (W (C.v - i) (Nat.sub-le C.v i))) s.0),
      data-fits-from C W (suc i) cs s.1,
    )

-- words of the stored places give blocks that fit
pub data-fits : (C : Parameters) → ((a : ℕ) → a ≤ C.v → degree C a ≤ stored C) → (cs : List ℕ) → All (λ c. c < 2 ^ stored C) cs
    → Sized C 0 (data_words C cs)
unfolding data_words
data-fits C W cs s = data-fits-from C W 0 cs s

module _ (F : Field2) (α : F.K) (C : Parameters) (L : Lawful F α C) where
  -- g 0 divides every generator
  pub level-zero : (a : ℕ) → a ≤ C.v → (f : ℕ) → Divides C a f → Divides C 0 f
  level-zero a l f h = (L.roots 0 zero-le f).1 (λ j p q. (L.roots a l f).0 h j p (omega (arith, L.rising 0 a zero-le l)))

  triangular-words : (i : ℕ) (cs : List ℕ) → Triangular C i cs → All (λ c. Divides C 0 c) cs
  triangular-words i [] h = tt
  triangular-words i (c ∷ cs) h = go (triangular-words (suc i) cs h.1)
    where
      go : All (λ c. Divides C 0 c) cs → All (λ c. Divides C 0 c) (c ∷ cs)
      go s = (
        sum_of C L.degrees 0 zero-le c (carried (C.v - i) i cs)
            (level-zero (C.v - i) (Nat.sub-le C.v i) (xor c (carried (C.v - i) i cs)) h.0)
            (carried-multiple C L.degrees (C.v - i) i cs s),
        s,
      )

  pub member-triangular : (cs : List ℕ) → Passing C cs ↔ Triangular C 0 cs
  member-triangular cs = (to, back)
    where
      to : Passing C cs → Triangular C 0 cs
      to M = let E = (member-equal F α C L cs).0 M in triangular-of-newton C L.degrees 0 cs E.words (λ l z h. E.newtons l h)

      back : Triangular C 0 cs → Passing C cs
      back t = (member-equal F α C L cs).1 (record {
        words = triangular-words 0 cs t;
        newtons = λ l h. newton-of-triangular C L.degrees 0 l cs zero-le h t;
      })

  -- what is written is a member
  pub encode-member : (ds : List ℕ) → Passing C (encode C ds)
  unfolding encode
  encode-member ds = (member-triangular (encode_from C 0 ds)).1 (encode-triangular C L.degrees 0 ds)

  -- a member is what is written of its data
  pub encode-data : (cs : List ℕ) → Passing C cs → encode C (data_words C cs) ≡ cs
  unfolding encode data_words
  encode-data cs M = encode-data_from C L.degrees 0 cs ((member-triangular cs).0 M)

  -- the members are the pages that writing gives back
  pub member-encode : (cs : List ℕ) → Passing C cs ↔ (encode C (data_words C cs) ≡ cs)
  member-encode cs = (encode-data cs, (λ e. rw e at (encode-member (data_words C cs))))
