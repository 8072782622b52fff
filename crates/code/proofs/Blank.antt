-- Blank pages: when a page is blank, and which blocks would make one: at s = 0 those of ones, else none.
--   ones z          the word of z coefficients that are 1
--   OnesBlocks p a  every data bit of the blocks a is 1, literally over the bytes
use Rattle.std.specs.Prelude.{◌≡◌, ◌≢◌, ◌↔◌, ◌⊎◌, Bool, ◌&&◌, List, [], ◌∷◌, ℕ, zero, suc, ◌+◌, ◌-◌, ◌*◌, ◌/◌, ◌%◌, ◌^◌, ◌≤◌, ◌<◌, T, eqb, length, get_or, replicate}
use Rattle.std.proofs.Math.Path.{refl}
use Rattle.std.proofs.Common.{sym, ap, ap₂, ◌∙◌, inl, inr, zero-le, suc-le-suc, arith, eqb→eq, pow_pos}
use Rattle.std.proofs.Math.Nat as Nat
use Rattle.std.proofs.Math.Dec.{eqb_refl}
use Rattle.std.proofs.lemmas.List.{length-replicate, get_or-replicate}
use Rattle.std.proofs.Math.Pow.{high, ones_lt, ones_split}
use Rattle.std.proofs.lemmas.Nat.{mod-pow-add}
use Rattle.polynomial.specs.Bits.{coefficient}
use Rattle.polynomial.specs.Digits.{low-coefficient}
use Rattle.polynomial.specs.Sums.{All, all-at}
use Rattle.field.specs.Eval.{eval, eval-ones}
use Rattle.field.specs.Field.{Field2, add-eq-zero, add-self, mul_comm, mul-eq-zero, mul-zero, pow, pow-mul, ring}
use Rattle.field.specs.Fields.{field_of}
use Rattle.field.specs.Irreducible.{both}
use Rattle.code.specs.declared.Parameters.{Parameters}
use Rattle.code.specs.Accepted.{Rules}
use Rattle.code.proofs.Accepted.{lawful, stored-room, stored-whole}
use Rattle.code.proofs.Chains.{both_ways}
use Rattle.code.specs.Code.{check_bits, encode}
use Rattle.code.proofs.Distance.{Passing, eval-nested-root, root-unity}
use Rattle.code.proofs.Encode.{encode-member, member-encode}
use Rattle.code.specs.Layout.{Bytes, Fits, IsBlank, IsPage, blank, block_bit, block_bits, blocks_full, blocks_of}
use Rattle.code.specs.Layout.{data_bits, data_of, page_of, stored_of, word_sizes, words_of}
use Rattle.code.specs.Lists.{each, join, ones_in}
use Rattle.code.specs.Pages.{IsWords}
use Rattle.code.proofs.Pages.{again-to, and_both, blocks-many, data-fit, length-bits, page-has, page-is, stored-page}
use Rattle.code.proofs.Pages.{words-join, words-many, words-page}
use Rattle.code.specs.Parameters.{len, stored, strength}
use Rattle.code.proofs.Placement.{bits_at, block-bit, blocks-same, data-room, read-bit, stored_at, sub-word-bit, written-bit}
use Rattle.code.specs.Steps.{Divides}
use Rattle.code.proofs.Values.{Lawful, weigh, weigh-cons, weigh-nil}

abbrev pub ones : ℕ → ℕ
ones z = 2 ^ z - 1

-- ---- words whose z lowest coefficients are 1
pub ones_low : (z c : ℕ) → ((k : ℕ) → k < z → coefficient c k ≡ 1) → c % 2 ^ z ≡ ones z
ones_low zero c h = Nat.mod-one c
ones_low (suc z) c h = go (ones_low z c (λ k l. h k (Nat.le_step l)))
  where
    e : 1 + z ≡ suc z
    e = omega arith

    go : c % 2 ^ z ≡ ones z → c % 2 ^ suc z ≡ ones (suc z)
    go ih =
        rw e at (mod-pow-add c 1 z ∙ ap₂ (λ (a b : ℕ). a * 2 ^ z + b) (h z (Nat.le_refl (suc z))) ih ∙ sym (ones_split 1 z))

ones-coefficient : (z k : ℕ) → k < z → coefficient (ones z) k ≡ 1
ones-coefficient z k h =
    let e : suc (z - suc k) + k ≡ z = omega arith in
    let o : (2 ^ suc (z - suc k) - 1) % 2 ≡ 1 = omega (arith, pow_pos (z - suc k)) in
    rw e at (ap (λ (y : ℕ). y / 2 ^ k % 2) (ones_split (suc (z - suc k)) k)
    ∙ ap (λ (y : ℕ). y % 2) (high (ones (suc (z - suc k))) k (ones_lt k)) ∙ o)

pub low_ones : (z c : ℕ) → c % 2 ^ z ≡ ones z → (k : ℕ) → k < z → coefficient c k ≡ 1
low_ones z c e k h = sym (low-coefficient z c k h) ∙ ap (λ (y : ℕ). coefficient y k) e ∙ ones-coefficient z k h

-- ---- lists of words
each_at : (P : ℕ → ℕ → Bool) (bs xs : List ℕ) → length xs ≡ length bs → T (each P bs xs) → (i : ℕ) → i < length bs
    → T (P (get_or bs i 0) (get_or xs i 0))
unfolding each
each_at P [] xs e t i h = absurd (Nat.not-suc-le-zero h)
each_at P (b ∷ bs) [] e t i h = absurd (Nat.suc-ne-zero (length bs) (sym e))
each_at P (b ∷ bs) (x ∷ xs) e t zero h = (both (P b x) (each P bs xs) t).0
each_at P (b ∷ bs) (x ∷ xs) e t (suc i) h =
    each_at P bs xs (Nat.suc_inj e) (both (P b x) (each P bs xs) t).1 i (Nat.le_of_suc-le-suc h)

at_each : (P : ℕ → ℕ → Bool) (bs xs : List ℕ) → ((i : ℕ) → i < length bs → T (P (get_or bs i 0) (get_or xs i 0))) → T (each P bs xs)
unfolding each
at_each P [] xs h = tt
at_each P (b ∷ bs) [] h = tt
at_each P (b ∷ bs) (x ∷ xs) h =
    and_both (P b x) (each P bs xs) (h 0 (suc-le-suc zero-le)) (at_each P bs xs (λ i l. h (suc i) (suc-le-suc l)))

-- each word has its ones exactly when each of its coefficients, as many as bs says, is 1
ones-each : (bs xs : List ℕ) → length xs ≡ length bs
    → T (each ones_in bs xs) ↔ ((i k : ℕ) → i < length bs → k < get_or bs i 0 → coefficient (get_or xs i 0) k ≡ 1)
ones-each bs xs e = (
  (λ t i k l b. low_ones (get_or bs i 0) (get_or xs i 0)
      (eqb→eq (get_or xs i 0 % 2 ^ get_or bs i 0) (ones (get_or bs i 0)) (each_at ones_in bs xs e t i l)) k b),
  (λ h. at_each ones_in bs xs (λ i l. rw (ones_low (get_or bs i 0) (get_or xs i 0) (λ k b. h i k l b)) (eqb_refl (ones (get_or bs i 0))))),
)

-- ---- values of words of ones
module _ (F : Field2) where
  open F use {K, 𝟘, 𝟙, ◌⊕◌, ◌⊗◌}

  infixl 65 ◌⊕◌
  infixl 70 ◌⊗◌
  weigh-none : (x : K) (f : ℕ → K) (c : ℕ) → eval F c x ≡ 𝟘 → (i k : ℕ) → weigh F x f i (replicate k c) ≡ 𝟘
  weigh-none x f c h i zero = weigh-nil F x f i
  weigh-none x f c h i (suc k) = weigh-cons F x f i c (replicate k c) ∙ rw (h, weigh-none x f c h (suc i) k) (simp ring)

  -- at an n-th root of 1 other than 1 the word of n ones vanishes
  ones-vanish : (n : ℕ) (x : K) → pow F x n ≡ 𝟙 → x ≢ 𝟙 → eval F (ones n) x ≡ 𝟘
  ones-vanish n x e h =
      mul-eq-zero F (eval F (ones n) x) (x ⊕ 𝟙)
      (mul_comm F (eval F (ones n) x) (x ⊕ 𝟙) ∙ eval-ones F n x ∙ rw e (add-self F 𝟙)) (λ z. h (add-eq-zero F x 𝟙 z))

  -- words of n ones pass, however many: their value at every root of every generator is 0
  module _ (α : K) (C : Parameters) (L : Lawful F α C) where
    ones-at : (j : ℕ) → 0 < j → j ≤ 2 * strength C C.v → eval F (ones (len C)) (pow F α j) ≡ 𝟘
    ones-at j p h =
        ones-vanish (len C) (pow F α j) (root-unity F α C L j)
        (λ e. L.no-clash 1 j (suc-le-suc zero-le) (omega (arith, L.shape.0, L.shape.1)) p h (ap (pow F α) (Nat.one-mul j) ∙ e))

    up : (a : ℕ) → a ≤ C.v → 2 * strength C a ≤ 2 * strength C C.v
    up a h = omega (arith, L.rising a C.v h (Nat.le_refl C.v))

    ones-divide : (a : ℕ) → a ≤ C.v → Divides C a (ones (len C))
    ones-divide a h = (L.roots a h (ones (len C))).1 (λ j p b. ones-at j p (Nat.le_trans b (up a h)))

    all_replicate : (k : ℕ) → All (λ c. Divides C 0 c) (replicate k (ones (len C)))
    all_replicate zero = tt
    all_replicate (suc k) = (ones-divide 0 zero-le, all_replicate k)

    pub ones-pass : (k : ℕ) → Passing C (replicate k (ones (len C)))
    ones-pass k = record {
      words = all_replicate k;
      nesteds = λ l b. (L.roots (C.v - l) (Nat.sub-le C.v l) _).1
          (λ j p h. eval-nested-root F α C L l j (replicate k (ones (len C)))
          ∙ weigh-none (pow F α j) (λ i. pow F (pow F α j) (l * i)) (ones (len C))
          (ones-at j p (Nat.le_trans h (up (C.v - l) (Nat.sub-le C.v l)))) 0 k);
    }

    -- a word of z ones, 0 < z < n, is no multiple of g_0: at α, times x + 1, its value is α^z + 1, and α^z is not 1
    pub ones-stay : 1 ≤ strength C 0 → (z : ℕ) → 0 < z → z < len C → Divides C 0 (ones z) → ⊥
    ones-stay t z p h d =
        let v : eval F (ones z) (pow F α 1) ≡ 𝟘 = (L.roots 0 zero-le (ones z)).0 d 1 (suc-le-suc zero-le) (omega arith) in
        let e : pow F (pow F α 1) z ⊕ 𝟙 ≡ 𝟘 = sym (eval-ones F z (pow F α 1)) ∙ rw v (mul-zero F (pow F α 1 ⊕ 𝟙)) in
        L.order z p h (ap (pow F α) (sym (Nat.one-mul z)) ∙ pow-mul F α 1 z ∙ add-eq-zero F (pow F (pow F α 1) z) 𝟙 e)

-- ---- blank, and full, literally over the bytes
abbrev pub OnesBlocks : Parameters → List ℕ → Type 0
OnesBlocks p a = (i r : ℕ) → i < p.m → r < data_bits p i → block_bit p a i r ≡ 1

module _ (p : Parameters) (R : Rules p) where
  blank-eq : (x : List ℕ) → blank p x ≡ each ones_in (replicate p.m (stored p)) (words_of p x)
  unfolding blank
  blank-eq x = refl

  full-eq : (a : List ℕ) → blocks_full p a ≡ each ones_in (block_bits p) (blocks_of p a)
  unfolding blocks_full
  full-eq a = refl

  blank-words : (x : List ℕ) → T (blank p x) ↔ ((i k : ℕ) → i < p.m → k < stored p → coefficient (get_or (words_of p x) i 0) k ≡ 1)
  blank-words x = (
    (λ t i k l b. ones.0 (rw (blank-eq x) at t) i k (rw m l) (rw (bits i l) b)),
    (λ h. rw (blank-eq x) (ones.1 (λ i k l b. (let j : i < p.m = rw m at l in h i k j (rw (bits i j) at b))))),
  )
    where
      m : length (replicate p.m (stored p)) ≡ p.m
      m = length-replicate p.m (stored p)

      bits : (i : ℕ) → i < p.m → get_or (replicate p.m (stored p)) i 0 ≡ stored p
      bits i l = get_or-replicate p.m i (stored p) 0 l

      ones : T (each ones_in (replicate p.m (stored p)) (words_of p x))
          ↔ ((i k : ℕ) → i < length (replicate p.m (stored p)) → k < get_or (replicate p.m (stored p)) i 0
          → coefficient (get_or (words_of p x) i 0) k ≡ 1)
      ones = ones-each (replicate p.m (stored p)) (words_of p x) (words-many p x ∙ sym m)

  pub blank-iff : (x : List ℕ) → Bytes x → T (blank p x) ↔ IsBlank p x
  blank-iff x h = (
    (λ t i k l b. sym (sub-word-bit p R x h i k l b) ∙ (blank-words x).0 t i k l b),
    (λ o. (blank-words x).1 (λ i k l b. sub-word-bit p R x h i k l b ∙ o i k l b)),
  )

  full-iff : (a : List ℕ) → Bytes a → T (blocks_full p a) ↔ OnesBlocks p a
  full-iff a h = (
    (λ t i r l b. sym (block-bit p R a h i r l b) ∙ ones.0 (rw (full-eq a) at t) i r (rw (length-bits p) l) (rw (bits_at p i l) b)),
    (λ o. rw (full-eq a) (ones.1 (λ i r l b. (let j : i < p.m = rw (length-bits p) at l in
        let c : r < data_bits p i = rw (bits_at p i j) at b in block-bit p R a h i r j c ∙ o i r j c)))),
  )
    where
      ones : T (each ones_in (block_bits p) (blocks_of p a))
          ↔ ((i k : ℕ) → i < length (block_bits p) → k < get_or (block_bits p) i 0 → coefficient (get_or (blocks_of p a) i 0) k ≡ 1)
      ones = ones-each (block_bits p) (blocks_of p a) (blocks-many p a ∙ sym (length-bits p))

  -- ---- where coefficients are left out, a blank page is no member's, and no written page is blank
  pub blank-word : (x : List ℕ) → Bytes x → IsBlank p x → (i : ℕ) → i < p.m → get_or (stored_of p x) i 0 ≡ ones (stored p)
  blank-word x h b i l =
      stored_at p x i l ∙ ones_low (stored p) (get_or (words_of p x) i 0) (λ k c. sub-word-bit p R x h i k l c ∙ b i k l c)

  m-pos : 0 < p.m
  m-pos = omega (arith, R.m-low)

  pub blank-stays : 0 < p.s → (x : List ℕ) → Bytes x → IsBlank p x → Divides p 0 (get_or (stored_of p x) 0 0) → ⊥
  blank-stays s x h b d =
      let l : 0 < stored p = omega (arith, stored-room p R 0 zero-le) in
      ones-stay (field_of p.q).field (field_of p.q).α p (lawful p R) R.t-low (stored p) l (omega arith)
      (rw (blank-word x h b 0 m-pos) at d)

  written-stays : 0 < p.s → (a : List ℕ) → Fits p a → IsBlank p (page_of p a) → ⊥
  written-stays s a h b =
      blank-stays s (page_of p a) (page-is p R a h).bytes b (rw words (all-at (λ c. Divides p 0 c) (encode p (blocks_of p a))
      (encode-member (field_of p.q).field (field_of p.q).α p (lawful p R) (blocks_of p a)).words 0 (rw many m-pos)))
    where
      words : stored_of p (page_of p a) ≡ encode p (blocks_of p a)
      words = stored-page p R (page_of p a) (page-is p R a h) ∙ page-has p R a h

      many : length (encode p (blocks_of p a)) ≡ p.m
      many = ap length (sym (page-has p R a h)) ∙ words-many p (page_of p a)

  -- ---- the page of ones, with clear spare bits, is at s = 0 the page of its blocks
  abbrev ones_words : List ℕ
  ones_words = replicate p.m (ones (stored p))

  abbrev ones_page : List ℕ
  ones_page = join (word_sizes p) ones_words

  ones-words : IsWords p ones_words
  ones-words = record { many = length-replicate p.m (ones (stored p)); below = below p.m }
    where
      below : (k : ℕ) → All (λ c. c < 2 ^ stored p) (replicate k (ones (stored p)))
      below zero = tt
      below (suc k) = (ones_lt (stored p), below k)

  ones-page : IsPage p ones_page
  ones-page = words-page p R ones_words ones-words

  ones-blank : IsBlank p ones_page
  ones-blank i k l b =
      sym (sub-word-bit p R ones_page ones-page.bytes i k l b)
      ∙ ap (λ (c : ℕ). coefficient c k)
      (ap (λ (cs : List ℕ). get_or cs i 0) (words-join p R ones_words ones-words) ∙ get_or-replicate p.m i (ones (stored p)) 0 l)
      ∙ ones-coefficient (stored p) k b

  ones-written : p.s ≡ 0 → page_of p (data_of p ones_page) ≡ ones_page
  ones-written e =
      again-to p R ones_page ones-page ((member-encode (field_of p.q).field (field_of p.q).α p (lawful p R) (words_of p ones_page)).0
      (rw (words-join p R ones_words ones-words, stored-whole p e) (ones-pass (field_of p.q).field (field_of p.q).α p (lawful p R) p.m)))

  -- ---- the blocks whose page would be blank: at s = 0 those whose data bits are all 1, else none
  module _ (a : List ℕ) (h : Fits p a) where
    pub page-ones : IsBlank p (page_of p a) ↔ ((p.s ≡ 0) × OnesBlocks p a)
    page-ones = (
      (λ b. (
        none b (Nat.eq-zero-or-pos p.s),
        (λ i r l c. sym (written-bit p R a h i r l c) ∙ b i (check_bits p i + r) l (data-room p R i r c)),
      )),
      (λ o. rw (same o.0 o.1) ones-blank),
    )
      where
        none : IsBlank p (page_of p a) → (p.s ≡ 0) ⊎ (0 < p.s) → p.s ≡ 0
        none b (inl e) = e
        none b (inr l) = absurd (written-stays l a h b)

        same : p.s ≡ 0 → OnesBlocks p a → page_of p a ≡ ones_page
        same e o =
            ap (page_of p) (blocks-same p R a (data_of p ones_page) h (data-fit p R ones_page)
            (λ i r l c. o i r l c ∙ sym (read-bit p R ones_page ones-page.bytes i r l c ∙ ones-blank i (check_bits p i + r) l (data-room p R i r c))))
            ∙ ones-written e

    pub page-full : blank p (page_of p a) ≡ (eqb p.s 0 && blocks_full p a)
    page-full =
        let x = blank-iff (page_of p a) (page-is p R a h).bytes in
        let y = full-iff a h.bytes in
        both_ways (blank p (page_of p a)) (eqb p.s 0 && blocks_full p a)
        (λ t. (let o = page-ones.0 (x.0 t) in and_both (eqb p.s 0) (blocks_full p a) (rw o.0 tt) (y.1 o.1)))
        (λ t. (let o = both (eqb p.s 0) (blocks_full p a) t in x.1 (page-ones.1 (eqb→eq p.s 0 o.0, y.0 o.1))))
