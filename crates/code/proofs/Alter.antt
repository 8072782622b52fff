-- One bit altered: the page of a single bit, and what adding it changes.
--   alone p i d           the words of the page of the data d in block i and 0 elsewhere; units p i r those of bit r of block i
--   concerned p i j       sub-word j is concerned by a bit of block i: it is i, or it is below both i and v
--   altered_blocks p a i r b    the blocks a with bit r of block i made b
--   Alterable p x i r b   what alter does not refuse, but for 13
use Rattle.std.specs.Prelude.{◌≡◌, ◌≢◌, ◌⊎◌, Bool, true, false, not, ◌&&◌, ◌||◌, cond, List, [], ◌∷◌, ℕ, zero, suc, ◌+◌, ◌*◌, ◌/◌, ◌%◌, ◌^◌, ◌≤◌, ◌<◌, T, eqb, leb, ltb, length, get_or, take, drop}
use Rattle.std.proofs.Math.Path.{refl, ap}
use Rattle.std.proofs.Common.{sym, ap₂, ◌∙◌, inl, inr, zero-le, suc-le-suc, arith, eqb→eq, leb→le, ltb→lt, lt→ltb, nltb→le, lit≤, lit<, pow-add, pow_pos}
use Rattle.std.proofs.Math.Nat as Nat
use Rattle.std.proofs.Math.Decide.{dec_le, ℕ_discrete}
use Rattle.std.specs.Int.Bits.{xor_shifted}
use Rattle.std.proofs.Math.Dec.{eqb_refl, nleb→lt, not_T}
use Rattle.std.proofs.Math.Pow.{pow-lt}
use Rattle.polynomial.specs.Bits.{coefficient}
use Rattle.polynomial.specs.Coefficients.{beyond, coefficient-xor, pow-bit, pow-bits}
use Rattle.polynomial.specs.Division.{rem_lt, rem-zero}
use Rattle.polynomial.specs.Sums.{All, add, add_at, all-at}
use Rattle.polynomial.specs.Xor.{bit-ind, xor, xor-cancel, xor_is, xor_self, xor_zero_l, xor_zero_r}
use Rattle.field.specs.Bch.{weight, weight-zero}
use Rattle.field.specs.Fields.{field_of}
use Rattle.field.specs.Flips.{weight-pow, weight-xor}
use Rattle.code.specs.declared.Parameters.{Parameters}
use Rattle.code.specs.Accepted.{Rules}
use Rattle.code.proofs.Accepted.{lawful, stored-le}
use Rattle.code.proofs.Bursts.{combine-none}
use Rattle.code.proofs.Chains.{either, exact_none, exact-of, given, last, neither, off, off', or_assoc, or-le, or-none, or-second, past, unless, when-le}
use Rattle.code.specs.Code.{carried, check_bits, checked, degree, distance, encode, encode_from, gen, level, remainder}
use Rattle.code.proofs.Distance.{nonzeros, page_weight, weight-member}
use Rattle.code.proofs.Encode.{encode-member}
use Rattle.code.specs.Layout.{Fits, IsPage, altered, bit_from, blank, block_bit, block_offset, block_sizes, blocks_of}
use Rattle.code.specs.Layout.{coefficient_of, data_bits, one_bit, one_block, page_bytes, page_clear, page_of, single, words_of}
use Rattle.code.specs.Lists.{◌or_else◌, ◌when◌, add_below, join, last_refusal}
use Rattle.code.specs.Pages.{IsWords}
use Rattle.code.proofs.Pages.{page-has, page-is, page-words, sum_fits, sum-is-page, sum-page, sum-words, words-many}
use Rattle.code.specs.Parameters.{Accepted, len, sheet_refusal, stored, sub_word_bytes}
use Rattle.code.proofs.Placement.{any_fit, any-has, block-bit, blocks-same, encode-at, single-at, single-each, single-else, same-part, single-long, written-bit}
use Rattle.code.proofs.Places.{add_below-front, add_below-suc, add_below-zero, all-higher, differing, ones-weight, pages-differ}
use Rattle.code.specs.Refusals.{alter_refusal, no_bit, not_exact, page_refusal}
use Rattle.code.proofs.Refused.{page-le, page-links}
use Rattle.code.proofs.Steps.{carried-suc, carried-zero, checked-eq, encode-cons, encode-nil}
use Rattle.code.specs.Alter.{Alterable, alone, altered_blocks, units}

-- sub-word j is concerned by a bit of block i
abbrev pub concerned : Parameters → ℕ → ℕ → Bool
concerned p i j = eqb j i || (ltb j i && ltb j p.v)

-- ---- tests of equality
pub by_eqb : {A : Type 0} (k b : ℕ) (x y : A) → k ≡ b → cond (eqb k b) x y ≡ x
by_eqb k b x y e = rw e (go (eqb b b) (eqb_refl b))
  where
    go : (c : Bool) → T c → cond c x y ≡ x
    go true t = refl
    go false t = absurd t

pub by-neqb : {A : Type 0} (k b : ℕ) (x y : A) → k ≢ b → cond (eqb k b) x y ≡ y
by-neqb k b x y n = go (eqb k b) (λ t. n (eqb→eq k b t))
  where
    go : (c : Bool) → (T c → ⊥) → cond c x y ≡ y
    go true f = absurd (f tt)
    go false f = refl

-- ---- words of zero data are zero
carried-zeros : (a i : ℕ) (cs : List ℕ) → All (λ c. c ≡ 0) cs → carried a i cs ≡ 0
carried-zeros zero i cs h = carried-zero i cs
carried-zeros (suc a) i cs h = carried-suc a i cs ∙ combine-none _ (suc i) cs (all-at (λ c. c ≡ 0) cs h)

checked_zero : (p : Parameters) (a : ℕ) → checked p a 0 0 ≡ 0
checked_zero p a = checked-eq p a 0 0 ∙ ap (xor 0) (ap (remainder p a) (xor_self 0) ∙ rem-zero (gen p a) (degree p a)) ∙ xor_self 0

encode-zeros : (p : Parameters) (i : ℕ) (ds : List ℕ) → All (λ d. d ≡ 0) ds → All (λ c. c ≡ 0) (encode_from p i ds)
encode-zeros p i [] h = rw (encode-nil p i) tt
encode-zeros p i (d ∷ ds) h =
    let z = encode-zeros p (suc i) ds h.1 in
    rw (encode-cons p i d ds) (
      ap₂ (checked p (level p i)) (ap (λ (y : ℕ). y * 2 ^ check_bits p i) h.0 ∙ Nat.zero-mul (2 ^ check_bits p i))
          (carried-zeros (level p i) i (encode_from p (suc i) ds) z)
          ∙ checked_zero p (level p i),
      z,
    )

-- the later words of a page whose later data are zero
later-zeros : (p : Parameters) (j o : ℕ) (ds : List ℕ) → ((k : ℕ) → o < k → k < length ds → get_or ds k 0 ≡ 0)
    → All (λ c. c ≡ 0) (drop (suc o) (encode_from p j ds))
later-zeros p j o [] h = rw (encode-nil p j) tt
later-zeros p j zero (d ∷ ds) h =
    rw (encode-cons p j d ds) (encode-zeros p (suc j) ds (all ds (λ k l. h (suc k) (suc-le-suc zero-le) (suc-le-suc l))))
  where
    all : (ds : List ℕ) → ((k : ℕ) → k < length ds → get_or ds k 0 ≡ 0) → All (λ d. d ≡ 0) ds
    all [] h = tt
    all (d ∷ ds) h = (h 0 (suc-le-suc zero-le), all ds (λ k l. h (suc k) (suc-le-suc l)))
later-zeros p j (suc o) (d ∷ ds) h =
    rw (encode-cons p j d ds) (later-zeros p (suc j) o ds (λ k l m. h (suc k) (suc-le-suc l) (suc-le-suc m)))

-- ---- weights
bit_le : (c k : ℕ) → coefficient c k ≤ 1
bit_le c k = Nat.le_of_suc-le-suc (Nat.mod-lt (c / 2 ^ k) (suc-le-suc zero-le))

add_below-le : (n : ℕ) (f g : ℕ → ℕ) → ((k : ℕ) → k < n → f k ≤ g k) → add_below n f ≤ add_below n g
add_below-le zero f g h = Nat.le_of_eq (add_below-zero f ∙ sym (add_below-zero g))
add_below-le (suc n) f g h =
    omega (arith, add_below-suc n f, add_below-suc n g, add_below-le n f g (λ k l. h k (Nat.le_step l)), h n (Nat.le_refl (suc n)))

add_below-sum : (n : ℕ) (f g : ℕ → ℕ) → add_below n (λ k. f k + g k) ≡ add_below n f + add_below n g
add_below-sum zero f g = add_below-zero (λ k. f k + g k) ∙ sym (ap₂ ◌+◌ (add_below-zero f) (add_below-zero g))
add_below-sum (suc n) f g = omega (arith, add_below-suc n (λ k. f k + g k), add_below-suc n f, add_below-suc n g, add_below-sum n f g)

add_below-one : (n : ℕ) → add_below n (λ k. 1) ≡ n
add_below-one zero = add_below-zero (λ k. 1)
add_below-one (suc n) = omega (arith, add_below-suc n (λ k. 1), add_below-one n)

weight-le : (z c : ℕ) → c < 2 ^ z → weight c ≤ z
weight-le z c h =
    Nat.le_trans (Nat.le_of_eq (sym (ones-weight z c h)))
    (Nat.le_trans (add_below-le z (λ k. coefficient c k) (λ k. 1) (λ k l. bit_le c k)) (Nat.le_of_eq (add_below-one z)))

-- one bit above w check bits
weight-placed : (r w c : ℕ) → c < 2 ^ w → weight (xor (2 ^ r * 2 ^ w) c) ≤ w + 1
weight-placed r w c h =
    rw (← pow-add 2 r w) (Nat.le_trans (weight-xor (2 ^ (r + w)) c)
    (Nat.le_trans (Nat.add-le-add (Nat.le_of_eq (weight-pow (r + w))) (weight-le w c h)) (Nat.le_of_eq (Nat.add_comm 1 w))))

weights : (cs : List ℕ) → page_weight cs ≡ add_below (length cs) (λ j. weight (get_or cs j 0))
weights [] = sym (add_below-zero (λ j. weight (get_or [] j 0)))
weights (c ∷ cs) =
    ap (λ (y : ℕ). weight c + y) (weights cs) ∙ sym (add_below-front (length cs) (λ j. weight (get_or (c ∷ cs) j 0)))

-- one place at most
add_below-at : (n i : ℕ) → add_below n (λ j. cond (eqb j i) 1 0) ≤ 1
add_below-at zero i = Nat.le_trans (Nat.le_of_eq (add_below-zero (λ j. cond (eqb j i) 1 0))) zero-le
add_below-at (suc n) i = go (ℕ_discrete n i) (add_below-at n i)
  where
    none : (k : ℕ) → k ≤ i → add_below k (λ j. cond (eqb j i) 1 0) ≡ 0
    none zero h = add_below-zero (λ j. cond (eqb j i) 1 0)
    none (suc k) h =
        omega (arith, add_below-suc k (λ j. cond (eqb j i) 1 0), none k (Nat.le_of_suc-le h), by-neqb {A = ℕ} k i 1 0 (λ e. Nat.lt_irrefl k (rw (← e) at h)))

    go : Dec (n ≡ i) → add_below n (λ j. cond (eqb j i) 1 0) ≤ 1 → add_below (suc n) (λ j. cond (eqb j i) 1 0) ≤ 1
    go (yes e) ih = omega (arith, add_below-suc n (λ j. cond (eqb j i) 1 0), none n (Nat.le_of_eq e), by_eqb {A = ℕ} n i 1 0 e)
    go (no d) ih = omega (arith, add_below-suc n (λ j. cond (eqb j i) 1 0), by-neqb {A = ℕ} n i 1 0 d)

add-cancel : (cs ds : List ℕ) → length cs ≡ length ds → add cs (add cs ds) ≡ ds
add-cancel [] ds e = refl
add-cancel (c ∷ cs) [] e = absurd (Nat.suc-ne-zero (length cs) e)
add-cancel (c ∷ cs) (d ∷ ds) e = ap₂ ◌∷◌ (xor-cancel c d) (add-cancel cs ds (Nat.suc_inj e))

-- ---- the page of a single block
pub one_block-eq : (p : Parameters) (i d : ℕ) → one_block p i d ≡ join (block_sizes p) (single p i d)
unfolding one_block
one_block-eq p i d = refl

module _ (p : Parameters) (R : Rules p) (i d : ℕ) (li : i < p.m) (ld : d < 2 ^ data_bits p i) where
  small : (j : ℕ) → j < p.m → get_or (single p i d) j 0 < 2 ^ data_bits p j
  small = single-each p i d li (λ j x. x < 2 ^ data_bits p j) (λ j. pow_pos (data_bits p j)) ld

  pub block-fits : Fits p (one_block p i d)
  block-fits = rw (one_block-eq p i d) (any_fit p R (single p i d) (single-long p i d) small)

  pub block-has : blocks_of p (one_block p i d) ≡ single p i d
  block-has = ap (blocks_of p) (one_block-eq p i d) ∙ any-has p R (single p i d) (single-long p i d) small

  pub alone-words : words_of p (page_of p (one_block p i d)) ≡ alone p i d
  alone-words = page-has p R (one_block p i d) block-fits ∙ ap (encode p) block-has

  pub alone-page : IsPage p (page_of p (one_block p i d))
  alone-page = page-is p R (one_block p i d) block-fits

  pub alone-are : IsWords p (alone p i d)
  alone-are = rw alone-words at (page-words p R (page_of p (one_block p i d)) alone-page)

  alone-word : (j : ℕ) → j < p.m → get_or (alone p i d) j 0
      ≡ checked p (level p j) (get_or (single p i d) j 0 * 2 ^ check_bits p j) (carried (level p j) j (drop (suc j) (alone p i d)))
  unfolding encode
  alone-word j h =
      encode-at p 0 j (single p i d) (rw (single-long p i d) h)
      ∙ ap (λ (k : ℕ). checked p (level p k) (get_or (single p i d) j 0 * 2 ^ check_bits p k)
      (carried (level p k) k (drop (suc j) (encode_from p 0 (single p i d))))) (Nat.zero-add j)

  -- the words after j, where j is not below i
  later-none : (j : ℕ) → i ≤ j → All (λ c. c ≡ 0) (drop (suc j) (alone p i d))
  unfolding encode
  later-none j h =
      later-zeros p 0 j (single p i d)
      (λ k b c. single-else p i d k (rw (single-long p i d) at c) (λ e. Nat.lt_irrefl j (omega arith)))

  -- sub-words other than i and those below both i and v are zero
  pub alone-zero : (j : ℕ) → j < p.m → j ≢ i → (i < j) ⊎ (p.v ≤ j) → get_or (alone p i d) j 0 ≡ 0
  alone-zero j h n m =
      alone-word j h
      ∙ ap₂ (checked p (level p j)) (ap (λ (x : ℕ). x * 2 ^ check_bits p j) (single-else p i d j h n) ∙ Nat.zero-mul (2 ^ check_bits p j)) (nothing m)
      ∙ checked_zero p (level p j)
    where
      at_zero : (a : ℕ) → a ≡ 0 → carried a j (drop (suc j) (alone p i d)) ≡ 0
      at_zero a e = rw e (carried-zero j (drop (suc j) (alone p i d)))

      nothing : (i < j) ⊎ (p.v ≤ j) → carried (level p j) j (drop (suc j) (alone p i d)) ≡ 0
      nothing (inl l) = carried-zeros (level p j) j (drop (suc j) (alone p i d)) (later-none j (Nat.le_of_suc-le l))
      nothing (inr l) = at_zero (level p j) (omega arith)

  pub check-lt : (j f : ℕ) → remainder p (level p j) f < 2 ^ check_bits p j
  check-lt j f = rem_lt (gen p (level p j)) (degree p (level p j)) ((lawful p R).degrees (level p j) (Nat.sub-le p.v j)) f

  -- the others but i hold check bits alone
  alone_check : (j : ℕ) → j < p.m → j ≢ i → get_or (alone p i d) j 0 < 2 ^ check_bits p j
  alone_check j h n =
      rw (
        alone-word j h,
        single-else p i d j h n,
        Nat.zero-mul (2 ^ check_bits p j),
        checked-eq p (level p j) 0 (carried (level p j) j (drop (suc j) (alone p i d))),
        xor_zero_l,
      )
      (check-lt j _)

  -- and i its data and their own check bits: nothing is carried
  pub alone-own : get_or (alone p i d) i 0 ≡ checked p (level p i) (d * 2 ^ check_bits p i) 0
  alone-own =
      alone-word i li
      ∙ ap₂ (λ (x f : ℕ). checked p (level p i) (x * 2 ^ check_bits p i) f) (single-at p i d li)
      (carried-zeros (level p i) i (drop (suc i) (alone p i d)) (later-none i (Nat.le_refl i)))

-- ---- the page of a single bit
pub altered-eq : (p : Parameters) (x : List ℕ) (i r b : ℕ)
    → altered p x i r b ≡ cond (eqb (coefficient_of p x i (check_bits p i + r)) b) x (add x (page_of p (one_bit p i r)))
unfolding altered
altered-eq p x i r b = refl

altered_blocks-eq : (p : Parameters) (a : List ℕ) (i r b : ℕ)
    → altered_blocks p a i r b ≡ cond (eqb (block_bit p a i r) b) a (add a (one_bit p i r))
unfolding altered_blocks
altered_blocks-eq p a i r b = refl

module _ (p : Parameters) (R : Rules p) (i r : ℕ) (li : i < p.m) (lr : r < data_bits p i) where
  pub bit-fits : Fits p (one_bit p i r)
  bit-fits = block-fits p R i (2 ^ r) li (pow-lt lr)

  pub bit-has : blocks_of p (one_bit p i r) ≡ single p i (2 ^ r)
  bit-has = block-has p R i (2 ^ r) li (pow-lt lr)

  pub unit-words : words_of p (page_of p (one_bit p i r)) ≡ units p i r
  unit-words = alone-words p R i (2 ^ r) li (pow-lt lr)

  pub unit-page : IsPage p (page_of p (one_bit p i r))
  unit-page = alone-page p R i (2 ^ r) li (pow-lt lr)

  pub units-are : IsWords p (units p i r)
  units-are = alone-are p R i (2 ^ r) li (pow-lt lr)

  abbrev own : ℕ
  own = remainder p (level p i) (xor (2 ^ r * 2 ^ check_bits p i) 0)

  unit-self : get_or (units p i r) i 0 ≡ xor (2 ^ r * 2 ^ check_bits p i) own
  unit-self = alone-own p R i (2 ^ r) li (pow-lt lr) ∙ checked-eq p (level p i) (2 ^ r * 2 ^ check_bits p i) 0

  self-pos : 0 < get_or (units p i r) i 0
  self-pos =
      rw (unit-self ∙ sym (xor_is (2 ^ r * 2 ^ check_bits p i) own) ∙ xor_shifted (2 ^ r) (check_bits p i) own (check-lt p R i (2 ^ r) li (pow-lt lr) i _))
      (Nat.lt_of_lt_of_le (Nat.mul-pos (pow_pos r) (pow_pos (check_bits p i))) (Nat.le-add_right (2 ^ r * 2 ^ check_bits p i) own))

  -- ---- the page of the blocks altered
  pub altered-page : (a : List ℕ) → Fits p a → (b : ℕ) → altered p (page_of p a) i r b ≡ page_of p (altered_blocks p a i r b)
  altered-page a h b =
      altered-eq p (page_of p a) i r b
      ∙ ap (λ (c : ℕ). cond (eqb c b) (page_of p a) (add (page_of p a) (page_of p (one_bit p i r)))) (written-bit p R a h i r li lr)
      ∙ go (eqb (block_bit p a i r) b) ∙ ap (page_of p) (sym (altered_blocks-eq p a i r b))
    where
      go : (c : Bool) → cond c (page_of p a) (add (page_of p a) (page_of p (one_bit p i r))) ≡ page_of p (cond c a (add a (one_bit p i r)))
      go true = refl
      go false = sym (sum-page p R a (one_bit p i r) h bit-fits)

  pub altered-fits : (a : List ℕ) → Fits p a → (b : ℕ) → Fits p (altered_blocks p a i r b)
  altered-fits a h b = rw (altered_blocks-eq p a i r b) (go (eqb (block_bit p a i r) b))
    where
      go : (c : Bool) → Fits p (cond c a (add a (one_bit p i r)))
      go true = h
      go false = sum_fits p R a (one_bit p i r) h bit-fits

  pub altered-is : (x : List ℕ) → IsPage p x → (b : ℕ) → IsPage p (altered p x i r b)
  altered-is x h b = rw (altered-eq p x i r b) (go (eqb (coefficient_of p x i (check_bits p i + r)) b))
    where
      go : (c : Bool) → IsPage p (cond c x (add x (page_of p (one_bit p i r))))
      go true = h
      go false = sum-is-page p R x (page_of p (one_bit p i r)) h unit-page

  -- ---- a page x with that page added
  module _ (x : List ℕ) (h : IsPage p x) where
    abbrev after : List ℕ
    after = add x (page_of p (one_bit p i r))

    pub after-page : IsPage p after
    after-page = sum-is-page p R x (page_of p (one_bit p i r)) h unit-page

    after-words : words_of p after ≡ add (words_of p x) (units p i r)
    after-words = sum-words p R x (page_of p (one_bit p i r)) h unit-page ∙ ap (add (words_of p x)) unit-words

    pub after-word : (j : ℕ) → get_or (words_of p after) j 0 ≡ xor (get_or (words_of p x) j 0) (get_or (units p i r) j 0)
    after-word j =
        ap (λ (cs : List ℕ). get_or cs j 0) after-words ∙ add_at (words_of p x) (units p i r) j (words-many p x ∙ sym units-are.many)

    -- the bytes of the sub-words that are not concerned
    pub bytes-stay : (j : ℕ) → j < p.m → j ≢ i → (i < j) ⊎ (p.v ≤ j)
        → take (sub_word_bytes p) (drop (j * sub_word_bytes p) after) ≡ take (sub_word_bytes p) (drop (j * sub_word_bytes p) x)
    bytes-stay j l n m =
        same-part p after x j l after-page.bytes h.bytes (after-page.exact ∙ sym h.exact)
        (after-word j ∙ ap (xor (get_or (words_of p x) j 0)) (alone-zero p R i (2 ^ r) li (pow-lt lr) j l n m) ∙ xor_zero_r (get_or (words_of p x) j 0))

    -- ---- how many bits change
    pub changed-weight : add_below p.m (differing (stored p) (words_of p x) (words_of p after)) ≡ page_weight (units p i r)
    changed-weight =
        let w : IsWords p (words_of p x) = page-words p R x h in
        let v : IsWords p (words_of p after) = page-words p R after after-page in
        ap (λ (k : ℕ). add_below k (differing (stored p) (words_of p x) (words_of p after))) (sym w.many)
        ∙ pages-differ (stored p) (words_of p x) (words_of p after) (w.many ∙ sym v.many) w.below v.below
        ∙ ap (λ (cs : List ℕ). page_weight (add (words_of p x) cs)) after-words
        ∙ ap page_weight (add-cancel (words_of p x) (units p i r) (w.many ∙ sym units-are.many))

  -- at least the distance
  pub changed-least : distance p ≤ page_weight (units p i r)
  changed-least =
      weight-member (field_of p.q).field (field_of p.q).α p (lawful p R) (units p i r) (Nat.le_of_eq units-are.many)
      (all-higher (stored p) (len p) (units p i r) (stored-le p R) units-are.below)
      (encode-member (field_of p.q).field (field_of p.q).α p (lawful p R) (single p i (2 ^ r)))
      (λ z. Nat.lt_irrefl 0 (rw (zero-at (units p i r) z i) at self-pos))
    where
      zero-at : (cs : List ℕ) → nonzeros cs ≡ 0 → (j : ℕ) → get_or cs j 0 ≡ 0
      zero-at [] z j = refl
      zero-at (zero ∷ cs) z zero = refl
      zero-at (zero ∷ cs) z (suc j) = zero-at cs z j
      zero-at (suc c ∷ cs) z j = absurd (Nat.suc-ne-zero (nonzeros cs) z)

  -- at most one more than the check bits of the sub-words concerned
  pub changed-most : page_weight (units p i r) ≤ add_below p.m (λ j. cond (concerned p i j) (check_bits p j) 0) + 1
  changed-most =
      Nat.le_trans (Nat.le_of_eq (weights (units p i r) ∙ ap (λ (k : ℕ). add_below k (λ j. weight (get_or (units p i r) j 0))) units-are.many))
      (Nat.le_trans (add_below-le p.m (λ j. weight (get_or (units p i r) j 0)) (λ j. cond (concerned p i j) (check_bits p j) 0 + cond (eqb j i) 1 0) each)
      (Nat.le_trans (Nat.le_of_eq (add_below-sum p.m (λ j. cond (concerned p i j) (check_bits p j) 0) (λ j. cond (eqb j i) 1 0)))
      (Nat.add-le-add (Nat.le_refl (add_below p.m (λ j. cond (concerned p i j) (check_bits p j) 0))) (add_below-at p.m i))))
    where
      chosen : (b : Bool) (x : ℕ) → T b → cond b x 0 ≡ x
      chosen true x t = refl
      chosen false x t = absurd t

      right : (b c : Bool) → T c → T (b || c)
      right true c t = tt
      right false c t = t

      left : (b c : Bool) → T b → T (b || c)
      left true c t = tt
      left false c t = absurd t

      pair : (b c : Bool) → T b → T c → T (b && c)
      pair true c t u = u
      pair false c t u = absurd t

      self : weight (get_or (units p i r) i 0) ≤ check_bits p i + 1
      self = rw unit-self (weight-placed r (check_bits p i) own (check-lt p R i (2 ^ r) li (pow-lt lr) i _))

      none : (j : ℕ) → j < p.m → j ≢ i → (i < j) ⊎ (p.v ≤ j) → weight (get_or (units p i r) j 0) ≤ cond (concerned p i j) (check_bits p j) 0
      none j h n m = Nat.le_trans (Nat.le_of_eq (ap weight (alone-zero p R i (2 ^ r) li (pow-lt lr) j h n m) ∙ weight-zero)) zero-le

      below : (j : ℕ) → j < p.m → j ≢ i → Dec (j < i) → Dec (j < p.v) → weight (get_or (units p i r) j 0) ≤ cond (concerned p i j) (check_bits p j) 0
      below j h n (yes l) (yes v) =
          Nat.le_trans (weight-le (check_bits p j) (get_or (units p i r) j 0) (alone_check p R i (2 ^ r) li (pow-lt lr) j h n))
          (Nat.le_of_eq (sym (chosen (concerned p i j) (check_bits p j)
          (right (eqb j i) (ltb j i && ltb j p.v) (pair (ltb j i) (ltb j p.v) (lt→ltb j i l) (lt→ltb j p.v v))))))
      below j h n (yes l) (no v) = none j h n (inr (omega arith))
      below j h n (no l) v = none j h n (inl (omega arith))

      each : (j : ℕ) → j < p.m → weight (get_or (units p i r) j 0) ≤ cond (concerned p i j) (check_bits p j) 0 + cond (eqb j i) 1 0
      each j h = go (ℕ_discrete j i)
        where
          go : Dec (j ≡ i) → weight (get_or (units p i r) j 0) ≤ cond (concerned p i j) (check_bits p j) 0 + cond (eqb j i) 1 0
          go (yes e) =
              rw e (Nat.le_trans self (Nat.le_of_eq (sym (ap₂ ◌+◌ (chosen (concerned p i i) (check_bits p i)
              (left (eqb i i) (ltb i i && ltb i p.v) (eqb_refl i))) (by_eqb {A = ℕ} i i 1 0 refl)))))
          go (no n) =
              Nat.le_trans (below j h n (dec_le (suc j) i) (dec_le (suc j) p.v))
              (Nat.le-add_right (cond (concerned p i j) (check_bits p j) 0) (cond (eqb j i) 1 0))

-- ---- bits: of a page or of blocks, as they are or with others added
bit-add : (x y : List ℕ) (at k : ℕ) → length x ≡ length y → bit_from (add x y) at k ≡ (bit_from x at k + bit_from y at k) % 2
bit-add x y at k e =
    ap (λ (d : ℕ). coefficient d (k % 8)) (add_at x y (at + k / 8) e) ∙ coefficient-xor (get_or x (at + k / 8) 0) (get_or y (at + k / 8) 0) (k % 8)

bit-lt : (x : List ℕ) (at k : ℕ) → bit_from x at k < 2
bit-lt x at k = Nat.mod-lt (get_or x (at + k / 8) 0 / 2 ^ (k % 8)) (suc-le-suc zero-le)

-- a bit that is not b is another with 1 added, and each is as it was with 0 added
made : (c b : ℕ) → c < 2 → b < 2 → cond (eqb c b) c ((c + 1) % 2) ≡ b
made c b h l =
    bit-ind (λ (c : ℕ). cond (eqb c b) c ((c + 1) % 2) ≡ b) (bit-ind (λ (b : ℕ). cond (eqb 0 b) 0 ((0 + 1) % 2) ≡ b) refl refl b l)
    (bit-ind (λ (b : ℕ). cond (eqb 1 b) 1 ((1 + 1) % 2) ≡ b) refl refl b l) c h

module _ (x u : List ℕ) (e : length x ≡ length u) (at k : ℕ) where
  bit-either : (t : Bool) → bit_from (cond t x (add x u)) at k ≡ cond t (bit_from x at k) ((bit_from x at k + bit_from u at k) % 2)
  bit-either true = refl
  bit-either false = bit-add x u at k e

  -- where u has a 1 the bit is made b, where it has a 0 it stays
  bit-made : (b : ℕ) → b ≤ 1 → bit_from u at k ≡ 1 → bit_from (cond (eqb (bit_from x at k) b) x (add x u)) at k ≡ b
  bit-made b h o =
      bit-either (eqb (bit_from x at k) b) ∙ ap (λ (d : ℕ). cond (eqb (bit_from x at k) b) (bit_from x at k) ((bit_from x at k + d) % 2)) o
      ∙ made (bit_from x at k) b (bit-lt x at k) (suc-le-suc h)

  bit-stays : (t : Bool) → bit_from u at k ≡ 0 → bit_from (cond t x (add x u)) at k ≡ bit_from x at k
  bit-stays t o = bit-either t ∙ ap (λ (d : ℕ). cond t (bit_from x at k) ((bit_from x at k + d) % 2)) o ∙ go t
    where
      go : (t : Bool) → cond t (bit_from x at k) ((bit_from x at k + 0) % 2) ≡ bit_from x at k
      go true = refl
      go false = ap (λ (d : ℕ). d % 2) (Nat.add-zero (bit_from x at k)) ∙ Nat.mod-eq_of_lt (bit-lt x at k)

module _ (p : Parameters) (R : Rules p) (i r : ℕ) (li : i < p.m) (lr : r < data_bits p i) where
  -- the blocks are 0 but for that bit
  pub bit-one : block_bit p (one_bit p i r) i r ≡ 1
  bit-one =
      sym (block-bit p R (one_bit p i r) (bit-fits p R i r li lr).bytes i r li lr)
      ∙ ap (λ (ds : List ℕ). coefficient (get_or ds i 0) r) (bit-has p R i r li lr) ∙ ap (λ (d : ℕ). coefficient d r) (single-at p i (2 ^ r) li) ∙ pow-bit r

  pub bit-none : (j k : ℕ) → j < p.m → k < data_bits p j → (j ≢ i) ⊎ (k ≢ r) → block_bit p (one_bit p i r) j k ≡ 0
  bit-none j k h l o =
      sym (block-bit p R (one_bit p i r) (bit-fits p R i r li lr).bytes j k h l)
      ∙ ap (λ (ds : List ℕ). coefficient (get_or ds j 0) k) (bit-has p R i r li lr) ∙ go (ℕ_discrete j i) o
    where
      zero_bit : get_or (single p i (2 ^ r)) j 0 ≡ 0 → coefficient (get_or (single p i (2 ^ r)) j 0) k ≡ 0
      zero_bit e = ap (λ (d : ℕ). coefficient d k) e ∙ beyond 0 0 k (pow_pos 0) zero-le

      go : Dec (j ≡ i) → (j ≢ i) ⊎ (k ≢ r) → coefficient (get_or (single p i (2 ^ r)) j 0) k ≡ 0
      go (yes e) (inl n) = absurd (n e)
      go (yes e) (inr n) = ap (λ (d : ℕ). coefficient d k) (ap (λ (a : ℕ). get_or (single p i (2 ^ r)) a 0) e ∙ single-at p i (2 ^ r) li) ∙ pow-bits r k n
      go (no n) m = zero_bit (single-else p i (2 ^ r) j h n)

  -- ---- the data bits of the page afterwards, whatever page it was
  module _ (x : List ℕ) (h : IsPage p x) (b : ℕ) where
    same_length : length x ≡ length (page_of p (one_bit p i r))
    same_length = h.exact ∙ sym (unit-page p R i r li lr).exact

    pub data-here : b ≤ 1 → coefficient_of p (altered p x i r b) i (check_bits p i + r) ≡ b
    data-here l =
        ap (λ (y : List ℕ). coefficient_of p y i (check_bits p i + r)) (altered-eq p x i r b)
        ∙ bit-made x (page_of p (one_bit p i r)) same_length (i * sub_word_bytes p) (check_bits p i + r) b l
        (written-bit p R (one_bit p i r) (bit-fits p R i r li lr) i r li lr ∙ bit-one)

    pub data-there : (j k : ℕ) → j < p.m → k < data_bits p j → (j ≢ i) ⊎ (k ≢ r)
        → coefficient_of p (altered p x i r b) j (check_bits p j + k) ≡ coefficient_of p x j (check_bits p j + k)
    data-there j k l m o =
        ap (λ (y : List ℕ). coefficient_of p y j (check_bits p j + k)) (altered-eq p x i r b)
        ∙ bit-stays x (page_of p (one_bit p i r)) same_length (j * sub_word_bytes p) (check_bits p j + k) (eqb (coefficient_of p x i (check_bits p i + r)) b)
        (written-bit p R (one_bit p i r) (bit-fits p R i r li lr) j k l m ∙ bit-none j k l m o)

  -- ---- the blocks afterwards
  module _ (a : List ℕ) (h : Fits p a) (b : ℕ) where
    same_blocks : length a ≡ length (one_bit p i r)
    same_blocks = h.exact ∙ sym (bit-fits p R i r li lr).exact

    pub set_here : b ≤ 1 → block_bit p (altered_blocks p a i r b) i r ≡ b
    set_here l =
        ap (λ (y : List ℕ). block_bit p y i r) (altered_blocks-eq p a i r b)
        ∙ bit-made a (one_bit p i r) same_blocks (block_offset p i) r b l bit-one

    pub set_there : (j k : ℕ) → j < p.m → k < data_bits p j → (j ≢ i) ⊎ (k ≢ r) → block_bit p (altered_blocks p a i r b) j k ≡ block_bit p a j k
    set_there j k l m o =
        ap (λ (y : List ℕ). block_bit p y j k) (altered_blocks-eq p a i r b)
        ∙ bit-stays a (one_bit p i r) same_blocks (block_offset p j) k (eqb (block_bit p a i r) b) (bit-none j k l m o)

    -- no other blocks that fit have these bits
    pub set-alone : b ≤ 1 → (c : List ℕ) → Fits p c → block_bit p c i r ≡ b
        → ((j k : ℕ) → j < p.m → k < data_bits p j → (j ≢ i) ⊎ (k ≢ r) → block_bit p c j k ≡ block_bit p a j k)
        → c ≡ altered_blocks p a i r b
    set-alone l c f e o =
        blocks-same p R c (altered_blocks p a i r b) f (altered-fits p R i r li lr a h b) (λ j k u m. go j k u m (ℕ_discrete j i) (ℕ_discrete k r))
      where
        other : (j k : ℕ) → j < p.m → k < data_bits p j → (j ≢ i) ⊎ (k ≢ r) → block_bit p c j k ≡ block_bit p (altered_blocks p a i r b) j k
        other j k u m n = o j k u m n ∙ sym (set_there j k u m n)

        go : (j k : ℕ) → j < p.m → k < data_bits p j → Dec (j ≡ i) → Dec (k ≡ r) → block_bit p c j k ≡ block_bit p (altered_blocks p a i r b) j k
        go j k u m (yes d) (yes g) = rw (d, g) (e ∙ sym (set_here l))
        go j k u m (no n) g = other j k u m (inl n)
        go j k u m (yes d) (no n) = other j k u m (inr n)

  -- blocks that are 0 but for that bit are these
  pub bit-alone : (c : List ℕ) → Fits p c → block_bit p c i r ≡ 1
      → ((j k : ℕ) → j < p.m → k < data_bits p j → (j ≢ i) ⊎ (k ≢ r) → block_bit p c j k ≡ 0)
      → c ≡ one_bit p i r
  bit-alone c f e o =
      blocks-same p R c (one_bit p i r) f (bit-fits p R i r li lr) (λ j k u m. go j k u m (ℕ_discrete j i) (ℕ_discrete k r))
    where
      go : (j k : ℕ) → j < p.m → k < data_bits p j → Dec (j ≡ i) → Dec (k ≡ r) → block_bit p c j k ≡ block_bit p (one_bit p i r) j k
      go j k u m (yes d) (yes g) = rw (d, g) (e ∙ sym bit-one)
      go j k u m (no n) g = o j k u m (inl n) ∙ sym (bit-none j k u m (inl n))
      go j k u m (yes d) (no n) = o j k u m (inr n) ∙ sym (bit-none j k u m (inr n))

module _ (p : Parameters) (x : List ℕ) (i r b : ℕ) where
  abbrev from-13 : ℕ
  from-13 = 13 when blank p (altered p x i r b)

  alter-chain : alter_refusal p x i r b ≡ (page_refusal p x or_else 9 when no_bit p i r b or_else from-13)
  unfolding alter_refusal
  alter-chain = refl

  pub alter-links : alter_refusal p x i r b
      ≡ (sheet_refusal p or_else 7 when not_exact (length x) (page_bytes p) or_else 8 when not (page_clear p x) or_else 9 when no_bit p i r b or_else from-13)
  alter-links =
      alter-chain ∙ ap (λ (k : ℕ). k or_else 9 when no_bit p i r b or_else from-13) (page-links p x)
      ∙ or_assoc (sheet_refusal p) (7 when not_exact (length x) (page_bytes p) or_else 8 when not (page_clear p x)) (9 when no_bit p i r b or_else from-13)
      ∙ ap (λ (k : ℕ). sheet_refusal p or_else k)
      (or_assoc (7 when not_exact (length x) (page_bytes p)) (8 when not (page_clear p x)) (9 when no_bit p i r b or_else from-13))

  pub alter-le : alter_refusal p x i r b ≤ last_refusal
  alter-le =
      rw alter-chain (or-le (page_refusal p x) (9 when no_bit p i r b or_else from-13) (page-le p x)
      (or-le (9 when no_bit p i r b) from-13 (when-le 9 (no_bit p i r b) (lit≤ tt)) (when-le 13 (blank p (altered p x i r b)) (lit≤ tt))))

  bit-good : Alterable p x i r b → T (not (no_bit p i r b))
  bit-good s = not_T (no_bit p i r b) (λ t. go (either (leb p.m i || leb (data_bits p i) r) (ltb 1 b) t))
    where
      place : T (leb p.m i) ⊎ T (leb (data_bits p i) r) → ⊥
      place (inl t) = Nat.not-suc-le-zero {n = 0} (omega (arith, leb→le p.m i t, s.block))
      place (inr t) = Nat.not-suc-le-zero {n = 0} (omega (arith, leb→le (data_bits p i) r t, s.bit))

      go : T (leb p.m i || leb (data_bits p i) r) ⊎ T (ltb 1 b) → ⊥
      go (inl t) = place (either (leb p.m i) (leb (data_bits p i) r) t)
      go (inr t) = Nat.not-suc-le-zero {n = 0} (omega (arith, ltb→lt 1 b t, s.value))

  pub bit_is : T (not (no_bit p i r b)) → (i < p.m) × (r < data_bits p i) × (b ≤ 1)
  bit_is t =
      let n = neither (leb p.m i || leb (data_bits p i) r) (ltb 1 b) t in
      let o = neither (leb p.m i) (leb (data_bits p i) r) n.0 in
      (nleb→lt p.m i o.0, nleb→lt (data_bits p i) r o.1, nltb→le 1 b n.1)

  -- 13 alone is left
  pub alter-left : Accepted p → Alterable p x i r b → alter_refusal p x i r b ≡ from-13
  alter-left A s =
      alter-links ∙ or-second (sheet_refusal p) _ A
      ∙ or-second (7 when not_exact (length x) (page_bytes p)) _ (exact_none 7 (length x) (page_bytes p) s.exact)
      ∙ or-second (8 when not (page_clear p x)) _ (off 8 (page_clear p x) s.clear)
      ∙ or-second (9 when no_bit p i r b) from-13 (off' 9 (no_bit p i r b) (bit-good s))

  -- what no refusal shows, and 13
  pub alter-none : alter_refusal p x i r b ≡ 0 → Alterable p x i r b × T (not (blank p (altered p x i r b)))
  alter-none z =
      let a = or-none (sheet_refusal p) _ (sym alter-links ∙ z) in
      let c = or-none (7 when not_exact (length x) (page_bytes p)) _ a.1 in
      let d = or-none (8 when not (page_clear p x)) _ c.1 in
      let e = or-none (9 when no_bit p i r b) from-13 d.1 in
      let n = bit_is (last 8 (no_bit p i r b) e.0) in (
        record { exact = exact-of 6 (length x) (page_bytes p) c.0; clear = unless 7 (page_clear p x) d.0; block = n.0; bit = n.1; value = n.2 },
        last 12 (blank p (altered p x i r b)) e.1,
      )

  pub alter-13 : Accepted p → alter_refusal p x i r b ≡ 13 → Alterable p x i r b × T (blank p (altered p x i r b))
  alter-13 A z =
      let a = sym (or-second (sheet_refusal p) _ A) ∙ sym alter-links ∙ z in
      let c = past 6 (not_exact (length x) (page_bytes p)) _ 13 (lit< tt) a in
      let d = past 7 (not (page_clear p x)) _ 13 (lit< tt) c.1 in
      let e = past 8 (no_bit p i r b) from-13 13 (lit< tt) d.1 in
      let n = bit_is (last 8 (no_bit p i r b) e.0) in (
        record { exact = exact-of 6 (length x) (page_bytes p) c.0; clear = unless 7 (page_clear p x) d.0; block = n.0; bit = n.1; value = n.2 },
        given 12 (blank p (altered p x i r b)) e.1,
      )
