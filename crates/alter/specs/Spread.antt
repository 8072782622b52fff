-- The words of another page added to those of a page, one after another, and what becomes of it with x^e and y in sub-word i before.
--   Spread p x cs k y      y is the page x with the first k words of cs added
--   Adding p i r e page y q short    a page to which that of bit r of block i is to be added, and what it takes: the bit's place e, the
--                          remainder y of x^e by g_v, and the page of y's data in block i, of the shortest sheet q
use Rattle.std.specs.Prelude.{◌≡◌, refl, ◌≢◌, ◌⊎◌, List, ℕ, ◌+◌, ◌*◌, ◌/◌, ◌^◌, ◌≤◌, ◌<◌, T, length, get_or}
use Rattle.std.proofs.Common.{sym, ap, ap₂, ◌∙◌, inl, inr, arith, pow_mono}
use Rattle.std.proofs.Math.Nat as Nat
use Rattle.std.proofs.Math.Decide.{ℕ_discrete}
use Rattle.std.proofs.Math.Pow.{pow-lt}
use Rattle.polynomial.specs.Digits.{digits, value, value-digits}
use Rattle.polynomial.specs.Division.{xor_lt}
use Rattle.polynomial.specs.Sums.{add, add_at}
use Rattle.polynomial.specs.Xor.{xor, xor_zero_l, xors}
use Rattle.code.specs.declared.Parameters.{Parameters}
use Rattle.code.proofs.Accepted.{accepted, stored-room}
use Rattle.code.specs.Alter.{alone, units}
use Rattle.code.proofs.Alter.{alone-words, unit-page, unit-words, units-are}
use Rattle.code.specs.Layout.{IsPage, data_bits, one_bit, one_block, page_bytes, page_clear, page_of, single, words_of}
use Rattle.code.proofs.Pages.{join-words, page-length, sum-is-page, sum-words, whole, word_lt, words-many}
use Rattle.code.specs.Lists.{part}
use Rattle.code.specs.Parameters.{Accepted, stored, sub_word_bytes}
use Rattle.code.proofs.Placement.{data-room, single-at, single-else, word_at}
use Rattle.layout.specs.Parts.{page-parts}
use Rattle.layout.specs.SubWords as S
use Rattle.layout.specs.Written.{written, written-here, written-length, written-there}
use Rattle.unit.specs.Short.{below, below-lt, data-below, data_below, place, shortest, shortest-accepted, shortest-stored, shortest-words, unit-split}

-- a word of a sheet with shorter sub-words has its place
pub word_fits : (p q : Parameters) → Accepted q → (x : List ℕ) (k n : ℕ) → ((j : ℕ) → get_or x j 0 < 2 ^ 8) → length x ≡ page_bytes q → k < q.m
    → sub_word_bytes q ≤ n → get_or (words_of q x) k 0 < 2 ^ (8 * n)
word_fits p q A x k n b e h l = Nat.lt_of_lt_of_le (S.word_lt q A x b e k h) (pow_mono (Nat.mul-le-mul_left 8 l))

-- ---- word by word
pub record Spread (p : Parameters) (x cs : List ℕ) (k : ℕ) (y : List ℕ) : Type 0 where
  pub exact : length y ≡ page_bytes p
  pub made : (j : ℕ) → j < k → j < p.m → part (sub_word_bytes p) j y ≡ digits 8 (sub_word_bytes p) (xor (get_or (words_of p x) j 0) (get_or cs j 0))
  pub left : (j : ℕ) → k ≤ j → j < p.m → part (sub_word_bytes p) j y ≡ part (sub_word_bytes p) j x

pub spread-start : (p : Parameters) (x cs : List ℕ) → length x ≡ page_bytes p → Spread p x cs 0 x
spread-start p x cs e = record { exact = e; made = λ j h l. absurd (Nat.not-suc-le-zero h); left = λ j h l. refl }

pub spread-next : (p : Parameters) (x cs y z : List ℕ) (k : ℕ) → Spread p x cs k y → k < p.m
    → z ≡ written p y k (xor (get_or (words_of p y) k 0) (get_or cs k 0)) → Spread p x cs (k + 1) z
spread-next p x cs y z k S h e = rw e (record {
  exact = written-length p y k c S.exact h;
  made = λ j l m. made j l m (ℕ_discrete j k);
  left = λ j l m. written-there p y k c S.exact h j (λ d. Nat.lt_irrefl k (omega arith)) ∙ S.left j (omega arith) m;
})
  where
    c : ℕ
    c = xor (get_or (words_of p y) k 0) (get_or cs k 0)

    same_word : get_or (words_of p y) k 0 ≡ get_or (words_of p x) k 0
    same_word = word_at p y k h ∙ ap (value 8) (S.left k (Nat.le_refl k) h) ∙ sym (word_at p x k h)

    made : (j : ℕ) → j < k + 1 → j < p.m → Dec (j ≡ k)
        → part (sub_word_bytes p) j (written p y k c) ≡ digits 8 (sub_word_bytes p) (xor (get_or (words_of p x) j 0) (get_or cs j 0))
    made j l m (yes d) =
        rw d (written-here p y k c S.exact h ∙ ap (λ (f : ℕ). digits 8 (sub_word_bytes p) (xor f (get_or cs k 0))) same_word)
    made j l m (no n) = written-there p y k c S.exact h j n ∙ S.made j (less (Nat.eq-or-lt_of_le (Nat.le_of_suc-le-suc (omega arith)))) m
      where
        less : (j ≡ k) ⊎ (j < k) → j < k
        less (inl d) = absurd (n d)
        less (inr u) = u

-- ---- the sum
pub record Adding (p : Parameters) (i r e : ℕ) (page y : List ℕ) (q : Parameters) (short : List ℕ) : Type 0 where
  pub accepts : Accepted p
  pub page-exact : length page ≡ page_bytes p
  pub clear : T (page_clear p page)
  pub block : i < p.m
  pub bit : r < data_bits p i
  pub placed : e ≡ place p i r
  pub remains : value 8 y ≡ below p i r
  pub sheet : q ≡ shortest p
  pub shorted : short ≡ page_of q (one_block q i (data_below p i r))

-- the shortest sheet beside the lent one
pub shortest-beside : (p q : Parameters) (i d : ℕ) (s : List ℕ) → Accepted p → q ≡ shortest p → s ≡ page_of q (one_block q i d)
    → Accepted q × (length s ≡ page_bytes q) × (q.m ≡ p.m) × (sub_word_bytes q ≤ sub_word_bytes p)
shortest-beside p q i d s A e f = (
  rw e (shortest-accepted p A),
  ap length f ∙ page-length q (one_block q i d),
  ap (λ (z : Parameters). z.m) e,
  rw e (let t = shortest-stored p A in let u = stored-room p (accepted p A) p.v (Nat.le_refl p.v) in
      let v : stored (shortest p) ≤ stored p = omega (arith, t, u) in bytes_le (stored (shortest p)) (stored p) v),
)
  where
    bytes_le : (a b : ℕ) → a ≤ b → (a + 7) / 8 ≤ (b + 7) / 8
    bytes_le a b h = omega arith

module _ (p : Parameters) (A : Accepted p) (i r : ℕ) (li : i < p.m) (lr : r < data_bits p i) (x : List ℕ) (h : IsPage p x) where
  abbrev u : List ℕ
  u = page_of p (one_bit p i r)

  pub bit_high : place p i r < stored p
  bit_high = data-room p (accepted p A) i r lr

  pub below-stored : below p i r < 2 ^ stored p
  below-stored = Nat.lt_of_lt_of_le (below-lt p A i r li) (pow_mono (omega (arith, stored-room p (accepted p A) p.v (Nat.le_refl p.v))))

  -- the words of the short page
  short-are : (q : Parameters) (s : List ℕ) → q ≡ shortest p → s ≡ page_of q (one_block q i (data_below p i r)) → words_of q s ≡ alone p i (data_below p i r)
  short-are q s e f =
      rw (f, e) (alone-words (shortest p) (accepted (shortest p) (shortest-accepted p A)) i (data_below p i r) li (data-below p A i r li)
      ∙ shortest-words p (single p i (data_below p i r)))

  -- x^e and y in sub-word i, then the short words: the page of the bit is added
  pub spread-sum : (q : Parameters) (s x' z : List ℕ) (e y : ℕ) → q ≡ shortest p → s ≡ page_of q (one_block q i (data_below p i r))
      → e ≡ place p i r → y ≡ below p i r → x' ≡ written p x i (xor (xor (get_or (words_of p x) i 0) y) (2 ^ e))
      → Spread p x' (words_of q s) p.m z → z ≡ add x u
  spread-sum q s x' z e y eq es ee ey ex S =
      page-parts p z (words_of p (add x u)) S.exact (words-many p (add x u)) (λ j l. S.made j l l ∙ ap (digits 8 (sub_word_bytes p)) (word j l))
      ∙ join-words p (accepted p A) (add x u) (sum-is-page p (accepted p A) x u h (unit-page p (accepted p A) i r li lr))
    where
      d : ℕ
      d = data_below p i r

      both : ℕ
      both = xor (2 ^ place p i r) (below p i r)

      c : ℕ
      c = xor (xor (get_or (words_of p x) i 0) (below p i r)) (2 ^ place p i r)

      x-is : x' ≡ written p x i c
      x-is = ex ∙ ap₂ (λ (f g : ℕ). written p x i (xor (xor (get_or (words_of p x) i 0) f) (2 ^ g))) ey ee

      c_lt : c < 2 ^ (8 * sub_word_bytes p)
      c_lt =
          Nat.lt_of_lt_of_le (xor_lt (stored p) (xor (get_or (words_of p x) i 0) (below p i r)) (2 ^ place p i r)
          (xor_lt (stored p) (get_or (words_of p x) i 0) (below p i r) (word_lt p (accepted p A) x h i li) below-stored) (pow-lt bit_high))
          (pow_mono (whole (stored p)))

      here : get_or (words_of p x') i 0 ≡ c
      here =
          ap (λ (l : List ℕ). get_or (words_of p l) i 0) x-is ∙ word_at p (written p x i c) i li
          ∙ ap (value 8) (written-here p x i c h.exact li) ∙ value-digits 8 (sub_word_bytes p) c c_lt

      there : (j : ℕ) → j < p.m → j ≢ i → get_or (words_of p x') j 0 ≡ get_or (words_of p x) j 0
      there j l n =
          ap (λ (t : List ℕ). get_or (words_of p t) j 0) x-is ∙ word_at p (written p x i c) j l
          ∙ ap (value 8) (written-there p x i c h.exact li j n) ∙ sym (word_at p x j l)

      wanted : (j : ℕ) → get_or (words_of p (add x u)) j 0 ≡ xor (get_or (words_of p x) j 0) (xor (get_or (single p i both) j 0) (get_or (alone p i d) j 0))
      wanted j =
          ap (λ (cs : List ℕ). get_or cs j 0) (sum-words p (accepted p A) x u h (unit-page p (accepted p A) i r li lr)
          ∙ ap (add (words_of p x)) (unit-words p (accepted p A) i r li lr))
          ∙ add_at (words_of p x) (units p i r) j (words-many p x ∙ sym (units-are p (accepted p A) i r li lr).many)
          ∙ ap (xor (get_or (words_of p x) j 0)) (unit-split p A i r li j)

      turn : (a y f s : ℕ) → xor (xor (xor a y) f) s ≡ xor a (xor (xor f y) s)
      turn a y f s = simp xors

      word : (j : ℕ) → j < p.m → xor (get_or (words_of p x') j 0) (get_or (words_of q s) j 0) ≡ get_or (words_of p (add x u)) j 0
      word j l = ap (λ (cs : List ℕ). xor (get_or (words_of p x') j 0) (get_or cs j 0)) (short-are q s eq es) ∙ go (ℕ_discrete j i) ∙ sym (wanted j)
        where
          go : Dec (j ≡ i) → xor (get_or (words_of p x') j 0) (get_or (alone p i d) j 0)
              ≡ xor (get_or (words_of p x) j 0) (xor (get_or (single p i both) j 0) (get_or (alone p i d) j 0))
          go (yes g) =
              rw g (ap (λ (f : ℕ). xor f (get_or (alone p i d) i 0)) here
              ∙ turn (get_or (words_of p x) i 0) (below p i r) (2 ^ place p i r) (get_or (alone p i d) i 0)
              ∙ ap (λ (f : ℕ). xor (get_or (words_of p x) i 0) (xor f (get_or (alone p i d) i 0))) (sym (single-at p i both li)))
          go (no n) =
              ap₂ xor (there j l n)
              (sym (ap (λ (f : ℕ). xor f (get_or (alone p i d) j 0)) (single-else p i both j l n) ∙ xor_zero_l (get_or (alone p i d) j 0)))
