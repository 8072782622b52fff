-- A page encoded from the last sub-word down.
--   Encoded p blocks i x                       sub-words i to m - 1 of x are those of the page of the blocks
--   Span p t least most                        t is the table of the level of sub-words least to most - 1
--   Going p blocks least most i x acc          a run from sub-word most down to least, at i, with room acc to work in
use Rattle.std.specs.Prelude.{◌≡◌, refl, ◌⊎◌, List, [], ◌∷◌, ℕ, zero, suc, ◌+◌, ◌-◌, ◌*◌, ◌^◌, ◌≤◌, ◌<◌, length, get_or, take, drop}
use Rattle.std.proofs.Common.{sym, ap, ap₂, ◌∙◌, inl, inr, zero-le, suc-le-suc, arith, pow_mono}
use Rattle.std.proofs.Math.Nat as Nat
use Rattle.polynomial.specs.Digits.{digits, length_digits, value, value-digits}
use Rattle.polynomial.specs.Sums.{all-at}
use Rattle.code.specs.declared.Parameters.{Parameters}
use Rattle.code.specs.Accepted.{Rules}
use Rattle.code.proofs.Accepted.{accepted}
use Rattle.code.specs.Code.{carried, check_bits, checked, encode, encode_from, level}
use Rattle.code.specs.Layout.{Fits, blocks_of, page_bytes, page_of, words_of}
use Rattle.code.specs.Pages.{IsWords}
use Rattle.code.proofs.Pages.{blocks-blocks, encode-words, page_of-eq, whole, words-many}
use Rattle.code.specs.Parameters.{Accepted, stored, sub_word_bytes}
use Rattle.code.proofs.Placement.{encode-at, word_at}
use Rattle.layout.specs.Parts.{page-parts, word_room}
use Rattle.layout.specs.Replaced.{replaced, replaced-after, replaced-length, replaced-part}
use Rattle.encode.specs.Carried.{room_bytes}
use Rattle.layout.specs.Written.{written}
use Rattle.encode.specs.Encoding.{word_of}
use Rattle.encode.specs.Loaded.{Loaded}

pub record Encoded (p : Parameters) (blocks : List ℕ) (i : ℕ) (x : List ℕ) : Type 0 where
  pub exact : length x ≡ page_bytes p
  pub each : (j : ℕ) → i ≤ j → j < p.m
      → take (sub_word_bytes p) (drop (j * sub_word_bytes p) x) ≡ digits 8 (sub_word_bytes p) (get_or (encode p (blocks_of p blocks)) j 0)

-- lists of one length that agree from place k on
drop-same : (k : ℕ) (xs ys : List ℕ) → length xs ≡ length ys → ((j : ℕ) → k ≤ j → j < length xs → get_or xs j 0 ≡ get_or ys j 0)
    → drop k xs ≡ drop k ys
drop-same zero [] [] e h = refl
drop-same zero [] (y ∷ ys) e h = absurd (Nat.suc-ne-zero (length ys) (sym e))
drop-same zero (x ∷ xs) [] e h = absurd (Nat.suc-ne-zero (length xs) e)
drop-same zero (x ∷ xs) (y ∷ ys) e h =
    ap₂ ◌∷◌ (h 0 zero-le (suc-le-suc zero-le)) (drop-same zero xs ys (Nat.suc_inj e) (λ j l m. h (suc j) zero-le (suc-le-suc m)))
drop-same (suc k) [] [] e h = refl
drop-same (suc k) [] (y ∷ ys) e h = absurd (Nat.suc-ne-zero (length ys) (sym e))
drop-same (suc k) (x ∷ xs) [] e h = absurd (Nat.suc-ne-zero (length xs) e)
drop-same (suc k) (x ∷ xs) (y ∷ ys) e h = drop-same k xs ys (Nat.suc_inj e) (λ j l m. h (suc j) (suc-le-suc l) (suc-le-suc m))

encode-eq : (p : Parameters) (ds : List ℕ) → encode p ds ≡ encode_from p 0 ds
unfolding encode
encode-eq p ds = refl

pub encoded-start : (p : Parameters) (blocks x : List ℕ) → length x ≡ page_bytes p → Encoded p blocks p.m x
encoded-start p blocks x e = record { exact = e; each = λ j h l. absurd (Nat.lt_irrefl j (Nat.lt_of_lt_of_le l h)) }

module _ (p : Parameters) (A : Accepted p) (blocks : List ℕ) (F : Fits p blocks) where
  R : Rules p
  R = accepted p A

  abbrev cs : List ℕ
  cs = encode p (blocks_of p blocks)

  words : IsWords p cs
  words = encode-words p R (blocks_of p blocks) (blocks-blocks p R blocks F)

  word_small : (j : ℕ) → j < p.m → get_or cs j 0 < 2 ^ (8 * sub_word_bytes p)
  word_small j h =
      Nat.lt_of_lt_of_le (all-at (λ c. c < 2 ^ stored p) cs words.below j (omega (arith, words.many)))
      (pow_mono (whole (stored p)))

  -- the later sub-words, as numbers
  later : (x : List ℕ) (i : ℕ) → Encoded p blocks i x → drop i (words_of p x) ≡ drop i cs
  later x i e =
      drop-same i (words_of p x) cs (words-many p x ∙ sym words.many)
      (λ j h m. let b : j < p.m = omega (arith, words-many p x) in
      word_at p x j b ∙ ap (value 8) (e.each j h b) ∙ value-digits 8 (sub_word_bytes p) (get_or cs j 0) (word_small j b))

  word-is : (x : List ℕ) (i : ℕ) → i < p.m → Encoded p blocks (suc i) x → word_of p blocks x i ≡ get_or cs i 0
  word-is x i h e =
      let d = get_or (blocks_of p blocks) i 0 in
      let f : ℕ → List ℕ → ℕ = λ k l. checked p (level p k) (d * 2 ^ check_bits p k) (carried (level p k) k l) in
      let g = encode-eq p (blocks_of p blocks) in
      ap (f i) (later x (suc i) e)
      ∙ sym (ap (λ (l : List ℕ). get_or l i 0) g ∙ encode-at p 0 i (blocks_of p blocks) (rw (blocks-blocks p R blocks F).many h)
      ∙ ap (λ (l : List ℕ). f (0 + i) (drop (suc i) l)) (sym g) ∙ ap (λ (k : ℕ). f k (drop (suc i) cs)) (Nat.zero-add i))

  pub encoded-next : (x : List ℕ) (i : ℕ) → i < p.m → Encoded p blocks (suc i) x → Encoded p blocks i (written p x i (word_of p blocks x i))
  encoded-next x i h e =
      record {
        exact = replaced-length x (i * k) y room ∙ e.exact;
        each = λ j l m. go j m (Nat.eq-or-lt_of_le l);
      }
    where
      k : ℕ
      k = sub_word_bytes p

      y : List ℕ
      y = digits 8 k (word_of p blocks x i)

      size : length y ≡ k
      size = length_digits 8 k (word_of p blocks x i)

      room : i * k + length y ≤ length x
      room = rw (size, e.exact) (word_room p i h)

      go : (j : ℕ) → j < p.m → (i ≡ j) ⊎ (i < j) → take k (drop (j * k) (replaced x (i * k) y)) ≡ digits 8 k (get_or cs j 0)
      go j m (inl f) =
          rw (← f) (ap (λ (n : ℕ). take n (drop (i * k) (replaced x (i * k) y))) (sym size) ∙ replaced-part x (i * k) y room
          ∙ ap (digits 8 k) (word-is x i h e))
      go j m (inr l) =
          ap (take k) (replaced-after x (i * k) y room (j * k) (rw (size, ← Nat.suc-mul i k) (Nat.mul-le-mul_right k l))) ∙ e.each j l m

  pub encoded-all : (x : List ℕ) (i : ℕ) → i ≡ 0 → Encoded p blocks i x → x ≡ page_of p blocks
  encoded-all x i z e = page-parts p x cs e.exact words.many (λ j h. e.each j (rw z zero-le) h) ∙ sym (page_of-eq p blocks)

-- ---- a run of sub-words from `most` - 1 down to `least`, all of the level whose table is t
pub record Span (p : Parameters) (t : List ℕ) (least most : ℕ) : Type 0 where
  pub rising : least ≤ most
  pub inside : most ≤ p.m
  pub loaded : (i : ℕ) → least ≤ i → i < most → Loaded p (level p i) t

pub record Going (p : Parameters) (blocks : List ℕ) (least most i : ℕ) (x acc : List ℕ) : Type 0 where
  pub page : Encoded p blocks i x
  pub low : least ≤ i
  pub high : i ≤ most
  pub room : length acc ≡ room_bytes p

pub going_done : (p : Parameters) (blocks : List ℕ) (least most i : ℕ) (x acc : List ℕ) → Going p blocks least most i x acc → i ≤ least
    → Encoded p blocks least x
going_done p blocks least most i x acc g h = rw (Nat.le_antisymm h g.low) at g.page

pub going_next : (p : Parameters) (A : Accepted p) (blocks : List ℕ) (F : Fits p blocks) (least most i : ℕ) (x y acc acc' : List ℕ)
    → Going p blocks least most i x acc → least < i → most ≤ p.m → y ≡ written p x (i - 1) (word_of p blocks x (i - 1))
    → length acc' ≡ length acc → Going p blocks least most (i - 1) y acc'
going_next p A blocks F least most i x y acc acc' g h m e l =
    let s : suc (i - 1) ≡ i = omega arith in
    let b : i - 1 < p.m = omega (arith, g.high) in
    record {
      page = rw e (encoded-next p A blocks F x (i - 1) b (rw s g.page));
      low = omega arith;
      high = omega (arith, g.high);
      room = l ∙ g.room;
    }
