-- Sub-word i as encoding makes it, and the page with it in its place.
--   Ready p w blocks                           accepted parameters, the degrees of their generators, blocks that fit
--   Writing p w blocks page width acc          the same, a page to write, coefficients a step, room for the sum of a rule
--   Putting p w page width                     accepted parameters and degrees, a page to write one sub-word of, coefficients a step
--   word_from p d x i                           sub-word i from its data d and the later sub-words of the page x
--   word_alone p d i                            the same where the later sub-words are 0
--   word_of p b x i                             sub-word i from its block and the later sub-words of the page x
use Rattle.std.specs.Prelude.{◌≡◌, List, ℕ, suc, ◌+◌, ◌-◌, ◌*◌, ◌/◌, ◌^◌, ◌≤◌, ◌<◌, T, length, get_or, take, drop}
use Rattle.std.proofs.Common.{sym, ap, ap₂, ◌∙◌, arith}
use Rattle.std.proofs.Math.Nat as Nat
use Rattle.std.specs.Int.Bits.{xor_shifted}
use Rattle.polynomial.specs.Digits.{digits, digits_value, value}
use Rattle.polynomial.specs.Division.{rem_lt}
use Rattle.polynomial.specs.Sums.{at_all}
use Rattle.polynomial.specs.Xor.{xor, xor_is}
use Rattle.code.specs.declared.Parameters.{Parameters}
use Rattle.code.proofs.Accepted.{accepted, lawful}
use Rattle.code.specs.Code.{carried, check_bits, checked, gen, level, remainder}
use Rattle.code.specs.Layout.{Fits, block_offset, blocks_clear, blocks_of, data_bits, data_bytes, page_bytes, words_of}
use Rattle.code.proofs.Pages.{blocks-blocks}
use Rattle.code.specs.Parameters.{Accepted, sub_word_bytes}
use Rattle.code.proofs.Placement.{sized-at}
use Rattle.code.proofs.Steps.{checked-eq}
use Rattle.layout.specs.Parts.{block_at}
use Rattle.layout.specs.Sizes.{Degrees, bits-all, check-below, level-low}
use Rattle.encode.specs.Carried.{room_bytes}
use Rattle.encode.specs.Rule.{carried-late, placed-room}

pub record Ready (p : Parameters) (w blocks : List ℕ) : Type 0 where
  pub accepts : Accepted p
  pub degrees : Degrees p w
  pub exact : length blocks ≡ data_bytes p
  pub clear : T (blocks_clear p blocks)

pub record Writing (p : Parameters) (w blocks page : List ℕ) (width : ℕ) (acc : List ℕ) : Type 0 where
  pub ready : Ready p w blocks
  pub exact : length page ≡ page_bytes p
  pub low : 1 ≤ width
  pub high : width ≤ 64
  pub room : length acc ≡ room_bytes p

pub record Putting (p : Parameters) (w page : List ℕ) (width : ℕ) : Type 0 where
  pub accepts : Accepted p
  pub degrees : Degrees p w
  pub exact : length page ≡ page_bytes p
  pub low : 1 ≤ width
  pub high : width ≤ 64

pub putting : (p : Parameters) (w blocks page : List ℕ) (width : ℕ) (acc : List ℕ) → Writing p w blocks page width acc → Putting p w page width
putting p w blocks page width acc W =
    record { accepts = W.ready.accepts; degrees = W.ready.degrees; exact = W.exact; low = W.low; high = W.high }

abbrev pub word_from : Parameters → ℕ → List ℕ → ℕ → ℕ
word_from p d page i = checked p (level p i) (d * 2 ^ check_bits p i) (carried (level p i) i (drop (suc i) (words_of p page)))

abbrev pub word_alone : Parameters → ℕ → ℕ → ℕ
word_alone p d i = checked p (level p i) (d * 2 ^ check_bits p i) 0

abbrev pub word_of : Parameters → List ℕ → List ℕ → ℕ → ℕ
word_of p blocks page i = word_from p (get_or (blocks_of p blocks) i 0) page i

-- ---- blocks
module _ (p : Parameters) (w blocks : List ℕ) (R : Ready p w blocks) (b : (i : ℕ) → get_or blocks i 0 < 2 ^ 8) where
  pub fits : Fits p blocks
  fits = record { bytes = at_all (λ d. d < 256) blocks (λ i h. b i); exact = R.exact; clear = R.clear }

  pub block-lt : (i : ℕ) → i < p.m → get_or (blocks_of p blocks) i 0 < 2 ^ data_bits p i
  block-lt i h =
      let ds = blocks-blocks p (accepted p R.accepts) blocks fits in
      rw (Nat.zero-add i) at (sized-at p 0 (blocks_of p blocks) ds.fits i (omega (arith, ds.many)))

-- block i, as the program takes it
pub block-part : (p : Parameters) (blocks : List ℕ) (i at size : ℕ) → i < p.m → at ≡ block_offset p i → size ≡ (data_bits p i + 7) / 8
    → value 8 (take (at + size - at) (drop at blocks)) ≡ get_or (blocks_of p blocks) i 0
block-part p blocks i at size h e f =
    let s : at + size - at ≡ size = omega arith in
    ap (λ (k : ℕ). value 8 (take k (drop at blocks))) s ∙ ap₂ (λ (k o : ℕ). value 8 (take k (drop o blocks))) f e
    ∙ sym (block_at p blocks i h)

-- from v on nothing is carried
pub late-word : (p : Parameters) (blocks page : List ℕ) (i d : ℕ) → p.v ≤ i → d ≡ get_or (blocks_of p blocks) i 0
    → word_alone p d i ≡ word_of p blocks page i
late-word p blocks page i d h e =
    ap₂ (λ (x f : ℕ). checked p (level p i) (x * 2 ^ check_bits p i) f) e (sym (carried-late p i (drop (suc i) (words_of p page)) h))

-- ---- data above, check bits below
module _ (p : Parameters) (A : Accepted p) (i : ℕ) where
  pub check-lt : (f : ℕ) → remainder p (level p i) f < 2 ^ check_bits p i
  check-lt f = rem_lt (gen p (level p i)) (check_bits p i) ((lawful p (accepted p A)).degrees (level p i) (level-low p i)) f

  sum-checked : (d f : ℕ)
      → d * 2 ^ check_bits p i + remainder p (level p i) (xor (d * 2 ^ check_bits p i) f) ≡ checked p (level p i) (d * 2 ^ check_bits p i) f
  sum-checked d f =
      let r = remainder p (level p i) (xor (d * 2 ^ check_bits p i) f) in
      sym (checked-eq p (level p i) (d * 2 ^ check_bits p i) f ∙ sym (xor_is (d * 2 ^ check_bits p i) r)
      ∙ xor_shifted d (check_bits p i) r (check-lt (xor (d * 2 ^ check_bits p i) f)))

  -- the part that came back, from the numbers of its making: the data d, what is carried f, the rule's sum z, its remainder r
  pub word_made : (y : List ℕ) (d f z r a bits k : ℕ) → ((j : ℕ) → get_or y j 0 < 2 ^ 8) → length y ≡ k → k ≡ sub_word_bytes p
      → bits ≡ check_bits p i → a ≡ level p i → z ≡ xor (d * 2 ^ check_bits p i) f → r ≡ remainder p a z → value 8 y ≡ d * 2 ^ bits + r
      → y ≡ digits 8 (sub_word_bytes p) (checked p (level p i) (d * 2 ^ check_bits p i) f)
  word_made y d f z r a bits k b l e g h u v q =
      let m : r ≡ remainder p (level p i) (xor (d * 2 ^ check_bits p i) f) = v ∙ ap₂ (remainder p) h u in
      sym (digits_value 8 y (at_all (λ x. x < 2 ^ 8) y (λ j c. b j))) ∙ ap₂ (digits 8) (l ∙ e)
      (q ∙ ap₂ (λ (j x : ℕ). d * 2 ^ j + x) g m ∙ sum-checked d f)

  -- what the program asks of the numbers before it puts them
  pub check-fits : (r a bits f : ℕ) → r ≡ remainder p a f → a ≡ level p i → bits ≡ check_bits p i → r < 2 ^ bits
  check-fits r a bits f e g h = rw (e, g, h) (check-lt f)

  pub check-room : (bits l : ℕ) → bits ≡ check_bits p i → l ≡ sub_word_bytes p → bits ≤ 8 * l
  check-room bits l e h = omega (arith, check-below p A i, bits-all p A)

  pub data-fits : (s bits l : ℕ) → s < 2 ^ data_bits p i → bits ≡ check_bits p i → l ≡ sub_word_bytes p → s * 2 ^ bits < 2 ^ (8 * l)
  data-fits s bits l h e g = rw (e, g) (placed-room p A s i (sub_word_bytes p) h (Nat.le_refl (sub_word_bytes p)))
