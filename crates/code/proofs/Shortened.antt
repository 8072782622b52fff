-- Shortened sheets beside the full one, which has s = 0.
--   full_refusal p      the refusal of the parameters by the rules but for s
--   full_sizes p        at s = 0: the bytes of each sub-word
--   full_bits p         at s = 0: the data bits of each block; full_blocks p its bytes
--   lengthened p b     blocks of the full sheet: those of b, with s zeros above each
use Rattle.std.specs.Prelude.{◌≡◌, refl, ◌↔◌, Bool, true, not, ◌||◌, ℕ, suc, ◌+◌, ◌-◌, ◌/◌, ◌%◌, ◌^◌, ◌≤◌, ◌<◌, T, get_or, replicate}
use Rattle.std.proofs.Common.{sym, ◌∙◌, arith, le→leb, pow_mono}
use Rattle.std.proofs.Math.Path.{ap, ap₂}
use Rattle.std.proofs.Math.Bool.{cond}
use mathlib.Core.List.{List, [], ◌∷◌, map}
use Rattle.std.proofs.Math.Nat as Nat
use Rattle.std.proofs.Math.Dec.{eqb, leb, not_T}
use Rattle.polynomial.specs.Bits.{coefficient}
use Rattle.polynomial.specs.Coefficients.{beyond, low-only}
use Rattle.field.specs.Fields.{Known, by-known}
use Rattle.code.specs.declared.Parameters.{Parameters}
use Rattle.code.specs.declared.Verdict.{Verdict}
use Rattle.code.specs.Accepted.{Rules}
use Rattle.code.proofs.Accepted.{accepted, s-fits, stored-whole}
use Rattle.code.specs.Calls.{page_verdict}
use Rattle.code.proofs.Chains.{off, on, or_assoc, or-last, or-none, or-second, right, unless}
use Rattle.code.specs.Code.{IsMember, data_words, degree, encode, gen, nested, verdict}
use Rattle.code.proofs.Encode.{Sized, unshortened-words}
use Rattle.code.specs.Layout.{Fits, blank, block_bit, block_bits, block_sizes, blocks_clear, blocks_of, data_bits, page_clear-eq}
use Rattle.code.specs.Layout.{data_of, page_clear, page_of, word_sizes, words_of}
use Rattle.code.specs.Lists.{◌or_else◌, ◌when◌, each, fits_in, join, ones_in, range, split}
use Rattle.code.proofs.Pages.{IsBlocks, block_bits-eq, block_sizes-eq, blocks-blocks, blocks-fit, blocks-join, blocks_clear-eq, join-blocks}
use Rattle.code.proofs.Pages.{blocks_of-eq, data_of-eq, page-has, page_of-eq, stored_of-eq, words_of-eq}
use Rattle.code.specs.Parameters.{Accepted, clashes, field_known, len, shape_fits, sheet_refusal, short_fits, strengths_fit}
use Rattle.code.specs.Parameters.{sub_word_bytes, unshortened}
use Rattle.code.proofs.Placement.{at-sized, block-bit, sized-at}
use Rattle.code.specs.Shortened.{full_bits, full_blocks, full_refusal, full_sizes, lengthened}

pub refusal-links : (p : Parameters) → sheet_refusal p ≡ (full_refusal p or_else 14 when not (short_fits p))
unfolding sheet_refusal
refusal-links p =
    sym (or_assoc c1 (c2 or_else c3 or_else c4) c14
    ∙ ap (λ (r : ℕ). c1 or_else r) (or_assoc c2 (c3 or_else c4) c14 ∙ ap (λ (r : ℕ). c2 or_else r) (or_assoc c3 c4 c14)))
  where
    c1 : ℕ
    c1 = 1 when not (field_known p)

    c2 : ℕ
    c2 = 2 when not (shape_fits p)

    c3 : ℕ
    c3 = 3 when not (strengths_fit p)

    c4 : ℕ
    c4 = 4 when clashes p

    c14 : ℕ
    c14 = 14 when not (short_fits p)

-- ---- 14
module _ (p : Parameters) (z : full_refusal p ≡ 0) where
  abbrev most : ℕ
  most = len p - degree p p.v - 1

  short-link : sheet_refusal p ≡ (14 when not (short_fits p))
  short-link = refusal-links p ∙ or-second (full_refusal p) (14 when not (short_fits p)) z

  fits-from : p.s ≤ most → T (short_fits p)
  unfolding short_fits
  fits-from h = right (eqb p.s 0) (leb p.s most) (le→leb p.s most h)

  pub short-accepted : Accepted p ↔ (p.s ≤ most)
  short-accepted = (
    (λ A. s-fits p (unless 13 (short_fits p) (sym short-link ∙ A))),
    (λ h. short-link ∙ off 14 (short_fits p) (fits-from h)),
  )

  pub short-refused : (sheet_refusal p ≡ 14) ↔ (most < p.s)
  short-refused = (
    (λ e. Nat.lt_of_not-le (λ h. Nat.suc-ne-zero 13 (sym e ∙ short-accepted.1 h))),
    (λ l. short-link ∙ on 14 (not (short_fits p)) (not_T (short_fits p) (λ t. Nat.lt_irrefl most (Nat.lt_of_lt_of_le l (s-fits p t))))),
  )

eighths : (q : ℕ) → Known q → (2 ^ q - 1 + 7) / 8 ≡ 2 ^ q / 8
eighths = by-known (λ q. (2 ^ q - 1 + 7) / 8 ≡ 2 ^ q / 8) refl refl refl

module _ (p : Parameters) (e : p.s ≡ 0) where
  passes : short_fits p ≡ true
  unfolding short_fits
  passes = ap (λ (s : ℕ). eqb s 0 || leb s (len p - degree p p.v - 1)) e

  pub whole-refusal : sheet_refusal p ≡ full_refusal p
  whole-refusal = refusal-links p ∙ ap (λ (b : Bool). full_refusal p or_else 14 when not b) passes ∙ or-last (full_refusal p)

  pub whole-bits : block_bits p ≡ full_bits p
  whole-bits = block_bits-eq p ∙ ap (λ (z : ℕ). map (λ i. z - degree p (p.v - i)) (range 0 p.m)) (stored-whole p e)

  pub whole-blocks : block_sizes p ≡ full_blocks p
  whole-blocks = block_sizes-eq p ∙ ap (map (λ b. (b + 7) / 8)) whole-bits

  pub whole-unused : (b : List ℕ) → blocks_clear p b ≡ each fits_in (full_bits p) (split (full_blocks p) b)
  whole-unused b = blocks_clear-eq p b ∙ ap₂ (each fits_in) whole-bits (blocks_of-eq p b ∙ ap (λ (l : List ℕ). split l b) whole-blocks)

  module _ (k : Known p.q) where
    pub whole-bytes : sub_word_bytes p ≡ 2 ^ p.q / 8
    whole-bytes = ap (λ (z : ℕ). (z + 7) / 8) (stored-whole p e) ∙ eighths p.q k

    sizes : word_sizes p ≡ full_sizes p
    sizes = ap (replicate p.m) whole-bytes

    whole_words : (x : List ℕ) → words_of p x ≡ split (full_sizes p) x
    whole_words x = words_of-eq p x ∙ ap (λ (l : List ℕ). split l x) sizes

    pub whole-clear : (x : List ℕ) → page_clear p x ≡ each fits_in (replicate p.m (len p)) (split (full_sizes p) x)
    whole-clear x = page_clear-eq p x ∙ ap₂ (each fits_in) (ap (replicate p.m) (stored-whole p e)) (whole_words x)

    whole-blank : (x : List ℕ) → blank p x ≡ each ones_in (replicate p.m (len p)) (split (full_sizes p) x)
    unfolding blank
    whole-blank x = ap₂ (each ones_in) (ap (replicate p.m) (stored-whole p e)) (whole_words x)

    pub whole-verdict : (x : List ℕ)
        → page_verdict p x
        ≡ cond (each ones_in (replicate p.m (len p)) (split (full_sizes p) x)) Verdict.Blank (verdict p (split (full_sizes p) x))
    unfolding page_verdict
    whole-verdict x = ap₂ (λ (b : Bool) (cs : List ℕ). cond b Verdict.Blank (verdict p cs)) (whole-blank x) (whole_words x)

    pub whole-page : (b : List ℕ) → page_of p b ≡ join (full_sizes p) (encode p (split (full_blocks p) b))
    whole-page b = page_of-eq p b ∙ ap₂ join sizes (ap (encode p) (blocks_of-eq p b ∙ ap (λ (l : List ℕ). split l b) whole-blocks))

    pub whole-data : (x : List ℕ) → data_of p x ≡ join (full_blocks p) (data_words p (map (λ c. c % 2 ^ len p) (split (full_sizes p) x)))
    whole-data x =
        data_of-eq p x
        ∙ ap₂ join whole-blocks
        (ap (data_words p) (stored_of-eq p x ∙ ap₂ (λ (z : ℕ) (l : List ℕ). map (λ c. c % 2 ^ z) l) (stored-whole p e) (whole_words x)))

-- ---- at any s
pub unshortened-refusal : (p : Parameters) → sheet_refusal (unshortened p) ≡ full_refusal p
unfolding field_known shape_fits strengths_fit clashes
unshortened-refusal p = whole-refusal (unshortened p) refl

pub unshortened-accepted : (p : Parameters) → Accepted p → Accepted (unshortened p)
unshortened-accepted p A = unshortened-refusal p ∙ (or-none (full_refusal p) (14 when not (short_fits p)) (sym (refusal-links p) ∙ A)).0

-- membership does not read s
pub same-members : (p : Parameters) (cs : List ℕ) → IsMember p cs ↔ IsMember (unshortened p) cs
unfolding gen nested
same-members p cs = (
  (λ M. record { sub_words = M.sub_words; nested-words = M.nested-words }),
  (λ M. record { sub_words = M.sub_words; nested-words = M.nested-words }),
)

pub same-degree : (p : Parameters) (a : ℕ) → degree (unshortened p) a ≡ degree p a
unfolding degree
same-degree p a = refl

fewer : (p : Parameters) (i : ℕ) → data_bits p i ≤ data_bits (unshortened p) i
fewer p i = omega (arith, same-degree p (p.v - i))

sized-up : (p : Parameters) (i : ℕ) (ds : List ℕ) → Sized p i ds → Sized (unshortened p) i ds
sized-up p i [] h = tt
sized-up p i (d ∷ ds) h = (Nat.lt_of_lt_of_le h.0 (pow_mono (fewer p i)), sized-up p (suc i) ds h.1)

full-rules : (p : Parameters) → Accepted p → Rules (unshortened p)
full-rules p A = accepted (unshortened p) (unshortened-accepted p A)

module _ (p : Parameters) (A : Accepted p) (b : List ℕ) (h : Fits p b) where
  R : Rules p
  R = accepted p A

  F : Rules (unshortened p)
  F = full-rules p A

  blocks : IsBlocks p (blocks_of p b)
  blocks = blocks-blocks p R b h

  longer : IsBlocks (unshortened p) (blocks_of p b)
  longer = record { many = blocks.many; fits = sized-up p 0 (blocks_of p b) blocks.fits }

  pub lengthened-fits : Fits (unshortened p) (lengthened p b)
  lengthened-fits = blocks-fit (unshortened p) F (blocks_of p b) longer

  same_blocks : blocks_of (unshortened p) (lengthened p b) ≡ blocks_of p b
  same_blocks = blocks-join (unshortened p) F (blocks_of p b) longer

  -- the words are the full sheet's
  pub same-words : words_of p (page_of p b) ≡ words_of (unshortened p) (page_of (unshortened p) (lengthened p b))
  same-words =
      page-has p R b h ∙ unshortened-words p (blocks_of p b)
      ∙ sym (page-has (unshortened p) F (lengthened p b) lengthened-fits ∙ ap (encode (unshortened p)) same_blocks)

  -- and so are the data bits, with s zeros above those of each block
  module _ (i r : ℕ) (l : i < p.m) where
    bit : r < data_bits (unshortened p) i → block_bit (unshortened p) (lengthened p b) i r ≡ coefficient (get_or (blocks_of p b) i 0) r
    bit c =
        sym (block-bit (unshortened p) F (lengthened p b) lengthened-fits.bytes i r l c)
        ∙ ap (λ (ds : List ℕ). coefficient (get_or ds i 0) r) same_blocks

    pub lengthened-keeps : r < data_bits p i → block_bit (unshortened p) (lengthened p b) i r ≡ block_bit p b i r
    lengthened-keeps c = bit (Nat.lt_of_lt_of_le c (fewer p i)) ∙ block-bit p R b h.bytes i r l c

    pub lengthened-zero : data_bits p i ≤ r → r < data_bits (unshortened p) i → block_bit (unshortened p) (lengthened p b) i r ≡ 0
    lengthened-zero c d =
        bit d
        ∙ beyond (get_or (blocks_of p b) i 0) (data_bits p i) r
        (rw (Nat.zero-add i) at (sized-at p 0 (blocks_of p b) blocks.fits i (rw blocks.many l))) c

-- blocks of the full sheet that end in s zeros are such ones
module _ (p : Parameters) (A : Accepted p) (f : List ℕ) (h : Fits (unshortened p) f)
    (z : (i r : ℕ) → i < p.m → data_bits p i ≤ r → r < data_bits (unshortened p) i → block_bit (unshortened p) f i r ≡ 0) where
  theirs : IsBlocks (unshortened p) (blocks_of (unshortened p) f)
  theirs = blocks-blocks (unshortened p) (full-rules p A) f h

  cut : IsBlocks p (blocks_of (unshortened p) f)
  cut = record {
    many = theirs.many;
    fits = at-sized p 0 (blocks_of (unshortened p) f) (λ i l.
        rw (Nat.zero-add i) (let m : i < p.m = rw theirs.many at l in
        low-only (data_bits p i) (data_bits (unshortened p) i) (get_or (blocks_of (unshortened p) f) i 0)
        (rw (Nat.zero-add i) at (sized-at (unshortened p) 0 (blocks_of (unshortened p) f) theirs.fits i l))
        (λ r c d. block-bit (unshortened p) (full-rules p A) f h.bytes i r m d ∙ z i r m c d)));
  }

  pub shortened-all : (b : List ℕ) × Fits p b × (lengthened p b ≡ f)
  shortened-all = (
    join (block_sizes p) (blocks_of (unshortened p) f),
    blocks-fit p (accepted p A) (blocks_of (unshortened p) f) cut,
    ap (join (block_sizes (unshortened p))) (blocks-join p (accepted p A) (blocks_of (unshortened p) f) cut)
        ∙ join-blocks (unshortened p) (full-rules p A) f h,
  )
