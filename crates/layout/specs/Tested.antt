-- The tests of bits, part by part. P b x is the test of a number x of b bits: that it fits, or that its bits are 1.
--   passes P bs xs i           number i of xs passes with its partner of bs
--   Passed P bs xs i           the first i of them pass: whether all do is for the rest to say
--   word_bits p                 the stored coefficients of each sub-word
--   WordsPassed P p x i        the first i sub-words of a page pass
--   BlocksPassed P p x at i    the first i blocks pass, and the next begins at `at`
--   RunIn l at k b             b bits take k bytes, and l has these from `at` on
--   ServesRuns Q l             Q, what a call asks, holds at each run of l
--   AnswersRuns R P l          R, what a call returns, is whether the run of l passes P
use Rattle.std.specs.Prelude.{◌≡◌, Bool, true, false, ◌&&◌, List, [], ℕ, suc, ◌+◌, ◌*◌, ◌/◌, ◌≤◌, ◌<◌, length, get_or, drop, replicate}
use Rattle.std.proofs.Math.Path.{refl}
use Rattle.std.proofs.Common.{Bor, sym, ap₂, ◌∙◌, add-one, drop_of_length-le}
use Rattle.std.proofs.lemmas.List.{length-replicate, get_or-replicate}
use Rattle.std.proofs.Math.Seq.{drop-cons}
use Rattle.code.specs.declared.Parameters.{Parameters}
use Rattle.code.specs.Layout.{blank, block_bits, block_offset, blocks_clear, blocks_full, blocks_of}
use Rattle.code.specs.Layout.{data_bits, data_bytes, page_bytes, page_clear, words_of}
use Rattle.code.specs.Lists.{each}
use Rattle.code.proofs.Pages.{blocks-many, length-bits, words-many}
use Rattle.code.specs.Parameters.{Accepted, stored, sub_word_bytes}
use Rattle.code.proofs.Placement.{bits_at, word_at}
use Rattle.layout.specs.Parts.{block_at, block_room, offset-next, offset-zero, word_room}
use Rattle.layout.specs.Runs.{run_passes, test_of}
use Rattle.layout.specs.Sizes.{data-high, data-low, stored-high, stored_low}

abbrev pub RunIn : List ℕ → ℕ → ℕ → ℕ → Type 0
RunIn l at k b = (1 ≤ b) × (b < 4096) × (k ≡ (b + 7) / 8) × (at + k ≤ length l)

abbrev pub ServesRuns : (Bor (List ℕ) → ℕ → ℕ → ℕ → Type 0) → List ℕ → Type 0
ServesRuns Q l = (x : Bor (List ℕ)) (at k b : ℕ) → x.now ≡ l → RunIn l at k b → Q x at k b

abbrev pub AnswersRuns : (Bor (List ℕ) → ℕ → ℕ → ℕ → Bool → Type 0) → (ℕ → ℕ → Bool) → List ℕ → Type 0
AnswersRuns R P l = (x : Bor (List ℕ)) (at k b : ℕ) (r : Bool) → x.now ≡ l → R x at k b r → r ≡ run_passes P l at k b

abbrev pub passes : (ℕ → ℕ → Bool) → List ℕ → List ℕ → ℕ → Bool
passes P bs xs i = P (get_or bs i 0) (get_or xs i 0)

pub record Passed (P : ℕ → ℕ → Bool) (bs xs : List ℕ) (i : ℕ) : Type 0 where
  pub rest : each P bs xs ≡ each P (drop i bs) (drop i xs)

module _ (P : ℕ → ℕ → Bool) where
  each_none : (xs : List ℕ) → each P [] xs ≡ true
  unfolding each
  each_none xs = refl

  module _ (bs xs : List ℕ) where
    passed_start : Passed P bs xs 0
    passed_start = record { rest = refl }

    passed-done : (i : ℕ) → Passed P bs xs i → length bs ≤ i → true ≡ each P bs xs
    passed-done i s h = sym (s.rest ∙ rw (drop_of_length-le bs h) (each_none (drop i xs)))

    module _ (e : length xs ≡ length bs) (i : ℕ) (s : Passed P bs xs i) (h : i < length bs) where
      step : each P bs xs ≡ (passes P bs xs i && each P (drop (suc i) bs) (drop (suc i) xs))
      unfolding each
      step = s.rest ∙ rw (drop-cons bs i 0 h, drop-cons xs i 0 (rw e h)) refl

      passed-turn : passes P bs xs i ≡ true → Passed P bs xs (i + 1)
      passed-turn t = record { rest = rw (add-one i) (step ∙ rw t refl) }

      passed-found : passes P bs xs i ≡ false → false ≡ each P bs xs
      passed-found t = sym (step ∙ rw t refl)

-- ---- the sub-words of a page
abbrev pub word_bits : Parameters → List ℕ
word_bits p = replicate p.m (stored p)

abbrev pub WordsPassed : (ℕ → ℕ → Bool) → Parameters → List ℕ → ℕ → Type 0
WordsPassed P p x i = Passed P (word_bits p) (words_of p x) i

pub word-there : (p : Parameters) (x : List ℕ) → Accepted p → (i n b : ℕ) → i < p.m → n ≡ stored p → b ≡ sub_word_bytes p → length x ≡ page_bytes p
    → (1 ≤ n) × (n < 4096) × (b ≡ (n + 7) / 8) × (i * b + b ≤ length x)
word-there p x A i n b h e f l = rw (e, f, l) (stored_low p A, stored-high p A, refl, word_room p i h)

module _ (P : ℕ → ℕ → Bool) (p : Parameters) (x : List ℕ) where
  length-word-bits : length (word_bits p) ≡ p.m
  length-word-bits = length-replicate p.m (stored p)

  each_word : length (words_of p x) ≡ length (word_bits p)
  each_word = words-many p x ∙ sym length-word-bits

  pub words-start : WordsPassed P p x 0
  words-start = passed_start P (word_bits p) (words_of p x)

  pub words-done : (i : ℕ) → WordsPassed P p x i → p.m ≤ i → true ≡ each P (word_bits p) (words_of p x)
  words-done i s h = passed-done P (word_bits p) (words_of p x) i s (rw length-word-bits h)

  -- one sub-word more, where the program holds n and b
  module _ (A : Accepted p) (i n b : ℕ) (h : i < p.m) (e : n ≡ stored p) (f : b ≡ sub_word_bytes p) where
    word_test : run_passes P x (i * b) b n ≡ passes P (word_bits p) (words_of p x) i
    word_test = rw (e, f) (sym (ap₂ P (get_or-replicate p.m i (stored p) 0 h) (word_at p x i h)))

    pub words-turn : WordsPassed P p x i → run_passes P x (i * b) b n ≡ true → WordsPassed P p x (i + 1)
    words-turn s t = passed-turn P (word_bits p) (words_of p x) each_word i s (rw length-word-bits h) (sym word_test ∙ t)

    pub words-found : WordsPassed P p x i → run_passes P x (i * b) b n ≡ false → false ≡ each P (word_bits p) (words_of p x)
    words-found s t = passed-found P (word_bits p) (words_of p x) each_word i s (rw length-word-bits h) (sym word_test ∙ t)

-- ---- blocks
-- the run of one block, where the program holds its place, its bits and its size
pub run-there : (p : Parameters) (x : List ℕ) → Accepted p → length x ≡ data_bytes p → (at i b k : ℕ) → at ≡ block_offset p i → i < p.m
    → b ≡ data_bits p i → k ≡ (data_bits p i + 7) / 8 → RunIn x at k b
run-there p x A l at i b k o h e f = rw (f, e, o, l) (data-low p A i, data-high p A i, refl, block_room p i h)

pub record BlocksPassed (P : ℕ → ℕ → Bool) (p : Parameters) (x : List ℕ) (at i : ℕ) : Type 0 where
  pub passed : Passed P (block_bits p) (blocks_of p x) i
  pub begins : at ≡ block_offset p i

module _ (P : ℕ → ℕ → Bool) (p : Parameters) (x : List ℕ) where
  each-block : length (blocks_of p x) ≡ length (block_bits p)
  each-block = blocks-many p x ∙ sym (length-bits p)

  pub blocks_start : BlocksPassed P p x 0 0
  blocks_start = record { passed = passed_start P (block_bits p) (blocks_of p x); begins = sym (offset-zero p) }

  pub blocks-done : (at i : ℕ) → BlocksPassed P p x at i → p.m ≤ i → true ≡ each P (block_bits p) (blocks_of p x)
  blocks-done at i s h = passed-done P (block_bits p) (blocks_of p x) i s.passed (rw (length-bits p) h)

  -- one block more, where the program holds its bits and its size
  module _ (at i b k : ℕ) (s : BlocksPassed P p x at i) (h : i < p.m) (e : b ≡ data_bits p i) (f : k ≡ (data_bits p i + 7) / 8) where
    pub block-there : Accepted p → length x ≡ data_bytes p → (1 ≤ b) × (b < 4096) × (k ≡ (b + 7) / 8) × (at + k ≤ length x)
    block-there A l = rw (f, e, s.begins, l) (data-low p A i, data-high p A i, refl, block_room p i h)

    block-test : run_passes P x at k b ≡ passes P (block_bits p) (blocks_of p x) i
    block-test = rw (f, e, s.begins) (sym (ap₂ P (bits_at p i h) (block_at p x i h)))

    pub blocks-turn : run_passes P x at k b ≡ true → BlocksPassed P p x (at + k) (i + 1)
    blocks-turn t = record {
      passed = passed-turn P (block_bits p) (blocks_of p x) each-block i s.passed (rw (length-bits p) h) (sym block-test ∙ t);
      begins = rw (f, s.begins) (sym (offset-next p i h));
    }

    pub blocks-found : run_passes P x at k b ≡ false → false ≡ each P (block_bits p) (blocks_of p x)
    blocks-found t = passed-found P (block_bits p) (blocks_of p x) each-block i s.passed (rw (length-bits p) h) (sym block-test ∙ t)

-- ---- the tests by their names
module _ (p : Parameters) (x : List ℕ) where
  pub page-clear-is : each (test_of false) (word_bits p) (words_of p x) ≡ page_clear p x
  unfolding page_clear
  page-clear-is = refl

  pub page-blank-is : each (test_of true) (word_bits p) (words_of p x) ≡ blank p x
  unfolding blank
  page-blank-is = refl

  pub blocks-clear-is : each (test_of false) (block_bits p) (blocks_of p x) ≡ blocks_clear p x
  unfolding blocks_clear
  blocks-clear-is = refl

  pub blocks-full-is : each (test_of true) (block_bits p) (blocks_of p x) ≡ blocks_full p x
  unfolding blocks_full
  blocks-full-is = refl
